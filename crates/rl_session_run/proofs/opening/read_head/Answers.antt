use Rattle.std.proofs.Common.{Ok, ap}
use Rattle.rl_session_run.proofs.OpeningLemmas.{from_fresh, head_is_found, head_is_missing, head_is_long, head_unread, none_unread, stops_at_head}
use Rattle.rl_session_run.proofs.StaysLemmas.{earlier_put}
use Rattle.rl_session_run.proofs.StopLemmas.{tells_put}
use Rattle.rl_session_run.proofs.opening.read_head.Goals as goal

pub returns-in-Ok-Found-clause-reads : goal.returns-in-Ok-Found-clause-reads
returns-in-Ok-Found-clause-reads g c =
    from_fresh _ _ _ c.requires.fresh (head_is_found _ _ _ _ _ c.in-Ok-Found.field-0-is c.in-Ok-Found.ensures.head)

pub returns-in-Ok-Missing-clause-stops : goal.returns-in-Ok-Missing-clause-stops
returns-in-Ok-Missing-clause-stops g c =
    from_fresh _ _ _ c.requires.fresh
    (stops_at_head _ _ _ _ _ (head_is_missing _ _ _ _ _ c.in-Ok-Missing.field-0-is c.in-Ok-Missing.ensures.head)
    (tells_put _ _ _ _ _ c.refused.ensures c.put_all.ensures.bytes))

pub returns-in-Ok-TooLong-clause-stops : goal.returns-in-Ok-TooLong-clause-stops
returns-in-Ok-TooLong-clause-stops g c =
    from_fresh _ _ _ c.requires.fresh
    (stops_at_head _ _ _ _ _ (head_is_long _ _ _ _ _ c.in-Ok-TooLong.field-0-is c.in-Ok-TooLong.ensures.head)
    (tells_put _ _ _ _ _ c.refused-in-Ok-TooLong.ensures c.put_all-in-Ok-TooLong.ensures.bytes))

pub returns-in-Ok-Found-clause-unread : goal.returns-in-Ok-Found-clause-unread
returns-in-Ok-Found-clause-unread g c = λ fault memory.
    let e = c.in-Ok-Found.ensures in
    from_fresh _ _ _ c.requires.fresh
    (head_unread _ _ _ _ (e.held (ap Ok c.in-Ok-Found.field-0-is)) (head_is_found _ _ _ _ _ c.in-Ok-Found.field-0-is e.head))

pub returns-in-Ok-Missing-clause-unread : goal.returns-in-Ok-Missing-clause-unread
returns-in-Ok-Missing-clause-unread g c = λ fault memory. from_fresh _ _ _ c.requires.fresh
    (none_unread _ _ _ (head_is_missing _ _ _ _ _ c.in-Ok-Missing.field-0-is c.in-Ok-Missing.ensures.head))

pub returns-in-Ok-TooLong-clause-unread : goal.returns-in-Ok-TooLong-clause-unread
returns-in-Ok-TooLong-clause-unread g c = λ fault memory. from_fresh _ _ _ c.requires.fresh
    (none_unread _ _ _ (head_is_long _ _ _ _ _ c.in-Ok-TooLong.field-0-is c.in-Ok-TooLong.ensures.head))

pub returns-in-Ok-Missing-clause-keeps_earlier : goal.returns-in-Ok-Missing-clause-keeps_earlier
returns-in-Ok-Missing-clause-keeps_earlier g c = earlier_put _ _ _ _ c.put_all.ensures.bytes

pub returns-in-Ok-TooLong-clause-keeps_earlier : goal.returns-in-Ok-TooLong-clause-keeps_earlier
returns-in-Ok-TooLong-clause-keeps_earlier g c = earlier_put _ _ _ _ c.put_all-in-Ok-TooLong.ensures.bytes

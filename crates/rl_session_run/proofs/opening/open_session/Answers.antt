use Rattle.rl_session_run.proofs.OpeningLemmas.{desc_stops, desc_opens}
use Rattle.rl_session_run.proofs.StaysLemmas.{earlier_then, stays_then}
use Rattle.rl_session_run.proofs.opening.open_session.Goals as goal

pub returns-in-Ok-read_desc-clause-opens : goal.returns-in-Ok-read_desc-clause-opens
returns-in-Ok-read_desc-clause-opens g c =
    desc_opens _ _ _ _ _ _ c.in_ok-read_head.ensures.reads (rw (c.deref.ensures.value) at c.in-Ok-read_desc.ensures.opening)

pub returns-in-Ok-read_desc-clause-stays : goal.returns-in-Ok-read_desc-clause-stays
returns-in-Ok-read_desc-clause-stays g c = stays_then _ _ _ _ _ _ c.read_head.ensures.stays c.read_desc.ensures.stays

pub returns-in-Ok-read_desc-clause-keeps_earlier : goal.returns-in-Ok-read_desc-clause-keeps_earlier
returns-in-Ok-read_desc-clause-keeps_earlier g c = earlier_then _ _ _ c.read_head.ensures.keeps_earlier c.read_desc.ensures.keeps_earlier

pub returns-in-Ok-read_desc-clause-unread : goal.returns-in-Ok-read_desc-clause-unread
returns-in-Ok-read_desc-clause-unread g c = λ fault memory. c.in_ok-read_head.ensures.unread (λ e. absurd (cc)) (λ e. absurd (cc))

pub returns-in-Err-clause-stops : goal.returns-in-Err-clause-stops
returns-in-Err-clause-stops g c =
    desc_stops g.K.Sink.written _ _ _ _ _ _ _ _ _ c.in_ok-read_head.ensures.reads c.in_ok-read_head.ensures.unwritten
    (rw (c.deref.ensures.value) at c.in-Err.ensures.stops)

pub returns-in-Err-clause-stays : goal.returns-in-Err-clause-stays
returns-in-Err-clause-stays g c = stays_then _ _ _ _ _ _ c.read_head.ensures.stays c.read_desc.ensures.stays

pub returns-in-Err-clause-keeps_earlier : goal.returns-in-Err-clause-keeps_earlier
returns-in-Err-clause-keeps_earlier g c = earlier_then _ _ _ c.read_head.ensures.keeps_earlier c.read_desc.ensures.keeps_earlier

pub returns-in-Err-clause-unread : goal.returns-in-Err-clause-unread
returns-in-Err-clause-unread g c = λ fault memory. c.in_ok-read_head.ensures.unread (λ e. absurd (cc)) (λ e. absurd (cc))

use Rattle.rl_play.proofs.PlayLemmas.{heard_long, heard_many}
use Rattle.rl_vcd.proofs.script.refusal_unread.Goals as goal

pub returns-then-number-gt-MOST_LINES-clause-refused : goal.returns-then-number-gt-MOST_LINES-clause-refused
returns-then-number-gt-MOST_LINES-clause-refused c = λ line. heard_many c.args.number c.args.got line c.if-number-gt-MOST_LINES.true

pub returns-then-is_too_long-clause-refused : goal.returns-then-is_too_long-clause-refused
returns-then-is_too_long-clause-refused c = λ line.
    heard_long c.args.number c.args.got line c.if-number-gt-MOST_LINES.false (c.is_too_long.ensures.long c.if-is_too_long.true)

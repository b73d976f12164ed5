use Rattle.rl_report.specs.Pieces.{joined}
use Rattle.rl_grade_report.proofs.keys.push_hex.Goals as goal

pub returns : goal.returns
unfolding joined
returns c = rw (c.front.ensures, c.spell-len.ensures.digits) at c.push_pieces.ensures

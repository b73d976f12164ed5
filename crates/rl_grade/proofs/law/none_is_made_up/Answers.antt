use Rattle.rl_grade.proofs.Made.{none_made_up}
use Rattle.rl_grade.proofs.law.none_is_made_up.Goals as goal

pub returns : goal.returns
returns c = none_made_up

use Rattle.rl_grade.proofs.Distinct.{none_stands_twice}
use Rattle.rl_grade.proofs.law.none_stands_twice.Goals as goal

pub returns : goal.returns
returns c = none_stands_twice

use Rattle.rl_grade.proofs.Distinct.{places_are_apart}
use Rattle.rl_grade.proofs.law.places_are_apart.Goals as goal

pub returns : goal.returns
returns c = places_are_apart

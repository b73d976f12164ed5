use Rattle.rl_plain.proofs.FirstOnes.{first_ones_are_plain}
use Rattle.rl_plain.proofs.law.first_ones_are_plain.Goals as goal

pub returns : goal.returns
returns c = first_ones_are_plain

use Rattle.rl_plain.proofs.Beginning.{new_ones_agree}
use Rattle.rl_plain.proofs.law.new_ones_agree.Goals as goal

pub returns : goal.returns
returns c = new_ones_agree

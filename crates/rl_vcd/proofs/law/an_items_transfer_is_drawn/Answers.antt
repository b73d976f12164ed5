use Rattle.rl_vcd.proofs.AdaptedLemmas.{transfer_is_drawn}
use Rattle.rl_vcd.proofs.law.an_items_transfer_is_drawn.Goals as goal

pub returns : goal.returns
returns c = transfer_is_drawn

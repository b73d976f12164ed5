use Rattle.rl_plain.proofs.EachCall.{new_ones_agree_with_memories}
use Rattle.rl_plain.proofs.law.new_ones_agree_with_memories.Goals as goal

pub returns : goal.returns
returns c = new_ones_agree_with_memories

use Rattle.rl_weave_laws.proofs.Memories.{weave_keeps_memories}
use Rattle.rl_weave_laws.proofs.word_law.weave_keeps_memories.Goals as goal

pub returns : goal.returns
returns c = weave_keeps_memories

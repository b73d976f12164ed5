use Rattle.rl_plain.proofs.MemoryAccesses.{memory_access_keeps_agreement}
use Rattle.rl_plain.proofs.law.memory_access_keeps_agreement.Goals as goal

pub returns : goal.returns
returns c = memory_access_keeps_agreement

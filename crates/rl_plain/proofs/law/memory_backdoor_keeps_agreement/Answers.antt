use Rattle.rl_plain.proofs.Memories.{memory_backdoor_keeps_agreement}
use Rattle.rl_plain.proofs.law.memory_backdoor_keeps_agreement.Goals as goal

pub returns : goal.returns
returns c = memory_backdoor_keeps_agreement

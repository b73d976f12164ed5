use Rattle.rl_detect_laws.proofs.DeafAlone.{only_deaf_is_marked}
use Rattle.rl_detect_laws.proofs.NewOnes.{new_one_has_locations}
use Rattle.rl_detect_laws.proofs.law.only_deaf_memories_are_marked.Goals as goal

pub returns : goal.returns
returns c = record { only = only_deaf_is_marked; first = new_one_has_locations }

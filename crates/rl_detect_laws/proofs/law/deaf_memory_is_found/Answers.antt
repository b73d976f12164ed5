use Rattle.rl_detect_laws.proofs.DeafWalk.{deaf_memory_is_found}
use Rattle.rl_detect_laws.proofs.NewOnes.{new_one_has_deaf_memory}
use Rattle.rl_detect_laws.proofs.law.deaf_memory_is_found.Goals as goal

pub returns : goal.returns
returns c = record { found = deaf_memory_is_found; first = new_one_has_deaf_memory }

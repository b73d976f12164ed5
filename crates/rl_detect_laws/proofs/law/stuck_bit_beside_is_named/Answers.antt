use Rattle.rl_detect_laws.proofs.BitBash.{stuck_bit_beside_is_named}
use Rattle.rl_detect_laws.proofs.Turned.{policies_show_beside}
use Rattle.rl_detect_laws.proofs.law.stuck_bit_beside_is_named.Goals as goal

pub returns : goal.returns
returns c = record { named = stuck_bit_beside_is_named; policies = policies_show_beside }

use Rattle.rl_detect_laws.proofs.BitBash.{stuck_bit_is_named}
use Rattle.rl_detect_laws.proofs.Turned.{new_one_has_stuck_bit, policies_show_turned}
use Rattle.rl_detect_laws.proofs.law.stuck_bit_is_named.Goals as goal

pub returns : goal.returns
returns c = record { named = stuck_bit_is_named; policies = policies_show_turned; first = new_one_has_stuck_bit }

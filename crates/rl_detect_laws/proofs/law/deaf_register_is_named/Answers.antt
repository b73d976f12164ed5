use Rattle.rl_detect_laws.proofs.DeafRegister.{deaf_register_is_named}
use Rattle.rl_detect_laws.proofs.NewDeaf.{new_ones_agree_on_bits, none_spent}
use Rattle.rl_detect_laws.proofs.Turned.{policies_turn}
use Rattle.rl_detect_laws.proofs.law.deaf_register_is_named.Goals as goal

pub returns : goal.returns
returns c = record { named = deaf_register_is_named; policies = policies_turn; first = new_ones_agree_on_bits; unspent = none_spent }

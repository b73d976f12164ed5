use Rattle.rl_detect_laws.proofs.ApartFound.{held_otherwise_is_named, new_one_is_held_otherwise, policies_keep_apart}
use Rattle.rl_detect_laws.proofs.law.held_otherwise_is_named.Goals as goal

pub returns : goal.returns
returns c = record { named = held_otherwise_is_named; policies = policies_keep_apart; first = new_one_is_held_otherwise }

use Rattle.rl_map.proofs.Addresses.{addresses_apart}
use Rattle.rl_map.proofs.laws.addresses_stand_apart.Goals as goal

pub returns : goal.returns
returns c = addresses_apart

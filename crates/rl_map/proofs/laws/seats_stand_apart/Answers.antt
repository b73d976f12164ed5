use Rattle.rl_map.proofs.Apart.{seats_apart}
use Rattle.rl_map.proofs.laws.seats_stand_apart.Goals as goal

pub returns : goal.returns
returns c = seats_apart

use Rattle.rl_map.proofs.Counting.{counted}
use Rattle.rl_map.proofs.laws.addresses_are_counted.Goals as goal

pub returns : goal.returns
returns c = counted

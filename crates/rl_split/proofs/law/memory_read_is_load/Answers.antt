use Rattle.rl_split.proofs.Locations.{memory_read_is_load}
use Rattle.rl_split.proofs.law.memory_read_is_load.Goals as goal

pub returns : goal.returns
returns c = memory_read_is_load

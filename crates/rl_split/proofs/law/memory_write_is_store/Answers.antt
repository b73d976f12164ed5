use Rattle.rl_split.proofs.Locations.{memory_write_is_store}
use Rattle.rl_split.proofs.law.memory_write_is_store.Goals as goal

pub returns : goal.returns
returns c = memory_write_is_store

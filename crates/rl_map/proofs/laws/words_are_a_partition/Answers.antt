use Rattle.rl_map.proofs.Partition.{words_partition}
use Rattle.rl_map.proofs.laws.words_are_a_partition.Goals as goal

pub returns : goal.returns
returns c = words_partition

use Rattle.rl_map.proofs.Alike.{alike}
use Rattle.rl_map.proofs.laws.byte_addressed_paths_are_alike.Goals as goal

pub returns : goal.returns
returns c = alike

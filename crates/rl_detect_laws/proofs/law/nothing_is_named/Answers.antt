use Rattle.rl_detect_laws.proofs.Quiet.{nothing_is_named}
use Rattle.rl_detect_laws.proofs.law.nothing_is_named.Goals as goal

pub returns : goal.returns
returns c = nothing_is_named

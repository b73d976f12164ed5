use Rattle.rl_weave_laws.proofs.Scripts.{script_is_plain}
use Rattle.rl_weave_laws.proofs.log_law.script_is_plain.Goals as goal

pub returns : goal.returns
returns c = script_is_plain

use Rattle.rl_weave_laws.proofs.Groups.{group_is_plain}
use Rattle.rl_weave_laws.proofs.log_law.group_is_plain.Goals as goal

pub returns : goal.returns
returns c = group_is_plain

use Rattle.rl_weave_laws.proofs.GroupRuns.{each_group_runs}
use Rattle.rl_weave_laws.proofs.log_law.each_group_runs.Goals as goal

pub returns : goal.returns
returns c = each_group_runs

use Rattle.rl_weave_laws.proofs.WovenEnds.{every_woven_log_ends}
use Rattle.rl_weave_laws.proofs.log_law.each_woven_log_has_one_last_line.Goals as goal

pub returns : goal.returns
returns c = every_woven_log_ends

use Rattle.rl_log.proofs.ScriptLemmas.{every_log_ends}
use Rattle.rl_log.proofs.law.each_log_has_one_last_line.Goals as goal

pub returns : goal.returns
returns c = every_log_ends

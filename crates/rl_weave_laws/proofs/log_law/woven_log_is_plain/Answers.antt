use Rattle.rl_weave_laws.proofs.Sessions.{every_woven_log_plain, woven_log_is_plain}
use Rattle.rl_weave_laws.proofs.log_law.woven_log_is_plain.Goals as goal

pub returns-clause-opened : goal.returns-clause-opened
returns-clause-opened c = woven_log_is_plain

pub returns-clause-every : goal.returns-clause-every
returns-clause-every c = every_woven_log_plain

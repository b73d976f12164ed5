use Rattle.rl_log.proofs.LineLemmas.{every_log_tells}
use Rattle.rl_log.proofs.law.each_log_tells_its_events.Goals as goal

pub returns : goal.returns
returns c = every_log_tells

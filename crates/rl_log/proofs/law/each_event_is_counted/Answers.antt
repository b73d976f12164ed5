use Rattle.rl_log.proofs.EventLemmas.{every_event_counted}
use Rattle.rl_log.proofs.law.each_event_is_counted.Goals as goal

pub returns : goal.returns
returns c = every_event_counted

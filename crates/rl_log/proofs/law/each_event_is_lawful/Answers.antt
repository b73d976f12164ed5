use Rattle.rl_log.proofs.EventLemmas.{every_event_lawful}
use Rattle.rl_log.proofs.law.each_event_is_lawful.Goals as goal

pub returns : goal.returns
returns c = every_event_lawful

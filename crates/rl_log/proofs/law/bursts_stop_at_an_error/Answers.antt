use Rattle.rl_log.proofs.ScriptLemmas.{every_burst_stops}
use Rattle.rl_log.proofs.law.bursts_stop_at_an_error.Goals as goal

pub returns : goal.returns
returns c = every_burst_stops

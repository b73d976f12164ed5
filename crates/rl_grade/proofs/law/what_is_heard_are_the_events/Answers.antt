use Rattle.rl_grade.proofs.Running.{heard_are_events}
use Rattle.rl_grade.proofs.law.what_is_heard_are_the_events.Goals as goal

pub returns : goal.returns
returns c = heard_are_events

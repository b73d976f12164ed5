use Rattle.rl_grade.proofs.HiddenOnes.{changes_no_event, leaves_the_log, not_found}
use Rattle.rl_grade.proofs.law.a_silent_flaw_changes_no_event.Goals as goal

pub returns-clause-events : goal.returns-clause-events
returns-clause-events c = changes_no_event

pub returns-clause-found : goal.returns-clause-found
returns-clause-found c = not_found

pub returns-clause-log : goal.returns-clause-log
returns-clause-log c = leaves_the_log

use Rattle.std.proofs.Common.{refl, sym, ◌∙◌}
use Rattle.std.proofs.lemmas.Bool.{false≢true}
use Rattle.rl_session_run.proofs.StaysLemmas.{earlier_same}
use Rattle.regrun.proofs.TaskLemmas.{is_asked, none_asked, some_asked, words_no_sink, words_no_source}
use Rattle.regrun.proofs.top.regrun.Goals as goal

pub returns-in_default-clause-does : goal.returns-in_default-clause-does
returns-in_default-clause-does g c = none_asked _ _ (sym c.task_of.ensures ∙ c.in_default.is)

pub returns-clause-does : goal.returns-clause-does
returns-clause-does g c = some_asked _ _ _ (sym c.task_of.ensures ∙ c.in-Some.is) c.run_task.ensures.does

pub returns-clause-unwritten : goal.returns-clause-unwritten
returns-clause-unwritten g c = λ asked is. c.run_task.ensures.unwritten (is_asked c.task_of.ensures c.in-Some.is asked) is

pub returns-clause-map_adapters : goal.returns-clause-map_adapters
returns-clause-map_adapters g c = λ asked. c.run_task.ensures.map_adapters (is_asked c.task_of.ensures c.in-Some.is asked)

pub returns-clause-soak_unread : goal.returns-clause-soak_unread
returns-clause-soak_unread g c = λ n asked. c.run_task.ensures.soak_unread n (is_asked c.task_of.ensures c.in-Some.is asked)

pub returns-clause-untouched : goal.returns-clause-untouched
returns-clause-untouched g c = λ is. absurd (c.run_task.ensures.cause.known is)

pub returns-clause-source_cause : goal.returns-clause-source_cause
returns-clause-source_cause g c = c.run_task.ensures.cause.source_fault

pub returns-clause-sink_cause : goal.returns-clause-sink_cause
returns-clause-sink_cause g c = c.run_task.ensures.cause.sink_fault

pub returns-clause-ended : goal.returns-clause-ended
returns-clause-ended g c = c.run_task.ensures.ended

pub returns-clause-not_ended : goal.returns-clause-not_ended
returns-clause-not_ended g c = c.run_task.ensures.not_ended

pub returns-in_default-clause-keeps_earlier : goal.returns-in_default-clause-keeps_earlier
returns-in_default-clause-keeps_earlier g c = earlier_same _

pub returns-in_default-clause-untouched : goal.returns-in_default-clause-untouched
returns-in_default-clause-untouched g c = λ is. (refl, refl, refl)

pub returns-in_default-clause-ended : goal.returns-in_default-clause-ended
returns-in_default-clause-ended g c = λ whole. absurd (false≢true whole)

pub returns-in_default-clause-source_cause : goal.returns-in_default-clause-source_cause
returns-in_default-clause-source_cause g c = λ is. words_no_source is

pub returns-in_default-clause-sink_cause : goal.returns-in_default-clause-sink_cause
returns-in_default-clause-sink_cause g c = λ is. words_no_sink is

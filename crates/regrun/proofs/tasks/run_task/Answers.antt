use Rattle.std.proofs.Common.{ap, ◌∙◌, rules}
use Rattle.rl_play.proofs.FaultLemmas.{same_status}
use Rattle.regrun.proofs.TaskLemmas.{does_written}
use Rattle.regrun.proofs.tasks.run_task.Goals as goal

pub returns-clause-keeps_earlier : goal.returns-clause-keeps_earlier
returns-clause-keeps_earlier g c =
    let w = rw (← c.requires.earlier) at c.end_buffered.new.log.keeps_earlier in
    search (rules, w)

pub returns-clause-does : goal.returns-clause-does
returns-clause-does g c =
    let f = c.end_buffered.ensures in
    let p = c.perform_task-status.ensures in
    let keeps = rw (← c.requires.earlier) at c.end_buffered.new.log.keeps_earlier in
    let w = does_written _ _ _ _ _ _ _ _ _ _ f.kept f.given_up keeps f.told f.whole
    (λ fault. f.at_fault fault (p.flushed fault c.new-out.ensures.empty)) _
    (rw c.new-out.ensures.told at p.does) in
    search (rules, w)

pub returns-clause-unwritten : goal.returns-clause-unwritten
returns-clause-unwritten g c = λ map is.
    let f = c.end_buffered.ensures in
    let fault = same_status _ _ f.kept is in
    let all = f.unwritten fault ∙ c.perform_task-status.ensures.unwritten map fault in
    let w = ap (λ b. b.sink.now) all ∙ c.new-out.ensures.sink in
    search (rules, w)

pub end_buffered-requires : goal.end_buffered-requires
end_buffered-requires g c = c.perform_task-status.ensures.leaves.cause.known

pub returns-clause-soak_unread : goal.returns-clause-soak_unread
returns-clause-soak_unread g c = c.perform_task-status.ensures.soak_unread

pub returns-clause-map_adapters : goal.returns-clause-map_adapters
returns-clause-map_adapters g c = c.perform_task-status.ensures.map_adapters

pub returns-clause-source_later : goal.returns-clause-source_later
returns-clause-source_later g c = c.perform_task-status.ensures.leaves.source_later

use Rattle.std.proofs.Common.{refl}
use Rattle.rl_play.proofs.FaultLemmas.{no_source}
use Rattle.rl_session_run.proofs.StaysLemmas.{still_out}
use Rattle.rl_session_run.proofs.LeavesLemmas.{unread_leaves}
use Rattle.regrun.specs.declared.words.Task.TheVariants.{Run, Map, Soak, Weave}
use Rattle.regrun.proofs.TaskLemmas.{one_task, run_does, task_does}
use Rattle.regrun.proofs.WovenLemmas.{woven_written}
use Rattle.regrun.proofs.tasks.perform_task.Goals as goal

pub returns-in-Run-clause-does : goal.returns-in-Run-clause-does
returns-in-Run-clause-does g c =
    let e = c.run.ensures in task_does _ Run _ _ _ _ _ c.in-Run.is (run_does _ _ _ _ _ e.runs.tells e.plain e.runs.at_fault) e.kinds

pub returns-in-Map-clause-does : goal.returns-in-Map-clause-does
returns-in-Map-clause-does g c =
    let e = c.show_layout.ensures in
    task_does _ Map _ _ _ _ _ c.in-Map.is
    (record { map = e.tells; map_status = e.none_found; map_at_fault = e.at_fault; map_unread = e.unread }) refl

pub returns-in-Soak-clause-does : goal.returns-in-Soak-clause-does
returns-in-Soak-clause-does g c =
    let e = c.put_soak.ensures in
    task_does _ (Soak _) _ _ _ _ _ c.in-Soak.is (record { soak = e.tells; soak_status = no_source _ _ _ e.cause }) e.kinds

pub returns-in-Weave-clause-does : goal.returns-in-Weave-clause-does
returns-in-Weave-clause-does g c =
    let e = c.weave.ensures in
    task_does _ (Weave _) _ _ _ _ _ c.in-Weave.is (record {
      weave = e.runs.tells;
      plain = λ whole. woven_written _ _ _ _ _ _ _ whole e.runs.tells (e.plain whole);
      weave_at_fault = e.runs.at_fault;
    }) e.kinds

pub returns-in-Map-clause-flushed : goal.returns-in-Map-clause-flushed
returns-in-Map-clause-flushed g c = λ is out. still_out g.L.Log.is_out _ _ (c.show_layout.ensures.unwritten is) out

pub returns-in-Soak-clause-flushed : goal.returns-in-Soak-clause-flushed
returns-in-Soak-clause-flushed g c = λ is out. absurd (no_source _ _ _ c.put_soak.ensures.cause is)

pub returns-in-Soak-clause-leaves : goal.returns-in-Soak-clause-leaves
returns-in-Soak-clause-leaves g c = unread_leaves g.L.Sink _ _ _ _ c.put_soak.ensures.cause c.put_soak.ensures.stays

pub returns-in-Run-clause-unwritten : goal.returns-in-Run-clause-unwritten
returns-in-Run-clause-unwritten g c = λ map. one_task c.in-Run.is map refl

pub returns-in-Run-clause-map_adapters : goal.returns-in-Run-clause-map_adapters
returns-in-Run-clause-map_adapters g c = λ map. one_task c.in-Run.is map refl

pub returns-in-Soak-clause-unwritten : goal.returns-in-Soak-clause-unwritten
returns-in-Soak-clause-unwritten g c = λ map. one_task c.in-Soak.is map refl

pub returns-in-Soak-clause-map_adapters : goal.returns-in-Soak-clause-map_adapters
returns-in-Soak-clause-map_adapters g c = λ map. one_task c.in-Soak.is map refl

pub returns-in-Weave-clause-unwritten : goal.returns-in-Weave-clause-unwritten
returns-in-Weave-clause-unwritten g c = λ map. one_task c.in-Weave.is map refl

pub returns-in-Weave-clause-map_adapters : goal.returns-in-Weave-clause-map_adapters
returns-in-Weave-clause-map_adapters g c = λ map. one_task c.in-Weave.is map refl

pub returns-in-Run-clause-soak_unread : goal.returns-in-Run-clause-soak_unread
returns-in-Run-clause-soak_unread g c = λ n soak. one_task c.in-Run.is soak refl

pub returns-in-Map-clause-soak_unread : goal.returns-in-Map-clause-soak_unread
returns-in-Map-clause-soak_unread g c = λ n soak. one_task c.in-Map.is soak refl

pub returns-in-Weave-clause-soak_unread : goal.returns-in-Weave-clause-soak_unread
returns-in-Weave-clause-soak_unread g c = λ n soak. one_task c.in-Weave.is soak refl

pub returns-in-Map-clause-unwritten : goal.returns-in-Map-clause-unwritten
returns-in-Map-clause-unwritten g c = λ map is. c.show_layout.ensures.unwritten is

pub returns-in-Run-clause-flushed : goal.returns-in-Run-clause-flushed
returns-in-Run-clause-flushed g c = c.run.ensures.runs.flushed

pub returns-in-Weave-clause-flushed : goal.returns-in-Weave-clause-flushed
returns-in-Weave-clause-flushed g c = c.weave.ensures.runs.flushed

pub returns-in-Run-clause-leaves : goal.returns-in-Run-clause-leaves
returns-in-Run-clause-leaves g c = c.run.ensures.runs.leaves

pub returns-in-Map-clause-leaves : goal.returns-in-Map-clause-leaves
returns-in-Map-clause-leaves g c = c.show_layout.ensures.leaves

pub returns-in-Weave-clause-leaves : goal.returns-in-Weave-clause-leaves
returns-in-Weave-clause-leaves g c = c.weave.ensures.runs.leaves

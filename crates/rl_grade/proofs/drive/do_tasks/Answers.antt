use Rattle.std.proofs.Common.{◌≤◌, ◌∷◌, ◌+◌, length, drop, sym, ap, ◌∙◌, refl, arith}
use Rattle.std.proofs.lemmas.List.{drop_more, drop_all}
use Rattle.rl_grade.proofs.Driving.{leads_end, leads_on, leads_out, on_err, on_ok}
use Rattle.rl_grade.proofs.drive.do_tasks.Goals as goal

pub loop-task-preserved : goal.loop-task-preserved
loop-task-preserved g c =
    let before = c.loop-task.invariant in
    let done = c.do_job.ensures in
    let ok = sym c.is_err.ensures.value ∙ c.if-is_err.false in
    let next = drop_more c.args.tasks.now c.loop-task.task-index c.task-item.result c.loop-task-test.true
    ∙ ap (λ t. t ∷ drop (c.loop-task.task-index + 1) c.args.tasks.now) (sym c.task-item.is) in
    record {
      ready = done.ready;
      parts = record { chip = done.parts.chip ∙ before.parts.chip; layout = done.parts.layout ∙ before.parts.layout };
      going_on = leads_on g.R.Recorder.takes g.R.Recorder.breaks _ c.task-item.result _ _ _ _ _ _ _ _ _ next
          before.going_on (on_ok c.do_job.result ok done.drives.whole) (on_ok c.do_job.result ok done.drives.after);
    }

pub returns-then-is_err-clause-drives : goal.returns-then-is_err-clause-drives
returns-then-is_err-clause-drives g c =
    let failed = sym c.is_err.ensures.value ∙ c.if-is_err.true in
    let next = drop_more c.args.tasks.now c.loop-task.task-index c.task-item.result c.loop-task-test.true
    ∙ ap (λ t. t ∷ drop (c.loop-task.task-index + 1) c.args.tasks.now) (sym c.task-item.is) in
    leads_out g.R.Recorder.takes g.R.Recorder.breaks _ c.task-item.result _ _ _ _ _ _ _ next refl
    c.loop-task.invariant.going_on (on_err c.do_job.result failed c.do_job.ensures.drives.part)

pub returns-clause-drives : goal.returns-clause-drives
returns-clause-drives g c =
    let all : length c.args.tasks.now ≤ c.loop-task.task-index = omega (arith, c.loop-task-test.false) in
    leads_end g.R.Recorder.takes g.R.Recorder.breaks _ _ _ _ _ (drop_all c.loop-task.task-index c.args.tasks.now all)
    c.loop-task.invariant.going_on

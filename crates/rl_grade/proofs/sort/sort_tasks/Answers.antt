use Rattle.std.proofs.Common.{◌≤◌, ◌∷◌, ◌+◌, length, drop, sym, ap, ◌∙◌, refl, arith}
use Rattle.std.proofs.lemmas.List.{drop_all, drop_more}
use Rattle.rl_grade.specs.declared.sort.Sort.{Sort}
use Rattle.rl_grade.proofs.Driving.{on_ok}
use Rattle.rl_grade.proofs.Sorting.{going_end, going_first, going_on}
use Rattle.rl_grade.proofs.sort.sort_tasks.Goals as goal

pub loop-task-init : goal.loop-task-init
loop-task-init g c = record {
  ready = c.requires.ready;
  parts = record { chip = refl; layout = refl };
  going = going_first _ _ _ _ _ c.requires.blank;
}

pub loop-task-preserved : goal.loop-task-preserved
loop-task-preserved g c =
    let before = c.loop-task.invariant in
    let done = c.do_job.ensures in
    let ok = sym c.is_err.ensures.value ∙ c.if-is_err.false in
    let next = drop_more c.args.tasks.now c.loop-task.task-index c.task-item.result c.loop-task-test.true
    ∙ ap (λ t. t ∷ drop (c.loop-task.task-index + 1) c.args.tasks.now) (sym c.task-item.is) in
    record {
      ready = done.ready;
      parts = record { chip = done.parts.chip ∙ before.parts.chip; layout = done.parts.layout ∙ before.parts.layout };
      going = going_on (λ (s : Sort). s.line) (λ (s : Sort). s.base.now) (λ (s : Sort). s.found.items) _ _ _ _ _ c.task-item.result
          _ _ _ _ _ _ _ next refl before.parts.chip before.going (on_ok c.do_job.result ok done.drives.whole)
          (on_ok c.do_job.result ok done.drives.after);
    }

pub returns-clause-found : goal.returns-clause-found
returns-clause-found g c =
    let all : length c.args.tasks.now ≤ c.loop-task.task-index = omega (arith, c.loop-task-test.false) in
    going_end _ _ _ _ _ _ _ _ (drop_all c.loop-task.task-index c.args.tasks.now all) c.loop-task.invariant.going

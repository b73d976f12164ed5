use Rattle.std.proofs.Common.{sym, ap, ◌∙◌}
use Rattle.rl_grade.specs.declared.recorders.Watch.{Watch}
use Rattle.rl_grade.proofs.Finding.{found_none, found_some, told_find}
use Rattle.rl_grade.proofs.run.watch_tasks.Goals as goal

pub returns-in-Ok-clause-found : goal.returns-in-Ok-clause-found
returns-in-Ok-clause-found g c =
    sym (found_none (λ (w : Watch). w.base.now) (λ (w : Watch). w.found) _ _ _ _ c.in-Ok.ensures.drives)

pub returns-in-Some-clause-found : goal.returns-in-Some-clause-found
returns-in-Some-clause-found g c =
    sym (found_some (λ (w : Watch). w.base.now) (λ (w : Watch). w.found) _ _ _ _ c.in-Err.ensures.drives
    ∙ ap (told_find c.in-Err.line) c.in-Some.is)

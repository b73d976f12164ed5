use Rattle.std.proofs.Common.{refl, ◌∙◌}
use Rattle.rl_grade.specs.Prelude.{with_flaw}
use Rattle.rl_grade.proofs.Finding.{fits_on, found_first, one_flaw}
use Rattle.rl_grade.proofs.Trials.{ends_as_begun, kinds_stay, ready_for}
use Rattle.rl_grade.proofs.run.try_flaw.Goals as goal

pub begin-requires-clause-flaws : goal.begin-requires-clause-flaws
begin-requires-clause-flaws g c = one_flaw c.args.desc c.args.flaw _ refl c.requires.flaw

pub watch_tasks-found-requires-clause-ready : goal.watch_tasks-found-requires-clause-ready
watch_tasks-found-requires-clause-ready g c = ready_for _ _ _ _ _ c.in_ok-trial.ensures.begun _ c.requires.kinds

pub watch_tasks-found-requires-clause-fits : goal.watch_tasks-found-requires-clause-fits
watch_tasks-found-requires-clause-fits g c =
    let trial = c.in_ok-trial.ensures.begun in
    fits_on _ c.args.desc.chip _ c.args.desc.layout c.args.tasks.now trial.chip trial.layout c.requires.fits

pub returns-clause-kinds : goal.returns-clause-kinds
returns-clause-kinds g c =
    let run = c.watch_tasks-found.ensures in
    kinds_stay _ _ _ _ _ c.in_ok-trial.ensures.begun _ _ _ _ run.parts c.requires.kinds run.ready

pub returns-clause-desc : goal.returns-clause-desc
returns-clause-desc g c =
    c.end.ensures ∙ ends_as_begun _ _ _ _ _ c.in_ok-trial.ensures.begun _ c.watch_tasks-found.ensures.parts

pub returns-clause-found : goal.returns-clause-found
returns-clause-found g c =
    let flawed = with_flaw c.args.desc c.args.flaw in
    found_first c.args.base.now c.args.tasks.now _ _ _ _ flawed flawed c.watch_tasks-found.ensures.found
    (c.in_ok-trial.ensures.begun.first _) refl

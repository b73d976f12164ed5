use Rattle.std.proofs.Common.{refl, ◌∙◌}
use Rattle.rl_grade.specs.Together.{with_flaws}
use Rattle.rl_grade.proofs.Finding.{fits_on}
use Rattle.rl_grade.proofs.Sorting.{sorted_first}
use Rattle.rl_grade.proofs.Trials.{ends_as_begun, kinds_stay, ready_for}
use Rattle.rl_grade.proofs.sort.try_flaws.Goals as goal

pub sort_tasks-requires-clause-ready : goal.sort_tasks-requires-clause-ready
sort_tasks-requires-clause-ready g c = ready_for _ _ _ _ _ c.in_ok-trial.ensures.begun _ c.requires.kinds

pub sort_tasks-requires-clause-fits : goal.sort_tasks-requires-clause-fits
sort_tasks-requires-clause-fits g c =
    let trial = c.in_ok-trial.ensures.begun in
    fits_on _ c.args.desc.chip _ c.args.desc.layout c.args.tasks.now trial.chip trial.layout c.requires.fits

pub returns-clause-kinds : goal.returns-clause-kinds
returns-clause-kinds g c =
    let run = c.in_ok-found-2.ensures in
    kinds_stay _ _ _ _ _ c.in_ok-trial.ensures.begun _ _ _ _ run.parts c.requires.kinds run.ready

pub returns-in_err-found-2-clause-kinds : goal.returns-in_err-found-2-clause-kinds
returns-in_err-found-2-clause-kinds g c =
    let run = c.in_err-found-2.ensures in
    kinds_stay _ _ _ _ _ c.in_ok-trial.ensures.begun _ _ _ _ run.parts c.requires.kinds run.ready

pub returns-clause-desc : goal.returns-clause-desc
returns-clause-desc g c =
    c.end.ensures ∙ ends_as_begun _ _ _ _ _ c.in_ok-trial.ensures.begun _ c.in_ok-found-2.ensures.parts

pub returns-clause-found : goal.returns-clause-found
returns-clause-found g c =
    let trial = c.in_ok-trial.ensures.begun in
    let described = with_flaws c.args.desc c.args.flaws.now in
    sorted_first c.args.desc.chip _ c.args.base.now c.args.tasks.now _ _ _ _ described described c.in_ok-found-2.ensures.found trial.chip (trial.first _) refl

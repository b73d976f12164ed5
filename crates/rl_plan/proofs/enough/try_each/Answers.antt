use Rattle.std.proofs.Common.{All, subst, ap, ◌∙◌}
use Rattle.rl_desc.specs.Data.{DescData}
use Rattle.rl_grade.specs.declared.grade.Tries.{Tries}
use Rattle.rl_grade.specs.Place.{IsPlaceIn}
use Rattle.rl_plan.specs.Needed.{all_places}
use Rattle.rl_plan.proofs.EnoughLemmas.{each_tried, shown_again}
use Rattle.rl_plan.proofs.enough.try_each.Goals as goal

pub grade_together-requires-clause-built_with : goal.grade_together-requires-clause-built_with
grade_together-requires-clause-built_with c = rw c.in_ok-desc.ensures.desc c.requires.can_try.built_with

pub grade_together-requires-clause-kinds : goal.grade_together-requires-clause-kinds
grade_together-requires-clause-kinds c = rw c.in_ok-desc.ensures.desc c.requires.can_try.kinds

pub grade_together-requires-clause-fits : goal.grade_together-requires-clause-fits
grade_together-requires-clause-fits c = rw c.in_ok-desc.ensures.desc c.requires.can_try.fits

pub grade_together-requires-clause-places : goal.grade_together-requires-clause-places
grade_together-requires-clause-places c =
    rw (c.in_ok-desc.ensures.desc, c.deref.ensures.value)
    (subst (λ (d : DescData). All (IsPlaceIn d.chip) c.in_ok-places.places.items) c.desc.view_is c.in_ok-places.ensures.each)

pub grade_together-requires-clause-shown : goal.grade_together-requires-clause-shown
grade_together-requires-clause-shown c =
    shown_again c.args.desc _ c.args.tasks.now _ c.in_ok-desc.ensures.desc c.requires.none c.in_ok-desc.ensures.seen

pub returns-clause-graded : goal.returns-clause-graded
returns-clause-graded c =
    each_tried (λ (t : Tries). t.graded.items) _ c.args.desc _ c.args.tasks.now _ c.in_ok-desc.field-0.shown.items _ c.shares_have_each_flaw_once.ensures.whole
    c.in_ok-desc.ensures.desc c.in_ok-desc.ensures.seen
    (c.deref.ensures.value ∙ c.in_ok-places.ensures.places ∙ ap (λ (d : DescData). all_places d.chip) c.desc.view_is)
    c.grade_together.ensures.graded

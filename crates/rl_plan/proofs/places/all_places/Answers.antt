use Rattle.std.proofs.Common.{◌++◌, [], All, subst, sym, ap, ◌∙◌}
use Rattle.std.proofs.lemmas.List.Elements.{All-append}
use Rattle.rl_grade.specs.Place.{IsPlaceIn}
use Rattle.rl_plan.specs.Needed.{places_of}
use Rattle.rl_plan.proofs.Pushed.{text_more}
use Rattle.rl_plan.proofs.places.all_places.Goals as goal

pub loop-item-preserved : goal.loop-item-preserved
loop-item-preserved c =
    let i = c.loop-item.invariant in
    let pushed = c.in_ok-extend_from_slice.ensures.items ∙ ap (λ xs. c.loop-item.places.items ++ xs) c.deref.ensures.value in
    record {
      places_are = text_more (places_of c.args.chip.now) [] _ _ _ c.loop-item.item-index _ c.loop-item-test.true i.places_are
          (pushed ∙ ap (λ xs. c.loop-item.places.items ++ xs) c.in_ok-own.ensures.places);
      each = subst (All (IsPlaceIn c.args.chip.now)) (sym pushed)
          (All-append (IsPlaceIn c.args.chip.now) _ _ i.each c.in_ok-own.ensures.each);
    }

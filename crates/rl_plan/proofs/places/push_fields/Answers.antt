use Rattle.std.proofs.Common.{refl}
use Rattle.rl_grade.specs.declared.place.Place.TheVariants.{OfField}
use Rattle.rl_plan.proofs.ItemLemmas.{numbered_more}
use Rattle.rl_plan.proofs.places.push_fields.Goals as goal

pub loop-field-preserved : goal.loop-field-preserved
loop-field-preserved c = numbered_more OfField _ _ _ _ _ _ refl c.loop-field.invariant c.in_ok-push.ensures.items

-- The fields so far were appended.
use Rattle.std.proofs.Common.{◌≡◌, ◌++◌, map}
use Rattle.std.specs.List.{range_with_len}
use Rattle.rl_grade.specs.declared.place.Place.TheVariants.{OfField}
use Rattle.rl_plan.proofs.places.push_fields.Given as goal

abbrev pub invariant-loop-field : goal.invariant-loop-field
invariant-loop-field l = l.places.items ≡ l.initial.places.items ++ map OfField (range_with_len l.first l.field)

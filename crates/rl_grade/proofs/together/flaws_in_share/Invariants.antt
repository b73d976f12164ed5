-- What is there so far, and then the flaws of the places from here on, are those of all places; and each is a flaw.
use Rattle.std.proofs.Common.{◌≡◌, ◌++◌, drop, All}
use Rattle.rl_flaw.specs.Flaws.{IsFlawOf}
use Rattle.rl_grade.specs.Batch.{flaws_of_places}
use Rattle.rl_grade.proofs.together.flaws_in_share.Given as goal

abbrev pub invariant-loop-place : goal.invariant-loop-place
invariant-loop-place l = record {
  leads : l.all.items ++ flaws_of_places l.desc l.items (drop l.place-index l.places) ≡ flaws_of_places l.desc l.items l.places;
  each : All (IsFlawOf l.desc.chip l.desc.layout) l.all.items;
}

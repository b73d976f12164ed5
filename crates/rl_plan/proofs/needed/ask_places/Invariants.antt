-- Nothing was found at the places so far.
use Rattle.std.proofs.Common.{◌≡◌, false, take}
use Rattle.std.specs.List.{list_any}
use Rattle.rl_plan.specs.Needed.{finds_at}
use Rattle.rl_plan.proofs.needed.ask_places.Given as goal

abbrev pub invariant-loop-place : goal.invariant-loop-place
invariant-loop-place l = record {
  desc_is : l.desc ≡ l.fn.desc;
  none : list_any (finds_at l.fn.desc l.tasks l.shown.seen.items l.shown.items) (take l.place-index l.places) ≡ false;
}

use Rattle.std.proofs.Common.{◌≡◌, ◌≤◌, length}
use Rattle.rl_seq.specs.Choice.{count_below, is_of}
use Rattle.rl_seq.proofs.choice.places_of.Given as goal

abbrev pub invariant-loop-place : goal.invariant-loop-place
invariant-loop-place l = record {
  within : l.place ≤ length l.layout.places;
  few : l.count ≤ l.place;
  counted : l.count ≡ count_below l.place (λ k. is_of l.layout k l.item);
}

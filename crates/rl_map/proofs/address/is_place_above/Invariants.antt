use Rattle.std.proofs.Common.{ℕ, ◌<◌, ◌≤◌}
use Rattle.rl_map.specs.Faults.{is_above}
use Rattle.rl_map.specs.Building.{placed_at}
use Rattle.rl_map.proofs.EvenTests.{HasNone}
use Rattle.rl_map.proofs.address.is_place_above.Given as goal

abbrev pub invariant-loop-index : goal.invariant-loop-index
invariant-loop-index l = (i : ℕ) → l.initial.index ≤ i → i < l.index → HasNone (is_above (placed_at l.row l.path l.port)) l.row.bytes i

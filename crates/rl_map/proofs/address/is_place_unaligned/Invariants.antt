use Rattle.std.proofs.Common.{ℕ, ◌<◌}
use Rattle.rl_map.specs.Faults.{is_unaligned}
use Rattle.rl_map.specs.Building.{placed_at}
use Rattle.rl_map.proofs.EvenTests.{HasNone}
use Rattle.rl_map.proofs.address.is_place_unaligned.Given as goal

abbrev pub invariant-loop-index : goal.invariant-loop-index
invariant-loop-index l = (i : ℕ) → i < l.index → HasNone (is_unaligned (placed_at l.row l.path l.port)) l.row.bytes i

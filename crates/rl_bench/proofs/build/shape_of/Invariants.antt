use Rattle.std.proofs.Common.{◌≡◌, ℕ, ◌<◌, take, is_some, false}
use Rattle.std.specs.Prelude.{option_map, find}
use Rattle.rl_policy.specs.Bits.{bit}
use Rattle.rl_bus.specs.Setup.{names_bit, or_else}
use Rattle.rl_bench.specs.Tables.{setup_held}
use Rattle.rl_bench.proofs.build.shape_of.Given as goal

abbrev pub invariant-loop-k : goal.invariant-loop-k
invariant-loop-k l = record {
  stuck : (b : ℕ) → b < 64 → bit l.stuck b ≡ is_some (option_map (λ s. s.value) (find (λ s. names_bit (setup_held l.tables) s l.reg b) (take l.k l.tables.stuck.items)));
  values : (b : ℕ) → b < 64 → bit l.values b ≡ or_else (option_map (λ s. s.value) (find (λ s. names_bit (setup_held l.tables) s l.reg b) (take l.k l.tables.stuck.items))) false;
}

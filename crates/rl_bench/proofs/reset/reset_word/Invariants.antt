use Rattle.std.proofs.Common.{◌≡◌, ℕ, ◌<◌, take, is_some}
use Rattle.std.specs.Prelude.{position}
use Rattle.rl_policy.specs.Bits.{bit}
use Rattle.rl_bus.specs.Setup.{covers}
use Rattle.rl_bus.specs.State.{reset_bit}
use Rattle.rl_bench.specs.Tables.{setup_held}
use Rattle.rl_bench.proofs.reset.reset_word.Given as goal

abbrev pub invariant-loop-k : goal.invariant-loop-k
invariant-loop-k l = record {
  taken : (b : ℕ) → b < 64 → bit l.taken b ≡ is_some (position (λ f. covers f l.reg b) (take l.k l.board.tables.fields.items));
  word : (b : ℕ) → b < 64 → bit l.word b ≡ reset_bit (setup_held l.board.tables) l.kind (position (λ f. covers f l.reg b) (take l.k l.board.tables.fields.items)) b (bit l.bits b);
}

-- Registers and words of the same bits.
use Rattle.std.proofs.Common.{◌≡◌, ℕ, ◌+◌, ◌*◌, ◌/◌, ◌%◌, ◌<◌, Bool, ◌&&◌, ap, arith}
use Rattle.std.specs.Prelude.{slice_index}
use Rattle.rl_policy.specs.Bits.{bit}
use Rattle.rl_policy.proofs.BitLemmas.{from_bits-same}
use Rattle.rl_bus.specs.declared.table.Lanes.{Lanes}
use Rattle.rl_bus.specs.Setup.{Setup, held, or_else, stuck_at}
use Rattle.rl_bus.specs.Spread.{AreInCell, gathered_bit}

pub held_same : (t : Setup) (reg : ℕ) (f g : ℕ → Bool) → ((b : ℕ) → b < 64 → f b ≡ g b) → held t reg f ≡ held t reg g
unfolding held
held_same t reg f g same = from_bits-same 64 _ _ (λ b k. ap (or_else (stuck_at t reg b)) (same b k))

pub gathered_same : (s : Lanes) (f g : ℕ → Bool) → AreInCell s → ((b : ℕ) → b < 64 → f b ≡ g b) → (b : ℕ) → b < 64 → gathered_bit s f b ≡ gathered_bit s g b
gathered_same s f g within same b k =
    let low : slice_index s.bytes (b / 8) < 8 = within (b / 8) (omega (arith, k)) in
    ap (λ x. bit s.enabled (b / 8) && x) (same (8 * slice_index s.bytes (b / 8) + b % 8) (omega (arith, low)))

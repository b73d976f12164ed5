-- What a word carries of a cell.
use Rattle.std.proofs.Common.{◌≡◌, ℕ, ◌+◌, ◌*◌, ◌/◌, ◌%◌, Bool, true, ◌&&◌, Option, Some, None, is_some, refl, ap, ◌∙◌, arith}
use Rattle.std.specs.Prelude.{slice_index}
use Rattle.rl_policy.specs.Bits.{bit, from_bits}
use Rattle.rl_policy.proofs.BitLemmas.{bit-from_bits}
use Rattle.rl_bus.specs.declared.table.Lanes.{Lanes}
use Rattle.rl_bus.specs.Spread.{lane_below, bit_in, spread_bit, lane_bit, gathered_bit}
use Rattle.rl_bus.proofs.LaneLemmas.{found_lane}

lane_of_bit : (l b : ℕ) → ((8 * l + b % 8) / 8 ≡ l) × ((8 * l + b % 8) % 8 ≡ b % 8)
lane_of_bit l b = (omega arith, omega arith)

-- what a word gathered of some bits, it brings back to their places
pub spread_gathered : (s : Lanes) (f : ℕ → Bool) (b : ℕ) → lane_bit s b ≡ true → spread_bit s (bit (from_bits 64 (gathered_bit s f))) b ≡ f b
spread_gathered s f b e = by (lane_below 8 s (b / 8)) refl e
  where
    by : (o : Option ℕ) → lane_below 8 s (b / 8) ≡ o → is_some o ≡ true → bit_in o (bit (from_bits 64 (gathered_bit s f))) (b % 8) ≡ f b
    by None q e = cc
    by (Some l) q e =
        let at = found_lane 8 s (b / 8) l q in
        let place = lane_of_bit l b in
        let whole : 8 * (b / 8) + b % 8 ≡ b = omega arith in
        bit-from_bits 64 (gathered_bit s f) (8 * l + b % 8) (omega (arith, at.0))
        ∙ ap (λ k. bit s.enabled k && f (8 * slice_index s.bytes k + (8 * l + b % 8) % 8)) place.0
        ∙ ap (λ i. bit s.enabled l && f (8 * slice_index s.bytes l + i)) place.1
        ∙ ap (λ t. t && f (8 * slice_index s.bytes l + b % 8)) at.1.0
        ∙ ap (λ j. f (8 * j + b % 8)) at.1.1
        ∙ ap f whole

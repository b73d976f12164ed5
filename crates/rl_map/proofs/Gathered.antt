use Rattle.std.proofs.Common.{◌≡◌, ℕ, suc, ◌+◌, ◌*◌, ◌%◌, ◌^◌, ◌<◌, ◌≤◌, Bool, true, false, cond, List, length, get_or, set, Option, Some, None}
use Rattle.std.proofs.Common.{is_some, unwrap_or, bit_or, arith, ap, ◌∙◌, add-one, zero, ◌≢◌, below_more, get_or-set_other, get_or-set_same}
use Rattle.std.proofs.lemmas.Nat.{or_shifted, or_comm, one_shl}
use Rattle.std.proofs.lemmas.Grind.{common_steps}
use Rattle.std.proofs.Math.Nat.{pow-succ'}
use Rattle.rl_map.specs.Words.{mask_of}

-- what the loop over the lanes has below lane `n`, where `f` says the byte at each lane
pub record Gathered (f : ℕ → Option ℕ) (n lanes : ℕ) (bytes : List ℕ) : Type 0 where
  pub mask : lanes ≡ mask_of (λ lane. is_some (f lane)) n
  pub long : length bytes ≡ 8
  pub done : (k : ℕ) → k < n → get_or bytes k 0 ≡ unwrap_or (f k) 0
  pub rest : (k : ℕ) → n ≤ k → get_or bytes k 0 ≡ 0

pub mask_lt : (test : ℕ → Bool) (n : ℕ) → mask_of test n < 2 ^ n
mask_lt test zero = omega arith
mask_lt test (suc n) =
    let below = mask_lt test n in
    let double = pow-succ' 2 n in
    elim (test n) as (λ t. mask_of test n + cond t (2 ^ n) 0 < 2 ^ suc n) [ true ↦ omega (arith, double) | false ↦ omega (arith, double) ]

pub mask-set : (test : ℕ → Bool) (n : ℕ) → n < 8 → test n ≡ true → bit_or (mask_of test n) (1 * 2 ^ n % 2 ^ 8) ≡ mask_of test (n + 1)
mask-set test n low e =
    rw (one_shl n 8 low, add-one, e, or_comm)
    (ap (λ x. bit_or x (mask_of test n)) (let once : 2 ^ n ≡ 1 * 2 ^ n = omega arith in once) ∙ (or_shifted 1 n (mask_of test n) (mask_lt test n) ∙ omega arith))

pub gathered_some : (f : ℕ → Option ℕ) (n lanes b : ℕ) (bytes : List ℕ) → f n ≡ Some b → n < 8 → Gathered f n lanes bytes
    → Gathered f (n + 1) (bit_or lanes (1 * 2 ^ n % 2 ^ 8)) (set bytes n b)
gathered_some f n lanes b bytes e low g = record {
  mask = rw g.mask (mask-set (λ lane. is_some (f lane)) n low (ap is_some e));
  long = grind (arith, common_steps, g.long);
  done = below_more _ _
      (λ k h. let other : k ≢ n = omega arith in rw get_or-set_other (g.done k h))
      (let inside : n < length bytes = omega (arith, g.long) in rw (get_or-set_same, e));
  rest = λ k high. let other : k ≢ n = omega arith in rw get_or-set_other (g.rest k (omega arith));
}

pub gathered_none : (f : ℕ → Option ℕ) (n lanes : ℕ) (bytes : List ℕ) → f n ≡ None → Gathered f n lanes bytes → Gathered f (n + 1) lanes bytes
gathered_none f n lanes bytes e g = record {
  mask = rw (add-one, e) (omega (arith, g.mask));
  long = g.long;
  done = below_more _ _ g.done (rw e (g.rest n (omega arith)));
  rest = λ k high. g.rest k (omega arith);
}

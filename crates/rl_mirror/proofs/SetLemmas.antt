-- Sets of the fields of a register that are made place by place.
use Rattle.std.proofs.Common.{◌≡◌, ℕ, ◌+◌, ◌<◌, ◌≤◌, Bool, true, false, ◌&&◌, ◌||◌, leb, ltb, refl, ap, ◌∙◌, inl, inr, lt-ltb, le-ltb, arith}
use Rattle.std.proofs.lemmas.Bool.{cases_eq, cases_lt, le-leb, lt-leb}
use Rattle.rl_policy.specs.Bits.{is_within}

-- one of the first i places, with d
abbrev pub among : (i : ℕ) (d : ℕ → Bool) (k : ℕ) → Bool
among i d k = ltb k i && d k

pub among-zero : (d : ℕ → Bool) (k : ℕ) → false ≡ among 0 d k
among-zero d k = let none : ltb k 0 ≡ false = le-ltb k 0 (omega arith) in rw none refl

pub among-added : (i k : ℕ) (d : ℕ → Bool) → d i ≡ true → (among i d k || is_within i 1 k) ≡ among (i + 1) d k
among-added i k d e =
    elim (cases_eq k i) [
      | inl same ↦
          let old : ltb k i ≡ false = le-ltb k i (omega arith) in
          let new : ltb k (i + 1) ≡ true = lt-ltb k (i + 1) (omega arith) in
          let from : leb i k ≡ true = le-leb i k (omega arith) in
          let here : d k ≡ true = ap d same ∙ e in
          rw (old, new, from, here) refl
      | inr ne ↦
          elim (cases_lt k i) [
            | inl before ↦
                let old : ltb k i ≡ true = lt-ltb k i before in
                let new : ltb k (i + 1) ≡ true = lt-ltb k (i + 1) (omega arith) in
                let from : leb i k ≡ false = lt-leb i k before in
                rw (old, new, from) (or_none (d k))
            | inr after ↦
                let old : ltb k i ≡ false = le-ltb k i after in
                let new : ltb k (i + 1) ≡ false = le-ltb k (i + 1) (omega arith) in
                rw (old, new) (no_end (leb i k))
          ]
    ]
  where
    or_none : (t : Bool) → (t || false) ≡ t
    or_none true = refl
    or_none false = refl

    no_end : (t : Bool) → (t && false) ≡ false
    no_end true = refl
    no_end false = refl

pub among-passed : (i k : ℕ) (d : ℕ → Bool) → d i ≡ false → among i d k ≡ among (i + 1) d k
among-passed i k d e =
    elim (cases_eq k i) [
      | inl same ↦
          let old : ltb k i ≡ false = le-ltb k i (omega arith) in
          let new : ltb k (i + 1) ≡ true = lt-ltb k (i + 1) (omega arith) in
          let here : d k ≡ false = ap d same ∙ e in
          rw (old, new, here) refl
      | inr ne ↦
          elim (cases_lt k i) [
            | inl before ↦ rw (lt-ltb k i before, lt-ltb k (i + 1) (omega arith)) refl
            | inr after ↦ rw (le-ltb k i after, le-ltb k (i + 1) (omega arith)) refl
          ]
    ]

pub among-all : (n k : ℕ) (d : ℕ → Bool) → k < n → among n d k ≡ d k
among-all n k d l = rw (lt-ltb k n l) refl

pub among-none : (n k : ℕ) (d : ℕ → Bool) → n ≤ k → among n d k ≡ false
among-none n k d g = rw (le-ltb k n g) refl

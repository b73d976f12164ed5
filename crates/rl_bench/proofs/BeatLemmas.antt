-- The beats of addresses in a list.
use mathlib.Core.Path.{fun_ext}
use Rattle.std.proofs.Common.{zero, suc, replicate}
use Rattle.std.proofs.Common.{◌≡◌, ℕ, ◌<◌, Bool, true, false, cond, ◌&&◌, eqb, List, length, get_or, set, refl, sym, ap, ◌∙◌, arith, Option, Some, None, ⊎_elim}
use Rattle.std.specs.Prelude.{position, is_some, slice_index}
use Rattle.std.specs.List.{position_or_len}
use Rattle.std.proofs.lemmas.List.Sums.{fails_before_first}
use Rattle.std.proofs.Common.{lt-ltb}
use Rattle.std.proofs.lemmas.Bool.Decides.{nat_tests}
use Rattle.std.proofs.lemmas.Bool.{cases_eq, cases_lt, false≢true}
use Rattle.std.proofs.lemmas.List.{get_or-set_same, get_or-set_other}
use Rattle.std.proofs.lemmas.List.Quantifiers.{position-Some}
use Rattle.rl_bus.specs.declared.table.WordRow.{WordRow}
use Rattle.rl_bus.specs.Setup.{stands_at}
use Rattle.rl_bench.specs.Beats.{beat_in, beats_of, no_word}

-- a word stands at one address
pub one_address : (w : WordRow) (p a q c : ℕ) → stands_at p a w ≡ true → stands_at q c w ≡ true → (p ≡ q) × (a ≡ c)
one_address w p a q c h k = grind (arith, nat_tests)

same_address : (words : List WordRow) (p a q c k : ℕ) → position (stands_at p a) words ≡ Some k → position (stands_at q c) words ≡ Some k → (p ≡ q) × (a ≡ c)
same_address words p a q c k h g =
    let x = position-Some (stands_at p a) words k no_word h in
    let y = position-Some (stands_at q c) words k no_word g in
    one_address (get_or words k no_word) p a q c x.1 y.1

-- one beat set, seen from any address
pub set_one : (words : List WordRow) (beats : List ℕ) (port address k value p a : ℕ) → length beats ≡ length words
    → position (stands_at port address) words ≡ Some k → beats_of words (set beats k value) p a ≡ cond (eqb p port && (eqb a address)) value (beats_of words beats p a)
set_one words beats port address k value p a same here = by (position (stands_at p a) words) refl
  where
    within : k < length beats
    within = rw same (position-Some (stands_at port address) words k no_word here).0

    here_too : p ≡ port → a ≡ address → position (stands_at p a) words ≡ Some k
    here_too u v = rw (u, v) here

    apart : (t : Bool) → (eqb p port && eqb a address) ≡ t → (position (stands_at p a) words ≡ Some k → ⊥) → t ≡ false
    apart true h other = absurd (other (here_too (grind (arith, nat_tests)) (grind (arith, nat_tests))))
    apart false h other = refl

    some≢none : Some k ≡ None → ⊥
    some≢none h = cc

    some_same : {j : ℕ} → Some j ≡ Some k → j ≡ k
    some_same h = cc

    equal_both : p ≡ port → a ≡ address → (eqb p port && eqb a address) ≡ true
    equal_both u v = grind (arith, nat_tests)

    by : (o : Option ℕ) → position (stands_at p a) words ≡ o → beat_in (set beats k value) o ≡ cond (eqb p port && eqb a address) value (beat_in beats o)
    by None e = let no : (eqb p port && eqb a address) ≡ false = apart _ refl (λ n. some≢none (sym n ∙ e)) in rw no refl
    by (Some j) e = ⊎_elim
        (λ (same_place : j ≡ k).
        let s = same_address words p a port address k (e ∙ ap Some same_place) here in
        let yes : (eqb p port && eqb a address) ≡ true = equal_both s.0 s.1 in
        rw (yes, same_place) (get_or-set_same beats k value 0 within))
        (λ (other : j ≡ k → ⊥).
        let no : (eqb p port && eqb a address) ≡ false = apart _ refl (λ n. other (some_same (sym e ∙ n))) in
        rw no (get_or-set_other beats k j value 0 other))
        (cases_eq j k)

-- a list with an element that passes has a first one
pub position_found : {X : Type 0} (p : X → Bool) (xs : List X) (i : ℕ) (d : X) → i < length xs → p (get_or xs i d) ≡ true → is_some (position p xs) ≡ true
position_found p xs i d l h =
    ⊎_elim
    (λ w. ap (λ b. is_some (cond b (Some (position_or_len p xs)) None)) (lt-ltb (position_or_len p xs) (length xs) w))
    (λ g. absurd (clash (fails_before_first p xs i d (omega (arith, l, g)))))
    (cases_lt (position_or_len p xs) (length xs))
  where
    clash : p (get_or xs i d) ≡ false → ⊥
    clash k = false≢true (sym k ∙ h)

pub stands_at_own : (w : WordRow) → stands_at w.port w.address w ≡ true
stands_at_own w = grind (arith, nat_tests)

zero_at : (n k : ℕ) → slice_index (replicate n 0) k ≡ 0
zero_at zero k = refl
zero_at (suc n) zero = refl
zero_at (suc n) (suc k) = zero_at n k

-- a list of zeros has all beats at 0
pub no_beats : (words : List WordRow) (n : ℕ) → beats_of words (replicate n 0) ≡ (λ p a. 0)
no_beats words n = fun_ext (λ p. fun_ext (λ a. by (position (stands_at p a) words)))
  where
    by : (o : Option ℕ) → beat_in (replicate n 0) o ≡ 0
    by None = refl
    by (Some k) = zero_at n k

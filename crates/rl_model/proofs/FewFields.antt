-- A register of so many bits has at most so many fields.
use Rattle.std.proofs.Common.{◌≡◌, ◌≢◌, ℕ, suc, ◌+◌, ◌<◌, ◌≤◌, true, false, ◌&&◌, nat_lt, eqb, List, [], ◌∷◌, length, length-take-le}
use Rattle.std.proofs.Common.{map, take, slice_get, Option, Some, None, option_map, refl, sym, ap, ◌∙◌, inl, inr, arith}
use Rattle.std.proofs.lemmas.Bool.{cases_Bool}
use Rattle.std.proofs.lemmas.Bool.Decides.{nat_tests}
use Rattle.std.proofs.lemmas.Option.{none-some, same_Some, slice_get_within, slice_get-map}
use Rattle.std.proofs.lemmas.List.{length-map}
use Rattle.std.proofs.lemmas.Map.Steps.{length-le_from_distinct_below}
use Rattle.std.specs.List.{list_any, IsDistinct, AllByRecursion}
use Rattle.rl_model.specs.Data.{FieldData}
use Rattle.rl_model.specs.Rules.{overlaps}
use Rattle.rl_model.specs.Stages.{TakesOwnBits}
use Rattle.rl_model.proofs.SoundLemmas.{none_at, get-take}

all_apart : (x : ℕ) (ys : List ℕ) → ((j y : ℕ) → slice_get ys j ≡ Some y → x ≢ y) → AllByRecursion (λ y. eqb x y ≡ false) ys
all_apart x [] apart = tt
all_apart x (y ∷ ys) apart =
    let ne : x ≢ y = apart 0 y refl in
    (grind (arith, nat_tests), all_apart x ys (λ j z at. apart (suc j) z at))

distinct_from : (xs : List ℕ) → ((i j x y : ℕ) → slice_get xs i ≡ Some x → slice_get xs j ≡ Some y → i < j → x ≢ y) → IsDistinct eqb xs
unfolding IsDistinct
distinct_from [] apart = tt
distinct_from (x ∷ xs) apart = (
  all_apart x xs (λ j y at. apart 0 (suc j) x y refl at (omega arith)),
  distinct_from xs (λ i j y z at_i at_j lt. apart (suc i) (suc j) y z at_i at_j (omega arith)),
)

member : (q : ℕ) (xs : List ℕ) → list_any (eqb q) xs ≡ true → (i : ℕ) × (slice_get xs i ≡ Some q)
member q [] h = absurd (let no : ⊥ = cc in no)
member q (x ∷ xs) h =
    elim (cases_Bool (eqb q x)) [
      | inl here ↦
          let same : x ≡ q = grind (arith, nat_tests) in
          (0, ap (λ (k : ℕ). Some k) same)
      | inr later ↦ let (i, at) = member q xs (rw later at h) in (suc i, at)
    ]

mapped : {X Y : Type 0} (v : X → Y) (o : Option X) (y : Y) → option_map v o ≡ Some y → (x : X) × (o ≡ Some x) × (v x ≡ y)
mapped v None y h = absurd (none-some y h)
mapped v (Some x) y h = (x, refl, same_Some (v x) y h)

lsb_of : FieldData → ℕ
lsb_of f = f.lsb

-- each of the first i fields lies below `bits`, apart from those before it
abbrev pub AreOwn : ℕ → List FieldData → ℕ → Type 0
AreOwn bits fs i = (k : ℕ) → k < i → (f : FieldData) → slice_get fs k ≡ Some f → TakesOwnBits bits (take k fs) f

pub few_own : (bits : ℕ) (fs : List FieldData) (i : ℕ) → AreOwn bits fs i → i ≤ length fs → i ≤ bits
unfolding lsb_of
few_own bits fs i own le =
    let front = take i fs in
    let count : length (map lsb_of front) ≡ i = length-map front lsb_of ∙ length-take-le i fs le in
    let at_front : (k x : ℕ) → slice_get (map lsb_of front) k ≡ Some x → (f : FieldData) × (k < i) × (slice_get fs k ≡ Some f) × (f.lsb ≡ x) = λ k x at.
    let lt : k < i = omega (arith, slice_get_within (map lsb_of front) k x at, count) in
    let (f, at_f, is) = mapped lsb_of (slice_get front k) x (sym (slice_get-map lsb_of front k) ∙ at) in
    (f, lt, sym (get-take fs k i lt) ∙ at_f, is) in
    let below : (q : ℕ) → list_any (eqb q) (map lsb_of front) ≡ true → q < bits = λ q h.
    let (k, at) = member q (map lsb_of front) h in
    let (f, lt, at_f, is) = at_front k q at in
    let fits = own k lt f at_f in
    omega (arith, fits.0, fits.1, is) in
    let apart : (k l x y : ℕ) → slice_get (map lsb_of front) k ≡ Some x → slice_get (map lsb_of front) l ≡ Some y → k < l → x ≢ y = λ k l x y at_k at_l lt same.
    let (f, lt_k, at_f, is_f) = at_front k x at_k in
    let (g, lt_l, at_g, is_g) = at_front l y at_l in
    let fits = own l lt_l g at_g in
    let width_f = (own k lt_k f at_f).0 in
    let width_g = fits.0 in
    let off : overlaps g f ≡ false = none_at (overlaps g) (take l fs) k f fits.2 (get-take fs k l lt ∙ at_f) in
    let one_start : f.lsb ≡ g.lsb = is_f ∙ (same ∙ sym is_g) in
    overlap_at_start f.lsb f.width g.lsb g.width one_start width_f width_g off in
    let most = length-le_from_distinct_below (map lsb_of front) bits (distinct_from (map lsb_of front) apart) below in
    omega (arith, most, count)
  where
    overlap_at_start : (a w b v : ℕ) → a ≡ b → 1 ≤ w → 1 ≤ v → (nat_lt b (a + w) && nat_lt a (b + v)) ≡ false → ⊥
    overlap_at_start a w b v same low_w low_v off =
        let first : nat_lt b (a + w) ≡ true = grind (arith, nat_tests) in
        let second : nat_lt a (b + v) ≡ true = grind (arith, nat_tests) in
        absurd (let no : ⊥ = cc in no)

-- What passes a test stands in one part of a list.
use Rattle.std.proofs.Common.{◌≡◌, ℕ, zero, suc, ◌+◌, ◌-◌, ◌*◌, ◌^◌, ◌<◌, ◌≤◌, Bool, true, false, cond, ◌&&◌, eqb, ltb, leb, List, []}
use Rattle.std.proofs.Common.{◌∷◌, length, get_or, take, drop, refl, sym, ap, ◌∙◌, arith, Option, Some, None, subst, add-zero, ⊎_elim}
use Rattle.std.specs.Prelude.{filter, find, position, is_some, slice_get, slice_index, slice_set}
use Rattle.std.specs.List.{position_or_len, AllWithin}
use Rattle.std.specs.List.Sorted.{IsNonDecreasingBy}
use Rattle.std.proofs.lemmas.Bool.{cases_lt}
use Rattle.rl_bus.specs.declared.table.WordRow.{WordRow}
use Rattle.rl_bus.specs.declared.table.FieldRow.{FieldRow}
use Rattle.rl_bus.specs.Setup.{stands_at, stands_for, covers}
use Rattle.rl_map.specs.Layout.{key_of}
use Rattle.std.specs.Option.{option_or}
use Rattle.std.proofs.lemmas.Bool.Decides.{nat_tests}
use Rattle.std.proofs.Common.{lt-ltb, le-ltb}
use Rattle.std.proofs.lemmas.List.{take_all, get_or-drop, length-drop}
use Rattle.std.proofs.lemmas.Option.{slice_get-get_or}
use Rattle.std.proofs.lemmas.List.Sums.{position_or_len_is}
use Rattle.rl_bench.specs.Stretch.{IsStretch}
use Rattle.rl_bench.specs.Beats.{beats_of, no_word}
use Rattle.rl_bench.proofs.BeatLemmas.{set_one, stands_at_own}
use Rattle.rl_bench.proofs.RowLemmas.{some_same}
use Rattle.rl_policy.proofs.Positions.{position_more}
use Rattle.rl_bench.proofs.ListLemmas.{element}

-- ---- filters

pub none_taken : {X : Type 0} (q : X → Bool) (xs : List X) (i : ℕ) → ((k : ℕ) (d : X) → k < i → k < length xs → q (get_or xs k d) ≡ false) → filter q (take i xs) ≡ []
none_taken q xs zero h = refl
none_taken q [] (suc i) h = refl
none_taken q (x ∷ xs) (suc i) h =
    let no : q x ≡ false = h 0 x (omega arith) (omega arith) in
    rw no (none_taken q xs i (λ k d l m. h (suc k) d (omega (arith, l)) (omega (arith, m))))

pub all_taken : {X : Type 0} (q : X → Bool) (xs : List X) (j : ℕ) → ((k : ℕ) (d : X) → j ≤ k → k < length xs → q (get_or xs k d) ≡ false) → filter q (take j xs) ≡ filter q xs
all_taken q [] zero h = refl
all_taken q [] (suc j) h = refl
all_taken q (x ∷ xs) zero h =
    let no : q x ≡ false = h 0 x (omega arith) (omega arith) in
    rw no (all_taken q xs zero (λ k d l m. h (suc k) d (omega arith) (omega (arith, m))))
all_taken q (x ∷ xs) (suc j) h =
    ap (λ ys. cond (q x) (x ∷ ys) ys) (all_taken q xs j (λ k d l m. h (suc k) d (omega (arith, l)) (omega (arith, m))))

-- ---- searches

pub find_dropped : {X : Type 0} (q : X → Bool) (xs : List X) (i : ℕ) → ((k : ℕ) (d : X) → k < i → k < length xs → q (get_or xs k d) ≡ false) → find q (drop i xs) ≡ find q xs
find_dropped q xs zero h = refl
find_dropped q [] (suc i) h = refl
find_dropped q (x ∷ xs) (suc i) h =
    let no : q x ≡ false = h 0 x (omega arith) (omega arith) in
    rw no (find_dropped q xs i (λ k d l m. h (suc k) d (omega (arith, l)) (omega (arith, m))))

-- the first that passes heads the filter
find_first : {X : Type 0} (q : X → Bool) (xs : List X) → find q xs ≡ slice_get (filter q xs) 0
find_first q [] = refl
find_first q (x ∷ xs) = by (q x) (find_first q xs)
  where
    by : (b : Bool) → find q xs ≡ slice_get (filter q xs) 0 → cond b (Some x) (find q xs) ≡ slice_get (cond b (x ∷ filter q xs) (filter q xs)) 0
    by true rest = refl
    by false rest = rest

pub find_taken : {X : Type 0} (q : X → Bool) (xs : List X) (j : ℕ) → ((k : ℕ) (d : X) → j ≤ k → k < length xs → q (get_or xs k d) ≡ false) → find q (take j xs) ≡ find q xs
find_taken q xs j h = find_first q (take j xs) ∙ ap (λ ys. slice_get ys 0) (all_taken q xs j h) ∙ sym (find_first q xs)

-- ---- first places

no_more : {X : Type 0} (o : Option X) (b : Bool) (x : X) → b ≡ false → option_or o (cond b (Some x) None) ≡ o
no_more (Some y) b x e = refl
no_more None true x e = let bad : ⊥ = cc in absurd bad
no_more None false x e = refl

pub no_place_before : {X : Type 0} (q : X → Bool) (xs : List X) (i : ℕ) (d : X) → i ≤ length xs → ((k : ℕ) → k < i → q (get_or xs k d) ≡ false) → position q (take i xs) ≡ None
no_place_before q xs zero d l h = refl
no_place_before q xs (suc i) d l h =
    let e : suc i ≡ i + 1 = omega arith in
    ap (λ n. position q (take n xs)) e
    ∙ position_more q xs i d (omega (arith, l))
    ∙ no_more (position q (take i xs)) (q (get_or xs i d)) i (h i (omega arith))
    ∙ no_place_before q xs i d (omega (arith, l)) (λ k m. h k (omega (arith, m)))

no_place_within : {X : Type 0} (q : X → Bool) (xs : List X) (j n : ℕ) (d : X) → j + n ≤ length xs
    → ((k : ℕ) → j ≤ k → k < length xs → q (get_or xs k d) ≡ false) → position q (take (j + n) xs) ≡ position q (take j xs)
no_place_within q xs j zero d l h = ap (λ n. position q (take n xs)) (add-zero j)
no_place_within q xs j (suc n) d l h =
    let e : j + suc n ≡ (j + n) + 1 = omega arith in
    ap (λ n. position q (take n xs)) e
    ∙ position_more q xs (j + n) d (omega (arith, l))
    ∙ no_more (position q (take (j + n) xs)) (q (get_or xs (j + n) d)) (j + n) (h (j + n) (omega arith) (omega (arith, l)))
    ∙ no_place_within q xs j n d (omega (arith, l)) h

pub no_place_behind : {X : Type 0} (q : X → Bool) (xs : List X) (j : ℕ) (d : X) → j ≤ length xs → ((k : ℕ) → j ≤ k → k < length xs → q (get_or xs k d) ≡ false) → position q (take j xs) ≡ position q xs
no_place_behind q xs j d l h =
    let e : j + (length xs - j) ≡ length xs = omega (arith, l) in
    sym (no_place_within q xs j (length xs - j) d (omega (arith, l)) h)
    ∙ ap (λ n. position q (take n xs)) e
    ∙ ap (position q) (take_all (length xs) xs (omega arith))

pub stretch_some : {X : Type 0} (p : X → Bool) (xs : List X) (i j : ℕ) (d : X) → IsStretch p xs i j → i < j → position p xs ≡ Some i
stretch_some p xs i j d s l =
    let inside : i < length xs = omega (arith, l, s.within) in
    let at : position_or_len p xs ≡ i = position_or_len_is p xs i d (omega (arith, inside)) (λ k m. s.before k d m) (λ m. s.inside i d (omega arith) l) in
    ap (λ k. cond (ltb k (length xs)) (Some k) None) at ∙ ap (λ b. cond b (Some i) None) (lt-ltb i (length xs) inside)

pub stretch_none : {X : Type 0} (p : X → Bool) (xs : List X) (i j : ℕ) (d : X) → IsStretch p xs i j → j ≤ i → position p xs ≡ None
stretch_none p xs i j d s l =
    sym (no_place_behind p xs j d s.within (λ k m n. s.behind k d m n))
    ∙ no_place_before p xs j d s.within (λ k m. s.before k d (omega (arith, m, s.order)))

-- ---- searches by halves

both : (x t : ℕ) → ltb x t ≡ false → leb x t ≡ true → eqb x t ≡ true
both x t h g = grind (arith, nat_tests)

below : (x t : ℕ) → ltb x t ≡ true → eqb x t ≡ false
below x t h = grind (arith, nat_tests)

above : (x t : ℕ) → leb x t ≡ false → eqb x t ≡ false
above x t h = grind (arith, nat_tests)

clash : (x t : ℕ) → ltb x t ≡ true → leb x t ≡ false → ⊥
clash x t h g = grind (arith, nat_tests)

pub lt_from : (x t : ℕ) → ltb x t ≡ true → x < t
lt_from x t h = grind (arith, nat_tests)

pub le_from : (x t : ℕ) → ltb x t ≡ false → t ≤ x
le_from x t h = grind (arith, nat_tests)

-- what lies between the first that isn't below t and the first above it
pub between : {X : Type 0} (n : X → ℕ) (xs : List X) (t i j : ℕ) → i ≤ length xs → j ≤ length xs
    → AllWithin (λ y. ltb (n y) t ≡ true) xs 0 i → AllWithin (λ y. ltb (n y) t ≡ false) xs i (length xs)
    → AllWithin (λ y. leb (n y) t ≡ true) xs 0 j → AllWithin (λ y. leb (n y) t ≡ false) xs j (length xs) → IsStretch (λ y. eqb (n y) t) xs i j
between n xs t i j il jl lo hi low high = record {
  order = ⊎_elim
      (λ (less : j < i).
      let x = element xs j (omega (arith, less, il)) in
      absurd (clash (n (get_or xs j x.0)) t (lo j x.0 (omega arith) less) (high j x.0 (omega arith) (omega (arith, less, il)))))
      (λ (more : i ≤ j). more)
      (cases_lt j i);
  within = jl;
  inside = λ k d l m. both (n (get_or xs k d)) t (hi k d l (omega (arith, m, jl))) (low k d (omega arith) m);
  before = λ k d l. below (n (get_or xs k d)) t (lo k d (omega arith) l);
  behind = λ k d l m. above (n (get_or xs k d)) t (high k d l m);
}

-- ---- words at an address

there : (w : WordRow) (p a : ℕ) → stands_at p a w ≡ true → key_of w ≡ p * 2 ^ 64 + a
there w p a h =
    let port : w.port ≡ p = grind (arith, nat_tests) in
    let address : w.address ≡ a = grind (arith, nat_tests) in
    rw (port, address) refl

not_there : (w : WordRow) (p a : ℕ) → (key_of w ≡ p * 2 ^ 64 + a → ⊥) → stands_at p a w ≡ false
not_there w p a apart = by (stands_at p a w) refl
  where
    by : (b : Bool) → stands_at p a w ≡ b → b ≡ false
    by true h = absurd (apart (there w p a h))
    by false h = refl

pub stretch_here : (words : List WordRow) (p a i j : ℕ) → IsNonDecreasingBy key_of words → i ≤ j → j ≤ length words
    → ((k : ℕ) (d : WordRow) → k < i → key_of (get_or words k d) < p * 2 ^ 64 + a)
    → ((k : ℕ) (d : WordRow) → i ≤ k → k < j → stands_at p a (get_or words k d) ≡ true)
    → ((d : WordRow) → j < length words → p * 2 ^ 64 + a < key_of (get_or words j d)) → IsStretch (stands_at p a) words i j
stretch_here words p a i j rise order within low inside high = record {
  order = order;
  within = within;
  inside = inside;
  before = λ k d l. not_there (get_or words k d) p a (λ e. omega (arith, e, low k d l));
  behind = λ k d l m. not_there (get_or words k d) p a (λ e. omega (arith, e, high d (omega (arith, l, m)), rise j k d l m));
}

pub and_false : (x y : Bool) → x ≡ false → (x && y) ≡ false
and_false true y h = let bad : ⊥ = cc in absurd bad
and_false false y h = refl

pub not_for : (p a : ℕ) (write : Bool) (w : WordRow) → stands_at p a w ≡ false → stands_for p a write w ≡ false
not_for p a write w h = and_false (stands_at p a w) _ h

-- the element inside a list is the same at any default
pub any_default : {X : Type 0} (xs : List X) (i : ℕ) (d e : X) → i < length xs → get_or xs i d ≡ get_or xs i e
any_default xs i d e l = some_same (sym (slice_get-get_or xs i d l) ∙ slice_get-get_or xs i e l)

pub high_from : (words : List WordRow) (j t : ℕ) (e d : WordRow) → j < length words → (key_of (get_or words j e) ≡ t → ⊥) → t ≤ key_of (get_or words j d) → t < key_of (get_or words j d)
high_from words j t e d l apart le =
    let same : key_of (get_or words j e) ≡ key_of (get_or words j d) = ap key_of (any_default words j e d l) in
    let other : key_of (get_or words j d) ≡ t → ⊥ = λ h. apart (same ∙ h) in
    omega (arith, other, le)

-- a search over the part that passes p, by a test that asks for p as well
pub find_within : {X : Type 0} (p q : X → Bool) (xs : List X) (i j : ℕ) → IsStretch p xs i j → ((x : X) → p x ≡ false → q x ≡ false) → find q (take (j - i) (drop i xs)) ≡ find q xs
find_within p q xs i j s less =
    find_taken q (drop i xs) (j - i) (λ k d l m.
    let at : get_or (drop i xs) k d ≡ get_or xs (i + k) d = get_or-drop i xs k d in
    let long : length (drop i xs) ≡ length xs - i = length-drop i xs in
    ap q at ∙ less (get_or xs (i + k) d) (s.behind (i + k) d (omega (arith, l, s.order)) (omega (arith, m, long))))
    ∙ find_dropped q xs i (λ k d l m. less (get_or xs k d) (s.before k d l))

-- ---- beats

pub beat_is : (words : List WordRow) (beats : List ℕ) (p a i j : ℕ) → IsStretch (stands_at p a) words i j → cond (ltb i j) (slice_index beats i) 0 ≡ beats_of words beats p a
beat_is words beats p a i j s =
    ⊎_elim
    (λ (l : i < j). rw (lt-ltb i j l, stretch_some (stands_at p a) words i j no_word s l) refl)
    (λ (g : j ≤ i). rw (le-ltb i j g, stretch_none (stands_at p a) words i j no_word s g) refl)
    (cases_lt i j)

and_true : (b : Bool) → b ≡ (b && true)
and_true true = refl
and_true false = refl

and_no : (b : Bool) (v o : ℕ) → o ≡ cond (b && false) v o
and_no true v o = refl
and_no false v o = refl

pub set_long : (words : List WordRow) (beats : List ℕ) (port address i j value p a : ℕ) → length beats ≡ length words
    → IsStretch (stands_at port address) words i j → beats_of words (cond (ltb i j) (slice_set beats i value) beats) p a ≡ cond
    (eqb p port && eqb a address && is_some (position (stands_at port address) words)) value (beats_of words beats p a)
set_long words beats port address i j value p a long s =
    ⊎_elim
    (λ (l : i < j).
    let here = stretch_some (stands_at port address) words i j no_word s l in
    rw (lt-ltb i j l, here) (set_one words beats port address i value p a long here
    ∙ ap (λ b. cond b value (beats_of words beats p a)) (and_true (eqb p port && eqb a address))))
    (λ (g : j ≤ i).
    let here = stretch_none (stands_at port address) words i j no_word s g in
    rw (le-ltb i j g, here) (and_no (eqb p port && eqb a address) value (beats_of words beats p a)))
    (cases_lt i j)

-- ---- fields of a register

pub other_reg : (f : FieldRow) (reg b : ℕ) → eqb f.reg reg ≡ false → covers f reg b ≡ false
other_reg f reg b h = and_false (eqb f.reg reg) _ h

-- a word whose neighbours stand at other addresses stands alone
pub stretch_one : (words : List WordRow) (k : ℕ) (d : WordRow) → IsNonDecreasingBy key_of words → k < length words
    → ((j : ℕ) → j + 1 ≡ k → key_of (get_or words j d) ≡ key_of (get_or words k d) → ⊥)
    → (k + 1 < length words → key_of (get_or words k d) ≡ key_of (get_or words (k + 1) d) → ⊥) → IsStretch (stands_at (get_or words k d).port (get_or words k d).address) words k (k + 1)
stretch_one words k d rise l before behind =
    stretch_here words w.port w.address k (k + 1) rise (omega arith) (omega (arith, l)) low inside high
  where
    w : WordRow
    w = get_or words k d

    low : (i : ℕ) (e : WordRow) → i < k → key_of (get_or words i e) < w.port * 2 ^ 64 + w.address
    low i e m =
        let j = k - 1 in
        let next : j + 1 ≡ k = omega (arith, m) in
        let apart = before j next in
        let up : key_of (get_or words i e) ≤ key_of (get_or words j e) = rise i j e (omega (arith, m)) (omega (arith, l, m)) in
        let same : key_of (get_or words j e) ≡ key_of (get_or words j d) = ap key_of (any_default words j e d (omega (arith, l, m))) in
        let over : key_of (get_or words j d) ≤ key_of w = rise j k d (omega (arith, m)) l in
        omega (arith, up, same, over, apart)

    inside : (i : ℕ) (e : WordRow) → k ≤ i → i < k + 1 → stands_at w.port w.address (get_or words i e) ≡ true
    inside i e m n =
        let here : k ≡ i = omega (arith, m, n) in
        subst (λ i. stands_at w.port w.address (get_or words i e) ≡ true) here
        (ap (stands_at w.port w.address) (any_default words k e d l) ∙ stands_at_own w)

    high : (e : WordRow) → k + 1 < length words → w.port * 2 ^ 64 + w.address < key_of (get_or words (k + 1) e)
    high e m =
        let apart = behind m in
        let up : key_of w ≤ key_of (get_or words (k + 1) d) = rise k (k + 1) d (omega arith) m in
        let same : key_of (get_or words (k + 1) d) ≡ key_of (get_or words (k + 1) e) = ap key_of (any_default words (k + 1) d e m) in
        omega (arith, up, same, apart)

-- what a slice says of the fields holds of the fields
pub fields_there : (fields : List FieldRow) (i j reg : ℕ) (slice : List FieldRow) → slice ≡ fields → IsStretch (λ f. eqb f.reg reg) slice i j → IsStretch (λ f. eqb f.reg reg) fields i j
fields_there fields i j reg slice e s = let P : List FieldRow → Type 0 = λ fields. IsStretch (λ f. eqb f.reg reg) fields i j in subst P e s

-- and of the words
pub words_there : (words : List WordRow) (i j p a : ℕ) (slice : List WordRow) → slice ≡ words → IsStretch (stands_at p a) slice i j → IsStretch (stands_at p a) words i j
words_there words i j p a slice e s = let P : List WordRow → Type 0 = λ words. IsStretch (stands_at p a) words i j in subst P e s

-- ---- the first word that doesn't stand before a key

pub first_low : (words : List WordRow) (j t : ℕ) (e : WordRow) → IsNonDecreasingBy key_of words → j < length words
    → ltb (key_of (get_or words j e)) t ≡ true → (k : ℕ) (d : WordRow) → k < j + 1 → key_of (get_or words k d) < t
first_low words j t e rise inside h k d l =
    let low : key_of (get_or words j e) < t = lt_from (key_of (get_or words j e)) t h in
    let up : key_of (get_or words k d) ≤ key_of (get_or words j d) = rise k j d (omega (arith, l)) inside in
    let same : key_of (get_or words j e) ≡ key_of (get_or words j d) = ap key_of (any_default words j e d inside) in
    omega (arith, low, up, same)

pub first_high : (words : List WordRow) (j t : ℕ) (e : WordRow) → IsNonDecreasingBy key_of words → j < length words
    → ltb (key_of (get_or words j e)) t ≡ false → (k : ℕ) (d : WordRow) → j ≤ k → k < length words → t ≤ key_of (get_or words k d)
first_high words j t e rise inside h k d l m =
    let high : t ≤ key_of (get_or words j e) = le_from (key_of (get_or words j e)) t h in
    let up : key_of (get_or words j d) ≤ key_of (get_or words k d) = rise j k d l m in
    let same : key_of (get_or words j e) ≡ key_of (get_or words j d) = ap key_of (any_default words j e d inside) in
    omega (arith, high, up, same)

-- Rows that ascend by address, and stand within an address as they were, are the rows put in by address.
use Rattle.std.proofs.Common.{◌≡◌, ℕ, suc, ◌+◌, ◌*◌, ◌^◌, ◌<◌, ◌≤◌, inl, inr, Bool, true, false, ◌==◌, cond, List, []}
use Rattle.std.proofs.Common.{◌∷◌, length, get_or, drop, nat_lt, refl, sym, ap, ◌∙◌, subst, arith, eq-eqb, eqb-true}
use Rattle.std.specs.Prelude.{filter}
use Rattle.std.specs.List.{AllByRecursion}
use Rattle.std.specs.List.Sorted.{IsStableByKey}
use Rattle.std.specs.Ordering.{nat_cmp}
use Rattle.std.proofs.lemmas.Bool.{cases_lt}
use Rattle.rl_bus.specs.declared.table.WordRow.{WordRow}
use Rattle.rl_map.specs.Layout.{key_of, IsAscending}
use Rattle.rl_map.specs.Maps.{row_into, by_address}
use Rattle.rl_map.proofs.Lists.{filter_none}
use Rattle.rl_map.proofs.Closing.{same_key}
use Rattle.rl_map.proofs.Bools.{ge_from, lt_from}

abbrev pub at_key : ℕ → WordRow → Bool
at_key key r = key_of r == key

abbrev pub Rising : List WordRow → Type 0
Rising [] = Unit {0}
Rising (r ∷ rows) = AllByRecursion (λ s. key_of r ≤ key_of s) rows × Rising rows

all_after : (r : WordRow) (rows : List WordRow) → ((k : ℕ) (d : WordRow) → k < length rows → key_of r ≤ key_of (get_or rows k d)) → AllByRecursion (λ s. key_of r ≤ key_of s) rows
all_after r [] h = tt
all_after r (s ∷ rows) h = (h 0 s (omega arith), all_after r rows (λ k d low. h (suc k) d (omega arith)))

rising : (rows : List WordRow) → IsAscending rows → Rising rows
rising [] up = tt
rising (r ∷ rows) up = (all_after r rows (λ k d low. up 0 (suc k) d (omega arith) (omega arith)), rising rows (λ i j d p q. up (suc i) (suc j) d (omega arith) (omega arith)))

-- ---- what is put in

all_into : (P : WordRow → Type 0) (r : WordRow) (rows : List WordRow) → P r → AllByRecursion P rows → AllByRecursion P (row_into r rows)
all_into P r [] p h = (p, tt)
all_into P r (s ∷ rows) p h = by (nat_lt (key_of s) (key_of r)) (all_into P r rows p h.1)
  where
    by : (t : Bool) → AllByRecursion P (row_into r rows) → AllByRecursion P (cond t (s ∷ row_into r rows) (r ∷ s ∷ rows))
    by true more = (h.0, more)
    by false more = (p, h)

all_more : (a b : ℕ) (rows : List WordRow) → a ≤ b → AllByRecursion (λ s. b ≤ key_of s) rows → AllByRecursion (λ s. a ≤ key_of s) rows
all_more a b [] low h = tt
all_more a b (s ∷ rows) low h = (omega (arith, low, h.0), all_more a b rows low h.1)

rising_into : (r : WordRow) (rows : List WordRow) → Rising rows → Rising (row_into r rows)
rising_into r [] h = (tt, tt)
rising_into r (s ∷ rows) h = by (nat_lt (key_of s) (key_of r)) refl (rising_into r rows h.1)
  where
    by : (t : Bool) → nat_lt (key_of s) (key_of r) ≡ t → Rising (row_into r rows) → Rising (cond t (s ∷ row_into r rows) (r ∷ s ∷ rows))
    by true e more = (all_into (λ x. key_of s ≤ key_of x) r rows (let q = lt_from (key_of s) (key_of r) e in omega arith) h.0, more)
    by false e more = let q = ge_from (key_of s) (key_of r) e in ((q, all_more (key_of r) (key_of s) rows q h.0), h)

pub rising_by : (rows : List WordRow) → Rising (by_address rows)
unfolding by_address
rising_by [] = tt
rising_by (r ∷ rows) = rising_into r (by_address rows) (rising_by rows)

filter_into : (key : ℕ) (r : WordRow) (rows : List WordRow) → filter (at_key key) (row_into r rows) ≡ filter (at_key key) (r ∷ rows)
filter_into key r [] = refl
filter_into key r (s ∷ rows) = by (nat_lt (key_of s) (key_of r)) refl (filter_into key r rows)
  where
    F : List WordRow
    F = filter (at_key key) rows

    swap : (a b : Bool) → (a ≡ true → b ≡ true → ⊥) → cond b (s ∷ cond a (r ∷ F) F) (cond a (r ∷ F) F) ≡ cond a (r ∷ cond b (s ∷ F) F) (cond b (s ∷ F) F)
    swap true true h = absurd (h refl refl)
    swap true false h = refl
    swap false true h = refl
    swap false false h = refl

    by : (t : Bool) → nat_lt (key_of s) (key_of r) ≡ t → filter (at_key key) (row_into r rows) ≡ filter (at_key key) (r ∷ rows)
        → filter (at_key key) (cond t (s ∷ row_into r rows) (r ∷ s ∷ rows)) ≡ filter (at_key key) (r ∷ s ∷ rows)
    by true e more =
        ap (λ ys. cond (at_key key s) (s ∷ ys) ys) more
        ∙ swap (at_key key r) (at_key key s) (λ p q. let low = lt_from (key_of s) (key_of r) e in absurd (omega (arith, eqb-true (key_of r) key p, eqb-true (key_of s) key q)))
    by false e more = refl

pub filter_by : (key : ℕ) (rows : List WordRow) → filter (at_key key) (by_address rows) ≡ filter (at_key key) rows
unfolding by_address
filter_by key [] = refl
filter_by key (r ∷ rows) = filter_into key r (by_address rows) ∙ ap (λ ys. cond (at_key key r) (r ∷ ys) ys) (filter_by key rows)

-- ---- two lists that rise and have the same rows of each key

here_is : (key : ℕ) (r : WordRow) (rows : List WordRow) → key_of r ≡ key → filter (at_key key) (r ∷ rows) ≡ r ∷ filter (at_key key) rows
here_is key r rows e = ap (λ t. cond t (r ∷ filter (at_key key) rows) (filter (at_key key) rows)) (eq-eqb (key_of r) key e)

not_at : (key : ℕ) (b : ℕ) (rows : List WordRow) → key < b → AllByRecursion (λ s. b ≤ key_of s) rows → AllByRecursion (λ s. at_key key s ≡ false) rows
not_at key b [] low h = tt
not_at key b (s ∷ rows) low h = (other (key_of s == key) refl, not_at key b rows low h.1)
  where
    other : (t : Bool) → (key_of s == key) ≡ t → t ≡ false
    other true e = absurd (omega (arith, eqb-true (key_of s) key e, low, h.0))
    other false e = refl

none_at : (key : ℕ) (r : WordRow) (rows : List WordRow) → key < key_of r → AllByRecursion (λ s. key_of r ≤ key_of s) rows → filter (at_key key) (r ∷ rows) ≡ []
none_at key r rows low h = filter_none (at_key key) (r ∷ rows) (not_at key (key_of r) (r ∷ rows) low (omega arith, h))

head_same : (a b : WordRow) (xs ys : List WordRow) → a ∷ xs ≡ b ∷ ys → a ≡ b
head_same a b xs ys e = ap (λ l. get_or l 0 a) e

tail_same : (a b : WordRow) (xs ys : List WordRow) → a ∷ xs ≡ b ∷ ys → xs ≡ ys
tail_same a b xs ys e = ap (λ l. drop 1 l) e

not_nil : (a : WordRow) (xs : List WordRow) → a ∷ xs ≡ [] → ⊥
not_nil a xs e = cc

same_rows : (xs ys : List WordRow) → Rising xs → Rising ys → ((key : ℕ) → filter (at_key key) xs ≡ filter (at_key key) ys) → xs ≡ ys
same_rows [] [] up vp h = refl
same_rows [] (b ∷ ys) up vp h = absurd (not_nil b _ (sym (h (key_of b) ∙ here_is (key_of b) b ys refl)))
same_rows (a ∷ xs) [] up vp h = absurd (not_nil a _ (sym (here_is (key_of a) a xs refl) ∙ h (key_of a)))
same_rows (a ∷ xs) (b ∷ ys) up vp h =
    let key : key_of a ≡ key_of b = elim (cases_lt (key_of a) (key_of b)) [
      | inl p ↦ absurd (not_nil a _ (sym (here_is (key_of a) a xs refl) ∙ h (key_of a) ∙ none_at (key_of a) b ys p vp.0))
      | inr p ↦ elim (cases_lt (key_of b) (key_of a)) [
        | inl q ↦ absurd (not_nil b _ (sym (here_is (key_of b) b ys refl) ∙ sym (h (key_of b)) ∙ none_at (key_of b) a xs q up.0))
        | inr q ↦ omega arith
      ]
    ] in
    let heads = sym (here_is (key_of a) a xs refl) ∙ h (key_of a) ∙ here_is (key_of a) b ys (sym key) in
    let first : a ≡ b = head_same a b _ _ heads in
    ap (λ x. x ∷ xs) first ∙ ap (λ zs. b ∷ zs) (same_rows xs ys up.1 vp.1 (λ k. rest k (key_of a == k) refl key heads h))
  where
    rest : (k : ℕ) (t : Bool) → (key_of a == k) ≡ t → key_of a ≡ key_of b → a ∷ filter (at_key (key_of a)) xs ≡ b ∷ filter (at_key (key_of a)) ys
        → ((key : ℕ) → filter (at_key key) (a ∷ xs) ≡ filter (at_key key) (b ∷ ys)) → filter (at_key k) xs ≡ filter (at_key k) ys
    rest k true e key heads h =
        subst (λ n. filter (at_key n) xs ≡ filter (at_key n) ys) (eqb-true (key_of a) k e) (tail_same a b _ _ heads)
    rest k false e key heads h =
        let g : (key_of b == k) ≡ false = ap (λ n. n == k) (sym key) ∙ e in
        sym (ap (λ t. cond t (a ∷ filter (at_key k) xs) (filter (at_key k) xs)) e) ∙ h k ∙ ap (λ t. cond t (b ∷ filter (at_key k) ys) (filter (at_key k) ys)) g

pub sorted_is : (first rows : List WordRow) → IsAscending rows → IsStableByKey key_of nat_cmp first rows → rows ≡ by_address first
sorted_is first rows up stable =
    same_rows rows (by_address first) (rising rows up) (rising_by first)
    (λ key. subst (λ n. filter (at_key n) rows ≡ filter (at_key n) first) (let e : 0 * 2 ^ 64 + key ≡ key = omega arith in e) (same_key first rows 0 key stable)
    ∙ sym (filter_by key first))

-- The least clash over some rows.
use Rattle.std.proofs.Common.{◌≡◌, ℕ, zero, suc, ◌+◌, ◌-◌, ◌<◌, ◌≤◌, ◌⊎◌, inl, inr, Bool, true, false, ◌==◌, ◌&&◌, ◌||◌, cond, nat_lt}
use Rattle.std.proofs.Common.{List, [], ◌∷◌, length, get_or, take, drop, Option, Some, None, refl, sym, ap, ◌∙◌, subst, arith}
use Rattle.std.specs.Prelude.{fold}
use Rattle.std.proofs.lemmas.Bool.{cases_lt}
use Rattle.std.proofs.lemmas.Bool.Decides.{nat_tests}
use Rattle.rl_bus.specs.declared.table.WordRow.{WordRow}
use Rattle.rl_map.specs.declared.rows.PlaceRow.{PlaceRow}
use Rattle.rl_map.specs.declared.shared.Shared.{Shared}
use Rattle.rl_map.specs.Layout.{key_of}
use Rattle.rl_map.specs.Building.{rows_clash}
use Rattle.rl_map.specs.Clashes.{shared_by, is_before, earlier, with_pair, IsFirst, NotAfter, IsMade, IsLeast}
use Rattle.rl_map.proofs.Lookups.{default_any}
use Rattle.rl_map.proofs.Scanning.{Scan, get_slice}

-- ---- the order

first_trans : (a b c : Shared) → IsFirst a b → IsFirst b c → IsFirst a c
first_trans a b c p q = record {
  place = omega (arith, p.place, q.place);
  address = λ e. let x : a.place ≡ b.place = omega (arith, p.place, q.place, e) in let y : b.place ≡ c.place = omega (arith, x, e) in
      omega (arith, p.address x, q.address y);
  other = λ e f. let x : a.place ≡ b.place = omega (arith, p.place, q.place, e) in let y : b.place ≡ c.place = omega (arith, x, e) in
      let u : a.address ≡ b.address = omega (arith, p.address x, q.address y, f) in let v : b.address ≡ c.address = omega (arith, u, f) in
      omega (arith, p.other x u, q.other y v);
}

pub first_self : (a : Shared) → IsFirst a a
first_self a = record { place = omega arith; address = λ e. omega arith; other = λ e f. omega arith }

-- the tests of three pairs of numbers
order_true : (p q a b o r : ℕ) → (nat_lt p q || (p == q && (nat_lt a b || (a == b && nat_lt o r)))) ≡ true
    → (p ≤ q) × (p ≡ q → a ≤ b) × (p ≡ q → a ≡ b → o ≤ r)
order_true p q a b o r e = (grind (arith, nat_tests), λ f. grind (arith, nat_tests), λ f g. grind (arith, nat_tests))

order_false : (p q a b o r : ℕ) → (nat_lt p q || (p == q && (nat_lt a b || (a == b && nat_lt o r)))) ≡ false
    → (q ≤ p) × (q ≡ p → b ≤ a) × (q ≡ p → b ≡ a → r ≤ o)
order_false p q a b o r e = (grind (arith, nat_tests), λ f. grind (arith, nat_tests), λ f g. grind (arith, nat_tests))

before_true : (a b : Shared) → is_before a b ≡ true → IsFirst a b
before_true a b e = let h = order_true a.place b.place a.address b.address a.other b.other e in record { place = h.0; address = h.1; other = h.2 }

before_false : (a b : Shared) → is_before a b ≡ false → IsFirst b a
before_false a b e = let h = order_false a.place b.place a.address b.address a.other b.other e in record { place = h.0; address = h.1; other = h.2 }

-- the earlier of two comes before both
earlier_keeps : (best : Option Shared) (found s : Shared) → NotAfter best s → IsFirst (earlier best found) s
earlier_keeps None found s h = absurd h
earlier_keeps (Some best) found s h = by (is_before found best) refl
  where
    by : (t : Bool) → is_before found best ≡ t → IsFirst (cond t found best) s
    by true e = first_trans found best s (before_true found best e) h
    by false e = h

earlier_found : (best : Option Shared) (found : Shared) → IsFirst (earlier best found) found
earlier_found None found = first_self found
earlier_found (Some best) found = by (is_before found best) refl
  where
    by : (t : Bool) → is_before found best ≡ t → IsFirst (cond t found best) found
    by true e = first_self found
    by false e = before_false found best e

-- ---- one pair

pair_keeps : (places : List PlaceRow) (row : WordRow) (best : Option Shared) (other : WordRow) (s : Shared) → NotAfter best s → NotAfter (with_pair places row best other) s
pair_keeps places row best other s h = by (rows_clash places other row)
  where
    by : (t : Bool) → NotAfter (cond t (Some (earlier best (shared_by other row))) best) s
    by true = earlier_keeps best (shared_by other row) s h
    by false = h

pair_least : (places : List PlaceRow) (row : WordRow) (best : Option Shared) (other : WordRow) → rows_clash places other row ≡ true
    → NotAfter (with_pair places row best other) (shared_by other row)
pair_least places row best other e =
    subst (λ t. NotAfter (cond t (Some (earlier best (shared_by other row))) best) (shared_by other row)) (sym e) (earlier_found best (shared_by other row))

-- what was best, or the pair's clash
pair_made : (places : List PlaceRow) (row : WordRow) (best : Option Shared) (other : WordRow) (s : Shared) → with_pair places row best other ≡ Some s
    → (best ≡ Some s) ⊎ ((rows_clash places other row ≡ true) × (s ≡ shared_by other row))
pair_made places row best other s e = by (rows_clash places other row) refl best e
  where
    pick : (found best : Shared) (t : Bool) → Some (cond t found best) ≡ Some s → (Some best ≡ Some s) ⊎ (s ≡ found)
    pick found best true e = inr (let h : found ≡ s = cc in sym h)
    pick found best false e = inl e

    by : (t : Bool) → rows_clash places other row ≡ t → (best : Option Shared) → cond t (Some (earlier best (shared_by other row))) best ≡ Some s
        → (best ≡ Some s) ⊎ ((rows_clash places other row ≡ true) × (s ≡ shared_by other row))
    by false q best e = inl e
    by true q None e = inr (q, let h : shared_by other row ≡ s = cc in sym h)
    by true q (Some best) e = elim (pick (shared_by other row) best (is_before (shared_by other row) best) e) [ inl h ↦ inl h | inr h ↦ inr (q, h) ]

-- ---- one row with others

pub row_keeps : (places : List PlaceRow) (row : WordRow) (rows : List WordRow) (best : Option Shared) (s : Shared) → NotAfter best s → NotAfter (fold (with_pair places row) best rows) s
row_keeps places row [] best s h = h
row_keeps places row (x ∷ rows) best s h = row_keeps places row rows (with_pair places row best x) s (pair_keeps places row best x s h)

pub row_least : (places : List PlaceRow) (row : WordRow) (rows : List WordRow) (best : Option Shared) (i : ℕ) (d : WordRow) → i < length rows → rows_clash places (get_or rows i d) row ≡ true
    → NotAfter (fold (with_pair places row) best rows) (shared_by (get_or rows i d) row)
row_least places row [] best i d low e = absurd (omega arith)
row_least places row (x ∷ rows) best zero d low e = row_keeps places row rows (with_pair places row best x) (shared_by x row) (pair_least places row best x e)
row_least places row (x ∷ rows) best (suc i) d low e = row_least places row rows (with_pair places row best x) i d (omega arith) e

pub record MadeWith (places : List PlaceRow) (row : WordRow) (rows : List WordRow) (s : Shared) : Type 0 where
  pub index : ℕ
  pub inside : index < length rows
  pub clash : (d : WordRow) → rows_clash places (get_or rows index d) row ≡ true
  pub is : (d : WordRow) → s ≡ shared_by (get_or rows index d) row

pub row_made : (places : List PlaceRow) (row : WordRow) (rows : List WordRow) (best : Option Shared) (s : Shared) → fold (with_pair places row) best rows ≡ Some s
    → (best ≡ Some s) ⊎ MadeWith places row rows s
row_made places row [] best s e = inl e
row_made places row (x ∷ rows) best s e = elim (row_made places row rows (with_pair places row best x) s e) [
  | inl h ↦ elim (pair_made places row best x s h) [
    | inl g ↦ inl g
    | inr g ↦ inr (record { index = 0; inside = omega arith; clash = λ d. g.0; is = λ d. g.1 })
  ]
  | inr h ↦ inr (record { index = suc h.index; inside = omega (arith, h.inside); clash = h.clash; is = h.is })
]

-- ---- the scan

-- the least of the clashes of the first k rows
pub record Seen (places : List PlaceRow) (rows : List WordRow) (k : ℕ) (best : Option Shared) : Type 0 where
  pub least : (i j : ℕ) (d : WordRow) → i < j → j < k → key_of (get_or rows i d) ≡ key_of (get_or rows j d)
      → rows_clash places (get_or rows i d) (get_or rows j d) ≡ true → NotAfter best (shared_by (get_or rows i d) (get_or rows j d))
  pub made : (s : Shared) → best ≡ Some s → IsMade places rows s

pub seen_none : (places : List PlaceRow) (rows : List WordRow) → Seen places rows 0 None
seen_none places rows = record { least = λ i j d less low key clash. absurd (omega arith); made = λ s e. absurd cc }

pub seen_more : (places : List PlaceRow) (rows : List WordRow) (next k : ℕ) (e : WordRow) (best : Option Shared) → Scan rows next (k + 1) → next ≤ k → k < length rows
    → length (take (k - next) (drop next rows)) ≡ k - next → Seen places rows k best
    → Seen places rows (k + 1) (fold (with_pair places (get_or rows k e)) best (take (k - next) (drop next rows)))
seen_more places rows next k e best h in_k low long was =
    let part = take (k - next) (drop next rows) in
    let row = get_or rows k e in
    let row_is : (d : WordRow) → row ≡ get_or rows k d = λ d. default_any rows k e d low in
    let at : (i : ℕ) (d : WordRow) → next ≤ i → i < k → get_or part (i - next) d ≡ get_or rows i d =
    λ i d p q. get_slice rows next (k - next) (i - next) d (omega arith) ∙ ap (λ n. get_or rows n d) (let f : next + (i - next) ≡ i = omega arith in f) in
    record {
      least = λ i j d less in_j key clash. elim (cases_lt j k) [
        | inl p ↦ row_keeps places row part best (shared_by (get_or rows i d) (get_or rows j d)) (was.least i j d less p key clash)
        | inr p ↦ let last : j ≡ k = omega arith in
            new i d (omega arith) (key ∙ ap (λ n. key_of (get_or rows n d)) last) (subst (λ n. rows_clash places (get_or rows i d) (get_or rows n d) ≡ true) last clash) j last
      ];
      made = λ s f. elim (row_made places row part best s f) [
        | inl g ↦ was.made s g
        | inr g ↦ let first : next + g.index < k = omega (arith, g.inside, long) in
            let there : (d : WordRow) → get_or part g.index d ≡ get_or rows (next + g.index) d = λ d. get_slice rows next (k - next) g.index d (omega (arith, g.inside, long)) in
            record {
              first = next + g.index;
              second = k;
              less = first;
              second_in = low;
              key = λ d. h.same (next + g.index) d (omega arith) (omega arith) ∙ sym (h.same k d in_k (omega arith));
              clash = λ d. subst (λ x. rows_clash places x (get_or rows k d) ≡ true) (there d) (subst (λ x. rows_clash places (get_or part g.index d) x ≡ true) (row_is d) (g.clash d));
              is = λ d. g.is d ∙ ap (λ x. shared_by x row) (there d) ∙ ap (shared_by (get_or rows (next + g.index) d)) (row_is d);
            }
      ];
    }
  where
    part : List WordRow
    part = take (k - next) (drop next rows)

    new : (i : ℕ) (d : WordRow) → i < k → key_of (get_or rows i d) ≡ key_of (get_or rows k d) → rows_clash places (get_or rows i d) (get_or rows k d) ≡ true → (j : ℕ) → j ≡ k
        → NotAfter (fold (with_pair places (get_or rows k e)) best part) (shared_by (get_or rows i d) (get_or rows j d))
    new i d less key clash j last = elim (cases_lt i next) [
      | inl p ↦ let a = h.before i d p in let b = h.same k d in_k (omega arith) in absurd (omega (arith, a, b, key))
      | inr p ↦
          let there : get_or part (i - next) d ≡ get_or rows i d =
          get_slice rows next (k - next) (i - next) d (omega arith) ∙ ap (λ n. get_or rows n d) (let f : next + (i - next) ≡ i = omega arith in f) in
          let row_is : get_or rows k d ≡ get_or rows k e = default_any rows k d e low in
          subst (λ n. NotAfter (fold (with_pair places (get_or rows k e)) best part) (shared_by (get_or rows i d) (get_or rows n d))) (sym last)
          (subst (λ x. NotAfter (fold (with_pair places (get_or rows k e)) best part) (shared_by (get_or rows i d) x)) (sym row_is)
          (subst (λ x. NotAfter (fold (with_pair places (get_or rows k e)) best part) (shared_by x (get_or rows k e))) there
          (row_least places (get_or rows k e) part best (i - next) d (omega (arith, long))
          (subst (λ x. rows_clash places x (get_or rows k e) ≡ true) (sym there) (subst (λ x. rows_clash places (get_or rows i d) x ≡ true) row_is clash)))))
    ]

-- where nothing is least no rows clash
pub none_least : (places : List PlaceRow) (rows : List WordRow) (best : Option Shared) → IsLeast places rows best → best ≡ None
    → (i k : ℕ) (d : WordRow) → i < k → k < length rows → key_of (get_or rows i d) ≡ key_of (get_or rows k d) → rows_clash places (get_or rows i d) (get_or rows k d) ≡ false
none_least places rows best least e i k d less low key = by (rows_clash places (get_or rows i d) (get_or rows k d)) refl
  where
    by : (t : Bool) → rows_clash places (get_or rows i d) (get_or rows k d) ≡ t → t ≡ false
    by true h = absurd (subst (λ b. NotAfter b (shared_by (get_or rows i d) (get_or rows k d))) e (least i k d less low key h))
    by false h = refl

-- Rows of one address, as a scan over ascending rows meets them.
use Rattle.std.proofs.Common.{◌≡◌, ◌≢◌, ℕ, zero, suc, ◌+◌, ◌-◌, ◌<◌, ◌≤◌, ◌⊎◌, inl, inr, Bool, true, false, ◌==◌, List}
use Rattle.std.proofs.Common.{[], ◌∷◌, length, get_or, take, drop, refl, sym, ap, ◌∙◌, subst, arith, eqb-true, eq-eqb}
use Rattle.std.proofs.lemmas.Bool.{cases_lt}
use Rattle.std.proofs.lemmas.List.{get_or-take, length-take-le}
use Rattle.rl_bus.specs.declared.table.WordRow.{WordRow}
use Rattle.rl_map.specs.Layout.{key_of, IsAscending}
use Rattle.rl_map.proofs.Lookups.{default_any}

-- the rows from `start` to `k` are those of one address, and those before are of smaller ones
pub record Scan (rows : List WordRow) (start k : ℕ) : Type 0 where
  pub start_in : start ≤ k
  pub same : (i : ℕ) (d : WordRow) → start ≤ i → i < k → key_of (get_or rows i d) ≡ key_of (get_or rows start d)
  pub before : (i : ℕ) (d : WordRow) → i < start → key_of (get_or rows i d) < key_of (get_or rows start d)

cases_eq : (a b : ℕ) → (a ≡ b) ⊎ ((a == b) ≡ false)
cases_eq a b = by (a == b) refl
  where
    by : (t : Bool) → (a == b) ≡ t → (a ≡ b) ⊎ ((a == b) ≡ false)
    by true e = inl (eqb-true a b e)
    by false e = inr e

differ_from : (a b : ℕ) → (a == b) ≡ false → a ≢ b
differ_from a b e f = absurd (let g = eq-eqb a b f in cc)

-- with row k as well
pub scan_more : (rows : List WordRow) (start k next : ℕ) (e : WordRow) → IsAscending rows → k < length rows → Scan rows start k
    → ((d : WordRow) → key_of (get_or rows start d) ≡ key_of (get_or rows k d) → next ≡ start)
    → ((d : WordRow) → (key_of (get_or rows start d) == key_of (get_or rows k d)) ≡ false → next ≡ k)
    → Scan rows next (k + 1) × (next ≤ k)
scan_more rows start k next e up low h stays goes =
    elim (cases_eq (key_of (get_or rows start e)) (key_of (get_or rows k e))) [
      | inl same ↦ let s = stays e same in
          let at : (d : WordRow) → key_of (get_or rows start d) ≡ key_of (get_or rows k d) =
          λ d. ap key_of (default_any rows start d e (omega (arith, h.start_in))) ∙ same ∙ ap key_of (default_any rows k e d low) in (
            subst (λ x. Scan rows x (k + 1)) (sym s) (record {
              start_in = omega (arith, h.start_in);
              same = λ i d p q. elim (cases_lt i k) [ inl r ↦ h.same i d p r | inr r ↦ let x : i ≡ k = omega arith in ap (λ n. key_of (get_or rows n d)) x ∙ sym (at d) ];
              before = h.before;
            }),
            omega (arith, s, h.start_in),
          )
      | inr other ↦ let s = goes e other in (
        subst (λ x. Scan rows x (k + 1)) (sym s) (record {
          start_in = omega arith;
          same = λ i d p q. let x : i ≡ k = omega arith in ap (λ n. key_of (get_or rows n d)) x;
          before = λ i d p. below rows start k e i d up low h (differ_from _ _ other) p;
        }),
        omega (arith, s),
      )
    ]
  where
    below : (rows : List WordRow) (start k : ℕ) (e : WordRow) (i : ℕ) (d : WordRow) → IsAscending rows → k < length rows → Scan rows start k
        → key_of (get_or rows start e) ≢ key_of (get_or rows k e) → i < k → key_of (get_or rows i d) < key_of (get_or rows k d)
    below rows start k e i d up low h other p =
        let le = up i k d (omega arith) low in
        let to_e : (n : ℕ) → n < length rows → key_of (get_or rows n d) ≡ key_of (get_or rows n e) = λ n q. ap key_of (default_any rows n d e q) in
        elim (cases_lt i start) [
          | inl q ↦ let less = h.before i d q in let rise = up start k d h.start_in low in omega (arith, less, rise)
          | inr q ↦ strict (key_of (get_or rows i d)) (key_of (get_or rows k d)) le
              (λ f. other (sym (to_e start (omega (arith, h.start_in, low))) ∙ sym (h.same i d q p) ∙ f ∙ to_e k low))
        ]
      where
        strict : (a b : ℕ) → a ≤ b → (a ≡ b → ⊥) → a < b
        strict a b le f = elim (cases_lt a b) [ inl q ↦ q | inr q ↦ absurd (f (omega arith)) ]

pub get_slice : {X : Type 0} (xs : List X) (s n m : ℕ) (d : X) → m < n → get_or (take n (drop s xs)) m d ≡ get_or xs (s + m) d
get_slice xs zero n m d low = get_or-take n xs m d low ∙ ap (λ k. get_or xs k d) (let e : m ≡ 0 + m = omega arith in e)
get_slice [] (suc s) n m d low = get_or-take n [] m d low ∙ nothing m (suc s + m) d
  where
    nothing : {X : Type 0} (a b : ℕ) (d : X) → get_or [] a d ≡ get_or [] b d
    nothing a b d = refl
get_slice (x ∷ xs) (suc s) n m d low = get_slice xs s n m d low ∙ (let e : suc s + m ≡ suc (s + m) = omega arith in rw e refl)

pub slice_length : {X : Type 0} (xs : List X) (s k : ℕ) → s ≤ k → k ≤ length xs → length (take (k - s) (drop s xs)) ≡ k - s
slice_length xs s k low high = length-take-le (k - s) (drop s xs) (let n = dropped xs s in omega arith)
  where
    dropped : {X : Type 0} (xs : List X) (s : ℕ) → length xs ≤ s + length (drop s xs)
    dropped [] s = omega arith
    dropped (x ∷ xs) zero = omega arith
    dropped (x ∷ xs) (suc s) = let h = dropped xs s in omega arith

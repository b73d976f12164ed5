-- Rows by port and address.
use Rattle.std.proofs.Common.{◌≡◌, ℕ, suc, ◌+◌, ◌*◌, ◌^◌, ◌<◌, ◌≤◌, ◌-◌, ◌⊎◌, inl, inr, Bool, true, false, ◌==◌, List, []}
use Rattle.std.proofs.Common.{◌∷◌, ◌++◌, length, get_or, subst, take, drop, not, refl, sym, ap, ◌∙◌, arith, eq-eqb, eqb-true}
use Rattle.std.specs.Prelude.{filter, All}
use Rattle.std.specs.List.{AllByRecursion, AllWithin, position_or_len}
use Rattle.std.proofs.lemmas.Bool.{cases_lt, cases_Bool}
use Rattle.std.proofs.lemmas.Bool.Decides.{nat_tests}
use Rattle.std.proofs.lemmas.List.{take-append-drop, get_or-drop, length-drop}
use Rattle.std.proofs.lemmas.List.Elements.{filter-append, recursion_from_All}
use Rattle.std.proofs.lemmas.Nat.{same_from_place}
use Rattle.rl_bus.specs.declared.table.WordRow.{WordRow}
use Rattle.rl_bus.specs.declared.table.Cell.TheVariants as cell
use Rattle.rl_bus.specs.Setup.{stands_at}
use Rattle.rl_map.specs.Layout.{key_of, IsAscending}
use Rattle.rl_map.proofs.Lists.{filter_none, filter_same, all_below, all_from}
use Rattle.rl_map.proofs.Lookups.{default_any}
use Rattle.rl_map.proofs.Bools.{and_true, both}

-- ---- a key tells port and address

tested : (a b : Bool) → (a ≡ true → b ≡ true) → (b ≡ true → a ≡ true) → a ≡ b
tested true true f g = refl
tested true false f g = let h = f refl in cc
tested false true f g = let h = g refl in cc
tested false false f g = refl

pub key_tells : (r : WordRow) (port address : ℕ) → r.address < 2 ^ 64 → address < 2 ^ 64 → stands_at port address r ≡ (key_of r == port * 2 ^ 64 + address)
key_tells r port address low_r low =
    tested (stands_at port address r) (key_of r == port * 2 ^ 64 + address)
    (λ e. let h = and_true (r.port == port) (r.address == address) e in
    eq-eqb _ _ (ap (λ p. p * 2 ^ 64 + r.address) (eqb-true r.port port h.0) ∙ ap (λ a. port * 2 ^ 64 + a) (eqb-true r.address address h.1)))
    (λ e. let s = same_from_place r.port r.address port address (2 ^ 64) low_r low (eqb-true _ _ e) in
    both (r.port == port) (r.address == address) (eq-eqb _ _ s.0) (eq-eqb _ _ s.1))

stands_all : (rows : List WordRow) (port address : ℕ) → address < 2 ^ 64 → AllByRecursion (λ r. r.address < 2 ^ 64) rows
    → AllByRecursion (λ r. stands_at port address r ≡ (key_of r == port * 2 ^ 64 + address)) rows
stands_all [] port address low h = tt
stands_all (r ∷ rows) port address low h = (key_tells r port address h.0 low, stands_all rows port address low h.1)

pub standing_by_key : (rows : List WordRow) (port address : ℕ) → address < 2 ^ 64 → All (λ r. r.address < 2 ^ 64) rows
    → filter (stands_at port address) rows ≡ filter (λ r. key_of r == port * 2 ^ 64 + address) rows
standing_by_key rows port address low h =
    filter_same (stands_at port address) (λ r. key_of r == port * 2 ^ 64 + address) rows
    (stands_all rows port address low (recursion_from_All (λ r. r.address < 2 ^ 64) rows h))

-- a row to stand past the end of a list
pub some_row : WordRow
some_row = record { port = 0; address = 0; reads = false; writes = false; cell = cell.Reg 0; place = 0; lanes = record { enabled = 0; bytes = [] } }

-- ---- the rows of a key, which follow the first that isn't below it

lt_false : (a b : ℕ) → a < b → (a == b) ≡ false
lt_false a b h = grind (arith, nat_tests)

gt_false : (a b : ℕ) → b < a → (a == b) ≡ false
gt_false a b h = grind (arith, nat_tests)

over_from : (a b : ℕ) → b ≤ a → (a == b) ≡ false → b < a
over_from a b h e = grind (arith, nat_tests)

-- where no key is below it
in_front : (rows : List WordRow) (key : ℕ) → IsAscending rows → AllByRecursion (λ r. key ≤ key_of r) rows
    → filter (λ r. key_of r == key) rows ≡ take (position_or_len (λ r. not (key_of r == key)) rows) rows
in_front [] key rise low = refl
in_front (r ∷ rs) key rise low =
    elim (cases_Bool (key_of r == key)) [
      | inl holds ↦ rw (holds, one) (ap (λ xs. r ∷ xs) (in_front rs key (λ i j d p q. rise (suc i) (suc j) d (omega arith) (omega arith)) low.1))
      | inr fails ↦
          let over : key < key_of r = over_from (key_of r) key low.0 fails in
          rw fails (filter_none (λ x. key_of x == key) rs (all_from (λ x. (key_of x == key) ≡ false) rs 0
          (λ k d p q. let up = rise 0 (suc k) d (omega arith) (omega arith) in gt_false _ key (omega arith))))
    ]
  where
    one : (n : ℕ) → 1 + n ≡ suc n
    one n = omega arith

pub group_is : (rows : List WordRow) (key start : ℕ) → IsAscending rows → AllWithin (λ r. key_of r < key) rows 0 start → AllWithin (λ r. key ≤ key_of r) rows start (length rows)
    → start ≤ length rows → filter (λ r. key_of r == key) rows ≡ take (position_or_len (λ r. not (key_of r == key)) (drop start rows)) (drop start rows)
group_is rows key start rise before from low =
    let t : WordRow → Bool = λ r. key_of r == key in
    let early : filter t (take start rows) ≡ [] =
    filter_none t (take start rows) (all_below (λ r. t r ≡ false) rows start (λ k d q r. lt_false _ _ (before k d q r)) low) in
    ap (filter t) (sym (take-append-drop start rows)) ∙ filter-append t (take start rows) (drop start rows)
    ∙ ap (λ xs. xs ++ filter t (drop start rows)) early
    ∙ in_front (drop start rows) key
    (λ i j d p q.
    subst (λ k. key_of (get_or (drop start rows) i d) ≤ key_of k) (sym (get_or-drop start rows j d))
    (subst (λ k. key_of k ≤ key_of (get_or rows (start + j) d)) (sym (get_or-drop start rows i d))
    (rise (start + i) (start + j) d (omega arith) (omega (arith, length-drop start rows)))))
    (all_from (λ r. key ≤ key_of r) rows start from)

-- ---- rows that stand in order already

abbrev pub AscendBelow : List WordRow → ℕ → Type 0
AscendBelow rows k = (i j : ℕ) (d : WordRow) → i ≤ j → j < k → key_of (get_or rows i d) ≤ key_of (get_or rows j d)

pub ascend_more : (rows : List WordRow) (k low high : ℕ) (x y : WordRow) → 1 ≤ k → k < length rows → AscendBelow rows k
    → high ≡ key_of (get_or rows k x) → low ≡ key_of (get_or rows (k - 1) y) → low ≤ high → AscendBelow rows (k + 1)
ascend_more rows k low high x y some in_k was a b less i j d le lt = at (cases_lt j k) (cases_lt i k)
  where
    at : (j < k) ⊎ (k ≤ j) → (i < k) ⊎ (k ≤ i) → key_of (get_or rows i d) ≤ key_of (get_or rows j d)
    at (inl h) g = was i j d le h
    at (inr h) (inl g) =
        let here : j ≡ k = omega arith in
        let before = was i (k - 1) d (omega arith) (omega arith) in
        let high_is = a ∙ ap key_of (default_any rows k x d in_k) in
        let low_is = b ∙ ap key_of (default_any rows (k - 1) y d (omega arith)) in
        subst (λ n. key_of (get_or rows i d) ≤ key_of (get_or rows n d)) (sym here) (omega (arith, before, high_is, low_is))
    at (inr h) (inr g) =
        let same : i ≡ j = omega arith in
        subst (λ n. key_of (get_or rows i d) ≤ key_of (get_or rows n d)) same (omega arith)

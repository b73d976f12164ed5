-- A command on an item, its words cut from the left: the same as where they are counted first.
use Rattle.std.proofs.Common.{◌≡◌, ℕ, zero, suc, ◌+◌, ◌≤◌, Bool, true, false, List, [], ◌∷◌, length, Option, Result, Ok, Err, refl, arith, inl, inr, ne_eqb}
use Rattle.std.specs.Prelude.{nat_le, ◌==◌, if◌then◌else◌}
use Rattle.std.proofs.lemmas.Bool.{cases_Bool}
use Rattle.rl_policy.specs.Numbers.{number_of}
use Rattle.rl_script.specs.declared.fault.LineFault.{LineFault}
use Rattle.rl_script.specs.declared.fault.LineFault.TheVariants.{WrongCount, CountOutOfRange}
use Rattle.rl_script.specs.declared.line.Line.{Line}
use Rattle.rl_script.specs.declared.command.Item.{Item}
use Rattle.rl_script.specs.Words.{begins_with, ends_with_map}
use Rattle.rl_script.specs.Commands.{row_of, line_of, may_count}
use Rattle.rl_script.specs.Reading.{◌>>=◌, word_at, path_of, path_at, number_at, number_if, fitting, map_if, item_at, item_of, has_map, one_if}
use Rattle.rl_script.specs.Cut.{word_or, map_word, value_if, map_of, operands_of}
use Rattle.rl_script.proofs.RowLemmas.{few_numbers}

abbrev Words : Type 0
Words = List (List ℕ)

abbrev ending : Item → List ℕ → ℕ → ℕ → Option (List ℕ) → Result Line LineFault
ending item p a b m = if may_count item b then Ok (line_of item p a b m) else Err CountOutOfRange

-- the words are cut from the left, and none is read before all are counted
unfoldable pub item_cut : Item → List (List ℕ) → Result Line LineFault
item_cut item ws = do
  path ← word_at ws
  first ← word_or (nat_le 1 (row_of item).numbers) path.0 path.1
  second ← word_or (nat_le 2 (row_of item).numbers) first.0 first.1
  m ← map_word (row_of item).map second.0 second.1
  operands_of item path.0 first.0 second.0 m.0 m.1

-- ---- both ways, by the row

abbrev at_row : ℕ → Item → Bool → Words → Result Line LineFault
at_row n item named ws = do
  path ← path_at ws
  first ← number_if (nat_le 1 n) path.1
  second ← number_if (nat_le 2 n) first.1
  m ← map_if named second.1
  ending item path.0 first.0 second.0 m

abbrev by_row : ℕ → Bool → Item → Words → Result Line LineFault
by_row n takes item ws = if length ws == 1 + n + one_if (has_map takes ws) then at_row n item (has_map takes ws) ws else Err WrongCount

abbrev operands_row : ℕ → Item → List ℕ → List ℕ → List ℕ → Bool → List ℕ → Result Line LineFault
operands_row n item p a b named w = do
  path ← path_of p
  first ← value_if (nat_le 1 n) a
  second ← value_if (nat_le 2 n) b
  m ← map_of named w
  ending item path first second m

abbrev cut_row : ℕ → Bool → Item → Words → Result Line LineFault
cut_row n takes item ws = do
  path ← word_at ws
  first ← word_or (nat_le 1 n) path.0 path.1
  second ← word_or (nat_le 2 n) first.0 first.1
  m ← map_word takes second.0 second.1
  operands_row n item path.0 first.0 second.0 m.0 m.1

-- ---- the operands, each with the words behind it

abbrev followed : {A : Type 0} → Words → A → Result (A × Words) LineFault
followed ws x = Ok (x, ws)

none : (item : Item) (named : Bool) (ws : Words) (r : Result (List ℕ) LineFault)
    → ((r >>= λ p. followed ws p) >>= λ path. number_if false path.1 >>= λ first. number_if false first.1 >>= λ second. map_if named second.1 >>= λ m. ending item path.0 first.0 second.0 m)
    ≡ (r >>= λ p. map_if named ws >>= λ m. ending item p 0 0 m)
unfolding number_if
none item named ws (Ok p) = refl
none item named ws (Err e) = refl

one_last : (item : Item) (named : Bool) (p : List ℕ) (ws : Words) (r : Result ℕ LineFault)
    → ((r >>= λ n. followed ws n) >>= λ first. number_if false first.1 >>= λ second. map_if named second.1 >>= λ m. ending item p first.0 second.0 m)
    ≡ (r >>= λ a. map_if named ws >>= λ m. ending item p a 0 m)
unfolding number_if
one_last item named p ws (Ok a) = refl
one_last item named p ws (Err e) = refl

one : (item : Item) (named : Bool) (v : List ℕ) (ws : Words) (r : Result (List ℕ) LineFault)
    → ((r >>= λ p. followed (v ∷ ws) p) >>= λ path. number_if true path.1 >>= λ first. number_if false first.1 >>= λ second. map_if named second.1 >>= λ m. ending item path.0 first.0 second.0 m)
    ≡ (r >>= λ p. fitting (number_of v) >>= λ a. map_if named ws >>= λ m. ending item p a 0 m)
unfolding number_if number_at
one item named v ws (Ok p) = one_last item named p ws (fitting (number_of v))
one item named v ws (Err e) = refl

two_last : (item : Item) (named : Bool) (p : List ℕ) (a : ℕ) (ws : Words) (r : Result ℕ LineFault)
    → ((r >>= λ n. followed ws n) >>= λ second. map_if named second.1 >>= λ m. ending item p a second.0 m)
    ≡ (r >>= λ b. map_if named ws >>= λ m. ending item p a b m)
two_last item named p a ws (Ok b) = refl
two_last item named p a ws (Err e) = refl

two_mid : (item : Item) (named : Bool) (p : List ℕ) (w : List ℕ) (ws : Words) (r : Result ℕ LineFault)
    → ((r >>= λ n. followed (w ∷ ws) n) >>= λ first. number_if true first.1 >>= λ second. map_if named second.1 >>= λ m. ending item p first.0 second.0 m)
    ≡ (r >>= λ a. fitting (number_of w) >>= λ b. map_if named ws >>= λ m. ending item p a b m)
unfolding number_if number_at
two_mid item named p w ws (Ok a) = two_last item named p a ws (fitting (number_of w))
two_mid item named p w ws (Err e) = refl

two : (item : Item) (named : Bool) (v w : List ℕ) (ws : Words) (r : Result (List ℕ) LineFault)
    → ((r >>= λ p. followed (v ∷ w ∷ ws) p) >>= λ path. number_if true path.1 >>= λ first. number_if true first.1 >>= λ second. map_if named second.1 >>= λ m. ending item path.0 first.0 second.0 m)
    ≡ (r >>= λ p. fitting (number_of v) >>= λ a. fitting (number_of w) >>= λ b. map_if named ws >>= λ m. ending item p a b m)
unfolding number_if number_at
two item named v w ws (Ok p) = two_mid item named p w ws (fitting (number_of v))
two item named v w ws (Err e) = refl

-- ---- each count of words

row_none_bare : (item : Item) (ws : Words) → by_row 0 false item ws ≡ cut_row 0 false item ws
unfolding path_at map_if
row_none_bare item [] = refl
row_none_bare item (w0 ∷ []) = none item false [] (path_of w0)
row_none_bare item (w0 ∷ w1 ∷ []) = refl
row_none_bare item (w0 ∷ w1 ∷ w2 ∷ ws) = let e : (suc (suc (suc (length ws))) == 1) ≡ false = ne_eqb _ _ (omega arith) in rw e refl

row_none_map : (item : Item) (ws : Words) → by_row 0 true item ws ≡ cut_row 0 true item ws
unfolding path_at map_if
row_none_map item [] = refl
row_none_map item (w0 ∷ []) =
    elim (cases_Bool (begins_with 64 w0)) [
      | inl holds ↦ rw holds refl
      | inr fails ↦ rw fails (none item false [] (path_of w0))
    ]
row_none_map item (w0 ∷ w1 ∷ []) =
    elim (cases_Bool (begins_with 64 w1)) [
      | inl holds ↦ rw holds (none item true (w1 ∷ []) (path_of w0))
      | inr fails ↦ rw fails refl
    ]
row_none_map item (w0 ∷ w1 ∷ w2 ∷ ws) =
    let e : (suc (suc (suc (length ws))) == 2) ≡ false = ne_eqb _ _ (omega arith) in
    let f : (suc (suc (suc (length ws))) == 1) ≡ false = ne_eqb _ _ (omega arith) in
    elim (cases_Bool (ends_with_map (begins_with 64 w2) ws)) [
      | inl holds ↦ rw (holds, e) refl
      | inr fails ↦ rw (fails, f) refl
    ]

row_one_bare : (item : Item) (ws : Words) → by_row 1 false item ws ≡ cut_row 1 false item ws
unfolding path_at map_if
row_one_bare item [] = refl
row_one_bare item (w0 ∷ []) = refl
row_one_bare item (w0 ∷ w1 ∷ []) = one item false w1 [] (path_of w0)
row_one_bare item (w0 ∷ w1 ∷ w2 ∷ []) = refl
row_one_bare item (w0 ∷ w1 ∷ w2 ∷ w3 ∷ ws) = let e : (suc (suc (suc (suc (length ws)))) == 2) ≡ false = ne_eqb _ _ (omega arith) in rw e refl

row_one_map : (item : Item) (ws : Words) → by_row 1 true item ws ≡ cut_row 1 true item ws
unfolding path_at map_if
row_one_map item [] = refl
row_one_map item (w0 ∷ []) =
    elim (cases_Bool (begins_with 64 w0)) [
      | inl holds ↦ rw holds refl
      | inr fails ↦ rw fails refl
    ]
row_one_map item (w0 ∷ w1 ∷ []) =
    elim (cases_Bool (begins_with 64 w1)) [
      | inl holds ↦ rw holds refl
      | inr fails ↦ rw fails (one item false w1 [] (path_of w0))
    ]
row_one_map item (w0 ∷ w1 ∷ w2 ∷ []) =
    elim (cases_Bool (begins_with 64 w2)) [
      | inl holds ↦ rw holds (one item true w1 (w2 ∷ []) (path_of w0))
      | inr fails ↦ rw fails refl
    ]
row_one_map item (w0 ∷ w1 ∷ w2 ∷ w3 ∷ ws) =
    let e : (suc (suc (suc (suc (length ws)))) == 3) ≡ false = ne_eqb _ _ (omega arith) in
    let f : (suc (suc (suc (suc (length ws)))) == 2) ≡ false = ne_eqb _ _ (omega arith) in
    elim (cases_Bool (ends_with_map (begins_with 64 w3) ws)) [
      | inl holds ↦ rw (holds, e) refl
      | inr fails ↦ rw (fails, f) refl
    ]

row_two_bare : (item : Item) (ws : Words) → by_row 2 false item ws ≡ cut_row 2 false item ws
unfolding path_at map_if
row_two_bare item [] = refl
row_two_bare item (w0 ∷ []) = refl
row_two_bare item (w0 ∷ w1 ∷ []) = refl
row_two_bare item (w0 ∷ w1 ∷ w2 ∷ []) = two item false w1 w2 [] (path_of w0)
row_two_bare item (w0 ∷ w1 ∷ w2 ∷ w3 ∷ []) = refl
row_two_bare item (w0 ∷ w1 ∷ w2 ∷ w3 ∷ w4 ∷ ws) = let e : (suc (suc (suc (suc (suc (length ws))))) == 3) ≡ false = ne_eqb _ _ (omega arith) in rw e refl

row_two_map : (item : Item) (ws : Words) → by_row 2 true item ws ≡ cut_row 2 true item ws
unfolding path_at map_if
row_two_map item [] = refl
row_two_map item (w0 ∷ []) =
    elim (cases_Bool (begins_with 64 w0)) [
      | inl holds ↦ rw holds refl
      | inr fails ↦ rw fails refl
    ]
row_two_map item (w0 ∷ w1 ∷ []) =
    elim (cases_Bool (begins_with 64 w1)) [
      | inl holds ↦ rw holds refl
      | inr fails ↦ rw fails refl
    ]
row_two_map item (w0 ∷ w1 ∷ w2 ∷ []) =
    elim (cases_Bool (begins_with 64 w2)) [
      | inl holds ↦ rw holds refl
      | inr fails ↦ rw fails (two item false w1 w2 [] (path_of w0))
    ]
row_two_map item (w0 ∷ w1 ∷ w2 ∷ w3 ∷ []) =
    elim (cases_Bool (begins_with 64 w3)) [
      | inl holds ↦ rw holds (two item true w1 w2 (w3 ∷ []) (path_of w0))
      | inr fails ↦ rw fails refl
    ]
row_two_map item (w0 ∷ w1 ∷ w2 ∷ w3 ∷ w4 ∷ ws) =
    let e : (suc (suc (suc (suc (suc (length ws))))) == 4) ≡ false = ne_eqb _ _ (omega arith) in
    let f : (suc (suc (suc (suc (suc (length ws))))) == 3) ≡ false = ne_eqb _ _ (omega arith) in
    elim (cases_Bool (ends_with_map (begins_with 64 w4) ws)) [
      | inl holds ↦ rw (holds, e) refl
      | inr fails ↦ rw (fails, f) refl
    ]

rows : (n : ℕ) (takes : Bool) (item : Item) (ws : Words) → n ≤ 2 → by_row n takes item ws ≡ cut_row n takes item ws
rows zero false item ws few = row_none_bare item ws
rows zero true item ws few = row_none_map item ws
rows (suc zero) false item ws few = row_one_bare item ws
rows (suc zero) true item ws few = row_one_map item ws
rows (suc (suc zero)) false item ws few = row_two_bare item ws
rows (suc (suc zero)) true item ws few = row_two_map item ws
rows (suc (suc (suc n))) takes item ws few = absurd (omega arith)

pub cut_is : (item : Item) (ws : Words) → item_of item ws ≡ item_cut item ws
unfolding item_of item_at item_cut operands_of
cut_is item ws = rows (row_of item).numbers (row_of item).map item ws (few_numbers item)

-- The reset values of a field, among the rows of a device.
use Rattle.std.proofs.Common.{◌≡◌, ◌⊎◌, ℕ, suc, ◌+◌, ◌-◌, ◌<◌, ◌≤◌, Bool, true, false, cond, ◌&&◌, eqb, eq-eqb, ne_eqb, List, [], ◌∷◌, ◌++◌, length, map, get_or}
use Rattle.std.proofs.Common.{Option, None, Some, option_map, refl, sym, ap, ◌∙◌, inl, inr, arith}
use Rattle.std.specs.Prelude.{find}
use Rattle.std.specs.Option.{option_or}
use Rattle.std.proofs.lemmas.Bool.{cases_eq}
use Rattle.rl_bus.specs.declared.table.ResetRow.{ResetRow}
use Rattle.rl_bus.specs.Setup.{value_in}
use Rattle.rl_model.specs.declared.rows.Reset.{Reset}
use Rattle.rl_model.specs.Chip.{value_for}
use Rattle.rl_model.specs.Fields.{no_field}
use Rattle.rl_model.specs.Rows.{FieldSeen}
use Rattle.rl_map.specs.Tables.{reset_rows}

abbrev rows_of : ℕ → List Reset → List ResetRow
rows_of field rs = map (λ (r : Reset). let x : ResetRow = record { field = field; kind = r.kind; value = r.value } in x) rs

abbrev first_row : Bool → ResetRow → (field kind : ℕ) → List ResetRow → Option ℕ
first_row t row field kind more =
    option_map (λ (x : ResetRow). x.value) (cond t (Some row) (find (λ (x : ResetRow). eqb x.field field && eqb x.kind kind) more))

own_by : (t : Bool) (row : ResetRow) (field kind : ℕ) (all : List ResetRow) (v rest more : Option ℕ) → v ≡ Some row.value
    → value_in all field kind ≡ option_or rest more → first_row t row field kind all ≡ option_or (cond t v rest) more
own_by true row field kind all v rest more is h = ap (λ o. option_or o more) (sym is)
own_by false row field kind all v rest more is h = h

own_rows : (field kind a : ℕ) (rs : List Reset) (more : List ResetRow) → eqb a field ≡ true
    → value_in (rows_of a rs ++ more) field kind ≡ option_or (value_for kind rs) (value_in more field kind)
own_rows field kind a [] more e = refl
own_rows field kind a (r ∷ rs) more e =
    let row : ResetRow = record { field = a; kind = r.kind; value = r.value } in
    ap (λ t. first_row (t && eqb r.kind kind) row field kind (rows_of a rs ++ more)) e
    ∙ own_by (eqb r.kind kind) row field kind (rows_of a rs ++ more) (Some r.value) (value_for kind rs) (value_in more field kind) refl (own_rows field kind a rs more e)

other_rows : (field kind a : ℕ) (rs : List Reset) (more : List ResetRow) → eqb a field ≡ false
    → value_in (rows_of a rs ++ more) field kind ≡ value_in more field kind
other_rows field kind a [] more e = refl
other_rows field kind a (r ∷ rs) more e =
    let row : ResetRow = record { field = a; kind = r.kind; value = r.value } in
    ap (λ t. first_row (t && eqb r.kind kind) row field kind (rows_of a rs ++ more)) e ∙ other_rows field kind a rs more e

later_rows : (field kind a : ℕ) (fs : List FieldSeen) → field < a → value_in (reset_rows a fs) field kind ≡ None
later_rows field kind a [] l = refl
later_rows field kind a (f ∷ fs) l =
    other_rows field kind a f.resets (reset_rows (a + 1) fs) (ne_eqb a field (λ e. omega (arith, e, l))) ∙ later_rows field kind (a + 1) fs (omega (arith, l))

or_none : (o : Option ℕ) → option_or o None ≡ o
or_none None = refl
or_none (Some x) = refl

rows_by : (field kind a : ℕ) (f : FieldSeen) (fs : List FieldSeen) → a ≤ field → (a ≡ field) ⊎ (a ≡ field → ⊥)
    → (a + 1 ≤ field → value_in (reset_rows (a + 1) fs) field kind ≡ value_for kind (get_or fs (field - (a + 1)) no_field).resets)
    → value_in (reset_rows a (f ∷ fs)) field kind ≡ value_for kind (get_or (f ∷ fs) (field - a) no_field).resets
rows_by field kind a f fs low (inl same) rest =
    let none : field - a ≡ 0 = omega (arith, same) in
    own_rows field kind a f.resets (reset_rows (a + 1) fs) (eq-eqb a field same)
    ∙ ap (option_or (value_for kind f.resets)) (later_rows field kind (a + 1) fs (omega (arith, same)))
    ∙ or_none (value_for kind f.resets)
    ∙ ap (λ j. value_for kind (get_or (f ∷ fs) j no_field).resets) (sym none)
rows_by field kind a f fs low (inr other) rest =
    let more : field - a ≡ suc (field - (a + 1)) = omega (arith, low, other) in
    other_rows field kind a f.resets (reset_rows (a + 1) fs) (ne_eqb a field other)
    ∙ rest (omega (arith, low, other)) ∙ ap (λ j. value_for kind (get_or (f ∷ fs) j no_field).resets) (sym more)

-- also past the last field, where there is none
pub rows_at : (field kind a : ℕ) (fs : List FieldSeen) → a ≤ field
    → value_in (reset_rows a fs) field kind ≡ value_for kind (get_or fs (field - a) no_field).resets
rows_at field kind a [] low = refl
rows_at field kind a (f ∷ fs) low = rows_by field kind a f fs low (cases_eq a field) (λ from. rows_at field kind (a + 1) fs from)

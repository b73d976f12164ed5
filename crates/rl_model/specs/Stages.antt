-- What is made while kinds are still being numbered: each kind has the number that it gets when it comes.
use Rattle.std.specs.Prelude.{◌≡◌, ℕ, ◌+◌, ◌≤◌, false, List, [], ◌∷◌, ◌++◌}
use Rattle.std.specs.List.{list_any}
use Rattle.rl_model.specs.declared.parts.ResetPart.{ResetPart}
use Rattle.rl_model.specs.declared.rows.Reset.{Reset}
use Rattle.rl_model.specs.Data.{FieldData, RegData}
use Rattle.rl_model.specs.Paths.{with_text, number_in}
use Rattle.rl_model.specs.Rows.{FieldSeen}
use Rattle.rl_model.specs.Rules.{overlaps, kinds_with, kinds_after}
use Rattle.rl_model.specs.Build.{shape_of}

abbrev pub numbered : List (List ℕ) → List ResetPart → List Reset
numbered kinds [] = []
numbered kinds (r ∷ rs) =
    record { kind = number_in kinds r.kind; value = r.value } ∷ numbered (with_text kinds r.kind) rs

abbrev pub field_next : ℕ → List (List ℕ) → FieldData → FieldSeen
field_next reg kinds f = record { shape = shape_of reg f; name = f.name; resets = numbered kinds f.resets }

abbrev pub fields_next : ℕ → List (List ℕ) → List FieldData → List FieldSeen
fields_next reg kinds [] = []
fields_next reg kinds (f ∷ fs) = field_next reg kinds f ∷ fields_next reg (kinds_with kinds f.resets) fs

abbrev pub all_next : ℕ → List (List ℕ) → List RegData → List FieldSeen
all_next reg kinds [] = []
all_next reg kinds (r ∷ rs) = fields_next reg kinds r.fields ++ all_next (reg + 1) (kinds_after kinds r.fields) rs

-- the field has bits, they lie below `bits`, and no earlier field has one of them
abbrev pub TakesOwnBits : ℕ → List FieldData → FieldData → Type 0
TakesOwnBits bits earlier f = (1 ≤ f.width) × (f.lsb + f.width ≤ bits) × (list_any (overlaps f) earlier ≡ false)

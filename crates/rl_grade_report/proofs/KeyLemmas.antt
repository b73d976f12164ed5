-- A field in quotes.
use Rattle.std.proofs.Common.{◌≡◌, ℕ, ◌+◌, List, [], ◌∷◌, ◌++◌, codes, Option, Some, None, option_map, unwrap_or, slice_get, sym, ap, ◌∙◌, append_assoc}
use Rattle.std.proofs.lemmas.Option.{none-some, same_Some}
use Rattle.rl_model.specs.declared.rows.Field.{Field}
use Rattle.rl_model.specs.Chip.{field_path, path_at}
use Rattle.rl_model.specs.Rows.{ChipData, FieldSeen}
use Rattle.rl_report.specs.Pieces.{joined}
use Rattle.rl_grade_report.specs.Keys.{quoted}
use Rattle.rl_grade_report.specs.Lines.{field_name}

abbrev around : (path name : List ℕ) → List ℕ
around path name = joined (codes "\"" ∷ path ∷ codes "." ∷ name ∷ codes "\"" ∷ [])

around_is : (path name : List ℕ) → around path name ≡ quoted (path ++ 46 ∷ name)
unfolding joined
around_is path name = ap (λ t. 34 ∷ t) (sym (append_assoc path (46 ∷ name) (34 ∷ [])))

seen_quoted : (c : ChipData) (o : Option FieldSeen) (shape : Field) (path name : List ℕ) → path ≡ path_at c (c.scopes + shape.reg)
    → option_map (λ f. f.shape) o ≡ Some shape → option_map (λ f. f.name) o ≡ Some name
    → around path name ≡ quoted (unwrap_or (option_map (field_path c) o) [])
seen_quoted c None shape path name at is named = absurd (none-some shape is)
seen_quoted c (Some f) shape path name at is named =
    ap (λ p. around p name) (at ∙ ap (λ (s : Field). path_at c (c.scopes + s.reg)) (sym (same_Some f.shape shape is)))
    ∙ ap (around (path_at c (c.scopes + f.shape.reg))) (sym (same_Some f.name name named))
    ∙ around_is (path_at c (c.scopes + f.shape.reg)) f.name

pub field_quoted : (c : ChipData) (field : ℕ) (shape : Field) (path name : List ℕ) → path ≡ path_at c (c.scopes + shape.reg)
    → option_map (λ f. f.shape) (slice_get c.fields field) ≡ Some shape → option_map (λ f. f.name) (slice_get c.fields field) ≡ Some name
    → around path name ≡ quoted (field_name c field)
field_quoted c field shape path name at is named = seen_quoted c (slice_get c.fields field) shape path name at is named

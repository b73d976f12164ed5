-- The text of a row is that of its pairs.
use Rattle.std.proofs.Common.{◌≡◌, ℕ, Bool, if◌then◌else◌, List, [], ◌∷◌, ◌++◌, map, drop, codes, refl, ap, ◌∙◌, append_assoc, append-nil}
use Rattle.std.specs.Prelude.{flat_map}
use Rattle.toml.specs.Data.{Data, string}
use Rattle.rl_policy.specs.declared.policy.Policy.{Policy}
use Rattle.rl_policy.specs.Names.{name_of}
use Rattle.rl_policy.specs.Numbers.{spelled}
use Rattle.rl_model.specs.declared.rows.Item.{Item}
use Rattle.rl_model.specs.Rows.{ChipData}
use Rattle.rl_model.specs.Chip.{path_of_item}
use Rattle.rl_map.specs.Layout.{LayoutData}
use Rattle.rl_report.specs.Pieces.{joined}
use Rattle.rl_grade_report.specs.declared.keys.Form.TheVariants.{Row}
use Rattle.rl_grade_report.specs.Groups.{kind_text, root_name}
use Rattle.rl_grade_report.specs.Keys.{KeyData, head_of, key_text, written, stuck_keys, reset_keys, policy_keys, range_keys, nth_keys, deaf_keys}
use Rattle.rl_grade_report.specs.Lines.{field_name}
use Rattle.rl_grade_report.proofs.RowText.{pair_line, pairs_text, plain_text, row_text, stuck_pairs, reset_pairs, policy_pairs, range_pairs, nth_pairs, deaf_pairs}

abbrev key_of : List ℕ × Data → KeyData
key_of p = record { name = p.0; text = plain_text p.1 }

lines_same : (ps : List (List ℕ × Data)) → flat_map (key_text Row) (map key_of ps) ≡ pairs_text ps
unfolding joined
lines_same [] = refl
lines_same (p ∷ ps) = ap (λ t. pair_line p ++ t) (lines_same ps)

head_same : (kind lines : List ℕ) → joined (head_of Row kind ∷ lines ∷ [] ∷ []) ≡ codes "[[flaw]]\n" ++ (pair_line (codes "kind", string kind) ++ lines)
unfolding joined
head_same kind lines = simp (append_assoc, append-nil) refl

row_same : (kind : List ℕ) (ps : List (List ℕ × Data)) → written Row kind (map key_of ps) ≡ row_text ((codes "kind", string kind) ∷ ps)
row_same kind ps = ap (λ t. joined (head_of Row kind ∷ t ∷ [] ∷ [])) (lines_same ps) ∙ head_same kind (pairs_text ps)

pub stuck_same : (c : ChipData) (field bit : ℕ) (value : Bool) → written Row (codes "stuck") (stuck_keys c field bit value)
    ≡ row_text (stuck_pairs (field_name c field) bit (if value then 1 else 0))
unfolding joined
stuck_same c field bit value = row_same (codes "stuck") (drop 1 (stuck_pairs (field_name c field) bit (if value then 1 else 0)))

pub reset_same : (c : ChipData) (field kind value : ℕ) → written Row (codes "reset") (reset_keys c field kind value)
    ≡ row_text (reset_pairs (field_name c field) (kind_text c kind) (spelled value))
unfolding joined
reset_same c field kind value = row_same (codes "reset") (drop 1 (reset_pairs (field_name c field) (kind_text c kind) (spelled value)))

pub policy_same : (c : ChipData) (field : ℕ) (policy : Policy) → written Row (codes "policy") (policy_keys c field policy)
    ≡ row_text (policy_pairs (field_name c field) (name_of policy))
unfolding joined
policy_same c field policy = row_same (codes "policy") (drop 1 (policy_pairs (field_name c field) (name_of policy)))

pub range_same : (l : LayoutData) (port from to : ℕ) → written Row (codes "error-range") (range_keys l port from to)
    ≡ row_text (range_pairs (root_name l port) (spelled from) (spelled to))
unfolding joined
range_same l port from to = row_same (codes "error-range") (drop 1 (range_pairs (root_name l port) (spelled from) (spelled to)))

pub nth_same : (nth : ℕ) → written Row (codes "error-nth") (nth_keys nth) ≡ row_text (nth_pairs nth)
unfolding joined
nth_same nth = row_same (codes "error-nth") (drop 1 (nth_pairs nth))

pub deaf_same : (c : ChipData) (item : Item) → written Row (codes "deaf") (deaf_keys c item) ≡ row_text (deaf_pairs (path_of_item c item))
unfolding joined
deaf_same c item = row_same (codes "deaf") (drop 1 (deaf_pairs (path_of_item c item)))

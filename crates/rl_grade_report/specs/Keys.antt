-- A flaw by its kind and its keys, and the two forms in which it is written.
use Rattle.std.specs.Prelude.{ℕ, Bool, if◌then◌else◌, List, [], ◌∷◌, flat_map, codes, decimal}
use Rattle.rl_policy.specs.declared.policy.Policy.{Policy}
use Rattle.rl_policy.specs.Names.{name_of}
use Rattle.rl_policy.specs.Numbers.{spelled}
use Rattle.rl_model.specs.declared.rows.Item.{Item}
use Rattle.rl_model.specs.Chip.{path_of_item}
use Rattle.rl_model.specs.Rows.{ChipData}
use Rattle.rl_map.specs.Layout.{LayoutData}
use Rattle.rl_flaw.specs.declared.flaw.Flaw.{Flaw}
use Rattle.rl_flaw.specs.declared.flaw.Flaw.TheVariants.{Stuck, OtherReset, OtherPolicy, Deaf, ErrorRange, ErrorNth}
use Rattle.rl_report.specs.Pieces.{joined}
use Rattle.rl_grade_report.specs.declared.keys.Form.{Form}
use Rattle.rl_grade_report.specs.declared.keys.Form.TheVariants.{Row, Object}
use Rattle.rl_grade_report.specs.declared.keys.Key.{Key}
use Rattle.rl_grade_report.specs.declared.keys.Value.{Value}
use Rattle.rl_grade_report.specs.declared.keys.Value.TheVariants.{Number, Hex, Word, Field}
use Rattle.rl_grade_report.specs.Groups.{kind_text, root_name}
use Rattle.rl_grade_report.specs.Lines.{field_name}

-- a key, and what stands behind it
pub record KeyData : Type 0 where
  pub name : List ℕ
  pub text : List ℕ

abbrev pub quoted : List ℕ → List ℕ
quoted word = joined (codes "\"" ∷ word ∷ codes "\"" ∷ [])

abbrev pub number : (name : List ℕ) → ℕ → KeyData
number name n = record { name = name; text = decimal n }

abbrev pub word : (name said : List ℕ) → KeyData
word name said = record { name = name; text = quoted said }

-- ---- the keys of each kind of flaw

abbrev pub stuck_keys : ChipData → (field bit : ℕ) → (value : Bool) → List KeyData
stuck_keys c field bit value =
    word (codes "field") (field_name c field) ∷ number (codes "bit") bit
    ∷ number (codes "value") (if value then 1 else 0) ∷ []

abbrev pub reset_keys : ChipData → (field kind value : ℕ) → List KeyData
reset_keys c field kind value =
    word (codes "field") (field_name c field) ∷ word (codes "on") (kind_text c kind)
    ∷ word (codes "value") (spelled value) ∷ []

abbrev pub policy_keys : ChipData → (field : ℕ) → Policy → List KeyData
policy_keys c field policy =
    word (codes "field") (field_name c field) ∷ word (codes "policy") (name_of policy) ∷ []

abbrev pub range_keys : LayoutData → (port from to : ℕ) → List KeyData
range_keys l port from to =
    word (codes "map") (root_name l port) ∷ word (codes "from") (spelled from) ∷ word (codes "to") (spelled to) ∷ []

abbrev pub nth_keys : ℕ → List KeyData
nth_keys nth = number (codes "nth") nth ∷ []

abbrev pub deaf_keys : ChipData → Item → List KeyData
deaf_keys c item = word (codes "item") (path_of_item c item) ∷ []

-- ---- what stands before a flaw's keys, for each key, and behind them

abbrev pub head_of : Form → (kind : List ℕ) → List ℕ
head_of Row kind = joined (codes "[[flaw]]\nkind = \"" ∷ kind ∷ codes "\"\n" ∷ [])
head_of Object kind = joined (codes "\n{\"kind\": \"" ∷ kind ∷ codes "\"" ∷ [])

abbrev pub line_of : KeyData → List ℕ
line_of key = joined (key.name ∷ codes " = " ∷ key.text ∷ codes "\n" ∷ [])

abbrev pub member_of : KeyData → List ℕ
member_of key = joined (codes ", \"" ∷ key.name ∷ codes "\": " ∷ key.text ∷ [])

abbrev pub key_text : Form → KeyData → List ℕ
key_text Row key = line_of key
key_text Object key = member_of key

abbrev pub end_of : Form → List ℕ
end_of Row = []
end_of Object = codes "}"

abbrev pub written : Form → (kind : List ℕ) → List KeyData → List ℕ
written form kind keys = joined (head_of form kind ∷ flat_map (key_text form) keys ∷ end_of form ∷ [])

-- a flaw in such a form
abbrev pub flaw_text : Form → ChipData → LayoutData → Flaw → List ℕ
flaw_text form c l (Stuck field bit value) = written form (codes "stuck") (stuck_keys c field bit value)
flaw_text form c l (OtherReset field kind value) = written form (codes "reset") (reset_keys c field kind value)
flaw_text form c l (OtherPolicy field policy) = written form (codes "policy") (policy_keys c field policy)
flaw_text form c l (ErrorRange port from to) = written form (codes "error-range") (range_keys l port from to)
flaw_text form c l (ErrorNth nth) = written form (codes "error-nth") (nth_keys nth)
flaw_text form c l (Deaf item) = written form (codes "deaf") (deaf_keys c item)

-- ---- the code's own keys

abbrev pub value_text : Value → List ℕ
value_text (Number n) = decimal n
value_text (Hex n) = quoted (spelled n)
value_text (Word said) = quoted said.now
value_text (Field reg name) = joined (codes "\"" ∷ reg.now ∷ codes "." ∷ name.now ∷ codes "\"" ∷ [])

abbrev pub said_by : Key → KeyData
said_by key = record { name = key.name.now; text = value_text key.value }

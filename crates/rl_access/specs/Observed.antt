-- What a predictor makes of an item that it sees.
use Rattle.std.specs.Prelude.{◌≡◌, ℕ, ◌^◌, ◌<◌, ◌==◌, Bool, true, false, if◌then◌else◌, List, [], ◌∷◌, length, map, slice_get, slice_set, Option, None, Some, is_some, unwrap_or}
use Rattle.rl_bus.specs.declared.op.Answer.{Answer}
use Rattle.rl_bus.specs.declared.op.BusOp.{BusOp}
use Rattle.rl_model.specs.declared.rows.Item.{Item}
use Rattle.rl_model.specs.declared.rows.Item.TheVariants as item
use Rattle.rl_model.specs.Rows.{ChipData}
use Rattle.rl_map.specs.declared.rows.Here.{Here}
use Rattle.rl_map.specs.Layout.{LayoutData, place_at, port_at, words_of, found, has_right, IsSound}
use Rattle.rl_split.specs.Access.{all_bytes, ops_of, joined}
use Rattle.rl_mirror.specs.Mirror.{MirrorData}
use Rattle.rl_mirror.specs.Prediction.{predict_write, predict_read}
use Rattle.rl_access.specs.declared.predictor.Gathered.{Gathered}
use Rattle.rl_access.specs.Gathering.{no_words, gathered_at, gathered_with, IsRegisterPlace}
use Rattle.rl_access.specs.declared.trace.TraceItem.{TraceItem}
use Rattle.rl_access.specs.Items.{has_failed, words_answered}
use Rattle.rl_access.specs.Model.{ModelData}
use Rattle.rl_access.specs.Rules.{every_field}

-- what was gathered, and what is believed
pub record Seen : Type 0 where
  pub gathered : List Gathered
  pub mirror : MirrorData

abbrev pub seen : List Gathered → MirrorData → Seen
seen gathered mirror = record { gathered = gathered; mirror = mirror }

-- ---- the place of an item: that of a register of which a word of the item's direction stands at its address,
-- under an explicit root

abbrev pub as_register : Item → ℕ → Option ℕ
as_register (item.Reg reg) place = Some place
as_register (item.Mem mem) place = None

abbrev pub register_there : LayoutData → Option Here → Option ℕ
register_there l None = None
register_there l (Some here) = as_register (place_at l here.place).item here.place

-- The place of an item that a predictor watches (uvm_reg_predictor, IEEE 1800.2-2017, 19.3).
abbrev pub watched_place : LayoutData → (port : ℕ) → BusOp → Option ℕ
watched_place l port op =
    if (port_at l port).explicit then register_there l (found l port op.address op.write) else None

-- ---- a word more

-- what was written, or what was answered
abbrev pub word_told : BusOp → Answer → ℕ
word_told op answer = if op.write then op.word else answer.word

-- the list has all words of the place
abbrev pub is_whole : LayoutData → (place : ℕ) → Gathered → Bool
is_whole l place g = length g.words == length (words_of l place 0)

abbrev pub value_gathered : LayoutData → (place : ℕ) → Gathered → ℕ
value_gathered l place g = joined l place 0 (all_bytes (place_at l place).bytes) g.words

abbrev pub reg_in : Item → ℕ
reg_in (item.Reg reg) = reg
reg_in (item.Mem mem) = 0

-- A write, or a read, of all fields of the place's register is predicted (uvm_reg_predictor, IEEE 1800.2-2017, 19.3).
abbrev pub predicted : ChipData → LayoutData → (place : ℕ) → Gathered → MirrorData → MirrorData
predicted c l place g m =
    let reg = reg_in (place_at l place).item in
    if g.write
    then predict_write c reg (value_gathered l place g) every_field m
    else predict_read c reg (value_gathered l place g) every_field m

-- A list with all words is predicted once, and is then empty. How words are gathered is this project's own.
abbrev pub taken_in : ChipData → LayoutData → (place : ℕ) → Gathered → List Gathered → MirrorData → Seen
taken_in c l place g gathered m =
    if is_whole l place g
    then seen (slice_set gathered place no_words) (predicted c l place g m)
    else seen (slice_set gathered place g) m

-- ---- an item: without a place it changes nothing, and a failed one empties the list of its place

abbrev pub observed_at : ChipData → LayoutData → Option ℕ → BusOp → Answer → List Gathered → MirrorData → Seen
observed_at c l None op answer gathered m = seen gathered m
observed_at c l (Some place) op answer gathered m =
    if answer.failed then seen (slice_set gathered place no_words) m
    else taken_in c l place (gathered_with l place op (word_told op answer) (gathered_at gathered place)) gathered m

-- What a predictor makes of a bus item that it sees (uvm_reg_predictor, IEEE 1800.2-2017, 19.3).
abbrev pub observed : ChipData → LayoutData → (port : ℕ) → BusOp → Answer → List Gathered → MirrorData → Seen
observed c l port op answer gathered m = observed_at c l (watched_place l port op) op answer gathered m

-- the model after an item that its predictor sees
abbrev pub observing : ModelData → TraceItem → ModelData
observing m item =
    let s = observed m.chip m.layout item.port item.op item.answer m.gathered m.mirror in
    record m { gathered = s.gathered; mirror = s.mirror }

-- ---- words of a whole access: of a write of a value, or of a read

abbrev pub word_ops : LayoutData → (place : ℕ) → Option ℕ → List BusOp
word_ops l place value = ops_of l place 0 (all_bytes (place_at l place).bytes) (unwrap_or value 0) (is_some value)

-- the operation is that of a word of one
abbrev pub IsWordOf : LayoutData → (place : ℕ) → BusOp → Type 0
IsWordOf l place op = (value : Option ℕ) × (k : ℕ) × (slice_get (word_ops l place value) k ≡ Some op)

-- ---- the law of gathering

-- items, one after another
abbrev pub observed_all : ChipData → LayoutData → (port : ℕ) → List TraceItem → List Gathered → MirrorData → Seen
observed_all c l port [] gathered m = seen gathered m
observed_all c l port (item ∷ items) gathered m =
    let s = observed c l port item.op item.answer gathered m in
    observed_all c l port items s.gathered s.mirror

-- what implicit prediction makes of a whole write of a value, or of a whole read that was answered so
abbrev pub implied : ChipData → LayoutData → (place : ℕ) → Option ℕ → List TraceItem → MirrorData → MirrorData
implied c l place None items m =
    predict_read c (reg_in (place_at l place).item)
    (joined l place 0 (all_bytes (place_at l place).bytes) (words_answered items)) every_field m
implied c l place (Some value) items m = predict_write c (reg_in (place_at l place).item) value every_field m

-- the items are those of a whole access to a register under an explicit root
pub record IsWholeAccess (l : LayoutData) (place : ℕ) (value : Option ℕ) (items : List TraceItem) : Type 0 where
  pub layout : IsSound l
  pub place_is : IsRegisterPlace l place
  pub explicit : (port_at l (place_at l place).port).explicit ≡ true
  pub right : has_right (place_at l place).rights (is_some value) ≡ true
  pub fits : unwrap_or value 0 < 256 ^ (place_at l place).bytes
  pub ops : map (λ item. item.op) items ≡ word_ops l place value
  pub quiet : has_failed items ≡ false

-- From an empty list, the words of a whole access in order leave the mirror of implicit prediction, and an empty list.
abbrev pub WholeAccessPredicts : Type 0
WholeAccessPredicts =
    (c : ChipData) (l : LayoutData) (place : ℕ) (value : Option ℕ) (items : List TraceItem) (gathered : List Gathered)
    (m : MirrorData)
    → IsWholeAccess l place value items → place < length gathered → gathered_at gathered place ≡ no_words
    → observed_all c l (place_at l place).port items gathered m ≡ seen gathered (implied c l place value items m)

-- One word of an open access: what the device answers, and what the predictor makes of it.
use Rattle.std.proofs.Common.{◌≡◌, ◌⊎◌, ℕ, ◌<◌, Bool, true, false, cond, eq-eqb, List, [], ◌∷◌, ◌++◌, length, map, get_or, set, Option, Some, is_some, option_map, refl, sym, ap, ◌∙◌, subst, inl, inr}
use Rattle.std.proofs.lemmas.List.{length-map, get_or-map, map-append}
use Rattle.rl_bus.specs.declared.op.BusOp.{BusOp}
use Rattle.rl_bus.specs.State.{State, state_after, answer_of}
use Rattle.rl_model.specs.Rows.{ChipData}
use Rattle.rl_map.specs.Layout.{LayoutData, place_at, port_at, words_of, has_right}
use Rattle.rl_map.specs.Words.{no_word}
use Rattle.rl_mirror.specs.Mirror.{MirrorData}
use Rattle.rl_split.specs.Access.{all_bytes, ops_of, op_of as op_for_word, sent_of}
use Rattle.rl_split.specs.Law.{IsPlaceOf}
use Rattle.rl_split.specs.Seats.{no_op}
use Rattle.rl_split.specs.UnderWay.{whole_ops, whole_op}
use Rattle.rl_split.proofs.Sending.{IsHere}
use Rattle.rl_access.specs.declared.predictor.Gathered.{Gathered}
use Rattle.rl_access.specs.declared.trace.TraceItem.{TraceItem}
use Rattle.rl_access.specs.Gathering.{no_words, gathered_at, gathered_with, is_next, IsRegisterPlace}
use Rattle.rl_access.specs.Call.{Scene}
use Rattle.rl_access.specs.Items.{port_for}
use Rattle.rl_access.specs.Model.{ModelData, IsModel}
use Rattle.rl_access.specs.Observed.{observed, observed_at, seen as seen_of, taken_in, word_told}
use Rattle.rl_access.specs.Word.{IsWordSent}
use Rattle.rl_access.proofs.Gathers.{watched_is, one_observed}
use Rattle.rl_access.proofs.Whole.{all_sent}
use Rattle.rl_weave.proofs.Granted.{IsGranted}
use Rattle.rl_weave_laws.specs.Half.{told_by, gathered_of}

-- ---- the place

pub place_granted : (m : ModelData) (reg : ℕ) (map value : Option ℕ) (place : ℕ) (write : Bool) → IsModel m → IsGranted m reg map value place →
    write ≡ is_some value → IsPlaceOf m.chip m.layout place reg write
place_granted m reg map value place write ok at same = record {
  chip = ok.chip;
  layout = ok.layout;
  built_with = ok.built;
  place_in = at.there.inside;
  item = at.there.item_is;
  right = subst (λ b. has_right (place_at m.layout place).rights b ≡ true) (sym same) at.right;
}

-- ---- the item, where the device tells its state

pub record IsTold (d : State) (port : ℕ) (item : TraceItem) (after : Option State) : Type 0 where
  pub port_is : item.port ≡ port
  pub answer : item.answer ≡ answer_of d port item.op
  pub goes : after ≡ Some (state_after d port item.op)

pub told_word : (s new : Scene) (place k : ℕ) (value : Option ℕ) (item : TraceItem) (d : State) → s.device ≡ Some d →
    IsWordSent s new place k value item →
    IsTold d (port_for s.model.layout place) item new.device
told_word s new place k value item d is sent = record {
  port_is = ap (λ (i : TraceItem). i.port) sent.item_is;
  answer = sent.step.answers d is;
  goes = sent.step.goes ∙ ap (option_map (λ x. state_after x (port_for s.model.layout place) item.op)) is;
}

-- ---- the operation of a word

all_ops : (l : LayoutData) (place value : ℕ) (write : Bool) → IsHere l place 0 →
    whole_ops l place value write ≡ map (op_for_word l place (all_bytes (place_at l place).bytes) value write) (words_of l place 0)
unfolding ops_of sent_of
all_ops l place value write here = ap (map (op_for_word l place (all_bytes (place_at l place).bytes) value write)) (all_sent l place 0 here)

pub ops_count : (l : LayoutData) (place value : ℕ) (write : Bool) → IsHere l place 0 →
    length (whole_ops l place value write) ≡ length (words_of l place 0)
ops_count l place value write here = ap length (all_ops l place value write here) ∙ length-map (words_of l place 0) (op_for_word l place (all_bytes (place_at l place).bytes) value write)

op_at_word : (l : LayoutData) (place value k : ℕ) (write : Bool) → IsHere l place 0 → k < length (words_of l place 0) →
    whole_op l place value write k ≡ op_for_word l place (all_bytes (place_at l place).bytes) value write (get_or (words_of l place 0) k no_word)
op_at_word l place value k write here low =
    ap (λ (os : List BusOp). get_or os k no_op) (all_ops l place value write here)
    ∙ get_or-map (op_for_word l place (all_bytes (place_at l place).bytes) value write) (words_of l place 0) k no_word no_op low

-- ---- what was gathered

gathered_words : (write : Bool) (items : List TraceItem) → (gathered_of write items).words ≡ map told_by items
gathered_words write [] = refl
gathered_words write (item ∷ items) = refl

gathered_way : (write w : Bool) (items : List TraceItem) → write ≡ w → ((gathered_of write items).write ≡ w) ⊎ (gathered_of write items ≡ no_words)
gathered_way write w [] e = inr refl
gathered_way write w (item ∷ items) e = inl e

abbrev list_with : Bool → List ℕ → Gathered
list_with write words = record { write = write; words = words }

gathered_more : (write : Bool) (items : List TraceItem) (item : TraceItem) →
    list_with write (map told_by items ++ told_by item ∷ []) ≡ gathered_of write (items ++ item ∷ [])
gathered_more write [] item = refl
gathered_more write (x ∷ xs) item = ap (λ ws. list_with write (told_by x ∷ ws)) (sym (map-append told_by xs (item ∷ [])))

pub gathered_whole : (write : Bool) (items : List TraceItem) (item : TraceItem) →
    gathered_of write (items ++ item ∷ []) ≡ list_with write (map told_by (items ++ item ∷ []))
gathered_whole write [] item = refl
gathered_whole write (x ∷ xs) item = refl

-- ---- the predictor sees the next word

pub seen_word : (c : ChipData) (l : LayoutData) (place value : ℕ) (write : Bool) (items : List TraceItem) (item : TraceItem) (gathered : List Gathered) (m : MirrorData) →
    IsHere l place 0 → IsRegisterPlace l place → (port_at l (place_at l place).port).explicit ≡ true → has_right (place_at l place).rights write ≡ true →
    item.port ≡ (place_at l place).port → item.op ≡ whole_op l place value write (length items) → length items < length (words_of l place 0) → item.answer.failed ≡ false →
    gathered_at gathered place ≡ gathered_of write items →
    observed c l item.port item.op item.answer gathered m ≡ taken_in c l place (gathered_of write (items ++ item ∷ [])) gathered m
seen_word c l place value write items item gathered m here there explicit right port_is op_is low quiet at =
    let k = length items in
    let g = gathered_of write items in
    let word = get_or (words_of l place 0) k no_word in
    let op : item.op ≡ op_for_word l place (all_bytes (place_at l place).bytes) value write word = op_is ∙ op_at_word l place value k write here low in
    let direction : item.op.write ≡ write = ap (λ (o : BusOp). o.write) op in
    let address : item.op.address ≡ word.address = ap (λ (o : BusOp). o.address) op in
    let count : length g.words ≡ k = ap length (gathered_words write items) ∙ length-map items told_by in
    let next : is_next l place item.op g ≡ true = eq-eqb (get_or (words_of l place 0) (length g.words) no_word).address item.op.address (ap (λ n. (get_or (words_of l place 0) n no_word).address)
    count ∙ sym address) in
    ap (λ p. observed c l p item.op item.answer gathered m) port_is
    ∙ one_observed c l (place_at l place).port place item.op item.answer gathered m g
    (watched_is l place k write item.op here.words there explicit right low direction address) quiet at (gathered_way write item.op.write items (sym direction)) next
    ∙ ap (λ b. taken_in c l place (list_with b (g.words ++ told_by item ∷ [])) gathered m) direction
    ∙ ap (λ ws. taken_in c l place (list_with write (ws ++ told_by item ∷ [])) gathered m) (gathered_words write items)
    ∙ ap (λ x. taken_in c l place x gathered m) (gathered_more write items item)

-- the predictor sees a word that failed: the list of its place is then empty, and nothing is predicted
pub failed_word : (c : ChipData) (l : LayoutData) (place value k : ℕ) (write : Bool) (item : TraceItem) (gathered : List Gathered) (m : MirrorData) →
    IsHere l place 0 → IsRegisterPlace l place → (port_at l (place_at l place).port).explicit ≡ true → has_right (place_at l place).rights write ≡ true →
    item.port ≡ (place_at l place).port → item.op ≡ whole_op l place value write k → k < length (words_of l place 0) → item.answer.failed ≡ true →
    observed c l item.port item.op item.answer gathered m ≡ seen_of (set gathered place no_words) m
failed_word c l place value k write item gathered m here there explicit right port_is op_is low failed =
    let word = get_or (words_of l place 0) k no_word in
    let op : item.op ≡ op_for_word l place (all_bytes (place_at l place).bytes) value write word = op_is ∙ op_at_word l place value k write here low in
    let direction : item.op.write ≡ write = ap (λ (o : BusOp). o.write) op in
    let address : item.op.address ≡ word.address = ap (λ (o : BusOp). o.address) op in
    ap (λ p. observed c l p item.op item.answer gathered m) port_is
    ∙ ap (λ p. observed_at c l p item.op item.answer gathered m)
    (watched_is l place k write item.op here.words there explicit right low direction address)
    ∙ ap (λ t. cond t (seen_of (set gathered place no_words) m)
    (taken_in c l place (gathered_with l place item.op (word_told item.op item.answer) (gathered_at gathered place)) gathered m)) failed

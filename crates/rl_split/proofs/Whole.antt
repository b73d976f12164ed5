-- Where all bytes are chosen, each word is sent with its lanes as they stand.
use Rattle.std.proofs.Common.{◌≡◌, ℕ, ◌≤◌, Bool, true, false, eqb, eqb-true, rules, List, length, take, map, get_or, Some, option_map, sym, ap, ◌∙◌, subst}
use Rattle.std.specs.Prelude.{slice_get, IsTrue}
use Rattle.std.proofs.lemmas.List.{take_all}
use Rattle.std.proofs.lemmas.Option.{slice_get_within, get_or_from_slice_get, slice_get-map}
use Rattle.rl_policy.specs.Bits.{from_bits}
use Rattle.rl_bus.specs.declared.op.AdapterKind.{AdapterKind}
use Rattle.rl_bus.specs.declared.op.BusOp.{BusOp}
use Rattle.rl_bus.specs.declared.table.Lanes.{Lanes}
use Rattle.rl_map.specs.declared.word.Word.{Word}
use Rattle.rl_map.specs.Layout.{LayoutData, place_at, port_at, words_of}
use Rattle.rl_map.specs.Words.{lanes_of, no_word}
use Rattle.rl_split.specs.Access.{all_bytes, lanes_for, sent_words, op_for, op_of, ops_of, sent_of, joined_bit}
use Rattle.rl_split.specs.UnderWay.{whole_ops}
use Rattle.rl_split.proofs.Sending.{IsHere, whole_lanes, whole_sent}

abbrev lanes : ℕ → List ℕ → Lanes
lanes enabled bytes = record { enabled = enabled; bytes = bytes }

pub lanes_whole : (l : LayoutData) (place index k : ℕ) (w : Word) → IsHere l place index → slice_get (words_of l place index) k ≡ Some w → lanes_of w ≡ lanes_for (all_bytes (place_at l place).bytes) w
lanes_whole l place index k w here e =
    let words = words_of l place index in
    let all = all_bytes (place_at l place).bytes in
    subst (λ v. lanes_of v ≡ lanes_for all v) (get_or_from_slice_get words k w no_word e)
    (ap (λ n. lanes n (get_or words k no_word).bytes) (sym (whole_lanes l place index k here (slice_get_within words k w e))))

-- so it is where a test finds all bytes chosen
pub lanes_chosen : (l : LayoutData) (place index chosen k : ℕ) (w : Word) (t : Bool) → IsHere l place index → slice_get (words_of l place index) k ≡ Some w →
    t ≡ eqb chosen (all_bytes (place_at l place).bytes) → IsTrue t → lanes_of w ≡ lanes_for chosen w
lanes_chosen l place index chosen k w true here e is on =
    subst (λ n. lanes_of w ≡ lanes_for n w) (sym (eqb-true chosen (all_bytes (place_at l place).bytes) (sym is))) (lanes_whole l place index k w here e)
lanes_chosen l place index chosen k w false here e is on = absurd (search rules)

-- ---- the operations

-- an operation with the kind and the width of the place's port is the place's own
pub op_at_place : (l : LayoutData) (place port bus_bytes chosen value : ℕ) (write : Bool) (w : Word) (kind : AdapterKind) (op : BusOp) →
    port ≡ (place_at l place).port → kind ≡ (port_at l port).kind → bus_bytes ≡ (port_at l port).bytes → op ≡ op_for kind bus_bytes chosen value write w → op ≡ op_of l place chosen value write w
op_at_place l place port bus_bytes chosen value write w kind op at its_kind its_bytes is =
    is
    ∙ ap (λ x. op_for x bus_bytes chosen value write w) its_kind
    ∙ ap (λ n. op_for (port_at l port).kind n chosen value write w) its_bytes
    ∙ ap (λ p. op_for (port_at l p).kind (port_at l p).bytes chosen value write w) at

-- the operation that is made for a word of a whole access is the one of that word
pub whole_is : (l : LayoutData) (place k port bus_bytes value : ℕ) (write : Bool) (w : Word) (kind : AdapterKind) (sent : Lanes) (op : BusOp) → IsHere l place 0 →
    slice_get (words_of l place 0) k ≡ Some w → sent ≡ lanes_of w → port ≡ (place_at l place).port → kind ≡ (port_at l port).kind → bus_bytes ≡ (port_at l port).bytes →
    ((chosen : ℕ) → sent ≡ lanes_for chosen w → op ≡ op_for kind bus_bytes chosen value write w) → op ≡ op_of l place (all_bytes (place_at l place).bytes) value write w
whole_is l place k port bus_bytes value write w kind sent op here e as_stands at its_kind its_bytes is =
    let all = all_bytes (place_at l place).bytes in
    op_at_place l place port bus_bytes all value write w kind op at its_kind its_bytes (is all (as_stands ∙ lanes_whole l place 0 k w here e))

pub op_of_word : (l : LayoutData) (place k value : ℕ) (write : Bool) (w : Word) → IsHere l place 0 → slice_get (words_of l place 0) k ≡ Some w →
    slice_get (whole_ops l place value write) k ≡ Some (op_of l place (all_bytes (place_at l place).bytes) value write w)
unfolding ops_of sent_of
op_of_word l place k value write w here e =
    let op : Word → BusOp = op_of l place (all_bytes (place_at l place).bytes) value write in
    ap (λ ws. slice_get (map op ws) k) (whole_sent l place 0 here) ∙ slice_get-map op (words_of l place 0) k ∙ ap (option_map op) e

-- ---- the value

pub value_whole : (l : LayoutData) (place k value : ℕ) (answers : List ℕ) → IsHere l place 0 → length (words_of l place 0) ≤ k → length answers ≤ k →
    value ≡ from_bits 64 (joined_bit (all_bytes (place_at l place).bytes) (take k (words_of l place 0)) (take k answers)) →
    value ≡ from_bits 64 (joined_bit (all_bytes (place_at l place).bytes) (sent_words (all_bytes (place_at l place).bytes) (words_of l place 0)) answers)
value_whole l place k value answers here words_end answers_end is =
    let words = words_of l place 0 in
    let all = all_bytes (place_at l place).bytes in
    is
    ∙ ap (λ ws. from_bits 64 (joined_bit all ws (take k answers))) (take_all k words words_end ∙ sym (whole_sent l place 0 here))
    ∙ ap (λ xs. from_bits 64 (joined_bit all (sent_words all words) xs)) (take_all k answers answers_end)

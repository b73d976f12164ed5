-- The operations of an access to a location of a memory.
use Rattle.std.proofs.Common.{◌≡◌, ℕ, ◌*◌, ◌/◌, ◌^◌, ◌<◌, ◌≤◌, Bool, true, false, not, ◌&&◌, ◌||◌, cond, ltb, List, [], ◌∷◌, ◌++◌, length, map, set, refl, sym, ap, ◌∙◌, subst, arith, append_assoc}
use Rattle.std.proofs.Common.{append-nil, length-set}
use Rattle.std.specs.Prelude.{All, slice_index}
use Rattle.std.proofs.lemmas.Bool.Decides.{nat_tests}
use Rattle.std.proofs.lemmas.List.{set-set, set-get_or, get_or-set_same, length-map}
use Rattle.rl_policy.specs.Bits.{bit, from_bits}
use Rattle.rl_policy.proofs.BitLemmas.{bit-from_bits, bit-above, bit-mask, is_from_bits, same_from_bits, from_bits-lt}
use Rattle.std.proofs.Math.Pow.{pow_mono}
use Rattle.rl_model.specs.declared.rows.Item.TheVariants as item
use Rattle.rl_model.specs.Rows.{ChipData}
use Rattle.rl_bus.specs.declared.op.Answer.{Answer}
use Rattle.rl_bus.specs.declared.op.BusOp.{BusOp}
use Rattle.rl_bus.specs.declared.table.Cell.TheVariants.{Loc}
use Rattle.rl_bus.specs.declared.table.Lanes.{Lanes}
use Rattle.rl_bus.specs.declared.table.WordRow.{WordRow}
use Rattle.rl_bus.specs.Setup.{Setup, mem_of, location, is_deaf}
use Rattle.rl_bus.specs.Spread.{spread_bit, lane_bit, gathered_bit, lanes_in}
use Rattle.rl_bus.specs.State.{State, counted, beats_on, state_after, answer_of, after_word, after_reading, after_writing, word_shown, shown_bit}
use Rattle.rl_map.specs.declared.word.Word.{Word}
use Rattle.rl_map.specs.Layout.{LayoutData, place_at as row_at, words_of, row_of, cell_of}
use Rattle.rl_map.specs.Tables.{setup_of}
use Rattle.rl_split.specs.Access.{all_bytes, lanes_for, sent_words, op_of, ops_of, sent_of, joined, joined_bit}
use Rattle.rl_split.specs.Law.{no_flaws, IsReady, IsLocationOf, HasLocation, IsStore, IsLoad, MemoryWriteIsStore, MemoryReadIsLoad}
use Rattle.rl_split.specs.Runs.{state_after_all, answers_of, counted_on}
use Rattle.rl_split.proofs.Carried.{spread_gathered}
use Rattle.rl_split.proofs.Chosen.{sent_touches, sent_split}
use Rattle.rl_split.proofs.Items.{Meets, touched, answered, not_deaf, next_count}
use Rattle.rl_split.proofs.ReadRuns.{AreSplit, none_spread, read_answer}
use Rattle.rl_split.proofs.Sending.{IsHere, is_here, all_reached, turns}
use Rattle.rl_split.proofs.Sent.{pow-bytes}
use Rattle.rl_split.proofs.Steps.{flawless, carry_parts, same_state, answers_alike, none_failed, words_back}
use Rattle.rl_split.proofs.Turns.{IsTurn, Stands, first_stands, last_stands, turn_meets, turn_moves, all_head, all_tail}
use Rattle.rl_split.proofs.WriteRuns.{are_touched, CarryInParts, count_none, count_more}

-- ---- one item

abbrev pub stored_in : Lanes → (word x : ℕ) → ℕ
stored_in lanes word x = from_bits 64 (λ b. cond (lane_bit lanes b) (spread_bit lanes (bit word) b) (bit x b))

abbrev after_store : State → (port at : ℕ) → BusOp → Lanes → State
after_store s port at op lanes = record s {
  locations = set s.locations at (stored_in lanes op.word (slice_index s.locations at));
  beats = beats_on s port op;
  items = next_count s.items;
}

abbrev after_load : State → (port : ℕ) → BusOp → State
after_load s port op = record s { beats = beats_on s port op; items = next_count s.items }

stores_word : (s : State) (op : BusOp) (mem index : ℕ) (row : WordRow) (lanes : Lanes) → s.setup.flaws ≡ no_flaws → (mem_of s.setup mem).writable ≡ true → op.write ≡ true → row.cell ≡ Loc mem index →
    lanes_in row.lanes op.lanes ≡ lanes →
    after_word s op row ≡ record s { locations = set s.locations (location s.setup mem index) (stored_in lanes op.word (slice_index s.locations (location s.setup mem index))) }
stores_word s op mem index row lanes e open_to write cell same =
    ap (λ t. cond (not t) (after_reading s (lane_bit (lanes_in row.lanes op.lanes)) row.cell) (cond (is_deaf s.setup row.cell) s (after_writing s (spread_bit (lanes_in row.lanes op.lanes)
    (bit op.word)) (lane_bit (lanes_in row.lanes op.lanes)) row.cell))) write
    ∙ ap (λ t. cond t s (after_writing s (spread_bit (lanes_in row.lanes op.lanes) (bit op.word)) (lane_bit (lanes_in row.lanes op.lanes)) row.cell)) (not_deaf s.setup row.cell e)
    ∙ ap (after_writing s (spread_bit (lanes_in row.lanes op.lanes) (bit op.word)) (lane_bit (lanes_in row.lanes op.lanes))) cell
    ∙ ap (λ l. after_writing s (spread_bit l (bit op.word)) (lane_bit l) (Loc mem index)) same
    ∙ ap (λ t. cond t (record s { locations = set s.locations (location s.setup mem index) (stored_in lanes op.word (slice_index s.locations (location s.setup mem index))) }) s) open_to

store_meets : (s : State) (port mem index : ℕ) (op : BusOp) (lanes : Lanes) → Meets s port op (Loc mem index) lanes → (mem_of s.setup mem).writable ≡ true → op.write ≡ true →
    state_after s port op ≡ after_store s port (location s.setup mem index) op lanes
store_meets s port mem index op lanes m open_to write =
    touched s port op (Loc mem index) lanes m
    ∙ ap (λ (x : State). record x { beats = beats_on s port op }) (stores_word (counted s) op mem index m.row lanes m.flawless open_to write m.cell_is m.lanes_are)

store_answers : (s : State) (port mem index : ℕ) (op : BusOp) (lanes : Lanes) → Meets s port op (Loc mem index) lanes → op.write ≡ true → answer_of s port op ≡ record { word = 0; failed = false }
store_answers s port mem index op lanes m write =
    answered s port op (Loc mem index) lanes m ∙ ap (λ t. record { word = cond t 0 (word_shown (counted s) op m.row); failed = false }) write

loads_word : (s : State) (op : BusOp) (mem index : ℕ) (row : WordRow) → op.write ≡ false → row.cell ≡ Loc mem index → after_word s op row ≡ s
loads_word s op mem index row write cell =
    ap (λ t. cond (not t) (after_reading s (lane_bit (lanes_in row.lanes op.lanes)) row.cell) (cond (is_deaf s.setup row.cell) s (after_writing s (spread_bit (lanes_in row.lanes op.lanes)
    (bit op.word)) (lane_bit (lanes_in row.lanes op.lanes)) row.cell))) write
    ∙ ap (after_reading s (lane_bit (lanes_in row.lanes op.lanes))) cell

load_meets : (s : State) (port mem index : ℕ) (op : BusOp) (lanes : Lanes) → Meets s port op (Loc mem index) lanes → op.write ≡ false → state_after s port op ≡ after_load s port op
load_meets s port mem index op lanes m write =
    touched s port op (Loc mem index) lanes m
    ∙ ap (λ (x : State). record x { beats = beats_on s port op }) (loads_word (counted s) op mem index m.row write m.cell_is)

abbrev pub shown_in : Lanes → ℕ → ℕ
shown_in lanes x = from_bits 64 (gathered_bit lanes (bit x))

load_answers : (s : State) (port mem index : ℕ) (op : BusOp) (lanes : Lanes) → Meets s port op (Loc mem index) lanes → op.write ≡ false → answer_of s port op ≡ read_answer (shown_in lanes
    (slice_index s.locations (location s.setup mem index)))
load_answers s port mem index op lanes m write =
    answered s port op (Loc mem index) lanes m
    ∙ ap (λ t. read_answer (cond t 0 (word_shown (counted s) op m.row))) write
    ∙ ap (λ c. read_answer (from_bits 64 (gathered_bit (lanes_in m.row.lanes op.lanes) (shown_bit (counted s) c)))) m.cell_is
    ∙ ap (λ l. read_answer (shown_in l (slice_index s.locations (location s.setup mem index)))) m.lanes_are

-- ---- several items, by their numbers

abbrev store_all : (Word → BusOp) → (Word → Lanes) → ℕ → List Word → ℕ
store_all op lanes x [] = x
store_all op lanes x (w ∷ ws) = store_all op lanes (stored_in (lanes w) (op w).word x) ws

stored_twice : (l t v w x : Bool) → (l ≡ true → (v ≡ w) × (t ≡ false)) → cond t w (cond l v x) ≡ cond (l || t) w x
stored_twice true t v w x once = ap (λ t. cond t w v) (once refl).1 ∙ (once refl).0
stored_twice false t v w x once = refl

store_bits : (op : Word → BusOp) (lanes : Word → Lanes) (value : ℕ) (ws : List Word) (x : ℕ) → CarryInParts lanes op value ws → (b : ℕ) → b < 64 → bit (store_all op lanes x ws) b ≡ cond
    (are_touched lanes ws b) (bit value b) (bit x b)
store_bits op lanes value [] x parts b low = refl
store_bits op lanes value (w ∷ ws) x parts b low =
    store_bits op lanes value ws (stored_in (lanes w) (op w).word x) parts.1 b low
    ∙ ap (λ y. cond (are_touched lanes ws b) (bit value b) y) (bit-from_bits 64 _ b low)
    ∙ stored_twice (lane_bit (lanes w) b) (are_touched lanes ws b) (spread_bit (lanes w) (bit (op w).word) b) (bit value b) (bit x b) (parts.0 b)

store_small : (op : Word → BusOp) (lanes : Word → Lanes) (ws : List Word) (x : ℕ) → x < 2 ^ 64 → store_all op lanes x ws < 2 ^ 64
store_small op lanes [] x low = low
store_small op lanes (w ∷ ws) x low = store_small op lanes ws (stored_in (lanes w) (op w).word x) (from_bits-lt 64 _)

joins : (l t x a : Bool) → (l ≡ true → (a ≡ x) × (t ≡ false)) → (l ≡ false → a ≡ false) → (a || (t && x)) ≡ ((l || t) && x)
joins true t x a first none = ap (λ t. a || (t && x)) (first refl).1 ∙ or_false a ∙ (first refl).0
  where
    or_false : (a : Bool) → (a || false) ≡ a
    or_false true = refl
    or_false false = refl
joins false t x a first none = ap (λ a. a || (t && x)) (none refl)

load_bits : (chosen : ℕ) (ws : List Word) (x : ℕ) → AreSplit (lanes_for chosen) ws → (b : ℕ) → joined_bit chosen ws (map (λ w. shown_in (lanes_for chosen w) x) ws) b ≡ (are_touched (lanes_for chosen)
    ws b && bit x b)
load_bits chosen [] x parts b = refl
load_bits chosen (w ∷ ws) x parts b =
    let lanes = lanes_for chosen w in
    ap (λ y. spread_bit lanes (bit (shown_in lanes x)) b || y) (load_bits chosen ws x parts.1 b)
    ∙ joins (lane_bit lanes b) (are_touched (lanes_for chosen) ws b) (bit x b) (spread_bit lanes (bit (shown_in lanes x)) b)
    (λ e. (spread_gathered lanes (bit x) b e, parts.0 b e)) (λ e. none_spread lanes (bit (shown_in lanes x)) b e)

-- ---- several items over a device

record Stored (s : State) (port at : ℕ) (op : Word → BusOp) (rest : List Word) (x : ℕ) : Type 0 where
  answers : answers_of s port (map op rest) ≡ map (λ (w : Word). read_answer 0) rest
  setup : (state_after_all s port (map op rest)).setup ≡ s.setup
  bits : (state_after_all s port (map op rest)).bits ≡ s.bits
  marks : (state_after_all s port (map op rest)).marks ≡ s.marks
  locations : (state_after_all s port (map op rest)).locations ≡ set s.locations at x
  items : (state_after_all s port (map op rest)).items ≡ counted_on (length rest) s.items
  beats : (p a : ℕ) → (state_after_all s port (map op rest)).beats p a ≡ 0

none_stored : (s : State) (port at : ℕ) (op : Word → BusOp) → ((p a : ℕ) → s.beats p a ≡ 0) → Stored s port at op [] (slice_index s.locations at)
none_stored s port at op none = record { answers = refl; setup = refl; bits = refl; marks = refl; locations = sym (set-get_or s.locations at 0); items = count_none s.items; beats = none }

one_stored : (s : State) (port at : ℕ) (op : Word → BusOp) (lanes : Word → Lanes) (w : Word) (rest : List Word) (x : ℕ) →
    state_after s port (op w) ≡ after_store s port at (op w) (lanes w) → answer_of s port (op w) ≡ read_answer 0 → Stored (after_store s port at (op w) (lanes w)) port at op rest x →
    Stored s port at op (w ∷ rest) x
one_stored s port at op lanes w rest x step answer run = record {
  answers = ap (λ a. a ∷ answers_of (state_after s port (op w)) port (map op rest)) answer ∙ ap (λ y. read_answer 0 ∷ answers_of y port (map op rest)) step ∙ ap (λ xs. read_answer 0 ∷ xs) run.answers;
  setup = ap (λ y. (state_after_all y port (map op rest)).setup) step ∙ run.setup;
  bits = ap (λ y. (state_after_all y port (map op rest)).bits) step ∙ run.bits;
  marks = ap (λ y. (state_after_all y port (map op rest)).marks) step ∙ run.marks;
  locations = ap (λ y. (state_after_all y port (map op rest)).locations) step ∙ run.locations ∙ set-set s.locations at _ x;
  items = ap (λ y. (state_after_all y port (map op rest)).items) step ∙ run.items ∙ count_more (length rest) s.items;
  beats = λ p a. ap (λ y. (state_after_all y port (map op rest)).beats p a) step ∙ run.beats p a;
}

abbrev Turn : Setup → ℕ → Bool → (mem index : ℕ) → (Word → WordRow) → (Word → BusOp) → (Word → Lanes) → List Word → Word → Type 0
Turn t port write mem index row op lanes sent w = IsTurn t port write (Loc mem index) row op lanes sent w

same_place : (s : State) (t : Setup) (mem index : ℕ) → s.setup ≡ t → location s.setup mem index ≡ location t mem index
same_place s t mem index e = ap (λ u. location u mem index) e

stores_run : (t : Setup) (port mem index : ℕ) (row : Word → WordRow) (op : Word → BusOp) (lanes : Word → Lanes) (sent : List Word) → t.flaws ≡ no_flaws → (mem_of t mem).writable ≡ true →
    ((w : Word) → (op w).write ≡ true) →
    (done rest : List Word) (s : State) → All (Turn t port true mem index row op lanes sent) rest → sent ≡ done ++ rest → s.setup ≡ t → Stands s port sent done →
    location t mem index < length s.locations →
    Stored s port (location t mem index) op rest (store_all op lanes (slice_index s.locations (location t mem index)) rest)
stores_run t port mem index row op lanes sent plain open_to write done [] s each is same stands inside =
    none_stored s port (location t mem index) op (last_stands s port sent (subst (Stands s port sent) (sym (is ∙ append-nil done)) stands))
stores_run t port mem index row op lanes sent plain open_to write done (w ∷ rest) s each is same stands inside =
    let at = location t mem index in
    let turn = all_head (Turn t port true mem index row op lanes sent) w rest each in
    let meets = turn_meets s t port true (Loc mem index) row op lanes sent done rest w same plain turn is stands in
    let next = after_store s port at (op w) (lanes w) in
    let more = turn_moves s next t port true (Loc mem index) row op lanes sent done rest w same turn is stands (λ p a. refl) in
    let run = stores_run t port mem index row op lanes sent plain open_to write (done ++ w ∷ []) rest next (all_tail (Turn t port true mem index row op lanes sent) w rest each)
    (is ∙ sym (append_assoc done (w ∷ []) rest)) same more (rw length-set inside) in
    one_stored s port at op lanes w rest (store_all op lanes (stored_in (lanes w) (op w).word (slice_index s.locations at)) rest)
    (store_meets s port mem index (op w) (lanes w) meets (ap (λ u. (mem_of u mem).writable) same ∙ open_to) (write w) ∙ ap (λ n. after_store s port n (op w) (lanes w)) (same_place s t mem index same))
    (store_answers s port mem index (op w) (lanes w) meets (write w))
    (subst (λ x. Stored next port at op rest (store_all op lanes x rest)) (get_or-set_same s.locations at (stored_in (lanes w) (op w).word (slice_index s.locations at)) 0 inside) run)

record Loaded (s : State) (port : ℕ) (op : Word → BusOp) (lanes : Word → Lanes) (rest : List Word) (x : ℕ) : Type 0 where
  answers : answers_of s port (map op rest) ≡ map read_answer (map (λ w. shown_in (lanes w) x) rest)
  setup : (state_after_all s port (map op rest)).setup ≡ s.setup
  bits : (state_after_all s port (map op rest)).bits ≡ s.bits
  marks : (state_after_all s port (map op rest)).marks ≡ s.marks
  locations : (state_after_all s port (map op rest)).locations ≡ s.locations
  items : (state_after_all s port (map op rest)).items ≡ counted_on (length rest) s.items
  beats : (p a : ℕ) → (state_after_all s port (map op rest)).beats p a ≡ 0

one_loaded : (s : State) (port : ℕ) (op : Word → BusOp) (lanes : Word → Lanes) (w : Word) (rest : List Word) (x : ℕ) →
    state_after s port (op w) ≡ after_load s port (op w) → answer_of s port (op w) ≡ read_answer (shown_in (lanes w) x) → Loaded (after_load s port (op w)) port op lanes rest x →
    Loaded s port op lanes (w ∷ rest) x
one_loaded s port op lanes w rest x step answer run = record {
  answers = ap (λ a. a ∷ answers_of (state_after s port (op w)) port (map op rest)) answer ∙ ap (λ y. read_answer (shown_in (lanes w) x) ∷ answers_of y port (map op rest)) step ∙ ap
      (λ xs. read_answer (shown_in (lanes w) x) ∷ xs) run.answers;
  setup = ap (λ y. (state_after_all y port (map op rest)).setup) step ∙ run.setup;
  bits = ap (λ y. (state_after_all y port (map op rest)).bits) step ∙ run.bits;
  marks = ap (λ y. (state_after_all y port (map op rest)).marks) step ∙ run.marks;
  locations = ap (λ y. (state_after_all y port (map op rest)).locations) step ∙ run.locations;
  items = ap (λ y. (state_after_all y port (map op rest)).items) step ∙ run.items ∙ count_more (length rest) s.items;
  beats = λ p a. ap (λ y. (state_after_all y port (map op rest)).beats p a) step ∙ run.beats p a;
}

loads_run : (t : Setup) (port mem index : ℕ) (row : Word → WordRow) (op : Word → BusOp) (lanes : Word → Lanes) (sent : List Word) → t.flaws ≡ no_flaws → ((w : Word) → (op w).write ≡ false) →
    (done rest : List Word) (s : State) → All (Turn t port false mem index row op lanes sent) rest → sent ≡ done ++ rest → s.setup ≡ t → Stands s port sent done →
    Loaded s port op lanes rest (slice_index s.locations (location t mem index))
loads_run t port mem index row op lanes sent plain read done [] s each is same stands =
    record {
      answers = refl;
      setup = refl;
      bits = refl;
      marks = refl;
      locations = refl;
      items = count_none s.items;
      beats = last_stands s port sent (subst (Stands s port sent)
          (sym (is ∙ append-nil done)) stands);
    }
loads_run t port mem index row op lanes sent plain read done (w ∷ rest) s each is same stands =
    let x = slice_index s.locations (location t mem index) in
    let turn = all_head (Turn t port false mem index row op lanes sent) w rest each in
    let meets = turn_meets s t port false (Loc mem index) row op lanes sent done rest w same plain turn is stands in
    let next = after_load s port (op w) in
    let more = turn_moves s next t port false (Loc mem index) row op lanes sent done rest w same turn is stands (λ p a. refl) in
    let run = loads_run t port mem index row op lanes sent plain read (done ++ w ∷ []) rest next (all_tail (Turn t port false mem index row op lanes sent) w rest each)
    (is ∙ sym (append_assoc done (w ∷ []) rest)) same more in
    one_loaded s port op lanes w rest x (load_meets s port mem index (op w) (lanes w) meets (read w))
    (load_answers s port mem index (op w) (lanes w) meets (read w) ∙ ap (λ n. read_answer (shown_in (lanes w) (slice_index s.locations n))) (same_place s t mem index same)) run

-- ---- an access to all bytes of a location

here_of : (c : ChipData) (l : LayoutData) (place mem index : ℕ) (write : Bool) → IsLocationOf c l place mem index write → IsHere l place index
here_of c l place mem index write at = is_here l place index at.layout (record { place_in = at.place_in; index_in = at.index_in })

cells_of : (l : LayoutData) (place mem index : ℕ) → (row_at l place).item ≡ item.Mem mem → (w : Word) → (row_of l place index w).cell ≡ Loc mem index
cells_of l place mem index is w = ap (λ i. cell_of i index) is

all_touched : (l : LayoutData) (place index b : ℕ) → IsHere l place index → are_touched (lanes_for (all_bytes (row_at l place).bytes)) (sent_words (all_bytes (row_at l place).bytes) (words_of l place
    index)) b ≡ ltb (b / 8) (row_at l place).bytes
all_touched l place index b here =
    let bytes = (row_at l place).bytes in
    sent_touches (all_bytes bytes) (words_of l place index) b ∙ ap (λ t. t && bit (all_bytes bytes) (b / 8)) (here.words.reach b) ∙ ap (λ t. ltb (b / 8) bytes && t) (bit-mask bytes (b / 8)) ∙ twice
    (ltb (b / 8) bytes)
  where
    twice : (t : Bool) → (t && t) ≡ t
    twice true = refl
    twice false = refl

below_all : (bytes x : ℕ) → bytes ≤ 8 → x < 256 ^ bytes → x < 2 ^ 64
below_all bytes x most fits = let top : 2 ^ (8 * bytes) ≤ 2 ^ 64 = pow_mono {i = 8 * bytes} {j = 64} (omega (arith, most)) in omega (arith, top, pow-bytes bytes, fits)

-- a bit past the item's bytes
past : (bytes x b : ℕ) → x < 256 ^ bytes → ltb (b / 8) bytes ≡ false → bit x b ≡ false
past bytes x b fits e = bit-above x (8 * bytes) b (rw (sym (pow-bytes bytes)) fits) (beyond e)
  where
    beyond : ltb (b / 8) bytes ≡ false → 8 * bytes ≤ b
    beyond e = grind (arith, nat_tests)

chosen_value : (t v x : Bool) → (t ≡ false → v ≡ false) → (t ≡ false → x ≡ false) → cond t v x ≡ v
chosen_value true v x f g = refl
chosen_value false v x f g = g refl ∙ sym (f refl)

shown_value : (t x : Bool) → (t ≡ false → x ≡ false) → (t && x) ≡ x
shown_value true x f = refl
shown_value false x f = sym (f refl)

module _ (c : ChipData) (l : LayoutData) (s : State) (place mem index : ℕ) where
  abbrev bytes : ℕ
  bytes = (row_at l place).bytes

  abbrev all : ℕ
  all = all_bytes bytes

  abbrev there : Setup
  there = setup_of c l no_flaws

  abbrev port : ℕ
  port = (row_at l place).port

  abbrev sent : List Word
  sent = sent_words all (words_of l place index)

  -- what the location has
  abbrev old : ℕ
  old = slice_index s.locations (location there mem index)

  old_fits : IsReady c l s → HasLocation s mem index bytes → old < 256 ^ bytes
  old_fits ready has = subst (λ n. slice_index s.locations n < 256 ^ bytes) (same_place s there mem index ready.setup) has.fits

  stored : (value : ℕ) → IsLocationOf c l place mem index true → IsReady c l s → HasLocation s mem index bytes → (mem_of s.setup mem).writable ≡ true → value < 256 ^ bytes
      → IsStore c l s place mem index value (ops_of l place index all value true)
  unfolding ops_of sent_of
  stored value at ready has open_to small =
      let op = op_of l place all value true in
      let here = here_of c l place mem index true at in
      let spot = same_place s there mem index ready.setup in
      let fits = old_fits ready has in
      let run = stores_run there port mem index (row_of l place index) op (lanes_for all) sent (flawless c l) (ap (λ u. (mem_of u mem).writable) (sym ready.setup) ∙ open_to) (λ w. refl) [] sent s
      (turns c l place index all value true (Loc mem index) here at.right (cells_of l place mem index at.item) (all_reached l place index true here)) refl ready.setup (first_stands s port sent
      ready.beats)
      (subst (λ n. n < length s.locations) spot has.inside) in
      let is_value : store_all op (lanes_for all) old sent ≡ value =
      same_from_bits 64 _ _ (store_small op (lanes_for all) sent old (below_all bytes old here.row.most fits)) (below_all bytes value here.row.most small)
      (λ b low. store_bits op (lanes_for all) value sent old (carry_parts l place all value sent (sent_split all (words_of l place index) here.words.parts)) b low
      ∙ ap (λ t. cond t (bit value b) (bit old b)) (all_touched l place index b here)
      ∙ chosen_value (ltb (b / 8) bytes) (bit value b) (bit old b) (past bytes value b small) (past bytes old b fits)) in
      let after = state_after_all s port (map op sent) in
      record {
        answers = run.answers ∙ answers_alike l place all value sent;
        state = same_state after (record s { locations = set s.locations (location s.setup mem index) value; items = counted_on (length (map op sent)) s.items })
            run.setup run.bits run.marks (run.locations ∙ ap (set s.locations (location there mem index)) is_value ∙ ap (λ n. set s.locations n value) (sym spot)) (λ p a. run.beats p a ∙ sym
            (ready.beats p a))
            (run.items ∙ ap (λ n. counted_on n s.items) (sym (length-map sent op)));
        ready = record { setup = run.setup ∙ ready.setup; beats = run.beats; bits = ap length run.bits ∙ ready.bits; marks = ap length run.marks ∙ ready.marks };
      }

  loaded : IsLocationOf c l place mem index false → IsReady c l s → HasLocation s mem index bytes → IsLoad c l s place mem index (ops_of l place index all 0 false) (joined l place index all)
  unfolding ops_of sent_of joined
  loaded at ready has =
      let op = op_of l place all 0 false in
      let here = here_of c l place mem index false at in
      let run = loads_run there port mem index (row_of l place index) op (lanes_for all) sent (flawless c l) (λ w. refl) [] sent s
      (turns c l place index all 0 false (Loc mem index) here at.right (cells_of l place mem index at.item) (all_reached l place index false here)) refl ready.setup (first_stands s port sent
      ready.beats) in
      let words = map (λ w. shown_in (lanes_for all w) old) sent in
      let fits = old_fits ready has in
      let is_value : from_bits 64 (joined_bit all sent words) ≡ old =
      sym (is_from_bits 64 old _ (below_all bytes old here.row.most fits)
      (λ b low. sym (load_bits all sent old (sent_split all (words_of l place index) here.words.parts) b ∙ ap (λ t. t && bit old b) (all_touched l place index b here)
      ∙ shown_value (ltb (b / 8) bytes) (bit old b) (past bytes old b fits)))) in
      let after = state_after_all s port (map op sent) in
      record {
        answers = subst (All (λ a. a.failed ≡ false)) (sym run.answers) (none_failed words);
        value_is = ap (λ answers. from_bits 64 (joined_bit all sent (map (λ (a : Answer). a.word) answers))) run.answers ∙ ap (λ xs. from_bits 64 (joined_bit all sent xs)) (words_back words) ∙
            is_value ∙ ap (slice_index s.locations) (sym (same_place s there mem index ready.setup));
        state = same_state after (record s { items = counted_on (length (map op sent)) s.items }) run.setup run.bits run.marks run.locations (λ p a. run.beats p a ∙ sym (ready.beats p a))
            (run.items ∙ ap (λ n. counted_on n s.items) (sym (length-map sent op)));
        ready = record { setup = run.setup ∙ ready.setup; beats = run.beats; bits = ap length run.bits ∙ ready.bits; marks = ap length run.marks ∙ ready.marks };
      }

pub memory_write_is_store : MemoryWriteIsStore
memory_write_is_store c l s place mem index value at ready has open_to small = stored c l s place mem index value at ready has open_to small

pub memory_read_is_load : MemoryReadIsLoad
memory_read_is_load c l s place mem index at ready has = loaded c l s place mem index at ready has

-- Words of an access beside others that are half done.
use Rattle.std.proofs.Common.{◌≡◌, ℕ, zero, suc, ◌+◌, ◌<◌, ◌≤◌, Bool, true, false, ◌&&◌, cond, eqb, ltb, List, [], ◌∷◌, ◌++◌, length, get_or, map, take, drop, refl, sym, ap, ◌∙◌, subst, arith}
use Rattle.std.proofs.Common.{eqb-true, append_assoc, append-nil}
use Rattle.std.specs.Prelude.{All, slice_index, slice_get}
use Rattle.rl_policy.specs.Bits.{bit}
use Rattle.std.proofs.lemmas.Bool.Decides.{nat_tests}
use Rattle.std.proofs.lemmas.List.{get_or-set_same, get_or-set_other, length-set, length-map, get_or-map, take-map, take_more, drop_more, take-append-drop, take_all}
use Rattle.rl_bus.specs.declared.op.Answer.{Answer}
use Rattle.rl_bus.specs.declared.op.BusOp.{BusOp}
use Rattle.rl_bus.specs.declared.table.Cell.{Cell}
use Rattle.rl_bus.specs.declared.table.Cell.TheVariants as cell
use Rattle.rl_bus.specs.declared.table.Lanes.{Lanes}
use Rattle.rl_bus.specs.declared.table.WordRow.{WordRow}
use Rattle.rl_bus.specs.Setup.{Setup, words_at}
use Rattle.rl_bus.specs.State.{State, state_after, answer_of, beats_on}
use Rattle.rl_model.specs.Rows.{ChipData}
use Rattle.rl_map.specs.declared.word.Word.{Word}
use Rattle.rl_model.specs.declared.rows.Item.TheVariants as item
use Rattle.rl_map.specs.Layout.{LayoutData, Occupies, place_at as row_at, words_of, row_of}
use Rattle.rl_map.specs.Tables.{setup_of}
use Rattle.rl_map.specs.Words.{words_with, no_word}
use Rattle.rl_split.specs.Access.{all_bytes, lanes_for, sent_words, sent_of, op_of, ops_of}
use Rattle.rl_split.specs.Law.{IsPlaceOf, IsReady, no_flaws}
use Rattle.rl_split.specs.Runs.{state_after_all}
use Rattle.rl_split.specs.Seats.{no_op}
use Rattle.rl_split.specs.UnderWay.{IsDevice, whole_ops, whole_op, alone, IsUnderWay, IsTouched, IsNextWord, NoneSentIsUnderWay, NextWordGoesOn, OthersStayUnderWay, AllSentIsWrite, AllSentIsRead}
use Rattle.rl_split.proofs.Accesses.{whole_write_is_step, whole_read_is_step, whole_sends, here_of}
use Rattle.rl_split.proofs.Items.{Meets, bits_written, marks_written, bits_left, bits_shown, write_meets, read_meets, write_answers, read_answers, after_write, after_read}
use Rattle.rl_split.proofs.Sending.{whole_sent, alone_at}
use Rattle.rl_split.proofs.Steps.{flawless}
use Rattle.rl_split.proofs.Turns.{IsTurn, Stands, first_stands, turn_meets, turn_moves, beat_is, count_at, left_over, all_head, all_tail}

-- ---- one operation that meets a word of a register

abbrev bits_after : Bool → Setup → (reg : ℕ) → BusOp → Lanes → (bits marks : ℕ) → ℕ
bits_after true t reg op lanes x m = bits_written t reg op.word lanes x m
bits_after false t reg op lanes x m = bits_left t reg lanes x

abbrev marks_after : Bool → Setup → (reg : ℕ) → Lanes → (marks : ℕ) → ℕ
marks_after true t reg lanes m = marks_written t reg lanes m
marks_after false t reg lanes m = m

abbrev answer_after : Bool → Setup → (reg : ℕ) → Lanes → (bits : ℕ) → Answer
answer_after true t reg lanes x = record { word = 0; failed = false }
answer_after false t reg lanes x = record { word = bits_shown t reg lanes x; failed = false }

-- the register, the beats and the answer
record Met (s next : State) (port reg : ℕ) (write : Bool) (op : BusOp) (lanes : Lanes) (answer : Answer) : Type 0 where
  answer_is : answer ≡ answer_after write s.setup reg lanes (slice_index s.bits reg)
  bits : slice_index next.bits reg ≡ bits_after write s.setup reg op lanes (slice_index s.bits reg) (slice_index s.marks reg)
  marks : slice_index next.marks reg ≡ marks_after write s.setup reg lanes (slice_index s.marks reg)
  beats : (p a : ℕ) → next.beats p a ≡ beats_on s port op p a
  touched : IsTouched s next reg port op.address

apart_beat : (p a port address x y : ℕ) → ((p ≡ port) × (a ≡ address) → ⊥) → cond (eqb p port && eqb a address) x y ≡ y
apart_beat p a port address x y apart = by (eqb p port) (eqb a address) refl refl
  where
    by : (t u : Bool) → eqb p port ≡ t → eqb a address ≡ u → cond (t && u) x y ≡ y
    by true true e f = absurd (apart (eqb-true p port e, eqb-true a address f))
    by true false e f = refl
    by false u e f = refl

met_write : (s : State) (port reg : ℕ) (op : BusOp) (lanes : Lanes) → reg < length s.bits → reg < length s.marks → Met s (after_write s port reg op lanes) port reg true op lanes
    (record { word = 0; failed = false })
met_write s port reg op lanes inside marked = record {
  answer_is = refl;
  bits = get_or-set_same s.bits reg _ 0 inside;
  marks = get_or-set_same s.marks reg _ 0 marked;
  beats = λ p a. refl;
  touched = record {
    setup = refl;
    registers = length-set s.bits reg _;
    marked = length-set s.marks reg _;
    bits = λ r other. get_or-set_other s.bits reg r _ 0 other;
    marks = λ r other. get_or-set_other s.marks reg r _ 0 other;
    locations = refl;
    beats = λ p a apart. apart_beat p a port op.address _ _ apart;
  };
}

met_read : (s : State) (port reg : ℕ) (op : BusOp) (lanes : Lanes) → reg < length s.bits → Met s (after_read s port reg op lanes) port reg false op lanes (record {
  word = bits_shown s.setup reg lanes
      (slice_index s.bits reg);
  failed = false;
})
met_read s port reg op lanes inside = record {
  answer_is = refl;
  bits = get_or-set_same s.bits reg _ 0 inside;
  marks = refl;
  beats = λ p a. refl;
  touched = record {
    setup = refl;
    registers = length-set s.bits reg _;
    marked = refl;
    bits = λ r other. get_or-set_other s.bits reg r _ 0 other;
    marks = λ r other. refl;
    locations = refl;
    beats = λ p a apart. apart_beat p a port op.address _ _ apart;
  };
}

met : (s : State) (port reg : ℕ) (write : Bool) (op : BusOp) (lanes : Lanes) → Meets s port op (cell.Reg reg) lanes → op.write ≡ write → reg < length s.bits → reg < length s.marks →
    Met s (state_after s port op) port reg write op lanes (answer_of s port op)
met s port reg true op lanes m way inside marked =
    subst (λ x. Met s x port reg true op lanes (answer_of s port op)) (sym (write_meets s port reg op lanes m way))
    (subst (Met s (after_write s port reg op lanes) port reg true op lanes) (sym (write_answers s port reg op lanes m way)) (met_write s port reg op lanes inside marked))
met s port reg false op lanes m way inside marked =
    subst (λ x. Met s x port reg false op lanes (answer_of s port op)) (sym (read_meets s port reg op lanes m way))
    (subst (Met s (after_read s port reg op lanes) port reg false op lanes) (sym (read_answers s port reg op lanes m way)) (met_read s port reg op lanes inside))

-- ---- words that are sent alone

-- a device to which some of the words were sent
record Stood (t : Setup) (port : ℕ) (sent done : List Word) (many marked : ℕ) (s : State) : Type 0 where
  setup : s.setup ≡ t
  stands : Stands s port sent done
  bits : length s.bits ≡ many
  marks : length s.marks ≡ marked

abbrev Turn : Setup → (port reg : ℕ) → Bool → (Word → WordRow) → (Word → BusOp) → (Word → Lanes) → List Word → Word → Type 0
Turn t port reg write row op lanes sent w = IsTurn t port write (cell.Reg reg) row op lanes sent w

stood_at : (t : Setup) (port reg : ℕ) (write : Bool) (row : Word → WordRow) (op : Word → BusOp) (lanes : Word → Lanes) (sent : List Word) (b m : ℕ) → t.flaws ≡ no_flaws → reg < b → reg < m →
    (k : ℕ) (done rest : List Word) (s : State) → All (IsTurn t port write (cell.Reg reg) row op lanes sent) rest → sent ≡ done ++ rest → Stood t port sent done b m s → k ≤ length rest →
    Stood t port sent (done ++ take k rest) b m (state_after_all s port (map op (take k rest)))
stood_at t port reg write row op lanes sent b m none inside marked zero done rest s turns is st low =
    subst (λ ws. Stood t port sent ws b m s) (sym (append-nil done)) st
stood_at t port reg write row op lanes sent b m none inside marked (suc k) done [] s turns is st low = absurd (omega arith)
stood_at t port reg write row op lanes sent b m none inside marked (suc k) done (w ∷ rest) s turns is st low =
    let turn : IsTurn t port write (cell.Reg reg) row op lanes sent w = all_head (Turn t port reg write row op lanes sent) w rest turns in
    let meets = turn_meets s t port write (cell.Reg reg) row op lanes sent done rest w st.setup none turn is st.stands in
    let next = state_after s port (op w) in
    let one = met s port reg write (op w) (lanes w) meets turn.write_is (subst (λ n. reg < n) (sym st.bits) inside) (subst (λ n. reg < n) (sym st.marks) marked) in
    subst (λ ws. Stood t port sent ws b m (state_after_all next port (map op (take k rest)))) (append_assoc done (w ∷ []) (take k rest))
    (stood_at t port reg write row op lanes sent b m none inside marked k (done ++ w ∷ []) rest next
    (all_tail (Turn t port reg write row op lanes sent) w rest turns) (is ∙ sym (append_assoc done (w ∷ []) rest))
    (record {
      setup = one.touched.setup ∙ st.setup;
      stands = turn_moves s next t port write (cell.Reg reg) row op lanes sent done rest w st.setup turn is st.stands one.beats;
      bits = one.touched.registers ∙ st.bits;
      marks = one.touched.marked ∙ st.marks;
    }) (omega (arith, low)))

-- ---- the words of a whole access

abbrev chosen_of : LayoutData → ℕ → ℕ
chosen_of l place = all_bytes (row_at l place).bytes

abbrev words_sent : LayoutData → ℕ → List Word
words_sent l place = sent_words (chosen_of l place) (words_of l place 0)

-- what is known of the next word
record IsNext (c : ChipData) (l : LayoutData) (begun : State) (place reg value : ℕ) (write : Bool) (k : ℕ) (w : Word) (rest : List Word) : Type 0 where
  turn : IsTurn (setup_of c l no_flaws) (row_at l place).port write (cell.Reg reg) (row_of l place 0) (op_of l place (chosen_of l place) value write) (lanes_for (chosen_of l place))
      (words_sent l place) w
  split : words_sent l place ≡ take k (words_sent l place) ++ w ∷ rest
  stood : Stood (setup_of c l no_flaws) (row_at l place).port (words_sent l place) (take k (words_sent l place)) (length c.regs) (length c.regs) (alone l begun place value write k)
  op_is : whole_op l place value write k ≡ op_of l place (chosen_of l place) value write w
  number_in : k < length (words_of l place 0)
  word_is : w ≡ get_or (words_of l place 0) k no_word

next_word : (c : ChipData) (l : LayoutData) (begun : State) (place reg value : ℕ) (write : Bool) (k : ℕ) → IsPlaceOf c l place reg write → IsReady c l begun →
    k < length (whole_ops l place value write) →
    IsNext c l begun place reg value write k (get_or (words_sent l place) k no_word) (drop (k + 1) (words_sent l place))
unfolding ops_of sent_of
next_word c l begun place reg value write k at ready low =
    let sent = words_sent l place in
    let op = op_of l place (chosen_of l place) value write in
    let t = setup_of c l no_flaws in
    let port = (row_at l place).port in
    let n = length c.regs in
    let sends = whole_sends c l place reg value write at in
    let inside : k < length sent = subst (λ m. k < m) (length-map sent op) low in
    let all : sent ≡ words_of l place 0 = whole_sent l place 0 (here_of c l place reg write at) in
    let first : Stood t port sent [] n n begun = record { setup = ready.setup; stands = first_stands begun port sent ready.beats; bits = ready.bits; marks = ready.marks } in
    record {
      turn = sends.turns k no_word inside;
      split = sym (take-append-drop k sent) ∙ ap (λ ws. take k sent ++ ws) (drop_more sent k no_word inside);
      stood =
          subst (λ ops. Stood t port sent (take k sent) n n (state_after_all begun port ops)) (sym (take-map op k sent))
          (stood_at t port reg write (row_of l place 0) op (lanes_for (chosen_of l place)) sent n n (flawless c l) sends.inside sends.inside k [] sent begun sends.turns refl first (omega (
            arith,
            inside,
          )));
      op_is = get_or-map op sent k no_word no_op inside;
      number_in = subst (λ ws. k < length ws) all inside;
      word_is = ap (λ ws. get_or ws k no_word) all;
    }

after_append : (s : State) (port : ℕ) (xs ys : List BusOp) → state_after_all s port (xs ++ ys) ≡ state_after_all (state_after_all s port xs) port ys
after_append s port [] ys = refl
after_append s port (x ∷ xs) ys = after_append (state_after s port x) port xs ys

alone_more : (l : LayoutData) (begun : State) (place value : ℕ) (write : Bool) (k : ℕ) → k < length (whole_ops l place value write) →
    alone l begun place value write (k + 1) ≡ state_after (alone l begun place value write k) (row_at l place).port (whole_op l place value write k)
alone_more l begun place value write k low =
    let ops = whole_ops l place value write in
    let port = (row_at l place).port in
    ap (state_after_all begun port) (take_more ops k no_op low) ∙ after_append begun port (take k ops) (get_or ops k no_op ∷ [])

-- ---- beside others

-- a word is met wherever the chip, the layout and the beat of its address are the same
meets_as : (s x : State) (port : ℕ) (op : BusOp) (cell : Cell) (lanes : Lanes) → s.setup ≡ x.setup → s.beats port op.address ≡ x.beats port op.address → Meets x port op cell lanes →
    Meets s port op cell lanes
meets_as s x port op cell lanes same beat m = record {
  flawless = ap (λ (u : Setup). u.flaws) same ∙ m.flawless;
  width = m.width ∙ ap (λ (u : Setup). slice_index u.ports port) (sym same);
  row = m.row;
  found = ap (λ (u : Setup). slice_get (words_at u port op.address op.write) (s.beats port op.address)) same ∙ ap (λ n. slice_get (words_at x.setup port op.address op.write) n) beat ∙ m.found;
  cell_is = m.cell_is;
  lanes_are = m.lanes_are;
}

abbrev beat_by : Bool → (total beat old : ℕ) → ℕ
beat_by hit total beat old = cond hit (cond (ltb (beat + 1) total) (beat + 1) 0) old

beats_same : (s x : State) (port : ℕ) (op : BusOp) (a : ℕ) → s.setup ≡ x.setup → s.beats port op.address ≡ x.beats port op.address → s.beats port a ≡ x.beats port a →
    beats_on s port op port a ≡ beats_on x port op port a
beats_same s x port op a same beat old =
    let hit = eqb port port && eqb a op.address in
    ap (λ (u : Setup). beat_by hit (length (words_at u port op.address op.write)) (s.beats port op.address) (s.beats port a)) same
    ∙ ap (λ n. beat_by hit (length (words_at x.setup port op.address op.write)) n (s.beats port a)) beat
    ∙ ap (beat_by hit (length (words_at x.setup port op.address op.write)) (x.beats port op.address)) old

quiet_answer : (write : Bool) (t : Setup) (reg : ℕ) (lanes : Lanes) (x : ℕ) → (answer_after write t reg lanes x).failed ≡ false
quiet_answer true t reg lanes x = refl
quiet_answer false t reg lanes x = refl

bits_same : (write : Bool) (t u : Setup) (reg : ℕ) (op : BusOp) (lanes : Lanes) (x y m n : ℕ) → t ≡ u → x ≡ y → m ≡ n → bits_after write t reg op lanes x m ≡ bits_after write u reg op lanes y n
bits_same write t u reg op lanes x y m n e f g =
    ap (λ v. bits_after write v reg op lanes x m) e ∙ ap (λ v. bits_after write u reg op lanes v m) f ∙ ap (bits_after write u reg op lanes y) g

-- the next word, in a device that goes on from where the words before it were sent beside others
record IsMet (c : ChipData) (l : LayoutData) (begun s : State) (place reg value : ℕ) (write : Bool) (k : ℕ) (w : Word) (rest : List Word) : Type 0 where
  next : IsNext c l begun place reg value write k w rest
  setup : s.setup ≡ setup_of c l no_flaws
  at : Occupies l (row_at l place).port w.address place 0
  beat : s.beats (row_at l place).port w.address ≡ count_at w.address (take k (words_sent l place))
  here : Met s (state_after s (row_at l place).port (op_of l place (chosen_of l place) value write w)) (row_at l place).port reg write (op_of l place (chosen_of l place) value write w)
      (lanes_for (chosen_of l place) w) (answer_of s (row_at l place).port (op_of l place (chosen_of l place) value write w))
  there : Met (alone l begun place value write k) (state_after (alone l begun place value write k) (row_at l place).port (op_of l place (chosen_of l place) value write w)) (row_at l place).port reg
      write (op_of l place (chosen_of l place) value write w)
      (lanes_for (chosen_of l place) w) (answer_of (alone l begun place value write k) (row_at l place).port (op_of l place (chosen_of l place) value write w))

is_met : (c : ChipData) (l : LayoutData) (begun s : State) (place reg value : ℕ) (write : Bool) (k : ℕ) → IsPlaceOf c l place reg write → IsReady c l begun → IsDevice c l s →
    k < length (whole_ops l place value write) →
    IsUnderWay l begun s place reg value write k → IsMet c l begun s place reg value write k (get_or (words_sent l place) k no_word) (drop (k + 1) (words_sent l place))
is_met c l begun s place reg value write k at ready device low under =
    let sent = words_sent l place in
    let w = get_or sent k no_word in
    let rest = drop (k + 1) sent in
    let port = (row_at l place).port in
    let op = op_of l place (chosen_of l place) value write in
    let lanes = lanes_for (chosen_of l place) in
    let t = setup_of c l no_flaws in
    let x = alone l begun place value write k in
    let n = next_word c l begun place reg value write k at ready low in
    let inside : reg < length c.regs = (whole_sends c l place reg value write at).inside in
    let address : Occupies l port w.address place 0 =
    record { location = (here_of c l place reg write at).location; port_is = refl; number = k; number_in = n.number_in; address_is = ap (λ (v : Word). v.address) (sym n.word_is) } in
    let beat : s.beats port w.address ≡ x.beats port w.address = under.beats w.address address in
    let meets : Meets x port (op w) (cell.Reg reg) (lanes w) = turn_meets x t port write (cell.Reg reg) (row_of l place 0) op lanes sent (take k sent) rest w n.stood.setup (flawless c l) n.turn
    n.split n.stood.stands in
    record {
      next = n;
      setup = device.setup;
      at = address;
      beat = beat ∙ beat_is x port sent (take k sent) rest w n.split n.stood.stands;
      here =
          met s port reg write (op w) (lanes w) (meets_as s x port (op w) (cell.Reg reg) (lanes w) (device.setup ∙ sym n.stood.setup) beat meets) refl
          (subst (λ m. reg < m) (sym device.bits) inside) (subst (λ m. reg < m) (sym device.marks) inside);
      there = met x port reg write (op w) (lanes w) meets refl (subst (λ m. reg < m) (sym n.stood.bits) inside) (subst (λ m. reg < m) (sym n.stood.marks) inside);
    }

pub none_sent_is_under_way : NoneSentIsUnderWay
none_sent_is_under_way l s place reg value write = record { bits = refl; marks = refl; beats = λ a has. refl }

pub next_word_goes_on : NextWordGoesOn
next_word_goes_on c l begun s place reg value write k at ready device low under =
    let w = get_or (words_sent l place) k no_word in
    let port = (row_at l place).port in
    let op = op_of l place (chosen_of l place) value write w in
    let lanes = lanes_for (chosen_of l place) w in
    let x = alone l begun place value write k in
    let m = is_met c l begun s place reg value write k at ready device low under in
    let same : s.setup ≡ x.setup = device.setup ∙ sym m.next.stood.setup in
    let more : alone l begun place value write (k + 1) ≡ state_after x port op = alone_more l begun place value write k low ∙ ap (state_after x port) m.next.op_is in
    subst (IsNextWord l begun s place reg value write k) (sym m.next.op_is) (record {
      answer =
          m.here.answer_is
          ∙ ap (λ t. answer_after write t reg lanes (slice_index s.bits reg)) same
          ∙ ap (answer_after write x.setup reg lanes) under.bits
          ∙ sym m.there.answer_is;
      quiet = ap (λ (a : Answer). a.failed) m.here.answer_is ∙ quiet_answer write s.setup reg lanes (slice_index s.bits reg);
      touched = m.here.touched;
      at = m.at;
      under_way = record {
        bits =
            m.here.bits
            ∙ bits_same write s.setup x.setup reg op lanes (slice_index s.bits reg) (slice_index x.bits reg) (slice_index s.marks reg) (slice_index x.marks reg) same under.bits under.marks
            ∙ sym m.there.bits
            ∙ ap (λ (y : State). slice_index y.bits reg) (sym more);
        marks =
            m.here.marks
            ∙ ap (λ t. marks_after write t reg lanes (slice_index s.marks reg)) same
            ∙ ap (marks_after write x.setup reg lanes) under.marks
            ∙ sym m.there.marks
            ∙ ap (λ (y : State). slice_index y.marks reg) (sym more);
        beats = λ a has.
            m.here.beats port a
            ∙ beats_same s x port op a same (under.beats w.address m.at) (under.beats a has)
            ∙ sym (m.there.beats port a)
            ∙ ap (λ (y : State). y.beats port a) (sym more);
      };
    })

-- ---- others

-- where one word alone stands at the address, its beat stays
lone_beat : (hit : Bool) (total beat old : ℕ) → total ≡ 1 → beat ≡ 0 → (hit ≡ true → old ≡ 0) → beat_by hit total beat old ≡ old
lone_beat true total beat old e f here = let none : ltb (beat + 1) total ≡ false = grind (arith, nat_tests) in ap (λ t. cond t (beat + 1) 0) none ∙ sym (here refl)
lone_beat false total beat old e f here = refl

both_true : (a b : Bool) → (a && b) ≡ true → (a ≡ true) × (b ≡ true)
both_true true b e = (refl, e)
both_true false b e = absurd cc

-- the place of the register isn't that of another one
apart_places : (c : ChipData) (l : LayoutData) (place other reg its_reg : ℕ) (write its_write : Bool) → IsPlaceOf c l place reg write → IsPlaceOf c l other its_reg its_write → (its_reg ≡ reg → ⊥) →
    place ≡ other → ⊥
apart_places c l place other reg its_reg write its_write at its apart same = apart (reg_same (sym its.item ∙ ap (λ p. (row_at l p).item) (sym same) ∙ at.item))
  where
    reg_same : item.Reg its_reg ≡ item.Reg reg → its_reg ≡ reg
    reg_same e = cc

stays : (c : ChipData) (l : LayoutData) (begun s : State) (place reg value : ℕ) (write : Bool) (k : ℕ) (w : Word) (rest : List Word) → IsPlaceOf c l place reg write →
    IsMet c l begun s place reg value write k w rest →
    (other p a : ℕ) → Occupies l p a other 0 → ((row_at l place).fifo ≡ true → p ≡ (row_at l place).port → a ≡ w.address → ⊥) →
    (fifo : Bool) → (row_at l place).fifo ≡ fifo → (state_after s (row_at l place).port (op_of l place (chosen_of l place) value write w)).beats p a ≡ s.beats p a
stays c l begun s place reg value write k w rest at m other p a has owned true is =
    let port = (row_at l place).port in
    m.here.beats p a ∙ apart_beat p a port w.address _ _ (λ t. owned is t.0 t.1)
stays c l begun s place reg value write k w rest at m other p a has owned false is =
    let port = (row_at l place).port in
    let words = words_of l place 0 in
    let op = op_of l place (chosen_of l place) value write w in
    let here = here_of c l place reg write at in
    let lone : words_with w.address (words_sent l place) ≡ w ∷ [] =
    ap (words_with w.address) (whole_sent l place 0 here) ∙ ap (λ (v : Word). words_with v.address words) m.next.word_is ∙ alone_at words k (here.words.alone is) m.next.number_in ∙ ap (λ v. v ∷ [])
    (sym m.next.word_is) in
    let total : length (words_at s.setup port op.address op.write) ≡ 1 =
    ap (λ (u : Setup). length (words_at u port w.address write)) m.setup ∙ ap length m.next.turn.rows ∙ length-map (words_with w.address (words_sent l place)) (row_of l place 0) ∙ ap length lone in
    let done : count_at w.address (take k (words_sent l place)) < count_at w.address (words_sent l place) = left_over (words_sent l place) (take k (words_sent l place)) rest w m.next.split in
    let none : s.beats port w.address ≡ 0 = omega (arith, m.beat, done, ap length lone) in
    m.here.beats p a
    ∙ lone_beat (eqb p port && eqb a w.address) (length (words_at s.setup port op.address op.write)) (s.beats port op.address) (s.beats p a) total none
    (λ e. let both = both_true (eqb p port) (eqb a w.address) e in ap (λ q. s.beats q a) (eqb-true p port both.0) ∙ ap (s.beats port) (eqb-true a w.address both.1) ∙ none)

pub others_stay_under_way : OthersStayUnderWay
others_stay_under_way c l begun s place reg value write k at ready device low under before other its_reg its_value its_write j its apart its_under =
    let w = get_or (words_sent l place) k no_word in
    let port = (row_at l place).port in
    let op = op_of l place (chosen_of l place) value write w in
    let m = is_met c l begun s place reg value write k at ready device low under in
    let next = state_after s port op in
    subst (λ o. IsUnderWay l before (state_after s port o) other its_reg its_value its_write j) (sym m.next.op_is) (record {
      bits = m.here.touched.bits its_reg apart ∙ its_under.bits;
      marks = m.here.touched.marks its_reg apart ∙ its_under.marks;
      beats = λ a has.
          stays c l begun s place reg value write k w (drop (k + 1) (words_sent l place)) at m other (row_at l other).port a has
          (λ fifo same here. apart_places c l place other reg its_reg write its_write at its apart
          (at.layout.owner port w.address place 0 other 0 m.at (subst (λ q. Occupies l q w.address other 0) same (subst (λ b. Occupies l (row_at l other).port b other 0) here has)) fifo).0)
          (row_at l place).fifo refl
          ∙ its_under.beats a has;
    })

-- ---- all words

whole_alone : (l : LayoutData) (begun : State) (place value : ℕ) (write : Bool) → alone l begun place value write (length (whole_ops l place value write)) ≡ state_after_all begun
    (row_at l place).port (whole_ops l place value write)
whole_alone l begun place value write =
    let ops = whole_ops l place value write in
    ap (state_after_all begun (row_at l place).port) (take_all (length ops) ops (omega arith))

pub all_sent_is_write : AllSentIsWrite
all_sent_is_write c l begun s place reg value r at ready holds under =
    let is = whole_write_is_step c l begun place reg value r at ready holds in
    let same = whole_alone l begun place value true in
    record {
      holds = record {
        bits = under.bits ∙ ap (λ (x : State). slice_index x.bits reg) same ∙ is.holds.bits;
        marks = λ b k low e. ap (λ n. bit n b) (under.marks ∙ ap (λ (x : State). slice_index x.marks reg) same) ∙ is.holds.marks b k low e;
      };
      beats = λ a has. under.beats a has ∙ ap (λ (x : State). x.beats (row_at l place).port a) same ∙ is.ready.beats (row_at l place).port a;
    }

pub all_sent_is_read : AllSentIsRead
all_sent_is_read c l begun s place reg r at ready holds under =
    let is = whole_read_is_step c l begun place reg r at ready holds in
    let same = whole_alone l begun place 0 false in
    record {
      holds = record {
        bits = under.bits ∙ ap (λ (x : State). slice_index x.bits reg) same ∙ is.holds.bits;
        marks = λ b k low e. ap (λ n. bit n b) (under.marks ∙ ap (λ (x : State). slice_index x.marks reg) same) ∙ is.holds.marks b k low e;
      };
      beats = λ a has. under.beats a has ∙ ap (λ (x : State). x.beats (row_at l place).port a) same ∙ is.ready.beats (row_at l place).port a;
    }

-- The operations of an access are one step of its register, for any chosen bytes that are those of a set of fields.
use Rattle.std.proofs.Common.{◌≡◌, ℕ, zero, suc, ◌^◌, ◌<◌, Bool, true, false, ◌&&◌, ◌||◌, cond, List, [], ◌∷◌, length, map, set, get_or, Option, Some, None, option_map, refl, sym, ap, ◌∙◌, subst}
use Rattle.std.proofs.Common.{arith, length-set}
use Rattle.std.specs.Prelude.{All, slice_index}
use Rattle.std.proofs.Math.Path.{fun_ext}
use Rattle.std.proofs.lemmas.List.{get_or-set_same, length-map}
use Rattle.rl_policy.specs.Bits.{bit}
use Rattle.rl_policy.specs.Table.{after_write, after_read, value_read, spends_mark}
use Rattle.rl_policy.proofs.BitLemmas.{bit-from_bits, is_from_bits, from_bits-lt, from_bits-same}
use Rattle.rl_model.specs.Rows.{FieldSeen, ChipData}
use Rattle.rl_bus.specs.declared.op.Answer.{Answer}
use Rattle.rl_bus.specs.declared.table.Cell.TheVariants.{Reg}
use Rattle.rl_policy.specs.Access.{bit_written, mark_written, bit_answered, bit_left}
use Rattle.rl_bus.specs.Setup.{Setup}
use Rattle.rl_bus.specs.State.{State}
use Rattle.rl_map.specs.declared.word.Word.{Word}
use Rattle.rl_map.specs.Layout.{LayoutData, place_at as row_at, words_of, row_of}
use Rattle.rl_map.specs.Tables.{setup_of}
use Rattle.rl_split.specs.Access.{lanes_for, sent_words, op_of, ops_of, sent_of, joined}
use Rattle.rl_split.specs.Law.{no_flaws, IsReady, Holds, marked_bit, marks_with, after_wstep, after_rstep, written_answer, IsWrite, IsRead}
use Rattle.rl_split.specs.Runs.{state_after_all, counted_on}
use Rattle.rl_model.specs.Fields.{fields_of, place_at, policy_in}
use Rattle.rl_split.specs.Step.{Register, written_bit, left_bit, shown_bit, wstep, rstep, ranswer}
use Rattle.rl_split.proofs.Carried.{spread_gathered}
use Rattle.rl_split.proofs.Policies.{HasRow, policy_by_place}
use Rattle.rl_split.proofs.ReadRuns.{AreSplit, reads_run, take_all, take_bits, take_small, shown_all, shown_bits, read_answer}
use Rattle.rl_split.proofs.Turns.{IsTurn, first_stands}
use Rattle.rl_split.proofs.WriteRuns.{Held, writes_run, put_all, put_bits, put_marks, put_small, are_touched, CarryInParts, held_at}
use Rattle.rl_model.specs.Chip.{IsSound as IsSoundChip}

-- ---- one bit, by the field that it belongs to

written_by_place : (fields : List FieldSeen) (chosen spent : ℕ → Bool) (o : Option ℕ) (x m w t : Bool) → ((k : ℕ) → o ≡ Some k → t ≡ chosen k) → ((k : ℕ) → o ≡ Some k → m ≡ spent k) →
    bit_written (option_map (policy_in fields) o) x m w t ≡ written_bit fields chosen spent o x w
written_by_place fields chosen spent None x m w t reach mark = refl
written_by_place fields chosen spent (Some k) x m w t reach mark =
    ap (λ t. cond t (after_write (policy_in fields k) x w m) x) (reach k refl) ∙ ap (λ m. cond (chosen k) (after_write (policy_in fields k) x w m) x) (mark k refl)

marked_by_place : (fields : List FieldSeen) (chosen spent : ℕ → Bool) (o : Option ℕ) (m t : Bool) → ((k : ℕ) → o ≡ Some k → t ≡ chosen k) → ((k : ℕ) → o ≡ Some k → m ≡ spent k) →
    mark_written (option_map (policy_in fields) o) m t ≡ marked_bit (λ k. spent k || (chosen k && spends_mark (policy_in fields k))) o m
marked_by_place fields chosen spent None m t reach mark = refl
marked_by_place fields chosen spent (Some k) m t reach mark =
    ap (λ t. m || (t && spends_mark (policy_in fields k))) (reach k refl) ∙ ap (λ m. m || (chosen k && spends_mark (policy_in fields k))) (mark k refl)

left_by_place : (fields : List FieldSeen) (chosen : ℕ → Bool) (o : Option ℕ) (x t : Bool) → ((k : ℕ) → o ≡ Some k → t ≡ chosen k) → bit_left (option_map (policy_in fields) o) x t ≡ left_bit fields
    chosen o x
left_by_place fields chosen None x t reach = refl
left_by_place fields chosen (Some k) x t reach = ap (λ t. cond t (after_read (policy_in fields k) x) x) (reach k refl)

shown_by_place : (fields : List FieldSeen) (chosen : ℕ → Bool) (o : Option ℕ) (x t : Bool) → ((k : ℕ) → o ≡ Some k → t ≡ chosen k) → (t && bit_answered (option_map (policy_in fields) o) x) ≡
    shown_bit fields chosen o x
shown_by_place fields chosen None x t reach = never t
  where
    never : (t : Bool) → (t && false) ≡ false
    never true = refl
    never false = refl
shown_by_place fields chosen (Some k) x t reach = ap (λ t. t && value_read (policy_in fields k) x) (reach k refl)

-- ---- what an access has

-- words that are sent to the register: each is met by its operation, they share no byte, and they have the bits of the chosen fields
pub record Sends (c : ChipData) (l : LayoutData) (place reg bytes value : ℕ) (write : Bool) (chosen : ℕ → Bool) : Type 0 where
  pub sound : IsSoundChip c
  pub row : HasRow c reg
  pub inside : reg < length c.regs
  pub turns : All (IsTurn (setup_of c l no_flaws) (row_at l place).port write (Reg reg) (row_of l place 0) (op_of l place bytes value write) (lanes_for bytes) (sent_words bytes (words_of l place 0)))
      (sent_words bytes (words_of l place 0))
  pub split : AreSplit (lanes_for bytes) (sent_words bytes (words_of l place 0))
  pub reach : (b k : ℕ) → b < 64 → place_at (fields_of c reg) b ≡ Some k → are_touched (lanes_for bytes) (sent_words bytes (words_of l place 0)) b ≡ chosen k
  pub some : 0 < length (sent_words bytes (words_of l place 0))

pub flawless : (c : ChipData) (l : LayoutData) → (setup_of c l no_flaws).flaws ≡ no_flaws
unfolding setup_of
flawless c l = refl

pub carry_parts : (l : LayoutData) (place bytes value : ℕ) (ws : List Word) → AreSplit (lanes_for bytes) ws → CarryInParts (lanes_for bytes) (op_of l place bytes value true) value ws
carry_parts l place bytes value [] split = tt
carry_parts l place bytes value (w ∷ ws) split = ((λ b e. (spread_gathered (lanes_for bytes w) (bit value) b e, split.0 b e)), carry_parts l place bytes value ws split.1)

put_some : (t : Setup) (reg : ℕ) (l : LayoutData) (place bytes value : ℕ) (ws : List Word) (h : Held) → 0 < length ws →
    ((put_all t reg (op_of l place bytes value true) (lanes_for bytes) h ws).bits < 2 ^ 64) × ((put_all t reg (op_of l place bytes value true) (lanes_for bytes) h ws).marks < 2 ^ 64)
put_some t reg l place bytes value [] h some = absurd (omega (arith, some))
put_some t reg l place bytes value (w ∷ ws) h some = put_small t reg (op_of l place bytes value true) (lanes_for bytes) ws _ (from_bits-lt 64 _) (from_bits-lt 64 _)

take_some : (t : Setup) (reg bytes x : ℕ) (ws : List Word) → 0 < length ws → take_all t reg (lanes_for bytes) x ws < 2 ^ 64
take_some t reg bytes x [] some = absurd (omega (arith, some))
take_some t reg bytes x (w ∷ ws) some = take_small t reg (lanes_for bytes) ws _ (from_bits-lt 64 _)

-- ---- states by their fields

abbrev state_of : Setup → List ℕ → List ℕ → List ℕ → (ℕ → ℕ → ℕ) → ℕ → State
state_of setup bits marks locations beats items = record { setup = setup; bits = bits; marks = marks; locations = locations; beats = beats; items = items }

pub same_state : (x y : State) → x.setup ≡ y.setup → x.bits ≡ y.bits → x.marks ≡ y.marks → x.locations ≡ y.locations → ((p a : ℕ) → x.beats p a ≡ y.beats p a) → x.items ≡ y.items → x ≡ y
same_state x y setup bits marks locations beats items =
    let same_beats : x.beats ≡ y.beats = fun_ext (λ p. fun_ext (λ a. beats p a)) in
    ap (λ t. state_of t x.bits x.marks x.locations x.beats x.items) setup
    ∙ ap (λ t. state_of y.setup t x.marks x.locations x.beats x.items) bits
    ∙ ap (λ t. state_of y.setup y.bits t x.locations x.beats x.items) marks
    ∙ ap (λ t. state_of y.setup y.bits y.marks t x.beats x.items) locations
    ∙ ap (λ t. state_of y.setup y.bits y.marks y.locations t x.items) same_beats
    ∙ ap (λ t. state_of y.setup y.bits y.marks y.locations y.beats t) items

-- ---- a write

bit-marks_with : (fields : List FieldSeen) (spent : ℕ → Bool) (m b : ℕ) → b < 64 → bit (marks_with fields spent m) b ≡ marked_bit spent (place_at fields b) (bit m b)
unfolding marks_with
bit-marks_with fields spent m b low = bit-from_bits 64 _ b low

-- the bits and the marks that a register is left with
written : (c : ChipData) (l : LayoutData) (s : State) (place reg bytes value : ℕ) (chosen : ℕ → Bool) (r : Register) → Sends c l place reg bytes value true chosen → Holds c s reg r →
    let after = put_all (setup_of c l no_flaws) reg (op_of l place bytes value true) (lanes_for bytes) (held_at s reg) (sent_words bytes (words_of l place 0)) in
    let stepped = wstep (fields_of c reg) chosen value r in
    (after.bits ≡ stepped.bits) × (after.marks ≡ marks_with (fields_of c reg) stepped.spent (slice_index s.marks reg))
unfolding wstep marks_with
written c l s place reg bytes value chosen r sends holds =
    let t = setup_of c l no_flaws in
    let op = op_of l place bytes value true in
    let sent = sent_words bytes (words_of l place 0) in
    let fields = fields_of c reg in
    let touched = are_touched (lanes_for bytes) sent in
    let m = slice_index s.marks reg in
    let small = put_some t reg l place bytes value sent (held_at s reg) sends.some in (
      is_from_bits 64 _ _ small.0
          (λ b low.
          put_bits t reg op (lanes_for bytes) value sent (held_at s reg) (carry_parts l place bytes value sent sends.split) b low
          ∙ ap (λ o. bit_written o (bit (slice_index s.bits reg) b) (bit m b) (bit value b) (touched b)) (policy_by_place c l reg b sends.sound sends.row)
          ∙ ap (λ x. bit_written (option_map (policy_in fields) (place_at fields b)) (bit x b) (bit m b) (bit value b) (touched b)) holds.bits
          ∙ written_by_place fields chosen r.spent (place_at fields b) (bit r.bits b) (bit m b) (bit value b) (touched b) (λ k e. sends.reach b k low e) (λ k e. holds.marks b k low e)),
      is_from_bits 64 _ _ small.1
          (λ b low.
          put_marks t reg op (lanes_for bytes) sent (held_at s reg) b low
          ∙ ap (λ o. mark_written o (bit m b) (touched b)) (policy_by_place c l reg b sends.sound sends.row)
          ∙ marked_by_place fields chosen r.spent (place_at fields b) (bit m b) (touched b) (λ k e. sends.reach b k low e) (λ k e. holds.marks b k low e)),
    )

holds_stepped : (c : ChipData) (s : State) (reg count : ℕ) (r : Register) → reg < length s.bits → reg < length s.marks → Holds c (after_wstep c s reg r count) reg r
holds_stepped c s reg count r inside marked = record {
  bits = get_or-set_same s.bits reg r.bits 0 inside;
  marks = λ b k low e.
      ap (λ m. bit m b) (get_or-set_same s.marks reg (marks_with (fields_of c reg) r.spent (slice_index s.marks reg)) 0 marked)
      ∙ bit-marks_with (fields_of c reg) r.spent (slice_index s.marks reg) b low
      ∙ ap (λ o. marked_bit r.spent o (bit (slice_index s.marks reg) b)) e;
}

pub answers_alike : (l : LayoutData) (place bytes value : ℕ) (ws : List Word) → map (λ (w : Word). let a : Answer = record { word = 0; failed = false } in a) ws ≡ map written_answer
    (map (op_of l place bytes value true) ws)
answers_alike l place bytes value [] = refl
answers_alike l place bytes value (w ∷ ws) = ap (λ xs. written_answer (op_of l place bytes value true w) ∷ xs) (answers_alike l place bytes value ws)

pub write_is_step : (c : ChipData) (l : LayoutData) (s : State) (place reg bytes value : ℕ) (chosen : ℕ → Bool) (r : Register) → Sends c l place reg bytes value true chosen → IsReady c l s →
    Holds c s reg r →
    IsWrite c l s place reg chosen value r (ops_of l place 0 bytes value true)
unfolding ops_of sent_of
write_is_step c l s place reg bytes value chosen r sends ready holds =
    let t = setup_of c l no_flaws in
    let port = (row_at l place).port in
    let op = op_of l place bytes value true in
    let sent = sent_words bytes (words_of l place 0) in
    let next = wstep (fields_of c reg) chosen value r in
    let inside : reg < length s.bits = omega (arith, ready.bits, sends.inside) in
    let marked : reg < length s.marks = omega (arith, ready.marks, sends.inside) in
    let run = writes_run t port reg (row_of l place 0) op (lanes_for bytes) sent (flawless c l) (λ w. refl) [] sent s sends.turns refl ready.setup (first_stands s port sent ready.beats) inside marked
    in
    let after = state_after_all s port (map op sent) in
    let stepped = after_wstep c s reg next (length (map op sent)) in
    let left = written c l s place reg bytes value chosen r sends holds in
    let is : after ≡ stepped =
    same_state after stepped run.setup
    (run.bits ∙ ap (set s.bits reg) left.0)
    (run.marks ∙ ap (set s.marks reg) left.1)
    run.locations (λ p a. run.beats p a ∙ sym (ready.beats p a))
    (run.items ∙ ap (λ n. counted_on n s.items) (sym (length-map sent op))) in
    record {
      answers = run.answers ∙ answers_alike l place bytes value sent;
      state = is;
      holds = subst (λ x. Holds c x reg next) (sym is) (holds_stepped c s reg (length (map op sent)) next inside marked);
      ready = record {
        setup = run.setup ∙ ready.setup;
        beats = run.beats;
        bits = ap length run.bits ∙ length-set s.bits reg _ ∙ ready.bits;
        marks = ap length run.marks ∙ length-set s.marks reg _ ∙ ready.marks;
      };
    }

-- ---- a read

left_bits : (c : ChipData) (l : LayoutData) (s : State) (place reg bytes : ℕ) (chosen : ℕ → Bool) (r : Register) → Sends c l place reg bytes 0 false chosen → Holds c s reg r →
    take_all (setup_of c l no_flaws) reg (lanes_for bytes) (slice_index s.bits reg) (sent_words bytes (words_of l place 0)) ≡ (rstep (fields_of c reg) chosen r).bits
unfolding rstep
left_bits c l s place reg bytes chosen r sends holds =
    let t = setup_of c l no_flaws in
    let sent = sent_words bytes (words_of l place 0) in
    let fields = fields_of c reg in
    let touched = are_touched (lanes_for bytes) sent in
    is_from_bits 64 _ _ (take_some t reg bytes (slice_index s.bits reg) sent sends.some)
    (λ b low.
    take_bits t reg (lanes_for bytes) sent (slice_index s.bits reg) sends.split b low
    ∙ ap (λ o. bit_left o (bit (slice_index s.bits reg) b) (touched b)) (policy_by_place c l reg b sends.sound sends.row)
    ∙ ap (λ x. bit_left (option_map (policy_in fields) (place_at fields b)) (bit x b) (touched b)) holds.bits
    ∙ left_by_place fields chosen (place_at fields b) (bit r.bits b) (touched b) (λ k e. sends.reach b k low e))

value_shown : (c : ChipData) (l : LayoutData) (s : State) (place reg bytes : ℕ) (chosen : ℕ → Bool) (r : Register) → Sends c l place reg bytes 0 false chosen → Holds c s reg r →
    joined l place 0 bytes (shown_all (setup_of c l no_flaws) reg (lanes_for bytes) (slice_index s.bits reg) (sent_words bytes (words_of l place 0))) ≡ ranswer (fields_of c reg) chosen r
unfolding ranswer joined sent_of
value_shown c l s place reg bytes chosen r sends holds =
    let t = setup_of c l no_flaws in
    let sent = sent_words bytes (words_of l place 0) in
    let fields = fields_of c reg in
    let touched = are_touched (lanes_for bytes) sent in
    from_bits-same 64 _ _
    (λ b low.
    shown_bits t reg bytes sent (slice_index s.bits reg) sends.split b low
    ∙ ap (λ o. touched b && bit_answered o (bit (slice_index s.bits reg) b)) (policy_by_place c l reg b sends.sound sends.row)
    ∙ ap (λ x. touched b && bit_answered (option_map (policy_in fields) (place_at fields b)) (bit x b)) holds.bits
    ∙ shown_by_place fields chosen (place_at fields b) (bit r.bits b) (touched b) (λ k e. sends.reach b k low e))

rstep_spent : (fields : List FieldSeen) (chosen : ℕ → Bool) (r : Register) → (rstep fields chosen r).spent ≡ r.spent
unfolding rstep
rstep_spent fields chosen r = refl

pub none_failed : (words : List ℕ) → All (λ a. a.failed ≡ false) (map read_answer words)
none_failed [] i d l = absurd (omega (arith, l))
none_failed (x ∷ xs) i d l = at i d l (none_failed xs)
  where
    at : (i : ℕ) (d : Answer) → i < suc (length (map read_answer xs)) → All (λ a. a.failed ≡ false) (map read_answer xs) → (get_or (read_answer x ∷ map read_answer xs) i d).failed ≡ false
    at zero d l more = refl
    at (suc i) d l more = more i d (omega (arith, l))

pub words_back : (words : List ℕ) → map (λ (a : Answer). a.word) (map read_answer words) ≡ words
words_back [] = refl
words_back (x ∷ xs) = ap (λ ys. x ∷ ys) (words_back xs)

pub read_is_step : (c : ChipData) (l : LayoutData) (s : State) (place reg bytes : ℕ) (chosen : ℕ → Bool) (r : Register) → Sends c l place reg bytes 0 false chosen → IsReady c l s → Holds c s reg r →
    IsRead c l s place reg chosen r (ops_of l place 0 bytes 0 false) (joined l place 0 bytes)
unfolding ops_of sent_of
read_is_step c l s place reg bytes chosen r sends ready holds =
    let t = setup_of c l no_flaws in
    let port = (row_at l place).port in
    let op = op_of l place bytes 0 false in
    let sent = sent_words bytes (words_of l place 0) in
    let next = rstep (fields_of c reg) chosen r in
    let inside : reg < length s.bits = omega (arith, ready.bits, sends.inside) in
    let run = reads_run t port reg (row_of l place 0) op (lanes_for bytes) sent (flawless c l) (λ w. refl) [] sent s sends.turns refl ready.setup (first_stands s port sent ready.beats) inside in
    let after = state_after_all s port (map op sent) in
    let stepped = after_rstep s reg next (length (map op sent)) in
    let bits : after.bits ≡ set s.bits reg next.bits = run.bits ∙ ap (set s.bits reg) (left_bits c l s place reg bytes chosen r sends holds) in
    let is : after ≡ stepped =
    same_state after stepped run.setup bits run.marks run.locations (λ p a. run.beats p a ∙ sym (ready.beats p a)) (run.items ∙ ap (λ n. counted_on n s.items) (sym (length-map sent op))) in
    record {
      answers = subst (All (λ a. a.failed ≡ false)) (sym run.answers) (none_failed _);
      value_is = ap (λ answers. joined l place 0 bytes (map (λ (a : Answer). a.word) answers)) run.answers ∙ ap (joined l place 0 bytes) (words_back _) ∙ value_shown c l s place reg bytes chosen r
          sends holds;
      state = is;
      holds = record {
        bits = ap (λ xs. slice_index xs reg) bits ∙ get_or-set_same s.bits reg next.bits 0 inside;
        marks = λ b k low e. ap (λ xs. bit (slice_index xs reg) b) run.marks ∙ holds.marks b k low e ∙ ap (λ f. f k) (sym (rstep_spent (fields_of c reg) chosen r));
      };
      ready = record {
        setup = run.setup ∙ ready.setup;
        beats = run.beats;
        bits = ap length run.bits ∙ length-set s.bits reg _ ∙ ready.bits;
        marks = ap length run.marks ∙ ready.marks;
      };
    }

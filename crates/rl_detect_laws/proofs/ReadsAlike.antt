-- The reads of an access over a device with stuck bits and deaf items: no byte is read twice, so they answer as over one without
-- flaws that holds the same. Afterwards other registers stay, and the stuck bits stand as before.
use Rattle.std.proofs.Common.{◌≡◌, ◌⊎◌, ℕ, ◌+◌, ◌*◌, ◌/◌, ◌%◌, ◌<◌, ◌≤◌, Bool, true, false, not, ◌&&◌, ◌||◌, List, [], ◌∷◌, ◌++◌, length, map, All, Option, None, Some, if◌then◌else◌}
use Rattle.std.proofs.Common.{ltb, refl, sym, ap, ◌∙◌, subst, inl, inr, append_assoc, arith}
use Rattle.std.specs.Prelude.{slice_index, slice_set}
use Rattle.std.proofs.lemmas.Bool.{and_parts, false_from_ne_true}
use Rattle.std.proofs.lemmas.Bool.Decides.{nat_tests}
use Rattle.std.proofs.lemmas.List.{get_or-set_same, get_or-set_other, length-set}
use Rattle.rl_policy.proofs.BitLemmas.{bit-from_bits, from_bits-same}
use Rattle.rl_policy.specs.Bits.{bit}
use Rattle.rl_bus.specs.declared.op.Answer.{Answer}
use Rattle.rl_bus.specs.declared.op.BusOp.{BusOp}
use Rattle.rl_bus.specs.declared.table.Cell.TheVariants.{Reg}
use Rattle.rl_bus.specs.declared.table.Lanes.{Lanes}
use Rattle.rl_bus.specs.declared.table.WordRow.{WordRow}
use Rattle.rl_policy.specs.Access.{bit_answered, bit_left}
use Rattle.rl_bus.specs.Setup.{Setup, is_deaf, policy_at, stuck_at, or_else, held}
use Rattle.rl_bus.specs.Spread.{lane_bit, spread_bit, gathered_bit, lanes_in}
use Rattle.rl_bus.specs.State.{State, counted, word_at, is_faulty, after_reading, after_writing, after_word, after_touch, state_after, answer_of}
use Rattle.rl_model.specs.Rows.{ChipData}
use Rattle.rl_map.specs.declared.word.Word.{Word}
use Rattle.rl_map.specs.Layout.{LayoutData, place_at as row_at, words_of, row_of}
use Rattle.rl_map.specs.Partition.{have_bit}
use Rattle.rl_map.specs.Tables.{setup_of}
use Rattle.rl_split.specs.Access.{all_bytes, lanes_for, sent_words, op_of, sent_of, ops_of}
use Rattle.rl_split.specs.Law.{IsPlaceOf, no_flaws}
use Rattle.rl_split.specs.Runs.{answers_of, state_after_all}
use Rattle.rl_split.proofs.Accesses.{here_of, whole_sends}
use Rattle.rl_split.proofs.Chosen.{sent_touches}
use Rattle.rl_split.proofs.Compose.{none_left}
use Rattle.rl_split.proofs.Items.{bits_left, bits_shown, read_meets, read_answers}
use Rattle.rl_split.proofs.ReadRuns.{AreSplit, shown_all, read_answer, reads_run}
use Rattle.rl_split.proofs.Sending.{lane_there}
use Rattle.rl_split.proofs.Steps.{flawless}
use Rattle.rl_split.proofs.Turns.{IsTurn, Stands, first_stands, turn_meets, turn_moves, all_head, all_tail}
use Rattle.rl_split.proofs.WriteRuns.{are_touched}
use Rattle.rl_access.proofs.Setups.{setup-state_after}
use Rattle.rl_detect_laws.proofs.Failing.{or_right}
use Rattle.rl_detect_laws.proofs.StuckBit.{unstuck, plain, HoldsStuck, held_bit, answer_plain}
use Rattle.rl_detect_laws.proofs.Twins.{AreAlike, goes_alike}

-- ---- one item

twice : (o : Option Bool) (x : Bool) → or_else o (or_else o x) ≡ or_else o x
twice None x = refl
twice (Some v) x = refl

-- the bits of all registers after a read of these lanes of one
abbrev read_from : State → (n : ℕ) → (ℕ → Bool) → List ℕ
read_from d n lanes = slice_set d.bits n (held d.setup n (λ j. bit_left (policy_at d.setup n j) (bit (slice_index d.bits n) j) (lanes j)))

either_bits : (f : Bool) (x y : State) (a b : List ℕ) → x.bits ≡ a → y.bits ≡ b → ((if f then x else y).bits ≡ a) ⊎ ((if f then x else y).bits ≡ b)
either_bits true x y a b h k = inl h
either_bits false x y a b h k = inr k

either_marks : (f : Bool) (x y : State) (a : List ℕ) → x.marks ≡ a → y.marks ≡ a → (if f then x else y).marks ≡ a
either_marks true x y a h k = h
either_marks false x y a h k = k

word_read : (d : State) (op : BusOp) (n : ℕ) (w : WordRow) → op.write ≡ false → w.cell ≡ Reg n
    → after_word d op w ≡ after_reading d (lane_bit (lanes_in w.lanes op.lanes)) (Reg n)
word_read d op n w reads cell =
    let lanes = lane_bit (lanes_in w.lanes op.lanes) in
    ap (λ b. if not b then after_reading d lanes w.cell else if is_deaf d.setup w.cell then d else after_writing d (spread_bit (lanes_in w.lanes op.lanes) (bit op.word)) lanes w.cell) reads
    ∙ ap (after_reading d lanes) cell

touch_read : (d : State) (port : ℕ) (op : BusOp) (n : ℕ) (w : WordRow) → op.write ≡ false → w.cell ≡ Reg n
    → ((after_touch d port op (Some w)).bits ≡ d.bits) ⊎ ((after_touch d port op (Some w)).bits ≡ read_from d n (lane_bit (lanes_in w.lanes op.lanes)))
touch_read d port op n w reads cell = either_bits (is_faulty d port op) _ _ _ _ refl (ap (λ (x : State). x.bits) (word_read d op n w reads cell))

touch_marks : (d : State) (port : ℕ) (op : BusOp) (n : ℕ) (w : WordRow) → op.write ≡ false → w.cell ≡ Reg n → (after_touch d port op (Some w)).marks ≡ d.marks
touch_marks d port op n w reads cell = either_marks (is_faulty d port op) _ _ _ refl (ap (λ (x : State). x.marks) (word_read d op n w reads cell))

-- what a read of a word of the register leaves
record IsLeft (d next : State) (n : ℕ) (lanes : ℕ → Bool) : Type 0 where
  setup : next.setup ≡ d.setup
  bits : length next.bits ≡ length d.bits
  marks : next.marks ≡ d.marks
  others : (r : ℕ) → (r ≡ n → ⊥) → slice_index next.bits r ≡ slice_index d.bits r
  same : (j : ℕ) → j < 64 → lanes j ≡ false → bit (slice_index next.bits n) j ≡ bit (slice_index d.bits n) j
  stuck : HoldsStuck d.setup n (slice_index next.bits n)

left_in : (d next : State) (n : ℕ) (lanes : ℕ → Bool) → next.setup ≡ d.setup → next.marks ≡ d.marks → n < length d.bits → HoldsStuck d.setup n (slice_index d.bits n)
    → (next.bits ≡ d.bits) ⊎ (next.bits ≡ read_from d n lanes) → IsLeft d next n lanes
left_in d next n lanes setup marks inside stuck (inl e) = record {
  setup = setup;
  bits = ap length e;
  marks = marks;
  others = λ r other. ap (λ xs. slice_index xs r) e;
  same = λ j low off. ap (λ xs. bit (slice_index xs n) j) e;
  stuck = subst (λ xs. HoldsStuck d.setup n (slice_index xs n)) (sym e) stuck;
}
left_in d next n lanes setup marks inside stuck (inr e) =
    let x = slice_index d.bits n in
    let f = λ (j : ℕ). bit_left (policy_at d.setup n j) (bit x j) (lanes j) in
    let now : slice_index next.bits n ≡ held d.setup n f = ap (λ xs. slice_index xs n) e ∙ get_or-set_same d.bits n (held d.setup n f) 0 inside in
    let is = λ (j : ℕ) (low : j < 64). ap (λ q. bit q j) now ∙ held_bit d.setup n j f low in
    record {
      setup = setup;
      bits = ap length e ∙ length-set d.bits n _;
      marks = marks;
      others = λ r other. ap (λ xs. slice_index xs r) e ∙ get_or-set_other d.bits n r _ 0 other;
      same = λ j low off.
          is j low ∙ ap (or_else (stuck_at d.setup n j)) (ap (bit_left (policy_at d.setup n j) (bit x j)) off ∙ sym (none_left (policy_at d.setup n j) (bit x j))) ∙ stuck j low;
      stuck = λ j low. ap (or_else (stuck_at d.setup n j)) (is j low) ∙ twice (stuck_at d.setup n j) (f j) ∙ sym (is j low);
    }

read_item : (d : State) (port : ℕ) (op : BusOp) (n : ℕ) (w : WordRow) (lanes : Lanes) → op.write ≡ false → word_at d port op ≡ Some w → w.cell ≡ Reg n
    → lanes_in w.lanes op.lanes ≡ lanes → n < length d.bits → HoldsStuck d.setup n (slice_index d.bits n) → IsLeft d (state_after d port op) n (lane_bit lanes)
unfolding state_after
read_item d port op n w lanes reads found cell same inside stuck =
    let after = after_touch (counted d) port op in
    left_in d _ n (lane_bit lanes) (setup-state_after d port op)
    (ap (λ o. (after o).marks) found ∙ touch_marks (counted d) port op n w reads cell) inside stuck
    (subst (λ (o : Option WordRow). ((after o).bits ≡ d.bits) ⊎ ((after o).bits ≡ read_from d n (lane_bit lanes))) (sym found)
    (subst (λ (s : Lanes). ((after (Some w)).bits ≡ d.bits) ⊎ ((after (Some w)).bits ≡ read_from d n (lane_bit s))) same (touch_read (counted d) port op n w reads cell)))

-- ---- what a word shows: the bits in its lanes

lane_byte : (byte k : ℕ) → (8 * byte + k % 8) / 8 ≡ byte
lane_byte byte k = omega arith

shown_like : (t : Setup) (n : ℕ) (lanes : Lanes) (x y : ℕ) → ((j : ℕ) → lane_bit lanes j ≡ true → bit x j ≡ bit y j) → bits_shown t n lanes x ≡ bits_shown t n lanes y
shown_like t n lanes x y like = from_bits-same 64 _ _ (λ k low. by k low (bit lanes.enabled (k / 8)) refl)
  where
    shows : ℕ → ℕ → Bool
    shows z b = bit_answered (policy_at t n b) (bit z b)

    by : (k : ℕ) → k < 64 → (e : Bool) → bit lanes.enabled (k / 8) ≡ e → gathered_bit lanes (shows x) k ≡ gathered_bit lanes (shows y) k
    by k low false off =
        ap (λ b. b && shows x (8 * slice_index lanes.bytes (k / 8) + k % 8)) off ∙ sym (ap (λ b. b && shows y (8 * slice_index lanes.bytes (k / 8) + k % 8)) off)
    by k low true on =
        let byte = slice_index lanes.bytes (k / 8) in
        let j = 8 * byte + k % 8 in
        let here : lane_bit lanes j ≡ true = lane_there 8 (k / 8) lanes (j / 8) (omega (arith, low)) on (sym (lane_byte byte k)) in
        ap (λ b. bit lanes.enabled (k / 8) && bit_answered (policy_at t n j) b) (like j here)

-- ---- items one after another

-- these lie in 64 bits, and are the same in both
abbrev AreLow : (Word → Lanes) → List Word → Type 0
AreLow lanes ws = (j : ℕ) → are_touched lanes ws j ≡ true → j < 64

abbrev AreLike : (Word → Lanes) → List Word → (x y : ℕ) → Type 0
AreLike lanes ws x y = (j : ℕ) → are_touched lanes ws j ≡ true → bit x j ≡ bit y j

-- what the reads answer, and what they leave
pub record IsReadOver (d : State) (port n : ℕ) (ops : List BusOp) (words : List ℕ) : Type 0 where
  pub answers : answers_of d port ops ≡ map read_answer words
  pub bits : length (state_after_all d port ops).bits ≡ length d.bits
  pub marks : (state_after_all d port ops).marks ≡ d.marks
  pub others : (r : ℕ) → (r ≡ n → ⊥) → slice_index (state_after_all d port ops).bits r ≡ slice_index d.bits r
  pub stuck : HoldsStuck d.setup n (slice_index (state_after_all d port ops).bits n)

abbrev Turn : Setup → ℕ → ℕ → (Word → WordRow) → (Word → BusOp) → (Word → Lanes) → List Word → Word → Type 0
Turn t port n row op lanes sent w = IsTurn t port false (Reg n) row op lanes sent w

read_over : (t : Setup) (port n : ℕ) (row : Word → WordRow) (op : Word → BusOp) (lanes : Word → Lanes) (sent : List Word) → t.flaws ≡ no_flaws
    → ((w : Word) → (op w).write ≡ false) → (done rest : List Word) (d : State) (x : ℕ) → All (IsTurn t port false (Reg n) row op lanes sent) rest
    → sent ≡ done ++ rest → unstuck d.setup ≡ t → Stands (plain d) port sent done → n < length d.bits → AreSplit lanes rest → AreLow lanes rest
    → HoldsStuck d.setup n (slice_index d.bits n) → AreLike lanes rest (slice_index d.bits n) x → IsReadOver d port n (map op rest) (shown_all t n lanes x rest)
read_over t port n row op lanes sent unflawed read done [] d x turns is same stands inside split low stuck like =
    record { answers = refl; bits = refl; marks = refl; others = λ r other. refl; stuck = stuck }
read_over t port n row op lanes sent unflawed read done (w ∷ rest) d x turns is same stands inside split low stuck like =
    let turn = all_head (Turn t port n row op lanes sent) w rest turns in
    let meets = turn_meets (plain d) t port false (Reg n) row op lanes sent done rest w same unflawed turn is stands in
    let next = state_after d port (op w) in
    let item = read_item d port (op w) n meets.row (lanes w) (read w) meets.found meets.cell_is meets.lanes_are inside stuck in
    let alike : AreAlike d (plain d) = record { deaf = []; stuck = []; setup = refl; beats = refl; items = refl } in
    let gone = goes_alike d (plain d) port (op w) alike in
    let met = read_meets (plain d) port n (op w) (lanes w) meets (read w) in
    let more = turn_moves (plain d) (plain next) t port false (Reg n) row op lanes sent done rest w same turn is stands
    (λ p a. ap (λ (f : ℕ → ℕ → ℕ). f p a) (sym gone.beats) ∙ ap (λ (s : State). s.beats p a) met) in
    let y = bits_left t n (lanes w) x in
    let answer : answer_of d port (op w) ≡ read_answer (bits_shown t n (lanes w) x) =
    sym (answer_plain d port (op w)) ∙ read_answers (plain d) port n (op w) (lanes w) meets (read w)
    ∙ ap (λ (u : Setup). read_answer (bits_shown u n (lanes w) (slice_index d.bits n))) same
    ∙ ap read_answer (shown_like t n (lanes w) (slice_index d.bits n) x (λ j on. like j (ap (λ b. b || are_touched lanes rest j) on))) in
    let further = λ (j : ℕ) (on : are_touched lanes rest j ≡ true). or_right (lane_bit (lanes w) j) (are_touched lanes rest j) on in
    let off = λ (j : ℕ) (on : are_touched lanes rest j ≡ true).
    false_from_ne_true (lane_bit (lanes w) j) (λ yes. let both : true ≡ false = sym on ∙ split.0 j yes in absurd (cc)) in
    let rest_like : AreLike lanes rest (slice_index next.bits n) y = λ j on.
    item.same j (low j (further j on)) (off j on) ∙ like j (further j on) ∙ none_left (policy_at t n j) (bit x j)
    ∙ ap (bit_left (policy_at t n j) (bit x j)) (sym (off j on)) ∙ sym (bit-from_bits 64 (λ b. bit_left (policy_at t n b) (bit x b) (lane_bit (lanes w) b)) j (low j (further j on))) in
    let run = read_over t port n row op lanes sent unflawed read (done ++ w ∷ []) rest next y (all_tail (Turn t port n row op lanes sent) w rest turns)
    (is ∙ sym (append_assoc done (w ∷ []) rest)) (ap unstuck item.setup ∙ same) more (subst (λ k. n < k) (sym item.bits) inside) split.1 (λ j on. low j (further j on))
    (subst (λ (u : Setup). HoldsStuck u n (slice_index next.bits n)) (sym item.setup) item.stuck) rest_like in
    record {
      answers = ap (λ (a : Answer). a ∷ answers_of next port (map op rest)) answer ∙ ap (λ xs. read_answer (bits_shown t n (lanes w) x) ∷ xs) run.answers;
      bits = run.bits ∙ item.bits;
      marks = run.marks ∙ item.marks;
      others = λ r other. run.others r other ∙ item.others r other;
      stuck = subst (λ (u : Setup). HoldsStuck u n (slice_index (state_after_all next port (map op rest)).bits n)) item.setup run.stuck;
    }

-- ---- an access

pub record IsReadAlike (d : State) (port n : ℕ) (ops : List BusOp) : Type 0 where
  pub words : List ℕ
  pub over : IsReadOver d port n ops words
  pub alike : answers_of (plain d) port ops ≡ answers_of d port ops

below_64 : (bytes j : ℕ) → bytes ≤ 8 → ltb (j / 8) bytes ≡ true → j < 64
below_64 bytes j most e = grind (arith, nat_tests)

pub read_alike : (c : ChipData) (l : LayoutData) (d : State) (place n : ℕ) → IsPlaceOf c l place n false → unstuck d.setup ≡ setup_of c l no_flaws
    → ((p a : ℕ) → d.beats p a ≡ 0) → n < length d.bits → HoldsStuck d.setup n (slice_index d.bits n)
    → IsReadAlike d (row_at l place).port n (ops_of l place 0 (all_bytes (row_at l place).bytes) 0 false)
unfolding ops_of sent_of
read_alike c l d place n at same beats inside stuck =
    let t = setup_of c l no_flaws in
    let port = (row_at l place).port in
    let bytes = all_bytes (row_at l place).bytes in
    let words = words_of l place 0 in
    let sent = sent_words bytes words in
    let op = op_of l place bytes 0 false in
    let sends = whole_sends c l place n 0 false at in
    let here = here_of c l place n false at in
    let low : AreLow (lanes_for bytes) sent = λ j on.
    below_64 (row_at l place).bytes j here.row.most
    (sym (here.words.reach j) ∙ (and_parts (have_bit words j) (bit bytes (j / 8)) (sym (sent_touches bytes words j) ∙ on)).0) in
    let x = slice_index d.bits n in
    let stands = first_stands (plain d) port sent beats in
    let over = read_over t port n (row_of l place 0) op (lanes_for bytes) sent (flawless c l) (λ w. refl) [] sent d x sends.turns refl same stands inside sends.split low stuck (λ j on. refl) in
    let run = reads_run t port n (row_of l place 0) op (lanes_for bytes) sent (flawless c l) (λ w. refl) [] sent (plain d) sends.turns refl same stands inside in
    record { words = _; over = over; alike = run.answers ∙ sym over.answers }

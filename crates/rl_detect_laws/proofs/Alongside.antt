-- Accesses to a register over two devices, of which one has another policy for one field: a write leaves the same in both, and
-- a read of the same bits answers the same.
use Rattle.std.proofs.Common.{◌≡◌, ℕ, ◌+◌, ◌*◌, ◌/◌, ◌%◌, ◌^◌, ◌<◌, ◌≤◌, Bool, true, false, ◌&&◌, ◌||◌, List, [], ◌∷◌, length, map, All, Option, Some}
use Rattle.std.proofs.Common.{set, ltb, refl, sym, ap, ◌∙◌, subst, inl, inr, arith}
use Rattle.std.specs.Prelude.{slice_index}
use Rattle.std.proofs.lemmas.Bool.{and_parts, cases_Bool, false_from_ne_true}
use Rattle.std.proofs.lemmas.Bool.Decides.{nat_tests}
use Rattle.std.proofs.lemmas.List.Elements.{All-map}
use Rattle.rl_policy.proofs.BitLemmas.{bit-from_bits, from_bits-lt, from_bits-same, is_from_bits}
use Rattle.rl_policy.specs.Access.{bit_written, mark_written, bit_answered, bit_left}
use Rattle.rl_policy.specs.Bits.{bit}
use Rattle.rl_policy.specs.declared.policy.Policy.{Policy}
use Rattle.rl_bus.specs.declared.op.Answer.{Answer}
use Rattle.rl_bus.specs.declared.op.BusOp.{BusOp}
use Rattle.rl_bus.specs.declared.table.Cell.{Cell}
use Rattle.rl_bus.specs.declared.table.Lanes.{Lanes}
use Rattle.rl_bus.specs.declared.table.WordRow.{WordRow}
use Rattle.rl_bus.specs.Setup.{Setup, policy_at}
use Rattle.rl_bus.specs.Spread.{gathered_bit, lane_bit}
use Rattle.rl_bus.specs.State.{State, state_after}
use Rattle.rl_model.specs.Rows.{ChipData}
use Rattle.rl_model.specs.Fields.{field_of}
use Rattle.rl_map.specs.declared.word.Word.{Word}
use Rattle.rl_map.specs.Layout.{LayoutData, place_at as row_at, words_of, row_of}
use Rattle.rl_map.specs.Partition.{have_bit}
use Rattle.rl_map.specs.Tables.{setup_of}
use Rattle.rl_split.specs.Access.{all_bytes, lanes_for, sent_words, op_of, sent_of, ops_of}
use Rattle.rl_split.specs.Law.{IsPlaceOf, IsReady, no_flaws}
use Rattle.rl_split.specs.Runs.{answers_of, state_after_all, counted_on}
use Rattle.rl_split.proofs.Accesses.{here_of, whole_sends}
use Rattle.rl_split.proofs.Chosen.{sent_touches}
use Rattle.rl_split.proofs.Compose.{none_left}
use Rattle.rl_split.proofs.Items.{bits_left, bits_shown}
use Rattle.rl_split.proofs.ReadRuns.{AreSplit, reads_run, read_answer, shown_all, take_all, take_bits, take_small}
use Rattle.rl_split.proofs.Sending.{lane_there}
use Rattle.rl_split.proofs.Steps.{carry_parts, flawless, none_failed}
use Rattle.rl_split.proofs.Turns.{IsTurn, first_stands}
use Rattle.rl_split.proofs.WriteRuns.{Held, writes_run, put_all, put_bits, put_marks, put_small, are_touched, held_at, written_answer}
use Rattle.rl_access.proofs.Setups.{setup-state_after}
use Rattle.rl_detect_laws.specs.Policies.{other_policy, AreWrittenAlike}
use Rattle.rl_detect_laws.proofs.Failing.{or_right}
use Rattle.rl_detect_laws.proofs.OtherPolicy.{with_policy, as_with, is_own, AreBeside, policies_beside, own_bit, all_go, all_answer}

-- ---- one bit

module _ (p q : Policy) (own : Bool) (a b : Option Policy) (beside : AreBeside p q own a b) (alike : AreWrittenAlike p q) where
  written_beside : (x y m v t : Bool) → (own ≡ false → x ≡ y) → (own ≡ true → t ≡ true) → bit_written a x m v t ≡ bit_written b y m v t
  written_beside x y m v t same touched =
      elim (cases_Bool own) [
        | inl on ↦
            ap (λ o. bit_written o x m v t) (beside.here on).0 ∙ ap (bit_written (Some p) x m v) (touched on) ∙ alike.writes x y v m
            ∙ ap (bit_written (Some q) y m v) (sym (touched on)) ∙ ap (λ o. bit_written o y m v t) (sym (beside.here on).1)
        | inr off ↦ ap (λ o. bit_written o x m v t) (beside.others off) ∙ ap (λ n. bit_written b n m v t) (same off)
      ]

  marked_beside : (m t : Bool) → mark_written a m t ≡ mark_written b m t
  marked_beside m t =
      elim (cases_Bool own) [
        | inl on ↦ ap (λ o. mark_written o m t) (beside.here on).0 ∙ ap (λ s. m || (t && s)) alike.marks ∙ ap (λ o. mark_written o m t) (sym (beside.here on).1)
        | inr off ↦ ap (λ o. mark_written o m t) (beside.others off)
      ]

  answered_beside : (x : Bool) → bit_answered a x ≡ bit_answered b x
  answered_beside x =
      elim (cases_Bool own) [
        | inl on ↦ ap (λ o. bit_answered o x) (beside.here on).0 ∙ alike.reads x ∙ ap (λ o. bit_answered o x) (sym (beside.here on).1)
        | inr off ↦ ap (λ o. bit_answered o x) (beside.others off)
      ]

-- ---- numbers

pub same_bits : (x y : ℕ) → x < 2 ^ 64 → y < 2 ^ 64 → ((b : ℕ) → b < 64 → bit x b ≡ bit y b) → x ≡ y
same_bits x y small low same = is_from_bits 64 x (bit y) small same ∙ sym (is_from_bits 64 y (bit y) low (λ b within. refl))

put_some : (t : Setup) (reg : ℕ) (op : Word → BusOp) (lanes : Word → Lanes) (ws : List Word) (h : Held) → 0 < length ws
    → ((put_all t reg op lanes h ws).bits < 2 ^ 64) × ((put_all t reg op lanes h ws).marks < 2 ^ 64)
put_some t reg op lanes [] h some = absurd (omega (arith, some))
put_some t reg op lanes (w ∷ ws) h some = put_small t reg op lanes ws _ (from_bits-lt 64 _) (from_bits-lt 64 _)

take_some : (t : Setup) (reg : ℕ) (lanes : Word → Lanes) (x : ℕ) (ws : List Word) → 0 < length ws → take_all t reg lanes x ws < 2 ^ 64
take_some t reg lanes x [] some = absurd (omega (arith, some))
take_some t reg lanes x (w ∷ ws) some = take_small t reg lanes ws _ (from_bits-lt 64 _)

-- ---- what words show: the bits in their lanes

lane_byte : (byte k : ℕ) → (8 * byte + k % 8) / 8 ≡ byte
lane_byte byte k = omega arith

-- a read by the two answers the same
abbrev AnswerAlike : Setup → Setup → ℕ → Type 0
AnswerAlike t u n = (b : ℕ) (x : Bool) → bit_answered (policy_at t n b) x ≡ bit_answered (policy_at u n b) x

shown_like : (t u : Setup) (n : ℕ) (lanes : Lanes) (x y : ℕ) → AnswerAlike t u n → ((j : ℕ) → lane_bit lanes j ≡ true → bit x j ≡ bit y j)
    → bits_shown t n lanes x ≡ bits_shown u n lanes y
shown_like t u n lanes x y alike like = from_bits-same 64 _ _ (λ k low. by k low (bit lanes.enabled (k / 8)) refl)
  where
    shows : Setup → ℕ → ℕ → Bool
    shows s z b = bit_answered (policy_at s n b) (bit z b)

    by : (k : ℕ) → k < 64 → (e : Bool) → bit lanes.enabled (k / 8) ≡ e → gathered_bit lanes (shows t x) k ≡ gathered_bit lanes (shows u y) k
    by k low false off =
        ap (λ b. b && shows t x (8 * slice_index lanes.bytes (k / 8) + k % 8)) off
        ∙ sym (ap (λ b. b && shows u y (8 * slice_index lanes.bytes (k / 8) + k % 8)) off)
    by k low true on =
        let byte = slice_index lanes.bytes (k / 8) in
        let j = 8 * byte + k % 8 in
        let here : lane_bit lanes j ≡ true = lane_there 8 (k / 8) lanes (j / 8) (omega (arith, low)) on (sym (lane_byte byte k)) in
        ap (λ b. bit lanes.enabled (k / 8) && bit_answered (policy_at t n j) b) (like j here)
        ∙ ap (λ b. bit lanes.enabled (k / 8) && b) (alike j (bit y j))

-- bits that words have lie in 64
abbrev AreLow : (Word → Lanes) → List Word → Type 0
AreLow lanes ws = (j : ℕ) → are_touched lanes ws j ≡ true → j < 64

all_shown : (t u : Setup) (n : ℕ) (lanes : Word → Lanes) (ws : List Word) (x y : ℕ) → AnswerAlike t u n → AreSplit lanes ws → AreLow lanes ws
    → ((j : ℕ) → are_touched lanes ws j ≡ true → bit x j ≡ bit y j) → shown_all t n lanes x ws ≡ shown_all u n lanes y ws
all_shown t u n lanes [] x y alike split low like = refl
all_shown t u n lanes (w ∷ ws) x y alike split low like =
    let later = λ (j : ℕ) (on : are_touched lanes ws j ≡ true). or_right (lane_bit (lanes w) j) (are_touched lanes ws j) on in
    let off = λ (j : ℕ) (on : are_touched lanes ws j ≡ true).
    false_from_ne_true (lane_bit (lanes w) j) (λ yes. let both : true ≡ false = sym on ∙ split.0 j yes in absurd (cc)) in
    let stays = λ (s : Setup) (z j : ℕ) (on : are_touched lanes ws j ≡ true).
    bit-from_bits 64 (λ b. bit_left (policy_at s n b) (bit z b) (lane_bit (lanes w) b)) j (low j (later j on))
    ∙ ap (bit_left (policy_at s n j) (bit z j)) (off j on) ∙ sym (none_left (policy_at s n j) (bit z j)) in
    ap (λ z. z ∷ shown_all t n lanes (bits_left t n (lanes w) x) ws)
    (shown_like t u n (lanes w) x y alike (λ j on. like j (ap (λ b. b || are_touched lanes ws j) on)))
    ∙ ap (λ zs. bits_shown u n (lanes w) y ∷ zs)
    (all_shown t u n lanes ws (bits_left t n (lanes w) x) (bits_left u n (lanes w) y) alike split.1 (λ j on. low j (later j on))
    (λ j on. stays t x j on ∙ like j (later j on) ∙ sym (stays u y j on)))

-- ---- an access

below_64 : (bytes j : ℕ) → bytes ≤ 8 → ltb (j / 8) bytes ≡ true → j < 64
below_64 bytes j most e = grind (arith, nat_tests)

pub setup_all : (ops : List BusOp) (d : State) (port : ℕ) → (state_after_all d port ops).setup ≡ d.setup
setup_all [] d port = refl
setup_all (o ∷ ops) d port = setup_all ops (state_after d port o) port ∙ setup-state_after d port o

-- the words are met by their operations in a device that is described with another policy too
turn_with : (c : ChipData) (l : LayoutData) (field : ℕ) (q : Policy) (port : ℕ) (write : Bool) (cell : Cell) (row : Word → WordRow) (op : Word → BusOp) (lanes : Word → Lanes)
    (sent : List Word) (w : Word) → IsTurn (setup_of c l no_flaws) port write cell row op lanes sent w
    → IsTurn (with_policy c l field q) port write cell row op lanes sent w
turn_with c l field q port write cell row op lanes sent w h = record {
  address = h.address;
  write_is = h.write_is;
  width = h.width;
  rows = h.rows;
  cell_is = h.cell_is;
  lanes_are = h.lanes_are;
}

-- two devices, one with another policy for the field, at the same marks, locations and items, with beats of 0
pub record ArePair (c : ChipData) (l : LayoutData) (field : ℕ) (q : Policy) (d e : State) : Type 0 where
  pub setup : d.setup ≡ setup_of c l (other_policy field q)
  pub beats : (port address : ℕ) → d.beats port address ≡ 0
  pub marks : d.marks ≡ e.marks
  pub locations : d.locations ≡ e.locations
  pub items : d.items ≡ e.items

-- what an access to a register leaves of both: these bits in it, and all else as it was
pub record AreAccessed (c : ChipData) (l : LayoutData) (field : ℕ) (q : Policy) (d e : State) (port n : ℕ) (ops : List BusOp) : Type 0 where
  pub answers : answers_of e port ops ≡ answers_of d port ops
  pub fine : All (λ a. a.failed ≡ false) (answers_of d port ops)
  pub pair : ArePair c l field q (state_after_all d port ops) (state_after_all e port ops)
  pub held : ℕ
  pub held_is : (state_after_all d port ops).bits ≡ set d.bits n held
  pub other : ℕ
  pub other_is : (state_after_all e port ops).bits ≡ set e.bits n other
  -- the same but for the field's own bits
  pub small : (held < 2 ^ 64) × (other < 2 ^ 64)
  pub like : (b : ℕ) → b < 64 → is_own c l field n b ≡ false → bit held b ≡ bit other b

module _ (c : ChipData) (l : LayoutData) (field : ℕ) (q : Policy) (place n : ℕ) (d e : State) (inside : field < length c.fields)
    (alike : AreWrittenAlike (field_of c field).shape.policy q) (pair : ArePair c l field q d e) (ready : IsReady c l e)
    (many : length d.bits ≡ length e.bits) where
  abbrev t : Setup
  t = setup_of c l no_flaws

  abbrev u : Setup
  u = with_policy c l field q

  abbrev x : State
  x = as_with c l field q d

  -- a write leaves the same bits in both
  pub both_written : (value : ℕ) → IsPlaceOf c l place n true
      → ((b : ℕ) → b < 64 → is_own c l field n b ≡ false → bit (slice_index d.bits n) b ≡ bit (slice_index e.bits n) b)
      → (h : AreAccessed c l field q d e (row_at l place).port n (ops_of l place 0 (all_bytes (row_at l place).bytes) value true)) × (h.held ≡ h.other)
  unfolding ops_of sent_of
  both_written value at like =
      let bytes = all_bytes (row_at l place).bytes in
      let op = op_of l place bytes value true in
      let sent = sent_words bytes (words_of l place 0) in
      let lanes = lanes_for bytes in
      let sends = whole_sends c l place n value true at in
      let p_e = (row_at l place).port in
      let turns = λ (k : ℕ) (w : Word) (low : k < length sent). turn_with c l field q p_e true _ (row_of l place 0) op lanes sent _ (sends.turns k w low) in
      let in_e : n < length e.bits = omega (arith, ready.bits, sends.inside) in
      let marked_e : n < length e.marks = omega (arith, ready.marks, sends.inside) in
      let in_d : n < length d.bits = omega (arith, many, in_e) in
      let marked_d : n < length d.marks = subst (λ xs. n < length xs) (sym pair.marks) marked_e in
      let run_e = writes_run t p_e n (row_of l place 0) op lanes sent (flawless c l) (λ w. refl) [] sent e sends.turns refl ready.setup
      (first_stands e p_e sent ready.beats) in_e marked_e in
      let run_x = writes_run u p_e n (row_of l place 0) op lanes sent (flawless c l) (λ w. refl) [] sent x turns refl refl
      (first_stands x p_e sent pair.beats) in_d marked_d in
      let goes = all_go c l field q inside (map op sent) d p_e pair.setup in
      let says = all_answer c l field q inside (map op sent) d p_e pair.setup in
      let h_d = held_at x n in
      let h_e = held_at e n in
      let m_same : slice_index d.marks n ≡ slice_index e.marks n = ap (λ xs. slice_index xs n) pair.marks in
      let end_d = put_all u n op lanes h_d sent in
      let end_e = put_all t n op lanes h_e sent in
      let small_d = put_some u n op lanes sent h_d sends.some in
      let small_e = put_some t n op lanes sent h_e sends.some in
      let parts = carry_parts l place bytes value sent sends.split in
      let touched = are_touched lanes sent in
      let bits : (b : ℕ) → b < 64 → bit end_d.bits b ≡ bit end_e.bits b = λ b low.
      put_bits u n op lanes value sent h_d parts b low
      ∙ ap (λ m. bit_written (policy_at u n b) (bit h_d.bits b) (bit m b) (bit value b) (touched b)) m_same
      ∙ sym (written_beside _ _ (is_own c l field n b) _ _ (policies_beside c l field q n b inside) alike (bit h_e.bits b) (bit h_d.bits b) (bit h_e.marks b) (bit value b) (touched b)
      (λ off. sym (like b low off))
      (λ on. let o = own_bit c l field n b sends.sound inside on in sends.reach b o.k low o.at))
      ∙ sym (put_bits t n op lanes value sent h_e parts b low) in
      let marks : end_d.marks ≡ end_e.marks = same_bits end_d.marks end_e.marks small_d.1 small_e.1
      (λ b low.
      put_marks u n op lanes sent h_d b low ∙ ap (λ m. mark_written (policy_at u n b) (bit m b) (touched b)) m_same
      ∙ sym (marked_beside _ _ (is_own c l field n b) _ _ (policies_beside c l field q n b inside) alike (bit h_e.marks b) (touched b))
      ∙ sym (put_marks t n op lanes sent h_e b low)) in
      let same = same_bits end_d.bits end_e.bits small_d.0 small_e.0 bits in (
        record {
          answers = run_e.answers ∙ sym (sym says ∙ run_x.answers);
          fine = subst (All (λ a. a.failed ≡ false)) (sym (sym says ∙ run_x.answers)) (All-map (λ (a : Answer). a.failed ≡ false) written_answer sent (λ k d low. refl));
          pair = record {
            setup = setup_all (map op sent) d p_e ∙ pair.setup;
            beats = λ p a. ap (λ (y : State). y.beats p a) (sym goes) ∙ run_x.beats p a;
            marks = ap (λ (y : State). y.marks) (sym goes) ∙ run_x.marks ∙ ap (λ m. set d.marks n m) marks ∙ ap (λ xs. set xs n end_e.marks) pair.marks ∙ sym run_e.marks;
            locations = ap (λ (y : State). y.locations) (sym goes) ∙ run_x.locations ∙ pair.locations ∙ sym run_e.locations;
            items = ap (λ (y : State). y.items) (sym goes) ∙ run_x.items ∙ ap (counted_on (length sent)) pair.items ∙ sym run_e.items;
          };
          held = end_d.bits;
          held_is = ap (λ (y : State). y.bits) (sym goes) ∙ run_x.bits;
          other = end_e.bits;
          other_is = run_e.bits;
          small = (small_d.0, small_e.0);
          like = λ b low off. bits b low;
        },
        same,
      )

  -- a read of the same bits answers the same
  pub both_read : IsPlaceOf c l place n false → slice_index d.bits n ≡ slice_index e.bits n
      → AreAccessed c l field q d e (row_at l place).port n (ops_of l place 0 (all_bytes (row_at l place).bytes) 0 false)
  unfolding ops_of sent_of
  both_read at tight =
      let bytes = all_bytes (row_at l place).bytes in
      let words = words_of l place 0 in
      let op = op_of l place bytes 0 false in
      let sent = sent_words bytes words in
      let lanes = lanes_for bytes in
      let sends = whole_sends c l place n 0 false at in
      let here = here_of c l place n false at in
      let p_e = (row_at l place).port in
      let turns = λ (k : ℕ) (w : Word) (low : k < length sent). turn_with c l field q p_e false _ (row_of l place 0) op lanes sent _ (sends.turns k w low) in
      let in_e : n < length e.bits = omega (arith, ready.bits, sends.inside) in
      let in_d : n < length d.bits = omega (arith, many, in_e) in
      let run_e = reads_run t p_e n (row_of l place 0) op lanes sent (flawless c l) (λ w. refl) [] sent e sends.turns refl ready.setup (first_stands e p_e sent ready.beats) in_e in
      let run_x = reads_run u p_e n (row_of l place 0) op lanes sent (flawless c l) (λ w. refl) [] sent x turns refl refl (first_stands x p_e sent pair.beats) in_d in
      let goes = all_go c l field q inside (map op sent) d p_e pair.setup in
      let says = all_answer c l field q inside (map op sent) d p_e pair.setup in
      let v_d = slice_index d.bits n in
      let v_e = slice_index e.bits n in
      let low : AreLow lanes sent = λ j on.
      below_64 (row_at l place).bytes j here.row.most
      (sym (here.words.reach j) ∙ (and_parts (have_bit words j) (bit bytes (j / 8)) (sym (sent_touches bytes words j) ∙ on)).0) in
      let answer : AnswerAlike t u n = λ b z. answered_beside _ _ (is_own c l field n b) _ _ (policies_beside c l field q n b inside) alike z in
      let shown = all_shown t u n lanes sent v_e v_d answer sends.split low (λ j on. ap (λ z. bit z j) (sym tight)) in
      let all_d : answers_of d p_e (map op sent) ≡ map read_answer (shown_all u n lanes v_d sent) = sym says ∙ run_x.answers in
      record {
        answers = run_e.answers ∙ ap (map read_answer) shown ∙ sym all_d;
        fine = subst (All (λ a. a.failed ≡ false)) (sym all_d) (none_failed (shown_all u n lanes v_d sent));
        pair = record {
          setup = setup_all (map op sent) d p_e ∙ pair.setup;
          beats = λ p a. ap (λ (y : State). y.beats p a) (sym goes) ∙ run_x.beats p a;
          marks = ap (λ (y : State). y.marks) (sym goes) ∙ run_x.marks ∙ pair.marks ∙ sym run_e.marks;
          locations = ap (λ (y : State). y.locations) (sym goes) ∙ run_x.locations ∙ pair.locations ∙ sym run_e.locations;
          items = ap (λ (y : State). y.items) (sym goes) ∙ run_x.items ∙ ap (counted_on (length sent)) pair.items ∙ sym run_e.items;
        };
        held = take_all u n lanes v_d sent;
        held_is = ap (λ (y : State). y.bits) (sym goes) ∙ run_x.bits;
        other = take_all t n lanes v_e sent;
        other_is = run_e.bits;
        small = (take_some u n lanes v_d sent sends.some, take_some t n lanes v_e sent sends.some);
        like = λ b below off.
            take_bits u n lanes sent v_d sends.split b below
            ∙ ap (λ z. bit_left (policy_at u n b) (bit z b) (are_touched lanes sent b)) tight
            ∙ ap (λ o. bit_left o (bit v_e b) (are_touched lanes sent b)) (sym ((policies_beside c l field q n b inside).others off))
            ∙ sym (take_bits t n lanes sent v_e sends.split b below);
      }

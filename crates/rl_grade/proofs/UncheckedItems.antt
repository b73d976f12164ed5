-- One bit of a register that no flaw changes, while items go to its register: it takes each of them by its policy.
use Rattle.std.proofs.Common.{◌≡◌, ℕ, ◌<◌, Bool, true, false, not, ◌&&◌, ◌||◌, if◌then◌else◌, List, [], ◌∷◌, ◌++◌, length, map, All, Option, Some, None, refl, sym, ap, subst, ◌∙◌}
use Rattle.std.specs.Prelude.{slice_get, slice_index}
use Rattle.std.proofs.lemmas.List.{append_assoc, get_or-set_same, length-set}
use Rattle.std.proofs.lemmas.List.Elements.{All-head, All-tail}
use Rattle.rl_policy.proofs.BitLemmas.{bit-from_bits}
use Rattle.rl_policy.specs.declared.policy.Policy.{Policy}
use Rattle.rl_policy.specs.Access.{bit_answered, bit_left, bit_written, mark_written}
use Rattle.rl_policy.specs.Bits.{bit, from_bits}
use Rattle.rl_bus.specs.declared.op.BusOp.{BusOp}
use Rattle.rl_bus.specs.declared.table.Cell.{Cell}
use Rattle.rl_bus.specs.declared.table.Cell.TheVariants.{Reg}
use Rattle.rl_bus.specs.declared.table.Lanes.{Lanes}
use Rattle.rl_bus.specs.declared.table.WordRow.{WordRow}
use Rattle.rl_bus.specs.Setup.{Flaws, Setup, field_at, held, is_deaf, or_else, policy_at, stuck_at, words_at}
use Rattle.rl_bus.specs.Spread.{gathered_bit, lane_bit, lanes_in, spread_bit}
use Rattle.rl_bus.specs.Standing.{Standing}
use Rattle.rl_bus.specs.State.{State, after_reading, after_word, after_writing, counted, reset_bit, shown_bit, state_after, word_at, word_shown}
use Rattle.rl_map.specs.declared.word.Word.{Word}
use Rattle.rl_split.specs.Access.{joined_bit, lanes_for}
use Rattle.rl_split.specs.Law.{no_flaws}
use Rattle.rl_split.proofs.Carried.{spread_gathered}
use Rattle.rl_split.proofs.Compose.{none_bit, none_left, none_mark, two_bits, two_marks, two_reads}
use Rattle.rl_split.proofs.ReadRuns.{AreSplit, none_spread}
use Rattle.rl_split.proofs.Turns.{IsTurn, turn_meets}
use Rattle.rl_split.proofs.WriteRuns.{CarryInParts, are_touched}
use Rattle.rl_access.specs.declared.trace.TraceItem.{TraceItem}
use Rattle.rl_access.specs.Items.{item_of, items_of, state_after_all, took_item, words_answered}
use Rattle.rl_grade.proofs.Related.{flawed}
use Rattle.rl_grade.proofs.TogetherItems.{IsAt, fine_word, item, items_is}
use Rattle.rl_grade.proofs.TogetherMakeup.{IsCalm}

-- each write leaves a bit of the policy as it is, and its mark
pub record IsKeptByWrites (own : Option Policy) : Type 0 where
  pub bits : (x m w l : Bool) → bit_written own x m w l ≡ x
  pub marks : (m l : Bool) → mark_written own m l ≡ m

-- no flaw changes the bit: where writes reach nothing, they would leave it as it is
pub record IsSoundBit (t : Setup) (g : Flaws) (r b : ℕ) : Type 0 where
  pub low : b < 64
  pub policy : policy_at (flawed t g) r b ≡ policy_at t r b
  pub loose : stuck_at (flawed t g) r b ≡ None
  pub hears : is_deaf (flawed t g) (Reg r) ≡ true → IsKeptByWrites (policy_at t r b)
  pub resets : (kind : ℕ) (x : Bool) → reset_bit (flawed t g) kind (field_at t r b) b x ≡ reset_bit t kind (field_at t r b) b x

-- the device has the register, and in it this bit with this mark
pub record IsHeld (r b : ℕ) (d : State) (x m : Bool) : Type 0 where
  pub inside : r < length d.bits
  pub marked : r < length d.marks
  pub bit_is : bit (slice_index d.bits r) b ≡ x
  pub mark_is : bit (slice_index d.marks r) b ≡ m

pub held_loose : (u : Setup) (r b : ℕ) (f : ℕ → Bool) → b < 64 → stuck_at u r b ≡ None → bit (held u r f) b ≡ f b
unfolding held
held_loose u r b f low loose = bit-from_bits 64 (λ b. or_else (stuck_at u r b) (f b)) b low ∙ ap (λ o. or_else o (f b)) loose

-- ---- one word

module _ (t : Setup) (g : Flaws) (r b : ℕ) (one : IsSoundBit t g r b) where
  abbrev own : Option Policy
  own = policy_at t r b

  own_in : (s : State) → s.setup ≡ flawed t g → policy_at s.setup r b ≡ own
  own_in s setup = ap (λ u. policy_at u r b) setup ∙ one.policy

  writing : (s : State) (word lanes : ℕ → Bool) (x m : Bool) → s.setup ≡ flawed t g → IsHeld r b s x m
      → IsHeld r b (after_writing s word lanes (Reg r)) (bit_written own x m (word b) (lanes b)) (mark_written own m (lanes b))
  writing s word lanes x m setup h =
      let p = own_in s setup in
      let f = λ (b : ℕ). bit_written (policy_at s.setup r b) (bit (slice_index s.bits r) b) (bit (slice_index s.marks r) b) (word b) (lanes b) in
      let k = λ (b : ℕ). mark_written (policy_at s.setup r b) (bit (slice_index s.marks r) b) (lanes b) in
      record {
        inside = subst (λ n. r < n) (sym (length-set s.bits r _)) h.inside;
        marked = subst (λ n. r < n) (sym (length-set s.marks r _)) h.marked;
        bit_is =
            ap (λ v. bit v b) (get_or-set_same s.bits r (held s.setup r f) 0 h.inside)
            ∙ held_loose s.setup r b f one.low (subst (λ u. stuck_at u r b ≡ None) (sym setup) one.loose)
            ∙ ap (λ o. bit_written o (bit (slice_index s.bits r) b) (bit (slice_index s.marks r) b) (word b) (lanes b)) p
            ∙ ap (λ v. bit_written own v (bit (slice_index s.marks r) b) (word b) (lanes b)) h.bit_is
            ∙ ap (λ v. bit_written own x v (word b) (lanes b)) h.mark_is;
        mark_is =
            ap (λ v. bit v b) (get_or-set_same s.marks r (from_bits 64 k) 0 h.marked)
            ∙ bit-from_bits 64 k b one.low
            ∙ ap (λ o. mark_written o (bit (slice_index s.marks r) b) (lanes b)) p
            ∙ ap (λ v. mark_written own v (lanes b)) h.mark_is;
      }

  reading : (s : State) (lanes : ℕ → Bool) (x m : Bool) → s.setup ≡ flawed t g → IsHeld r b s x m
      → IsHeld r b (after_reading s lanes (Reg r)) (bit_left own x (lanes b)) m
  reading s lanes x m setup h =
      let f = λ (b : ℕ). bit_left (policy_at s.setup r b) (bit (slice_index s.bits r) b) (lanes b) in
      record {
        inside = subst (λ n. r < n) (sym (length-set s.bits r _)) h.inside;
        marked = h.marked;
        bit_is =
            ap (λ v. bit v b) (get_or-set_same s.bits r (held s.setup r f) 0 h.inside)
            ∙ held_loose s.setup r b f one.low (subst (λ u. stuck_at u r b ≡ None) (sym setup) one.loose)
            ∙ ap (λ o. bit_left o (bit (slice_index s.bits r) b) (lanes b)) (own_in s setup)
            ∙ ap (λ v. bit_left own v (lanes b)) h.bit_is;
        mark_is = h.mark_is;
      }

  word_written : (s : State) (o : BusOp) (w : WordRow) (lanes : Lanes) (x m : Bool) → s.setup ≡ flawed t g → o.write ≡ true → w.cell ≡ Reg r
      → lanes_in w.lanes o.lanes ≡ lanes → IsHeld r b s x m
      → IsHeld r b (after_word s o w) (bit_written own x m (spread_bit lanes (bit o.word) b) (lane_bit lanes b)) (mark_written own m (lane_bit lanes b))
  word_written s o w lanes x m setup write cell are h =
      let ls = lanes_in w.lanes o.lanes in
      let is : after_word s o w ≡ (if is_deaf s.setup (Reg r) then s else after_writing s (spread_bit lanes (bit o.word)) (lane_bit lanes) (Reg r)) =
      ap (λ k. if not k then after_reading s (lane_bit ls) w.cell
      else if is_deaf s.setup w.cell then s else after_writing s (spread_bit ls (bit o.word)) (lane_bit ls) w.cell) write
      ∙ ap (λ (c : Cell). if is_deaf s.setup c then s else after_writing s (spread_bit ls (bit o.word)) (lane_bit ls) c) cell
      ∙ ap (λ n. if is_deaf s.setup (Reg r) then s else after_writing s (spread_bit n (bit o.word)) (lane_bit n) (Reg r)) are in
      subst After (sym is) (by (is_deaf s.setup (Reg r)) (ap (λ u. is_deaf u (Reg r)) (sym setup)))
    where
      After : State → Type 0
      After y = IsHeld r b y (bit_written own x m (spread_bit lanes (bit o.word) b) (lane_bit lanes b)) (mark_written own m (lane_bit lanes b))

      by : (deaf : Bool) → is_deaf (flawed t g) (Reg r) ≡ deaf → After (if deaf then s else after_writing s (spread_bit lanes (bit o.word)) (lane_bit lanes) (Reg r))
      by false hears = writing s (spread_bit lanes (bit o.word)) (lane_bit lanes) x m setup h
      by true deaf =
          let kept = one.hears deaf in
          record {
            inside = h.inside;
            marked = h.marked;
            bit_is = h.bit_is ∙ sym (kept.bits x m (spread_bit lanes (bit o.word) b) (lane_bit lanes b));
            mark_is = h.mark_is ∙ sym (kept.marks m (lane_bit lanes b));
          }

  word_read : (s : State) (o : BusOp) (w : WordRow) (lanes : Lanes) (x m : Bool) → s.setup ≡ flawed t g → o.write ≡ false → w.cell ≡ Reg r
      → lanes_in w.lanes o.lanes ≡ lanes → IsHeld r b s x m → IsHeld r b (after_word s o w) (bit_left own x (lane_bit lanes b)) m
  word_read s o w lanes x m setup write cell are h =
      let ls = lanes_in w.lanes o.lanes in
      let is : after_word s o w ≡ after_reading s (lane_bit lanes) (Reg r) =
      ap (λ k. if not k then after_reading s (lane_bit ls) w.cell
      else if is_deaf s.setup w.cell then s else after_writing s (spread_bit ls (bit o.word)) (lane_bit ls) w.cell) write
      ∙ ap (after_reading s (lane_bit ls)) cell
      ∙ ap (λ n. after_reading s (lane_bit n) (Reg r)) are in
      subst (λ y. IsHeld r b y (bit_left own x (lane_bit lanes b)) m) (sym is) (reading s (lane_bit lanes) x m setup h)

  -- what the word brings of the bit
  word_brings : (s : State) (o : BusOp) (w : WordRow) (lanes : Lanes) (x m : Bool) → s.setup ≡ flawed t g → o.write ≡ false → w.cell ≡ Reg r
      → lanes_in w.lanes o.lanes ≡ lanes → IsHeld r b s x m → lane_bit lanes b ≡ true
      → spread_bit lanes (bit (if o.write then 0 else word_shown s o w)) b ≡ bit_answered own x
  word_brings s o w lanes x m setup write cell are h on =
      let is : (if o.write then 0 else word_shown s o w) ≡ from_bits 64 (gathered_bit lanes (shown_bit s (Reg r))) =
      ap (λ k. if k then 0 else word_shown s o w) write
      ∙ ap (λ (c : Cell). from_bits 64 (gathered_bit (lanes_in w.lanes o.lanes) (shown_bit s c))) cell
      ∙ ap (λ n. from_bits 64 (gathered_bit n (shown_bit s (Reg r)))) are in
      ap (λ n. spread_bit lanes (bit n) b) is ∙ spread_gathered lanes (shown_bit s (Reg r)) b on
      ∙ ap (λ k. bit_answered k (bit (slice_index s.bits r) b)) (own_in s setup) ∙ ap (bit_answered own) h.bit_is

-- the bit of the joined value, by whether its byte stands in the first word
joins : (o : Option Policy) (l t x a : Bool) → (l ≡ true → (a ≡ bit_answered o x) × (t ≡ false)) → (l ≡ false → a ≡ false)
    → (a || (t && bit_answered o (bit_left o x l))) ≡ ((l || t) && bit_answered o x)
joins o true t x a first none = ap (λ t. a || (t && bit_answered o (bit_left o x true))) (first refl).1 ∙ or_false a ∙ (first refl).0
  where
    or_false : (a : Bool) → (a || false) ≡ a
    or_false true = refl
    or_false false = refl
joins None false t x a first none = ap (λ a. a || (t && false)) (none refl)
joins (Some p) false t x a first none = ap (λ a. a || (t && bit_answered (Some p) x)) (none refl)

-- ---- items one after another

module _ (t : Setup) (g : Flaws) (calm : IsCalm (flawed t g)) (port r b : ℕ) (one : IsSoundBit t g r b) (write : Bool) (row : Word → WordRow) (op : Word → BusOp)
    (lanes : Word → Lanes) (sent : List Word) (plain : t.flaws ≡ no_flaws) where
  abbrev Turn : Word → Type 0
  Turn w = IsTurn t port write (Reg r) row op lanes sent w

  abbrev its : Option Policy
  its = policy_at t r b

  -- the next item, and what it does to the device
  record IsNext (done rest : List Word) (w : Word) (d : State) : Type 0 where
    row_met : WordRow
    cell : row_met.cell ≡ Reg r
    are : lanes_in row_met.lanes (op w).lanes ≡ lanes w
    write_is : (op w).write ≡ write
    word : ℕ
    word_is : word ≡ (if (op w).write then 0 else word_shown (counted d) (op w) row_met)
    items : (s : Standing) → items_of s d port (map op (w ∷ rest))
        ≡ item_of s port (op w) (fine_word word) ∷ items_of (took_item s (item_of s port (op w) (fine_word word))) (state_after d port (op w)) port (map op rest)
    held : (x m : Bool) → IsHeld r b (after_word (counted d) (op w) row_met) x m → IsHeld r b (state_after d port (op w)) x m
    at : IsAt t g port sent (done ++ w ∷ []) (state_after d port (op w))

  next : (done rest : List Word) (w : Word) (d : State) → Turn w → sent ≡ done ++ w ∷ rest → IsAt t g port sent done d → IsNext done rest w d
  next done rest w d turn is at =
      let met = turn_meets (record d { setup = t }) t port write (Reg r) row op lanes sent done rest w refl plain turn is (record { at = at.stands.at }) in
      let found : word_at d port (op w) ≡ Some met.row =
      ap (λ (u : Setup). slice_get (words_at u port (op w).address (op w).write) (d.beats port (op w).address)) at.setup ∙ met.found in
      let one_item = item t port write (Reg r) row op lanes sent plain g done rest w d met.row calm at turn is found in
      record {
        row_met = met.row;
        cell = met.cell_is;
        are = met.lanes_are;
        write_is = turn.write_is;
        word = (if (op w).write then 0 else word_shown (counted d) (op w) met.row);
        word_is = refl;
        items = λ s. items_is s d port (op w) (map op rest) _ one_item.answer;
        held = λ x m h. subst (λ y. IsHeld r b y x m) (sym one_item.state) (record { inside = h.inside; marked = h.marked; bit_is = h.bit_is; mark_is = h.mark_is });
        at = one_item.at;
      }

  counted_held : (d : State) (x m : Bool) → IsHeld r b d x m → IsHeld r b (counted d) x m
  counted_held d x m h = record { inside = h.inside; marked = h.marked; bit_is = h.bit_is; mark_is = h.mark_is }

  pub writes : write ≡ true → (value : ℕ) (done rest : List Word) (s : Standing) (d : State) (x m : Bool) → All Turn rest → sent ≡ done ++ rest → IsAt t g port sent done d
      → CarryInParts lanes op value rest → IsHeld r b d x m
      → IsHeld r b (state_after_all d (items_of s d port (map op rest))) (bit_written its x m (bit value b) (are_touched lanes rest b)) (mark_written its m (are_touched lanes rest b))
  writes on value done [] s d x m turns is at parts h =
      subst (λ y. IsHeld r b d y (mark_written its m false)) (none_bit its x m (bit value b)) (subst (IsHeld r b d x) (none_mark its m) h)
  writes on value done (w ∷ rest) s d x m turns is at parts h =
      let n = next done rest w d (All-head Turn w rest turns) is at in
      let l = lane_bit (lanes w) b in
      let v = spread_bit (lanes w) (bit (op w).word) b in
      let after = n.held _ _ (word_written t g r b one (counted d) (op w) n.row_met (lanes w) x m at.setup (n.write_is ∙ on) n.cell n.are (counted_held d x m h)) in
      let more = writes on value (done ++ w ∷ []) rest (took_item s (item_of s port (op w) (fine_word n.word))) (state_after d port (op w)) (bit_written its x m v l) (mark_written its m l)
      (All-tail Turn w rest turns) (is ∙ sym (append_assoc done (w ∷ []) rest)) n.at parts.1 after in
      let others = items_of (took_item s (item_of s port (op w) (fine_word n.word))) (state_after d port (op w)) port (map op rest) in
      let end = state_after_all (state_after d port (op w)) others in
      subst (λ items. IsHeld r b (state_after_all d items) (bit_written its x m (bit value b) (l || are_touched lanes rest b)) (mark_written its m (l || are_touched lanes rest b))) (sym (n.items s))
      (subst (λ y. IsHeld r b end y (mark_written its m (l || are_touched lanes rest b))) (two_bits its x m v (bit value b) l (are_touched lanes rest b) (parts.0 b))
      (subst (λ y. IsHeld r b end (bit_written its (bit_written its x m v l) (mark_written its m l) (bit value b) (are_touched lanes rest b)) y)
      (two_marks its m l (are_touched lanes rest b)) more))

-- what reads leave of the bit, and what they bring
pub record IsBrought (r b chosen : ℕ) (own : Option Policy) (rest : List Word) (d : State) (items : List TraceItem) (x m : Bool) : Type 0 where
  pub left : IsHeld r b (state_after_all d items) (bit_left own x (are_touched (lanes_for chosen) rest b)) m
  pub joined : joined_bit chosen rest (words_answered items) b ≡ (are_touched (lanes_for chosen) rest b && bit_answered own x)

module _ (t : Setup) (g : Flaws) (calm : IsCalm (flawed t g)) (port r b chosen : ℕ) (one : IsSoundBit t g r b) (row : Word → WordRow) (op : Word → BusOp)
    (sent : List Word) (plain : t.flaws ≡ no_flaws) where
  abbrev ReadTurn : Word → Type 0
  ReadTurn w = IsTurn t port false (Reg r) row op (lanes_for chosen) sent w

  abbrev mine : Option Policy
  mine = policy_at t r b

  pub reads : (done rest : List Word) (s : Standing) (d : State) (x m : Bool) → All ReadTurn rest → sent ≡ done ++ rest → IsAt t g port sent done d
      → AreSplit (lanes_for chosen) rest → IsHeld r b d x m → IsBrought r b chosen mine rest d (items_of s d port (map op rest)) x m
  reads done [] s d x m turns is at parts h = record { left = subst (λ y. IsHeld r b d y m) (none_left mine x) h; joined = refl }
  reads done (w ∷ rest) s d x m turns is at parts h =
      let n = next t g calm port r b one false row op (lanes_for chosen) sent plain done rest w d (All-head ReadTurn w rest turns) is at in
      let lanes = lanes_for chosen w in
      let l = lane_bit lanes b in
      let k = are_touched (lanes_for chosen) rest b in
      let before = counted_held t g calm port r b one false row op (lanes_for chosen) sent plain d x m h in
      let after = n.held _ _ (word_read t g r b one (counted d) (op w) n.row_met lanes x m at.setup n.write_is n.cell n.are before) in
      let more = reads (done ++ w ∷ []) rest (took_item s (item_of s port (op w) (fine_word n.word))) (state_after d port (op w)) (bit_left mine x l) m
      (All-tail ReadTurn w rest turns) (is ∙ sym (append_assoc done (w ∷ []) rest)) n.at parts.1 after in
      let others = items_of (took_item s (item_of s port (op w) (fine_word n.word))) (state_after d port (op w)) port (map op rest) in
      subst (λ items. IsBrought r b chosen mine (w ∷ rest) d items x m) (sym (n.items s)) (record {
        left = subst (λ y. IsHeld r b (state_after_all (state_after d port (op w)) others) y m) (two_reads mine x l k (parts.0 b)) more.left;
        joined = ap (λ j. spread_bit lanes (bit n.word) b || j) more.joined
            ∙ joins mine l k x (spread_bit lanes (bit n.word) b)
            (λ on. (ap (λ v. spread_bit lanes (bit v) b) n.word_is ∙ word_brings t g r b one (counted d) (op w) n.row_met lanes x m at.setup n.write_is n.cell n.are before on, parts.0 b on))
            (λ off. none_spread lanes (bit n.word) b off);
      })

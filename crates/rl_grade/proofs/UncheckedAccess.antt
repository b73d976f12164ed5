-- A register of which no flaw changes a compared field: the device has these fields as believed, and each access, deposit and reset keeps that.
use Rattle.std.proofs.Common.{◌≡◌, ◌⊎◌, inl, inr, ℕ, ◌+◌, ◌-◌, ◌<◌, ◌≤◌, Bool, true, false, ◌&&◌, ◌||◌, ◌==◌, if◌then◌else◌, List, [], length, map, replicate, Option, Some, None, option_map, is_some, refl, sym, ap, subst, ◌∙◌, arith}
use Rattle.std.specs.Prelude.{slice_index, slice_set}
use Rattle.std.specs.Option.{option_map_or}
use Rattle.std.proofs.lemmas.Bool.{cases_lt}
use Rattle.std.proofs.lemmas.List.{get_or-replicate, get_or-set_same, get_or_past}
use Rattle.std.proofs.lemmas.List.FromFn.{get_or-map-range_with_len}
use Rattle.rl_policy.proofs.BitLemmas.{bit-from_bits, bit-max, bit-zero}
use Rattle.rl_policy.specs.Access.{bit_answered, bit_left, bit_written, mark_written}
use Rattle.rl_policy.specs.Bits.{bit, from_bits, is_within, put_bit}
use Rattle.rl_policy.specs.Table.{after_read, after_write, is_write_only, spends_mark, value_read}
use Rattle.rl_policy.specs.declared.policy.Policy.{Policy}
use Rattle.rl_bus.specs.declared.table.Cell.TheVariants.{Reg}
use Rattle.rl_bus.specs.declared.table.FieldRow.{FieldRow}
use Rattle.rl_bus.specs.Setup.{Flaws, Setup, field_at, field_of as row_of_field, held, policy_at, stuck_at}
use Rattle.rl_bus.specs.Standing.{Standing}
use Rattle.rl_bus.specs.State.{State, hw_set, peeked, poked, reg_reset, reset_bit, reset_by, value_bit}
use Rattle.rl_model.specs.Chip.{value_for}
use Rattle.rl_model.specs.Fields.{covers, field_in, field_of, fields_of, first_of, no_field, policy_in}
use Rattle.rl_model.specs.Rows.{ChipData, FieldSeen}
use Rattle.rl_mirror.proofs.FieldLemmas.{apart_fields, field_list, row_of}
use Rattle.rl_mirror.proofs.WordLemmas.{bit-word_by_field}
use Rattle.rl_mirror.specs.Fields.{owned}
use Rattle.rl_mirror.specs.Mirror.{MirrorData, marks_in, mirrored_of}
use Rattle.rl_mirror.specs.Prediction.{learned_bit, left_by_read, predict_raw, predict_read, predict_write, reset, reset_bit as believed_reset, shown}
use Rattle.rl_map.specs.declared.word.Word.{Word}
use Rattle.rl_map.specs.Layout.{LayoutData, place_at as row_at, row_of as row_met, words_of}
use Rattle.rl_split.specs.Access.{joined, joined_bit, lanes_for, op_of, ops_of, sent_of, sent_words}
use Rattle.rl_split.proofs.Policies.{has_row, policy_by_place}
use Rattle.rl_split.proofs.Steps.{carry_parts, flawless}
use Rattle.rl_split.proofs.Turns.{first_stands}
use Rattle.rl_split.proofs.WriteRuns.{are_touched}
use Rattle.rl_access.specs.declared.trace.TraceItem.{TraceItem}
use Rattle.rl_access.specs.Items.{items_of, state_after_all, words_answered}
use Rattle.rl_access.specs.Operation.{reg_of}
use Rattle.rl_access.specs.Rules.{every_field}
use Rattle.rl_grade.proofs.HiddenFlaws.{HasBit, bare, field_there, own_reset, row_is}
use Rattle.rl_grade.proofs.Related.{flawed}
use Rattle.rl_grade.proofs.TogetherAccess.{AreSound}
use Rattle.rl_grade.proofs.TogetherBeliefs.{HasSize}
use Rattle.rl_grade.proofs.TogetherItems.{IsAt}
use Rattle.rl_grade.proofs.TogetherMakeup.{IsCalm, row_reg}
use Rattle.rl_grade.proofs.UncheckedBeliefs.{IsComparedBit, covers_it, inside_it, made, number, own_field, own_reg, raw_bit, raw_mark, read_bit, read_mark, readable, reset_bit_is}
use Rattle.rl_grade.proofs.UncheckedBeliefs.{reset_mark, shows, write_bit, write_mark}
use Rattle.rl_grade.proofs.UncheckedItems.{IsBrought, IsHeld, IsSoundBit, held_loose, reads, writes}
use Rattle.rl_grade.proofs.UncheckedReach.{Reaches}

-- each bit of the register that a check compares is in the device as it is believed, and with the mark of its field
pub record Agrees (c : ChipData) (r : ℕ) (d : State) (m : MirrorData) : Type 0 where
  pub bits : (b k : ℕ) → IsComparedBit c r b k → bit (slice_index d.bits r) b ≡ bit (mirrored_of m r) b
  pub marks : (b k : ℕ) → IsComparedBit c r b k → bit (slice_index d.marks r) b ≡ marks_in c m.spent r k

-- a device with these flaws and the registers of the chip, at the first word of each address
pub record IsDevice (c : ChipData) (l : LayoutData) (g : Flaws) (d : State) : Type 0 where
  pub setup : d.setup ≡ flawed (bare c l) g
  pub beats : (p a : ℕ) → d.beats p a ≡ 0
  pub bits : length d.bits ≡ length c.regs
  pub marks : length d.marks ≡ length c.regs

-- no flaw changes a compared field of the register, and none of these is volatile
pub record IsSpared (c : ChipData) (l : LayoutData) (g : Flaws) (r : ℕ) : Type 0 where
  pub there : r < length c.regs
  pub bits : (b k : ℕ) → IsComparedBit c r b k → IsSoundBit (bare c l) g r b
  pub steady : (b k : ℕ) → IsComparedBit c r b k → (field_in (fields_of c r) k).shape.volatile ≡ false

read_case : (f : Bool) (p : Policy) (x v : Bool) → is_write_only p ≡ false → v ≡ (f && x)
    → (if f then after_read p x else x) ≡ (if f then learned_bit p v x else x)
read_case true p x v open_to is = ap (after_read p) (sym is) ∙ sym (ap (λ w. if w then x else after_read p v) open_to)
read_case false p x v open_to is = refl

value_case : (o : Option ℕ) (i : ℕ) (x : Bool) → value_bit o i x ≡ option_map_or (λ v. bit v i) o x
value_case None i x = refl
value_case (Some v) i x = refl

-- what was read of the register
pub record IsRead (c : ChipData) (r fields value : ℕ) (m : MirrorData) (after : State) : Type 0 where
  pub bits : (b k : ℕ) → IsComparedBit c r b k → bit value b ≡ (bit fields k && bit (mirrored_of m r) b)
  pub agrees : Agrees c r after (predict_read c r value fields m)

module _ (c : ChipData) (l : LayoutData) (sound : AreSound c l) (g : Flaws) (calm : IsCalm (flawed (bare c l) g)) (r : ℕ) (spared : IsSpared c l g r) where
  abbrev t : Setup
  t = bare c l

  abbrev fs : List FieldSeen
  fs = fields_of c r

  abbrev p : ℕ → Policy
  p k = policy_in fs k

  own_policy : (b k : ℕ) → IsComparedBit c r b k → policy_at t r b ≡ Some (p k)
  own_policy b k one =
      let (row, has) = row_of c r spared.there in
      policy_by_place c l r b sound.chip (has_row c r row has.at) ∙ ap (option_map (policy_in fs)) one.at

  in_device : (d : State) (b : ℕ) → IsDevice c l g d → IsHeld r b d (bit (slice_index d.bits r) b) (bit (slice_index d.marks r) b)
  in_device d b is = record {
    inside = subst (λ n. r < n) (sym is.bits) spared.there;
    marked = subst (λ n. r < n) (sym is.marks) spared.there;
    bit_is = refl;
    mark_is = refl;
  }

  begins : (d : State) (place chosen : ℕ) → IsDevice c l g d → IsAt t g (row_at l place).port (sent_words chosen (words_of l place 0)) [] d
  begins d place chosen is = record { setup = is.setup; stands = first_stands d (row_at l place).port (sent_words chosen (words_of l place 0)) is.beats }

  -- ---- over the bus

  pub wrote : (place chosen value fields : ℕ) (s : Standing) (d : State) (m : MirrorData) → Reaches c l place r chosen value true fields → IsDevice c l g d → HasSize c m
      → Agrees c r d m → Agrees c r (state_after_all d (items_of s d (row_at l place).port (ops_of l place 0 chosen value true))) (predict_write c r value fields m)
  unfolding ops_of sent_of
  wrote place chosen value fields s d m reaches is size agrees = record {
    bits = λ b k one.
        let w = bit value b in
        let touched = are_touched (lanes_for chosen) sent b in
        (went b k one).bit_is
        ∙ ap (λ o. bit_written o (x b) (n b) w touched) (own_policy b k one)
        ∙ ap (λ a. if a then after_write (p k) (x b) w (n b) else x b) (reaches.reach b k one)
        ∙ ap (λ y. if bit fields k then after_write (p k) y w (n b) else y) (agrees.bits b k one)
        ∙ ap (λ y. if bit fields k then after_write (p k) (bit (mirrored_of m r) b) w y else bit (mirrored_of m r) b) (agrees.marks b k one)
        ∙ sym (write_bit c r b k sound.chip spared.there one value fields m size);
    marks = λ b k one.
        let touched = are_touched (lanes_for chosen) sent b in
        (went b k one).mark_is
        ∙ ap (λ o. mark_written o (n b) touched) (own_policy b k one)
        ∙ ap (λ a. n b || (a && spends_mark (p k))) (reaches.reach b k one)
        ∙ ap (λ y. y || (bit fields k && spends_mark (p k))) (agrees.marks b k one)
        ∙ sym (write_mark c r b k sound.chip spared.there one value fields m size);
  }
    where
      sent : List Word
      sent = sent_words chosen (words_of l place 0)

      x : ℕ → Bool
      x b = bit (slice_index d.bits r) b

      n : ℕ → Bool
      n b = bit (slice_index d.marks r) b

      went : (b k : ℕ) → IsComparedBit c r b k → IsHeld r b (state_after_all d (items_of s d (row_at l place).port (map (op_of l place chosen value true) sent)))
          (bit_written (policy_at t r b) (x b) (n b) (bit value b) (are_touched (lanes_for chosen) sent b)) (mark_written (policy_at t r b) (n b) (are_touched (lanes_for chosen) sent b))
      went b k one =
          writes t g calm (row_at l place).port r b (spared.bits b k one) true (row_met l place 0) (op_of l place chosen value true) (lanes_for chosen) sent (flawless c l) refl value [] sent
          s d (x b) (n b) reaches.turns refl (begins d place chosen is) (carry_parts l place chosen value sent reaches.split) (in_device d b is)

  pub was_read : (place chosen fields : ℕ) (s : Standing) (d : State) (m : MirrorData) → Reaches c l place r chosen 0 false fields → IsDevice c l g d → HasSize c m
      → Agrees c r d m
      → IsRead c r fields (joined l place 0 chosen (words_answered (items_of s d (row_at l place).port (ops_of l place 0 chosen 0 false)))) m
      (state_after_all d (items_of s d (row_at l place).port (ops_of l place 0 chosen 0 false)))
  unfolding ops_of sent_of joined
  was_read place chosen fields s d m reaches is size agrees = record {
    bits = brings;
    agrees = record {
      bits = λ b k one.
          let touched = are_touched (lanes_for chosen) sent b in
          (went b k one).left.bit_is
          ∙ ap (λ o. bit_left o (x b) touched) (own_policy b k one)
          ∙ ap (λ a. if a then after_read (p k) (x b) else x b) (reaches.reach b k one)
          ∙ ap (λ y. if bit fields k then after_read (p k) y else y) (agrees.bits b k one)
          ∙ read_case (bit fields k) (p k) (bit (mirrored_of m r) b) (bit value b) (readable c r b k one) (brings b k one)
          ∙ sym (read_bit c r b k sound.chip spared.there one value fields m size);
      marks = λ b k one. (went b k one).left.mark_is ∙ agrees.marks b k one ∙ sym (read_mark c r b k sound.chip spared.there one value fields m);
    };
  }
    where
      sent : List Word
      sent = sent_words chosen (words_of l place 0)

      items : List TraceItem
      items = items_of s d (row_at l place).port (map (op_of l place chosen 0 false) sent)

      value : ℕ
      value = from_bits 64 (joined_bit chosen sent (words_answered items))

      x : ℕ → Bool
      x b = bit (slice_index d.bits r) b

      went : (b k : ℕ) → IsComparedBit c r b k → IsBrought r b chosen (policy_at t r b) sent d items (x b) (bit (slice_index d.marks r) b)
      went b k one =
          reads t g calm (row_at l place).port r b chosen (spared.bits b k one) (row_met l place 0) (op_of l place chosen 0 false) sent (flawless c l) [] sent
          s d (x b) (bit (slice_index d.marks r) b) reaches.turns refl (begins d place chosen is) reaches.split (in_device d b is)

      brings : (b k : ℕ) → IsComparedBit c r b k → bit value b ≡ (bit fields k && bit (mirrored_of m r) b)
      brings b k one =
          bit-from_bits 64 (joined_bit chosen sent (words_answered items)) b one.low ∙ (went b k one).joined
          ∙ ap (λ o. are_touched (lanes_for chosen) sent b && bit_answered o (x b)) (own_policy b k one)
          ∙ ap (λ y. are_touched (lanes_for chosen) sent b && y) (shows (p k) (x b) (readable c r b k one))
          ∙ ap (λ a. a && x b) (reaches.reach b k one) ∙ ap (λ y. bit fields k && y) (agrees.bits b k one)

  -- ---- by the backdoor

  has_bit : (b k : ℕ) → IsComparedBit c r b k → HasBit c (first_of c r + k) r b
  has_bit b k one = record {
    inside = number c r b k sound.chip spared.there one;
    reg = own_reg c r b k sound.chip spared.there one;
    covers = covers_it c r b k sound.chip spared.there one;
  }

  at_it : (d : State) (b k : ℕ) → IsDevice c l g d → IsComparedBit c r b k → field_at d.setup r b ≡ Some (first_of c r + k)
  at_it d b k is one = ap (λ (u : Setup). field_at u r b) is.setup ∙ field_there c l r b (first_of c r + k) sound.chip (has_bit b k one)

  -- a bit of the register after these bits were put there
  put_there : (d : State) (b k : ℕ) (f : ℕ → Bool) → IsDevice c l g d → IsComparedBit c r b k → bit (slice_index (slice_set d.bits r (held d.setup r f)) r) b ≡ f b
  put_there d b k f is one =
      let bare_bit = spared.bits b k one in
      ap (λ v. bit v b) (get_or-set_same d.bits r (held d.setup r f) 0 (subst (λ n. r < n) (sym is.bits) spared.there))
      ∙ held_loose d.setup r b f one.low (subst (λ (u : Setup). stuck_at u r b ≡ None) (sym is.setup) bare_bit.loose)

  poked_bit : (d : State) (v b k : ℕ) → IsDevice c l g d → IsComparedBit c r b k → bit (slice_index (poked d (Reg r) v).bits r) b ≡ bit v b
  unfolding poked
  poked_bit d v b k is one =
      put_there d b k (λ b. if is_some (field_at d.setup r b) then bit v b else bit (slice_index d.bits r) b) is one
      ∙ ap (λ o. if is_some o then bit v b else bit (slice_index d.bits r) b) (at_it d b k is one)

  poked_mark : (d : State) (v : ℕ) → (poked d (Reg r) v).marks ≡ d.marks
  unfolding poked
  poked_mark d v = refl

  pub poke_agrees : (v : ℕ) (d : State) (m : MirrorData) → IsDevice c l g d → HasSize c m → Agrees c r d m → Agrees c r (poked d (Reg r) v) (predict_raw c r v m)
  poke_agrees v d m is size agrees = record {
    bits = λ b k one. poked_bit d v b k is one ∙ sym (raw_bit c r b k sound.chip spared.there one v m size);
    marks = λ b k one.
        ap (λ ms. bit (slice_index ms r) b) (poked_mark d v) ∙ agrees.marks b k one ∙ sym (raw_mark c r b k sound.chip spared.there one v m);
  }

  owned_bit : (v b k : ℕ) → IsComparedBit c r b k → bit (owned fs v) b ≡ bit v b
  owned_bit v b k one = bit-word_by_field fs (λ k b. bit v b) b one.low ∙ made c r b k sound.chip spared.there one (λ k b. bit v b)

  found_is : (d : State) → peeked d (Reg r) ≡ slice_index d.bits r
  unfolding peeked
  found_is d = refl

  pub peek_agrees : (d : State) (m : MirrorData) → HasSize c m → Agrees c r d m → Agrees c r d (predict_raw c r (owned fs (peeked d (Reg r))) m)
  peek_agrees d m size agrees = record {
    bits = λ b k one.
        sym (raw_bit c r b k sound.chip spared.there one (owned fs (peeked d (Reg r))) m size ∙ owned_bit (peeked d (Reg r)) b k one ∙ ap (λ v. bit v b) (found_is d));
    marks = λ b k one. agrees.marks b k one ∙ sym (raw_mark c r b k sound.chip spared.there one (owned fs (peeked d (Reg r))) m);
  }

  shown_there : (v b k : ℕ) → IsComparedBit c r b k → bit (shown fs v) b ≡ bit v b
  unfolding shown
  shown_there v b k one =
      bit-word_by_field fs (λ k b. value_read (policy_in fs k) (bit v b)) b one.low ∙ made c r b k sound.chip spared.there one (λ k b. value_read (policy_in fs k) (bit v b))
      ∙ shows (p k) (bit v b) (readable c r b k one)

  left_there : (v b k : ℕ) → IsComparedBit c r b k → bit (left_by_read fs v) b ≡ after_read (p k) (bit v b)
  unfolding left_by_read
  left_there v b k one =
      bit-word_by_field fs (λ k b. after_read (policy_in fs k) (bit v b)) b one.low ∙ made c r b k sound.chip spared.there one (λ k b. after_read (policy_in fs k) (bit v b))

  pub back_read_agrees : (d : State) (m : MirrorData) → IsDevice c l g d → HasSize c m → Agrees c r d m
      → IsRead c r every_field (shown fs (owned fs (peeked d (Reg r)))) m (poked d (Reg r) (left_by_read fs (owned fs (peeked d (Reg r)))))
  back_read_agrees d m is size agrees = record {
    bits = λ b k one. brings b k one ∙ ap (λ a. a && bit (mirrored_of m r) b) (sym (chosen b k one));
    agrees = record {
      bits = λ b k one.
          poked_bit d (left_by_read fs y) b k is one ∙ left_there y b k one ∙ ap (after_read (p k)) (found b k one)
          ∙ read_case true (p k) (bit (mirrored_of m r) b) (bit value b) (readable c r b k one) (brings b k one)
          ∙ ap (λ a. if a then learned_bit (p k) (bit value b) (bit (mirrored_of m r) b) else bit (mirrored_of m r) b) (sym (chosen b k one))
          ∙ sym (read_bit c r b k sound.chip spared.there one value every_field m size);
      marks = λ b k one.
          ap (λ ms. bit (slice_index ms r) b) (poked_mark d (left_by_read fs y)) ∙ agrees.marks b k one
          ∙ sym (read_mark c r b k sound.chip spared.there one value every_field m);
    };
  }
    where
      y : ℕ
      y = owned fs (peeked d (Reg r))

      value : ℕ
      value = shown fs y

      found : (b k : ℕ) → IsComparedBit c r b k → bit y b ≡ bit (mirrored_of m r) b
      found b k one = owned_bit (peeked d (Reg r)) b k one ∙ ap (λ v. bit v b) (found_is d) ∙ agrees.bits b k one

      brings : (b k : ℕ) → IsComparedBit c r b k → bit value b ≡ bit (mirrored_of m r) b
      brings b k one = shown_there y b k one ∙ found b k one

      chosen : (b k : ℕ) → IsComparedBit c r b k → bit every_field k ≡ true
      chosen b k one = bit-max k (omega (arith, inside_it c r b k one, (field_list c r sound.chip spared.there).few))

  -- ---- by the hardware

  other_bit : (field b k : ℕ) → IsComparedBit c r b k → reg_of c field ≡ r → (field_of c field).shape.volatile ≡ true → covers (field_of c field).shape b ≡ false
  other_bit field b k one reg moves = by (covers (field_of c field).shape b) refl
    where
      there : field < length c.fields
      there = past (cases_lt field (length c.fields))
        where
          past : (field < length c.fields) ⊎ (length c.fields ≤ field) → field < length c.fields
          past (inl low) = low
          past (inr high) =
              let none : (field_of c field).shape.volatile ≡ false = ap (λ (f : FieldSeen). f.shape.volatile) (get_or_past c.fields field no_field high) in
              absurd cc

      by : (a : Bool) → covers (field_of c field).shape b ≡ a → a ≡ false
      by false is = refl
      by true is =
          let n = first_of c r + k in
          let same : field ≡ n = apart_fields c field n b sound.chip there (number c r b k sound.chip spared.there one)
          (reg ∙ sym (own_reg c r b k sound.chip spared.there one)) is (covers_it c r b k sound.chip spared.there one) in
          let still : (field_of c field).shape.volatile ≡ false =
          ap (λ i. (field_of c i).shape.volatile) same ∙ ap (λ (f : FieldSeen). f.shape.volatile) (sym (own_field c r b k sound.chip spared.there one)) ∙ spared.steady b k one in
          absurd cc

  -- with these bits of a field in a register
  abbrev set_in : State → FieldRow → (reg v : ℕ) → State
  set_in s f reg v = record s { bits = slice_set s.bits reg (held s.setup reg (put_bit f.lsb f.width (bit v) (bit (slice_index s.bits reg)))) }

  hw_is : (d : State) (field v : ℕ) → IsDevice c l g d → reg_of c field ≡ r → hw_set d field v ≡ set_in d (row_of_field t field) r v
  unfolding hw_set
  hw_is d field v is reg =
      ap (λ (u : Setup). set_in d (row_of_field u field) (row_of_field u field).reg v) is.setup
      ∙ ap (λ q. set_in d (row_of_field t field) q v) (row_reg c l field ∙ reg)

  row_covers : (field b : ℕ) → (field_of c field).shape.volatile ≡ true
      → is_within (row_of_field t field).lsb (row_of_field t field).width b ≡ covers (field_of c field).shape b
  row_covers field b moves = past (cases_lt field (length c.fields))
    where
      past : (field < length c.fields) ⊎ (length c.fields ≤ field) → is_within (row_of_field t field).lsb (row_of_field t field).width b ≡ covers (field_of c field).shape b
      past (inl low) = ap (λ (f : FieldRow). is_within f.lsb f.width b) (row_is c l field low)
      past (inr high) =
          let none : (field_of c field).shape.volatile ≡ false = ap (λ (f : FieldSeen). f.shape.volatile) (get_or_past c.fields field no_field high) in
          absurd cc

  pub hw_agrees : (field v : ℕ) (d : State) (m : MirrorData) → IsDevice c l g d → reg_of c field ≡ r → (field_of c field).shape.volatile ≡ true → Agrees c r d m
      → Agrees c r (hw_set d field v) m
  hw_agrees field v d m is reg moves agrees =
      let f = row_of_field t field in
      subst (λ x. Agrees c r x m) (sym (hw_is d field v is reg)) (record {
        bits = λ b k one.
            put_there d b k (put_bit f.lsb f.width (bit v) (bit (slice_index d.bits r))) is one
            ∙ ap (λ a. if a then bit v (b - f.lsb) else bit (slice_index d.bits r) b) (row_covers field b moves ∙ other_bit field b k one reg moves)
            ∙ agrees.bits b k one;
        marks = agrees.marks;
      })

  -- ---- a reset

  reset_there : (kind : ℕ) (d : State) (b k : ℕ) → IsDevice c l g d → IsComparedBit c r b k
      → bit (reg_reset d kind r) b ≡ believed_reset (field_of c (first_of c r + k)) kind b (bit (slice_index d.bits r) b)
  reset_there kind d b k is one =
      let n = first_of c r + k in
      let x = bit (slice_index d.bits r) b in
      let bare_bit = spared.bits b k one in
      held_loose d.setup r b (λ b. reset_bit d.setup kind (field_at d.setup r b) b (bit (slice_index d.bits r) b)) one.low
      (subst (λ (u : Setup). stuck_at u r b ≡ None) (sym is.setup) bare_bit.loose)
      ∙ ap (λ (u : Setup). reset_bit u kind (field_at u r b) b x) is.setup
      ∙ bare_bit.resets kind x
      ∙ ap (λ o. reset_bit t kind o b x) (field_there c l r b n sound.chip (has_bit b k one))
      ∙ ap (λ o. value_bit o (b - (row_of_field t n).lsb) x) (own_reset c l n kind)
      ∙ ap (λ (f : FieldRow). value_bit (value_for kind (field_of c n).resets) (b - f.lsb) x) (row_is c l n (number c r b k sound.chip spared.there one))
      ∙ value_case (value_for kind (field_of c n).resets) (b - (field_of c n).shape.lsb) x

  pub reset_agrees : (kind : ℕ) (d : State) (m : MirrorData) → IsDevice c l g d → HasSize c m → Agrees c r d m → Agrees c r (reset_by d kind) (reset c kind m)
  unfolding reset_by
  reset_agrees kind d m is size agrees = record {
    bits = λ b k one.
        ap (λ v. bit v b) (get_or-map-range_with_len (reg_reset d kind) 0 (length d.bits) r r 0 (subst (λ n. r < n) (sym is.bits) spared.there) (omega arith))
        ∙ reset_there kind d b k is one
        ∙ ap (believed_reset (field_of c (first_of c r + k)) kind b) (agrees.bits b k one)
        ∙ sym (reset_bit_is c r b k sound.chip spared.there one kind m size);
    marks = λ b k one.
        cleared (kind == 0) b ∙ ap (λ a. if kind == 0 then false else a) (agrees.marks b k one) ∙ sym (reset_mark c r b k sound.chip spared.there one kind m size);
  }
    where
      cleared : (a : Bool) (b : ℕ) → bit (slice_index (if a then replicate (length d.marks) 0 else d.marks) r) b ≡ (if a then false else bit (slice_index d.marks r) b)
      cleared true b = ap (λ v. bit v b) (get_or-replicate (length d.marks) r 0 0 (subst (λ n. r < n) (sym is.marks) spared.there)) ∙ bit-zero b
      cleared false b = refl

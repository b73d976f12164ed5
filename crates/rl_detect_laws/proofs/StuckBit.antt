-- A bit that no write changes, since it is stuck or its register is deaf.
use Rattle.std.proofs.Common.{◌≡◌, ◌⊎◌, ℕ, ◌<◌, Bool, true, false, not, List, [], ◌∷◌, length, replicate, All, Option, None, Some, if◌then◌else◌}
use Rattle.std.proofs.Common.{refl, sym, ap, ◌∙◌, subst, inl, inr}
use Rattle.std.specs.Prelude.{slice_index, slice_set}
use Rattle.std.proofs.lemmas.Bool.{cases_eq}
use Rattle.std.proofs.lemmas.List.{get_or-set_same, get_or-set_other, length-set}
use Rattle.std.proofs.lemmas.List.Elements.{All-head, All-tail}
use Rattle.rl_policy.proofs.BitLemmas.{bit-from_bits}
use Rattle.rl_policy.specs.Bits.{bit}
use Rattle.rl_bus.specs.declared.op.BusOp.{BusOp}
use Rattle.rl_bus.specs.declared.table.Cell.{Cell}
use Rattle.rl_bus.specs.declared.table.Cell.TheVariants.{Reg, Loc}
use Rattle.rl_bus.specs.declared.table.WordRow.{WordRow}
use Rattle.rl_bus.specs.Setup.{Setup, Flaws, mem_of, is_deaf, stuck_at, or_else, held}
use Rattle.rl_bus.specs.Spread.{lane_bit, spread_bit, lanes_in}
use Rattle.rl_bus.specs.State.{State, counted, word_at, is_faulty, after_writing, after_word, after_touch, state_after, answer_of}
use Rattle.rl_access.specs.declared.trace.TraceItem.{TraceItem}
use Rattle.rl_access.specs.Items.{state_after_all}
use Rattle.rl_access.proofs.Setups.{setup-state_after}
use Rattle.rl_detect_laws.proofs.Answering.{answers_as}

abbrev none_firm : Flaws → Flaws
none_firm f = record f { stuck = []; deaf = [] }

abbrev pub unstuck : Setup → Setup
unstuck t = record t { flaws = none_firm t.flaws }

-- the device with nothing stuck, nothing deaf and no mark
abbrev pub plain : State → State
plain d = record d { setup = unstuck d.setup; marks = replicate (length d.marks) 0 }

-- this bit is stuck at the value, or its register is deaf; no other bit is stuck
pub record IsFirm (t : Setup) (reg b : ℕ) (v : Bool) : Type 0 where
  pub low : b < 64
  pub here : (stuck_at t reg b ≡ Some v) ⊎ ((stuck_at t reg b ≡ None) × (is_deaf t (Reg reg) ≡ true))
  pub others : (r k : ℕ) → ((r ≡ reg) × (k ≡ b) → ⊥) → stuck_at t r k ≡ None

-- the register's bits are those that it is stuck at, where it is
abbrev pub HoldsStuck : Setup → (n x : ℕ) → Type 0
HoldsStuck t n x = (j : ℕ) → j < 64 → or_else (stuck_at t n j) (bit x j) ≡ bit x j

pub firm_holds : (t : Setup) (reg b : ℕ) (v : Bool) (n x : ℕ) → IsFirm t reg b v → (n ≡ reg → bit x b ≡ v) → HoldsStuck t n x
firm_holds t reg b v n x is here j low = by (cases_eq n reg) (cases_eq j b)
  where
    free : stuck_at t n j ≡ None → or_else (stuck_at t n j) (bit x j) ≡ bit x j
    free none = ap (λ o. or_else o (bit x j)) none

    by : (n ≡ reg) ⊎ (n ≡ reg → ⊥) → (j ≡ b) ⊎ (j ≡ b → ⊥) → or_else (stuck_at t n j) (bit x j) ≡ bit x j
    by (inr other) at = free (is.others n j (λ both. other both.0))
    by (inl same) (inr other) = free (is.others n j (λ both. other both.1))
    by (inl same) (inl at) =
        let where_it_is : stuck_at t n j ≡ stuck_at t reg b = ap (λ q. stuck_at t q j) same ∙ ap (stuck_at t reg) at in
        elim is.here [
          | inl stuck ↦ ap (λ o. or_else o (bit x j)) (where_it_is ∙ stuck) ∙ sym (here same) ∙ ap (bit x) (sym at)
          | inr deaf ↦ free (where_it_is ∙ deaf.0)
        ]

-- ---- a read answers what the device holds

pub answer_plain : (s : State) (port : ℕ) (op : BusOp) → answer_of (plain s) port op ≡ answer_of s port op
unfolding answer_of
answer_plain s port op =
    answers_as (counted s) (counted (plain s)) port op (record { faulty = refl; registers = λ r. refl; locations = λ m i. refl }) (word_at s port op)

-- ---- no write changes the bit

-- the register holds the bit further on
pub record IsStill (reg b : ℕ) (v : Bool) (x y : State) : Type 0 where
  pub bits : length y.bits ≡ length x.bits
  pub marks : length y.marks ≡ length x.marks
  pub here : reg < length x.bits → bit (slice_index x.bits reg) b ≡ v → bit (slice_index y.bits reg) b ≡ v

same : (reg b : ℕ) (v : Bool) (x : State) → IsStill reg b v x x
same reg b v x = record { bits = refl; marks = refl; here = λ inside h. h }

further : (reg b : ℕ) (v : Bool) (x y z : State) → IsStill reg b v x y → IsStill reg b v y z → IsStill reg b v x z
further reg b v x y z h k = record {
  bits = k.bits ∙ h.bits;
  marks = k.marks ∙ h.marks;
  here = λ inside so. k.here (subst (λ n. reg < n) (sym h.bits) inside) (h.here inside so);
}

pub held_bit : (t : Setup) (r k : ℕ) (f : ℕ → Bool) → k < 64 → bit (held t r f) k ≡ or_else (stuck_at t r k) (f k)
unfolding held
held_bit t r k f low = bit-from_bits 64 (λ b. or_else (stuck_at t r b) (f b)) k low

set_held : (t : Setup) (xs : List ℕ) (reg b : ℕ) (v : Bool) (r : ℕ) (f : ℕ → Bool) → b < 64 → (r ≡ reg → or_else (stuck_at t r b) (f b) ≡ v) → reg < length xs
    → bit (slice_index xs reg) b ≡ v → bit (slice_index (slice_set xs r (held t r f)) reg) b ≡ v
set_held t xs reg b v r f low so inside here = by (cases_eq r reg)
  where
    by : (r ≡ reg) ⊎ (r ≡ reg → ⊥) → bit (slice_index (slice_set xs r (held t r f)) reg) b ≡ v
    by (inl at) =
        ap (λ q. bit (slice_index (slice_set xs q (held t r f)) reg) b) at
        ∙ ap (λ n. bit n b) (get_or-set_same xs reg (held t r f) 0 inside) ∙ held_bit t r b f low ∙ so at
    by (inr other) = ap (λ n. bit n b) (get_or-set_other xs r reg (held t r f) 0 (λ same. other (sym same))) ∙ here

by_test : (reg b : ℕ) (v : Bool) (t : Bool) (s x y : State) → (t ≡ true → IsStill reg b v s x) → (t ≡ false → IsStill reg b v s y)
    → IsStill reg b v s (if t then x else y)
by_test reg b v true s x y h k = h refl
by_test reg b v false s x y h k = k refl

-- a write that the register hears
heard : (t : Setup) (reg b : ℕ) (v : Bool) (r : ℕ) (x : Bool) → IsFirm t reg b v → is_deaf t (Reg r) ≡ false → r ≡ reg → or_else (stuck_at t r b) x ≡ v
heard t reg b v r x is hears at =
    elim is.here [
      | inl stuck ↦ ap (λ q. or_else (stuck_at t q b) x) at ∙ ap (λ o. or_else o x) stuck
      | inr free ↦ let both : true ≡ false = sym free.1 ∙ ap (λ q. is_deaf t (Reg q)) (sym at) ∙ hears in absurd (cc)
    ]

write_still : (s : State) (reg b : ℕ) (v : Bool) (word lanes : ℕ → Bool) (c : Cell) → IsFirm s.setup reg b v → is_deaf s.setup c ≡ false
    → IsStill reg b v s (after_writing s word lanes c)
write_still s reg b v word lanes (Reg r) is hears = record {
  bits = length-set s.bits r _;
  marks = length-set s.marks r _;
  here = λ inside so. set_held s.setup s.bits reg b v r _ is.low (λ at. heard s.setup reg b v r _ is hears at) inside so;
}
write_still s reg b v word lanes (Loc m i) is hears =
    by_test reg b v (mem_of s.setup m).writable s _ s (λ so. record { bits = refl; marks = refl; here = λ inside h. h }) (λ so. same reg b v s)

not_read : (w : Bool) → w ≡ true → not w ≡ true → ⊥
not_read true writes reads = cc
not_read false writes reads = cc

word_still : (s : State) (reg b : ℕ) (v : Bool) (op : BusOp) (w : WordRow) → IsFirm s.setup reg b v → op.write ≡ true → IsStill reg b v s (after_word s op w)
word_still s reg b v op w is writes =
    by_test reg b v (not op.write) s _ _ (λ reads. absurd (not_read op.write writes reads))
    (λ so. by_test reg b v (is_deaf s.setup w.cell) s s _ (λ deaf. same reg b v s)
    (λ hears. write_still s reg b v (spread_bit (lanes_in w.lanes op.lanes) (bit op.word)) (lane_bit (lanes_in w.lanes op.lanes)) w.cell is hears))

touch_still : (s : State) (reg b : ℕ) (v : Bool) (port : ℕ) (op : BusOp) (o : Option WordRow) → IsFirm s.setup reg b v → op.write ≡ true
    → IsStill reg b v s (after_touch s port op o)
touch_still s reg b v port op None is writes = same reg b v s
touch_still s reg b v port op (Some w) is writes =
    let h = word_still s reg b v op w is writes in
    by_test reg b v (is_faulty s port op) s _ _ (λ so. record { bits = refl; marks = refl; here = λ inside h. h }) (λ so. record { bits = h.bits; marks = h.marks; here = h.here })

item_still : (s : State) (reg b : ℕ) (v : Bool) (port : ℕ) (op : BusOp) → IsFirm s.setup reg b v → op.write ≡ true → IsStill reg b v s (state_after s port op)
unfolding state_after
item_still s reg b v port op is writes =
    let h = touch_still (counted s) reg b v port op (word_at s port op) is writes in
    record { bits = h.bits; marks = h.marks; here = h.here }

-- ---- items one after another

abbrev IsWritten : TraceItem → Type 0
IsWritten item = item.op.write ≡ true

pub all_still : (t : Setup) (d : State) (reg b : ℕ) (v : Bool) (items : List TraceItem) → IsFirm t reg b v → d.setup ≡ t → All (λ item. item.op.write ≡ true) items
    → IsStill reg b v d (state_after_all d items)
all_still t d reg b v [] is at all = same reg b v d
all_still t d reg b v (item ∷ items) is at all =
    let after = state_after d item.port item.op in
    further reg b v d after (state_after_all after items)
    (item_still d reg b v item.port item.op (subst (λ (u : Setup). IsFirm u reg b v) (sym at) is) (All-head IsWritten item items all))
    (all_still t after reg b v items is (setup-state_after d item.port item.op ∙ at) (All-tail IsWritten item items all))

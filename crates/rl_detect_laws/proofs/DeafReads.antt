-- Reads never look at deaf items or marks: a device with nothing stuck answers and goes on as one without both.
use Rattle.std.proofs.Common.{◌≡◌, ℕ, Bool, true, false, not, List, [], ◌∷◌, All, Option, None, Some, if◌then◌else◌, refl, sym, ap, ◌∙◌, subst}
use Rattle.std.specs.Prelude.{slice_index, slice_set}
use Rattle.std.proofs.lemmas.List.Elements.{All-head, All-tail}
use Rattle.rl_policy.proofs.BitLemmas.{from_bits-same}
use Rattle.rl_policy.specs.Access.{bit_left}
use Rattle.rl_policy.specs.Bits.{bit}
use Rattle.rl_bus.specs.declared.op.BusOp.{BusOp}
use Rattle.rl_bus.specs.declared.table.Cell.{Cell}
use Rattle.rl_bus.specs.declared.table.Cell.TheVariants.{Reg, Loc}
use Rattle.rl_bus.specs.declared.table.WordRow.{WordRow}
use Rattle.rl_bus.specs.Setup.{Setup, policy_at, stuck_at, or_else, is_deaf, held}
use Rattle.rl_bus.specs.Spread.{lane_bit, spread_bit, lanes_in}
use Rattle.rl_bus.specs.State.{State, counted, word_at, is_faulty, beats_on, after_reading, after_writing, after_word, after_touch, state_after}
use Rattle.rl_access.specs.declared.trace.TraceItem.{TraceItem}
use Rattle.rl_access.specs.Items.{state_after_all}
use Rattle.rl_access.proofs.Setups.{setup-state_after}
use Rattle.rl_detect_laws.proofs.StuckBit.{unstuck, plain}

abbrev pub NoneStuck : Setup → Type 0
NoneStuck t = (r k : ℕ) → stuck_at t r k ≡ None

held_plain : (t : Setup) (r : ℕ) (f : ℕ → Bool) → NoneStuck t → held (unstuck t) r f ≡ held t r f
unfolding held
held_plain t r f none =
    from_bits-same 64 (λ b. or_else (stuck_at (unstuck t) r b) (f b)) (λ b. or_else (stuck_at t r b) (f b)) (λ b low. ap (λ o. or_else o (f b)) (sym (none r b)))

reading : (s : State) (lanes : ℕ → Bool) (c : Cell) → NoneStuck s.setup → after_reading (plain s) lanes c ≡ plain (after_reading s lanes c)
reading s lanes (Reg r) none =
    ap (λ n. let x : State = record (plain s) { bits = slice_set s.bits r n } in x)
    (held_plain s.setup r (λ b. bit_left (policy_at s.setup r b) (bit (slice_index s.bits r) b) (lanes b)) none)
reading s lanes (Loc m i) none = refl

read_word : (s : State) (op : BusOp) (w : WordRow) → op.write ≡ false → after_word s op w ≡ after_reading s (lane_bit (lanes_in w.lanes op.lanes)) w.cell
read_word s op w reads =
    let lanes = lane_bit (lanes_in w.lanes op.lanes) in
    ap (λ b. if not b then after_reading s lanes w.cell else if is_deaf s.setup w.cell then s else after_writing s (spread_bit (lanes_in w.lanes op.lanes) (bit op.word)) lanes w.cell) reads

either : (t : Bool) (x y v w : State) → v ≡ plain x → w ≡ plain y → (if t then v else w) ≡ plain (if t then x else y)
either true x y v w h k = h
either false x y v w h k = k

touch : (s : State) (port : ℕ) (op : BusOp) (o : Option WordRow) → NoneStuck s.setup → op.write ≡ false → after_touch (plain s) port op o ≡ plain (after_touch s port op o)
touch s port op None none reads = refl
touch s port op (Some w) none reads =
    let lanes = lane_bit (lanes_in w.lanes op.lanes) in
    either (is_faulty s port op) _ _ _ _ refl
    (ap (λ (x : State). let y : State = record x { beats = beats_on s port op } in y)
    (read_word (plain s) op w reads ∙ reading s lanes w.cell none ∙ ap plain (sym (read_word s op w reads))))

one : (s : State) (port : ℕ) (op : BusOp) → NoneStuck s.setup → op.write ≡ false → state_after (plain s) port op ≡ plain (state_after s port op)
unfolding state_after
one s port op none reads = touch (counted s) port op (word_at s port op) none reads

pub all_plain : (d : State) (items : List TraceItem) → NoneStuck d.setup → All (λ (item : TraceItem). item.op.write ≡ false) items
    → state_after_all (plain d) items ≡ plain (state_after_all d items)
all_plain d [] none all = refl
all_plain d (item ∷ items) none all =
    let reads : item.op.write ≡ false = All-head (λ (item : TraceItem). item.op.write ≡ false) item items all in
    let next = state_after d item.port item.op in
    ap (λ (x : State). state_after_all x items) (one d item.port item.op none reads)
    ∙ all_plain next items (subst NoneStuck (sym (setup-state_after d item.port item.op)) none) (All-tail (λ (item : TraceItem). item.op.write ≡ false) item items all)

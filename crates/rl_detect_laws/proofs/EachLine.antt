-- What stands at each line of a script: a model of the same chip and layout, and a device with the same setup.
use Rattle.std.proofs.Common.{◌≡◌, ℕ, zero, suc, ◌+◌, ◌<◌, ◌==◌, Bool, true, false, not, if◌then◌else◌, List, [], ◌∷◌, length, replicate, Option, Some, None}
use Rattle.std.proofs.Common.{option_map, Result, Ok, Err, refl, sym, subst, ◌∙◌}
use Rattle.std.specs.Prelude.{IfSome, IfOk}
use Rattle.std.specs.List.{AllByRecursion}
use Rattle.std.proofs.lemmas.List.{length-set, length-replicate}
use Rattle.std.proofs.lemmas.List.FromFn.{length-map-range_with_len}
use Rattle.rl_policy.specs.Bits.{bit}
use Rattle.rl_bus.specs.declared.op.BusOp.{BusOp}
use Rattle.rl_bus.specs.declared.table.Cell.{Cell}
use Rattle.rl_bus.specs.declared.table.Cell.TheVariants.{Reg, Loc}
use Rattle.rl_bus.specs.declared.table.WordRow.{WordRow}
use Rattle.rl_bus.specs.Setup.{Setup, mem_of, is_deaf}
use Rattle.rl_bus.specs.Spread.{lane_bit, spread_bit, lanes_in}
use Rattle.rl_bus.specs.State.{State, counted, word_at, is_faulty, after_reading, after_writing, after_word, after_touch, state_after, poked, hw_set, reg_reset, reset_by}
use Rattle.rl_model.specs.Rows.{ChipData}
use Rattle.rl_model.specs.Chip.{IsSound as IsChip}
use Rattle.rl_map.specs.Layout.{LayoutData, IsSound as IsLayout}
use Rattle.rl_access.specs.declared.event.Op.{Op}
use Rattle.rl_access.specs.declared.event.Op.TheVariants as op
use Rattle.rl_access.specs.declared.trace.TraceItem.{TraceItem}
use Rattle.rl_access.specs.Items.{state_after_all}
use Rattle.rl_access.specs.Model.{ModelData, IsModel}
use Rattle.rl_access.specs.Operation.{IsMapIn, HasNumbers}
use Rattle.rl_access.specs.Rules.{Grant, grant, found_by, device_after}
use Rattle.rl_access.specs.Runs.{write_grant, writes_of, reads_of}
use Rattle.rl_access.specs.Tally.{is_bus_error}
use Rattle.rl_access.specs.World.{World, items_at, done_at, step_by, step_of}
use Rattle.rl_seq.specs.Plan.{Plan, stop, step, look}
use Rattle.rl_seq.specs.Sequences.{plan_of as sequence_plan}
use Rattle.rl_plain.specs.Calls.{PlanHasNumbers}
use Rattle.rl_plain.proofs.PlanNumbers.{plans_have_numbers}
use Rattle.rl_script.specs.declared.line.Line.{Line}
use Rattle.rl_script.specs.declared.line.Line.TheVariants as line
use Rattle.rl_log.specs.declared.refusal.LineRefusal.{LineRefusal}
use Rattle.rl_log.specs.Course.{alone, first_then, through, along, burst}
use Rattle.rl_log.specs.Entry.{Entry, plain, with_both, framed, sequence_of, plan_of, sequence_course, op_course, burst_write_course, burst_read_course, entry_of}
use Rattle.rl_log.specs.Log.{said, there, comes_of}
use Rattle.rl_log.specs.Named.{mem_named, map_asked, block_asked, op_named}
use Rattle.rl_log.proofs.Numbers.{mem_in, map_in, op_numbers}
use Rattle.rl_detect_laws.specs.Logged.{Leads}
use Rattle.rl_detect_laws.proofs.KeptModel.{outcome_model}
use Rattle.rl_detect_laws.proofs.Standing.{outcome_of, setup_after}

-- ---- the device keeps as many bits and marks

record IsSized (x y : State) : Type 0 where
  bits : length y.bits ≡ length x.bits
  marks : length y.marks ≡ length x.marks

same : (x : State) → IsSized x x
same x = record { bits = refl; marks = refl }

further : (x y z : State) → IsSized x y → IsSized y z → IsSized x z
further x y z h k = record { bits = k.bits ∙ h.bits; marks = k.marks ∙ h.marks }

by_test : (b : Bool) (s x y : State) → IsSized s x → IsSized s y → IsSized s (if b then x else y)
by_test true s x y h k = h
by_test false s x y h k = k

reading : (s : State) (lanes : ℕ → Bool) (c : Cell) → IsSized s (after_reading s lanes c)
reading s lanes (Reg r) = record { bits = length-set s.bits r _; marks = refl }
reading s lanes (Loc m i) = same s

writing : (s : State) (word lanes : ℕ → Bool) (c : Cell) → IsSized s (after_writing s word lanes c)
writing s word lanes (Reg r) = record { bits = length-set s.bits r _; marks = length-set s.marks r _ }
writing s word lanes (Loc m i) = by_test (mem_of s.setup m).writable s _ s (record { bits = refl; marks = refl }) (same s)

word_sized : (s : State) (o : BusOp) (w : WordRow) → IsSized s (after_word s o w)
word_sized s o w =
    by_test (not o.write) s _ _ (reading s (lane_bit (lanes_in w.lanes o.lanes)) w.cell)
    (by_test (is_deaf s.setup w.cell) s s _ (same s)
    (writing s (spread_bit (lanes_in w.lanes o.lanes) (bit o.word)) (lane_bit (lanes_in w.lanes o.lanes)) w.cell))

touch_sized : (s : State) (port : ℕ) (o : BusOp) (w : Option WordRow) → IsSized s (after_touch s port o w)
touch_sized s port o None = same s
touch_sized s port o (Some w) =
    let h = word_sized s o w in
    by_test (is_faulty s port o) s _ _ (record { bits = refl; marks = refl }) (record { bits = h.bits; marks = h.marks })

item_sized : (s : State) (port : ℕ) (o : BusOp) → IsSized s (state_after s port o)
unfolding state_after
item_sized s port o =
    let h = touch_sized (counted s) port o (word_at s port o) in record { bits = h.bits; marks = h.marks }

all_sized : (d : State) (items : List TraceItem) → IsSized d (state_after_all d items)
all_sized d [] = same d
all_sized d (item ∷ items) =
    let after = state_after d item.port item.op in
    further d after (state_after_all after items) (item_sized d item.port item.op) (all_sized after items)

either_length : (b : Bool) (xs : List ℕ) → length (if b then replicate (length xs) 0 else xs) ≡ length xs
either_length true xs = length-replicate (length xs) 0
either_length false xs = refl

device_sized : (m : ModelData) (o : Op) (sampled : ℕ) (items : List TraceItem) (d : State) → IsSized d (device_after m o sampled items d)
unfolding poked hw_set reset_by
device_sized m (op.BackWrite reg value) sampled items d = record { bits = length-set d.bits reg _; marks = refl }
device_sized m (op.BackRead reg) sampled items d = record { bits = length-set d.bits reg _; marks = refl }
device_sized m (op.BackCheck reg) sampled items d = record { bits = length-set d.bits reg _; marks = refl }
device_sized m (op.Poke reg value) sampled items d = record { bits = length-set d.bits reg _; marks = refl }
device_sized m (op.MemPoke mem index value) sampled items d = record { bits = refl; marks = refl }
device_sized m (op.Hw field value) sampled items d = record { bits = length-set d.bits _ _; marks = refl }
device_sized m (op.Reset kind) sampled items d = record {
  bits = length-map-range_with_len (reg_reset d kind) 0 (length d.bits);
  marks = either_length (kind == 0) d.marks;
}
device_sized m _ sampled items d = all_sized d items

-- ---- what stands

pub record IsWorldOf (c : ChipData) (l : LayoutData) (t : Setup) (w : World) : Type 0 where
  pub model : IsModel w.model
  pub chip : w.model.chip ≡ c
  pub layout : w.model.layout ≡ l
  pub setup : w.device.setup ≡ t
  pub bits : length w.device.bits ≡ length c.regs
  pub marks : length w.device.marks ≡ length c.regs

module _ (c : ChipData) (l : LayoutData) (t : Setup) where
  -- ---- an operation

  done_keeps : (w : World) (o : Op) (place : ℕ) → IsWorldOf c l t w → HasNumbers w.model.chip (length w.model.layout.maps) o
      → IsWorldOf c l t (done_at w o place).world
  done_keeps w o place h numbers =
      let found = found_by w.device o in
      let items = items_at w o place in
      let after = outcome_of w.model o place found items in
      let sized = device_sized w.model o found items w.device in
      record {
        model = outcome_model w.model o place found items h.model numbers;
        chip = after.0 ∙ h.chip;
        layout = after.1 ∙ h.layout;
        setup = setup_after w.model o found items w.device ∙ h.setup;
        bits = sized.bits ∙ h.bits;
        marks = sized.marks ∙ h.marks;
      }

  grant_keeps : (w : World) (o : Op) (g : Grant) → IsWorldOf c l t w → HasNumbers w.model.chip (length w.model.layout.maps) o
      → IsWorldOf c l t (step_by w o g).world
  grant_keeps w o (Ok place) h numbers = done_keeps w o place h numbers
  grant_keeps w o (Err why) h numbers = h

  step_keeps : (w : World) (o : Op) → IsWorldOf c l t w → HasNumbers w.model.chip (length w.model.layout.maps) o
      → IsWorldOf c l t (step_of w o).world
  unfolding step_of
  step_keeps w o h numbers = grant_keeps w o (grant w.model o) h numbers

  -- the numbers of an operation, as the world's own chip and layout have them
  own_numbers : (w : World) (o : Op) → IsWorldOf c l t w → HasNumbers c (length l.maps) o
      → HasNumbers w.model.chip (length w.model.layout.maps) o
  own_numbers w o h numbers =
      subst (λ (x : ChipData). HasNumbers x (length w.model.layout.maps) o) (sym h.chip)
      (subst (λ (y : LayoutData). HasNumbers c (length y.maps) o) (sym h.layout) numbers)

  -- ---- operations one after another

  through_keeps : (ops : List Op) (w : World) → IsWorldOf c l t w → AllByRecursion (HasNumbers c (length l.maps)) ops
      → IsWorldOf c l t (through w ops).world
  unfolding through
  through_keeps [] w h numbers = h
  through_keeps (o ∷ ops) w h numbers =
      let next = step_keeps w o h (own_numbers w o h numbers.0) in
      by (is_bus_error (step_of w o).event.end) next (through_keeps ops (step_of w o).world next numbers.1)
    where
      by : (b : Bool) → IsWorldOf c l t (step_of w o).world → IsWorldOf c l t (through (step_of w o).world ops).world
          → IsWorldOf c l t (if b then alone (step_of w o) else first_then (step_of w o) (through (step_of w o).world ops)).world
      by true next rest = next
      by false next rest = rest

  along_keeps : (p : Plan) (w : World) → IsWorldOf c l t w → PlanHasNumbers c l p → IsWorldOf c l t (along w p).world
  unfolding along
  along_keeps stop w h numbers = h
  along_keeps (step o p) w h numbers =
      along_keeps p (step_of w o).world (step_keeps w o h (own_numbers w o h numbers.0)) numbers.1
  along_keeps (look f) w h numbers = along_keeps (f w.model) w h (numbers w.model h.chip h.layout)

  burst_keeps : (g : Grant) (o : Op) (ops : List Op) (w : World) → IsWorldOf c l t w
      → AllByRecursion (HasNumbers c (length l.maps)) ops → IsWorldOf c l t (burst w g o ops).world
  burst_keeps (Ok place) o ops w h numbers = through_keeps ops w h numbers
  burst_keeps (Err why) o ops w h numbers = h

  writes_fine : (mem : ℕ) (over : Option ℕ) (first : ℕ) (values : List ℕ) → mem < length c.mems → IsMapIn (length l.maps) over
      → AllByRecursion (HasNumbers c (length l.maps)) (writes_of mem over first values)
  writes_fine mem over first [] low in_map = tt
  writes_fine mem over first (v ∷ values) low in_map = ((low, in_map), writes_fine mem over (first + 1) values low in_map)

  reads_fine : (mem : ℕ) (over : Option ℕ) (first count : ℕ) → mem < length c.mems → IsMapIn (length l.maps) over
      → AllByRecursion (HasNumbers c (length l.maps)) (reads_of mem over first count)
  reads_fine mem over first zero low in_map = tt
  reads_fine mem over first (suc count) low in_map = ((low, in_map), reads_fine mem over (first + 1) count low in_map)

  -- ---- a line

  abbrev EntryKeeps : Entry → Type 0
  EntryKeeps e = IsWorldOf c l t e.course.world

  made_keeps : {A : Type 0} (o : Option A) (make : A → Entry) → ((x : A) → o ≡ Some x → EntryKeeps (make x))
      → IfSome (option_map make o) EntryKeeps
  made_keeps None make h = tt
  made_keeps (Some x) make h = h x refl

  both_keep : (n : Option ℕ) (over : Option (Option ℕ)) (make : ℕ → Option ℕ → Entry)
      → ((i : ℕ) (u : Option ℕ) → n ≡ Some i → over ≡ Some u → EntryKeeps (make i u)) → IfSome (with_both n over make) EntryKeeps
  both_keep None over make h = tt
  both_keep (Some i) None make h = tt
  both_keep (Some i) (Some u) make h = h i u refl refl

  mem_there : (w : World) (path : List ℕ) (i : ℕ) → IsWorldOf c l t w → mem_named w.model.chip path ≡ Some i → i < length c.mems
  mem_there w path i h is = subst (λ (x : ChipData). i < length x.mems) h.chip (mem_in w.model.chip path i is)

  map_there : (w : World) (name : Option (List ℕ)) (u : Option ℕ) → IsWorldOf c l t w → map_asked w.model.layout name ≡ Some u
      → IsMapIn (length l.maps) u
  map_there w name u h is = subst (λ (y : LayoutData). IsMapIn (length y.maps) u) h.layout (map_in w.model.layout name u is)

  entry_keeps : (w : World) (said : Line) → IsWorldOf c l t w → IfSome (entry_of w said) EntryKeeps
  entry_keeps w line.Blank h = h
  entry_keeps w (line.BurstWrite mem first values map) h =
      both_keep (mem_named w.model.chip mem) (map_asked w.model.layout map) (λ i u. plain (burst_write_course i u first values w))
      (λ i u a b. burst_keeps (write_grant w.model i u first values) _ (writes_of i u first values) w h
      (writes_fine i u first values (mem_there w mem i h a) (map_there w map u h b)))
  entry_keeps w (line.BurstRead mem first count map) h =
      both_keep (mem_named w.model.chip mem) (map_asked w.model.layout map) (λ i u. plain (burst_read_course i u first count w))
      (λ i u a b. burst_keeps (grant w.model (op.BurstRead i u first count)) _ (reads_of i u first count) w h
      (reads_fine i u first count (mem_there w mem i h a) (map_there w map u h b)))
  entry_keeps w (line.Seq which over) h =
      let sound = subst IsChip h.chip h.model.chip in
      let layout = subst IsLayout h.layout h.model.layout in
      made_keeps (block_asked w.model.chip over) (λ block. framed which over (sequence_course which block w))
      (λ block is. along_keeps (plan_of which w.model block) w h
      (subst (λ x. PlanHasNumbers c l (sequence_plan (sequence_of which) x w.model.layout block)) (sym h.chip)
      (subst (λ y. PlanHasNumbers c l (sequence_plan (sequence_of which) c y block)) (sym h.layout)
      (plans_have_numbers (sequence_of which) c l block sound layout))))
  entry_keeps w said h =
      made_keeps (op_named w.model said) (λ o. plain (op_course o w)) (λ o is. step_keeps w o h (op_numbers w.model said o is))

  there_keeps : (o : Option Entry) → IfSome o EntryKeeps → IfOk (there o) EntryKeeps
  there_keeps None h = tt
  there_keeps (Some e) h = h

  comes_keeps : (w : World) (r : Result Line LineRefusal) → IsWorldOf c l t w → IfOk (comes_of w r) EntryKeeps
  comes_keeps w (Ok said) h = there_keeps (entry_of w said) (entry_keeps w said h)
  comes_keeps w (Err why) h = tt

  -- ---- lines

  pub leads_keeps : (lines : List (List ℕ)) (number : ℕ) (w v : World) → IsWorldOf c l t w → Leads number w lines v → IsWorldOf c l t v
  leads_keeps [] number w v h same = subst (IsWorldOf c l t) (sym same) h
  leads_keeps (text ∷ lines) number w v h (e, first, leads) =
      let next = subst (λ r. IfOk r EntryKeeps) first (comes_keeps w (said number text) h) in
      leads_keeps lines (number + 1) e.course.world v next leads

-- The numbers of a plan's operations are in range.
use Rattle.std.proofs.Common.{◌≡◌, ℕ, zero, suc, ◌-◌, ◌*◌, ◌^◌, ◌<◌, ◌≤◌, Bool, true, false, not, nat_lt, if◌then◌else◌, List, [], ◌∷◌, length, find, filter_map, All, Option, Some, None, IfSome, slice_get, refl, sym, subst, arith}
use Rattle.std.specs.Option.{option_map_or}
use Rattle.std.proofs.Math.Pow.{pow_mono}
use Rattle.std.proofs.lemmas.Nat.{pow_pos}
use Rattle.std.proofs.lemmas.List.Elements.{All-append, All-nil, filter_map-append}
use Rattle.rl_model.specs.declared.rows.Item.{Item}
use Rattle.rl_model.specs.declared.rows.Item.TheVariants as item
use Rattle.rl_model.specs.Chip.{IsSound as IsChip}
use Rattle.rl_model.specs.Fields.{size_of}
use Rattle.rl_model.specs.Rows.{ChipData}
use Rattle.rl_model.proofs.ChipLaws.{size_fits}
use Rattle.rl_map.specs.Layout.{IsSound as IsLayout, LayoutData, place_at, same_item}
use Rattle.rl_access.specs.declared.event.Op.{Op}
use Rattle.rl_access.specs.declared.event.Op.TheVariants as op
use Rattle.rl_access.specs.Model.{IsModel, ModelData}
use Rattle.rl_access.specs.Operation.{HasNumbers, location_size}
use Rattle.rl_access.specs.Rules.{memory_size}
use Rattle.rl_report.specs.Operation.{FitsWords}
use Rattle.rl_plan.specs.declared.asked.Asked.{Asked}
use Rattle.rl_plan.specs.declared.step.Sort.{Sort}
use Rattle.rl_plan.specs.declared.step.Step.{Step}
use Rattle.rl_plan.specs.declared.step.Step.TheVariants as step
use Rattle.rl_plan.specs.declared.target.Target.{Target}
use Rattle.rl_plan.specs.declared.visit.Visit.TheVariants as visit
use Rattle.rl_plan.specs.declared.way.Way.{Way}
use Rattle.rl_plan.specs.Plan.{check_by, is_filled, is_gone, further_ops_as, further_steps, location_ops, ones_of, only_if, op_of, ops_as, some_op}
use Rattle.rl_plan.specs.Plan.{touch_op, visit_op, way_at, ways_of, write_by}
use Rattle.rl_plan.specs.Text.{HasLine, is_planned, mem_ways, planned_for, planned_further, planned_in, reg_target, reg_ways}
use Rattle.rl_plan.specs.Steps.{steps_of}
use Rattle.rl_plan.proofs.Pushed.{of_one}

-- an operation that a plan has, with its numbers in range, and with values of 64 bits
abbrev pub Fits : ChipData → (maps : ℕ) → Op → Type 0
Fits c maps o = (is_planned o ≡ true) × HasNumbers c maps o × FitsWords o

abbrev IsIn : (maps : ℕ) → Way → Type 0
IsIn maps w = w.map < maps

-- ---- lists

all_one : {X : Type 0} (P : X → Type 0) (x : X) → P x → All P (x ∷ [])
all_one P x p zero d low = p
all_one P x p (suc k) d low = absurd (omega arith)

all_some : (P : Op → Type 0) (o : Option Op) → IfSome o P → All P (some_op o)
all_some P None p = All-nil P
all_some P (Some x) p = all_one P x p

all_made : {X : Type 0} (P : Op → Type 0) (h : X → Option Op) (xs : List X) → All (λ x. IfSome (h x) P) xs → All P (filter_map h xs)
all_made P h [] each = All-nil P
all_made P h (x ∷ xs) each =
    let one : All P (filter_map h (x ∷ [])) =
    subst (All P) (sym (of_one h x (h x) refl)) (all_some P (h x) (each zero x (omega arith))) in
    let others = all_made P h xs (λ k d low. each (suc k) d (omega arith)) in
    subst (All P) (sym (filter_map-append h (x ∷ []) xs)) (All-append P (filter_map h (x ∷ [])) (filter_map h xs) one others)

pub of_all : {X : Type 0} (P : X → Type 0) (Q : X → Type 0) (xs : List X) → ((x : X) → P x → Q x) → All P xs → All Q xs
of_all P Q xs gives each k d low = gives _ (each k d low)

found_in : (maps : ℕ) (test : Way → Bool) (ways : List Way) → All (IsIn maps) ways → IfSome (find test ways) (IsIn maps)
found_in maps test [] each = tt
found_in maps test (w ∷ ways) each =
    elim (test w) as (λ b. IfSome (if b then Some w else find test ways) (IsIn maps)) [
      | true ↦ each zero w (omega arith)
      | false ↦ found_in maps test ways (λ k d low. each (suc k) d (omega arith))
    ]

-- ---- places

way_if : (maps : ℕ) (b : Bool) (w : Way) → w.map < maps → All (IsIn maps) (if b then w ∷ [] else [])
way_if maps true w low = all_one (IsIn maps) w low
way_if maps false w low = All-nil (IsIn maps)

pub ways_in : (l : LayoutData) (i : Item) (n : ℕ) → IsLayout l → n ≤ length l.places → All (IsIn (length l.maps)) (ways_of l i n)
ways_in l i zero sound few = All-nil (IsIn (length l.maps))
ways_in l i (suc k) sound few =
    All-append (IsIn (length l.maps)) (ways_of l i k) _ (ways_in l i k sound (omega arith))
    (way_if (length l.maps) (same_item (place_at l k).item i) (way_at l k) (sound.each_place k (omega arith)).map)

-- ---- sizes

at_most : {R : Type 0} (o : Option R) (size : R → ℕ) (most : ℕ) → ((r : R) → o ≡ Some r → size r ≤ most) → option_map_or size o 0 ≤ most
at_most None size most each = omega arith
at_most (Some r) size most each = each r refl

bytes_of_reg : (c : ChipData) (reg : ℕ) → IsChip c → size_of c reg ≤ 8
bytes_of_reg c reg sound = at_most (slice_get c.regs reg) (λ r. r.bytes) 8 (λ r e. (sound.each_reg reg r e).1)

bytes_of_mem : (c : ChipData) (mem : ℕ) → IsChip c → location_size c mem ≤ 8
bytes_of_mem c mem sound = at_most (slice_get c.mems mem) (λ m. m.bytes) 8 (λ m e. (sound.each_mem mem m e).1)

size_most : (c : ChipData) (mem : ℕ) → IsChip c → memory_size c mem ≤ 65536
size_most c mem sound = at_most (slice_get c.mems mem) (λ m. m.size) 65536 (λ m e. (size_fits c sound mem m e).1)

ones_fit : (bytes : ℕ) → bytes ≤ 8 → ones_of bytes < 2 ^ 64
ones_fit bytes few =
    let some : 0 < 2 ^ (8 * bytes) = pow_pos (8 * bytes) in
    let low : 8 * bytes ≤ 64 = omega (arith, few) in
    let most : 2 ^ (8 * bytes) ≤ 2 ^ 64 = pow_mono low in
    omega (arith, some, most)

-- ---- a register

module _ (c : ChipData) (maps : ℕ) (t : Target) (there : t.reg < length c.regs) (reader_in : IfSome t.reader (IsIn maps)) (writer_in : IfSome t.writer (IsIn maps)) (word : t.ones < 2 ^ 64) where
  back_fits : (b : Bool) → IfSome (if b then Some (op.BackCheck t.reg) else None) (Fits c maps)
  back_fits true = (refl, there, (omega arith, omega arith))
  back_fits false = tt

  check_fits : (o : Option Way) → IfSome o (IsIn maps) → IfSome (check_by t o) (Fits c maps)
  check_fits None low = back_fits t.backdoor
  check_fits (Some w) low = (refl, (there, low), (omega arith, omega arith))

  write_fits : (value : ℕ) (o : Option Way) → value < 2 ^ 64 → IfSome o (IsIn maps) → IfSome (write_by t value o) (Fits c maps)
  write_fits value None fits low = tt
  write_fits value (Some w) fits low = (refl, (there, low), (fits, omega arith))

  poke_fits : (value : ℕ) (b : Bool) → value < 2 ^ 64 → IfSome (if b then Some (op.Poke t.reg value) else None) (Fits c maps)
  poke_fits value true fits = (refl, there, (fits, omega arith))
  poke_fits value false fits = tt

  step_fits : (kind : ℕ) → kind < length c.kinds → (s : Step) → IfSome (op_of t kind s) (Fits c maps)
  step_fits kind low step.Reset = (refl, low, tt)
  step_fits kind low step.Check = check_fits t.reader reader_in
  step_fits kind low step.BackCheck = back_fits t.backdoor
  step_fits kind low step.WriteZeros = write_fits 0 t.writer (omega arith) writer_in
  step_fits kind low step.WriteOnes = write_fits t.ones t.writer word writer_in
  step_fits kind low step.PokeZeros = poke_fits 0 t.backdoor (omega arith)
  step_fits kind low step.PokeOnes = poke_fits t.ones t.backdoor word

  steps_fit : (kind : ℕ) → kind < length c.kinds → (steps : List Step) → All (Fits c maps) (filter_map (op_of t kind) steps)
  steps_fit kind low steps = all_made (Fits c maps) (op_of t kind) steps (λ i d in_range. step_fits kind low _)

  further_fit : (sort : Sort) (n : ℕ) → n ≤ length c.kinds → All (Fits c maps) (further_ops_as c sort t n)
  further_fit sort zero few = All-nil (Fits c maps)
  further_fit sort (suc k) few =
      All-append (Fits c maps) (further_ops_as c sort t k) _ (further_fit sort k (omega arith)) (steps_fit k (omega arith) (further_steps c sort t.reg k))

  touch_fits : (w : Way) (b : Bool) → w.map < maps → Fits c maps (if b then op.Check t.reg (Some w.map) else op.Write t.reg (Some w.map) 0)
  touch_fits w true low = (refl, (there, low), (omega arith, omega arith))
  touch_fits w false low = (refl, (there, low), (omega arith, omega arith))

  only_fits : (b : Bool) (o : Op) → Fits c maps o → IfSome (only_if b o) (Fits c maps)
  only_fits true o fits = fits
  only_fits false o fits = tt

  touches_fit : (seen : Bool) (ways : List Way) → All (IsIn maps) ways → All (Fits c maps) (filter_map (visit_op (visit.Touch t seen)) ways)
  touches_fit seen ways each =
      all_made (Fits c maps) (visit_op (visit.Touch t seen)) ways
      (of_all (IsIn maps) _ ways (λ w low. only_fits (not (is_gone t seen w)) (touch_op t.reg w) (touch_fits w w.reads low)) each)

  ops_fit : 0 < length c.kinds → (sort : Sort) (ways : List Way) → All (IsIn maps) ways → All (Fits c maps) (ops_as sort t ways)
  ops_fit some sort ways each =
      All-append (Fits c maps) (filter_map (op_of t 0) (steps_of sort)) _ (steps_fit 0 some (steps_of sort)) (touches_fit _ ways each)

pub reg_fits : (m : ModelData) (asked : Asked) (reg : ℕ) → IsModel m → reg < length m.chip.regs
    → All (Fits m.chip (length m.layout.maps)) (planned_for m asked reg)
reg_fits m asked reg model there =
    let maps = length m.layout.maps in
    let ways = reg_ways m reg in
    let each = ways_in m.layout (item.Reg reg) (length m.layout.places) model.layout (omega arith) in
    let kinds = model.chip.two_kinds in
    ops_fit m.chip maps (reg_target m asked reg) there (found_in maps (λ w. w.reads) ways each) (found_in maps (λ w. w.writes) ways each)
    (ones_fit _ (bytes_of_reg m.chip reg model.chip)) (omega (arith, kinds)) _ ways each

pub further_fits : (m : ModelData) (asked : Asked) (reg : ℕ) → IsModel m → reg < length m.chip.regs
    → All (Fits m.chip (length m.layout.maps)) (planned_further m asked reg)
further_fits m asked reg model there =
    let maps = length m.layout.maps in
    let ways = reg_ways m reg in
    let each = ways_in m.layout (item.Reg reg) (length m.layout.places) model.layout (omega arith) in
    further_fit m.chip maps (reg_target m asked reg) there (found_in maps (λ w. w.reads) ways each) (found_in maps (λ w. w.writes) ways each)
    (ones_fit _ (bytes_of_reg m.chip reg model.chip)) _ (length m.chip.kinds) (omega arith)

-- ---- a memory

module _ (c : ChipData) (maps mem : ℕ) (there : mem < length c.mems) where
  fill_fits : (index value : ℕ) (w : Way) (b : Bool) → (index < 2 ^ 64) × (value < 2 ^ 64) → w.map < maps → IfSome (only_if b (op.MemWrite mem (Some w.map) index value)) (Fits c maps)
  fill_fits index value w true words low = (refl, (there, low), words)
  fill_fits index value w false words low = tt

  look_fits : (index value : ℕ) (w : Way) (b : Bool) → (index < 2 ^ 64) × (value < 2 ^ 64) → w.map < maps → IfSome (only_if b (op.MemCheck mem (Some w.map) index value)) (Fits c maps)
  look_fits index value w true words low = (refl, (there, low), words)
  look_fits index value w false words low = tt

  read_fits : (index : ℕ) (w : Way) (b : Bool) → index < 2 ^ 64 → w.map < maps → IfSome (only_if b (op.MemRead mem (Some w.map) index)) (Fits c maps)
  read_fits index w true word low = (refl, (there, low), (word, omega arith))
  read_fits index w false word low = tt

  location_fits : (ways : List Way) (filled : Bool) (value index : ℕ) → (index < 2 ^ 64) × (value < 2 ^ 64) → All (IsIn maps) ways
      → All (Fits c maps) (location_ops ways filled mem value index)
  location_fits ways true value index words each =
      All-append (Fits c maps) (filter_map (visit_op (visit.Fill mem index value)) ways) _
      (all_made (Fits c maps) (visit_op (visit.Fill mem index value)) ways
      (of_all (IsIn maps) _ ways (λ w low. fill_fits index value w w.writes words low) each))
      (all_made (Fits c maps) (visit_op (visit.Check mem index value)) ways
      (of_all (IsIn maps) _ ways (λ w low. look_fits index value w w.reads words low) each))
  location_fits ways false value index words each =
      all_made (Fits c maps) (visit_op (visit.Read mem index)) ways
      (of_all (IsIn maps) _ ways (λ w low. read_fits index w w.reads words.0 low) each)

  last_fits : (ways : List Way) (filled : Bool) (value index : ℕ) (b : Bool) → (index < 2 ^ 64) × (value < 2 ^ 64) → All (IsIn maps) ways
      → All (Fits c maps) (if b then location_ops ways filled mem value index else [])
  last_fits ways filled value index true words each = location_fits ways filled value index words each
  last_fits ways filled value index false words each = All-nil (Fits c maps)

pub mem_fits : (m : ModelData) (mem : ℕ) → IsModel m → mem < length m.chip.mems → All (Fits m.chip (length m.layout.maps)) (planned_in m mem)
mem_fits m mem model there =
    let maps = length m.layout.maps in
    let ways = mem_ways m mem in
    let each = ways_in m.layout (item.Mem mem) (length m.layout.places) model.layout (omega arith) in
    let filled = is_filled m.chip mem ways in
    let value = ones_of (location_size m.chip mem) in
    let size = memory_size m.chip mem in
    let word = ones_fit _ (bytes_of_mem m.chip mem model.chip) in
    let few = size_most m.chip mem model.chip in
    All-append (Fits m.chip maps) (location_ops ways filled mem value 0) (if nat_lt 1 size then location_ops ways filled mem value (size - 1) else [])
    (location_fits m.chip maps mem there ways filled value 0 (omega arith, word) each)
    (last_fits m.chip maps mem there ways filled value (size - 1) (nat_lt 1 size) (omega (arith, few), word) each)

-- ---- each has a line

pub have_lines : (m : ModelData) (ops : List Op) → All (Fits m.chip (length m.layout.maps)) ops → All (HasLine m) ops
have_lines m ops each = of_all (Fits m.chip (length m.layout.maps)) (HasLine m) ops (λ o fits. (fits.0, fits.1)) each

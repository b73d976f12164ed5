-- An access to a register or a location of two devices of one chip and layout, and what else is done to one register of both.
use Rattle.std.proofs.Common.{◌≡◌, ℕ, ◌%◌, ◌^◌, ◌<◌, Bool, true, false, not, ◌&&◌, ◌==◌, if◌then◌else◌, List, [], length, replicate, Option, Some, None, option_map, is_some, refl, sym, ap, subst, ◌∙◌}
use Rattle.std.specs.Prelude.{position, slice_get, slice_index, slice_set}
use Rattle.std.specs.Option.{option_map_or}
use Rattle.std.proofs.lemmas.List.{get_or-set_other, length-replicate, length-set}
use Rattle.std.proofs.lemmas.List.FromFn.{length-map-range_with_len}
use Rattle.rl_policy.specs.Bits.{bit, put_bit}
use Rattle.rl_bus.specs.declared.table.Cell.{Cell}
use Rattle.rl_bus.specs.declared.table.Cell.TheVariants.{Reg, Loc}
use Rattle.rl_bus.specs.declared.table.FieldRow.{FieldRow}
use Rattle.rl_bus.specs.Setup.{Flaws, Setup, covers, field_at, field_of as row_of_field, held, location, mem_of}
use Rattle.rl_bus.specs.Standing.{Standing}
use Rattle.rl_bus.specs.State.{State, hw_set, peeked, poked, reg_reset, reset_bit, reset_by}
use Rattle.rl_model.specs.Chip.{IsSound as IsSoundChip, bytes_of}
use Rattle.rl_model.specs.Fields.{field_of, size_of}
use Rattle.rl_model.specs.Rows.{ChipData}
use Rattle.rl_model.specs.declared.rows.Item.{Item}
use Rattle.rl_model.specs.declared.rows.Item.TheVariants as item
use Rattle.rl_model.specs.declared.rows.MemRow.{MemRow as Memory}
use Rattle.rl_map.specs.declared.word.Word.{Word}
use Rattle.rl_map.specs.Layout.{IsLocation, IsSound as IsSoundLayout, LayoutData, cell_of, has_right, place_at, row_of, words_of}
use Rattle.rl_map.specs.Maps.{IsBuiltWith}
use Rattle.rl_split.specs.Access.{all_bytes, carries_lanes, kind_of, lanes_for, op_of, ops_of, sent_of, sent_words}
use Rattle.rl_split.specs.Narrow.{bytes_of_field, is_narrow}
use Rattle.rl_split.proofs.Sending.{IsHere, Reached, all_reached, is_here, narrow_reached, turns}
use Rattle.rl_split.proofs.Steps.{flawless}
use Rattle.rl_split.proofs.Turns.{first_stands}
use Rattle.rl_access.specs.Items.{items_of}
use Rattle.rl_access.specs.Operation.{location_size, reg_of}
use Rattle.rl_access.specs.Rules.{memory_size}
use Rattle.rl_access.proofs.Granted.{IsWay}
use Rattle.rl_access.proofs.Places.{size_is}
use Rattle.rl_access.proofs.Whole.{first_of_place}
use Rattle.rl_grade.proofs.HiddenFlaws.{bare}
use Rattle.rl_grade.proofs.Related.{flawed}
use Rattle.rl_grade.proofs.TogetherBeliefs.{cleared_same, map_both, set_both}
use Rattle.rl_grade.proofs.TogetherItems.{IsSized, SameCell, SameIn, Swept, TouchesOnly, held_same, other_cell, reg_same, stays, swept}
use Rattle.rl_grade.proofs.TogetherMakeup.{IsCalm, SameMakeup, row_reg}

pub record AreSound (c : ChipData) (l : LayoutData) : Type 0 where
  pub chip : IsSoundChip c
  pub layout : IsSoundLayout l
  pub built : IsBuiltWith l c

-- devices with these flaws, at the first word of each address
pub record AreDevices (t : Setup) (g h : Flaws) (d e : State) : Type 0 where
  pub setup : d.setup ≡ flawed t g
  pub other_setup : e.setup ≡ flawed t h
  pub beats : (p a : ℕ) → d.beats p a ≡ 0
  pub other_beats : (p a : ℕ) → e.beats p a ≡ 0
  pub size : IsSized d e

-- ---- what an access goes to

record IsAlone (c : ChipData) (l : LayoutData) (place : ℕ) (write : Bool) : Type 0 where
  no_fifo : (place_at l place).fifo ≡ false
  carried : carries_lanes (kind_of l place) write ≡ true

both_of : (a b : Bool) → (a && b) ≡ true → (a ≡ true) × (b ≡ true)
both_of true b is = (refl, is)
both_of false b is = absurd cc

never_true : (a : Bool) → not a ≡ true → a ≡ false
never_true true is = cc
never_true false is = refl

alone_at : (c : ChipData) (l : LayoutData) (field place : ℕ) (write : Bool) → is_narrow c l field place write ≡ true → IsAlone c l place write
unfolding is_narrow
alone_at c l field place write is =
    let last = both_of _ (carries_lanes (kind_of l place) write) is in
    let fifo = both_of _ (not (place_at l place).fifo) last.0 in
    record { no_fifo = never_true (place_at l place).fifo fifo.1; carried = last.1 }

map_or_some : {A : Type 0} (f : A → ℕ) (o : Option A) (n : ℕ) → option_map f o ≡ Some n → option_map_or f o 0 ≡ n
map_or_some f None n is = absurd cc
map_or_some f (Some a) n is = cc

module _ (c : ChipData) (l : LayoutData) (sound : AreSound c l) (g h : Flaws) (first : IsCalm (flawed (bare c l) g)) (second : IsCalm (flawed (bare c l) h)) where
  abbrev t : Setup
  t = bare c l

  access_swept : (place index chosen value : ℕ) (write : Bool) (cell : Cell) (s z : Standing) (d e : State) → IsHere l place index
      → has_right (place_at l place).rights write ≡ true → ((w : Word) → (row_of l place index w).cell ≡ cell) → Reached l place index chosen write
      → SameCell cell (flawed t g) (flawed t h) → AreDevices t g h d e → SameIn cell d e
      → Swept cell d e (items_of s d (place_at l place).port (ops_of l place index chosen value write)) (items_of z e (place_at l place).port (ops_of l place index chosen value write))
  unfolding ops_of sent_of
  access_swept place index chosen value write cell s z d e here right cells reached made are same =
      let port = (place_at l place).port in
      let sent = sent_words chosen (words_of l place index) in
      swept t port write cell (row_of l place index) (op_of l place chosen value write) (lanes_for chosen) sent (flawless c l) g h first second made [] sent s z d e
      (turns c l place index chosen value write cell here right cells reached) refl
      (record { setup = are.setup; stands = first_stands d port sent are.beats })
      (record { setup = are.other_setup; stands = first_stands e port sent are.other_beats }) are.size same

  -- ---- a register's

  reg_here : (reg place : ℕ) (write : Bool) → IsWay l (item.Reg reg) write place → IsHere l place 0
  reg_here reg place write at = is_here l place 0 sound.layout (first_of_place l place sound.layout at.there.inside)

  reg_cells : (reg place : ℕ) (write : Bool) → IsWay l (item.Reg reg) write place → (w : Word) → (row_of l place 0 w).cell ≡ Reg reg
  reg_cells reg place write at w = ap (λ i. cell_of i 0) at.there.item_is

  bytes_at : (i : Item) (place : ℕ) (write : Bool) → IsWay l i write place → bytes_of c i ≡ Some (place_at l place).bytes
  bytes_at i place write at = ap (bytes_of c) (sym at.there.item_is) ∙ (sound.built place at.there.inside).0

  pub whole_swept : (reg place value : ℕ) (write : Bool) (s z : Standing) (d e : State) → IsWay l (item.Reg reg) write place
      → SameMakeup (flawed t g) (flawed t h) reg → AreDevices t g h d e → SameIn (Reg reg) d e
      → Swept (Reg reg) d e (items_of s d (place_at l place).port (ops_of l place 0 (all_bytes (size_of c reg)) value write))
      (items_of z e (place_at l place).port (ops_of l place 0 (all_bytes (size_of c reg)) value write))
  whole_swept reg place value write s z d e at made are same =
      let port = (place_at l place).port in
      let here = reg_here reg place write at in
      let size : size_of c reg ≡ (place_at l place).bytes = size_is c (item.Reg reg) (place_at l place).bytes (bytes_at (item.Reg reg) place write at) in
      subst (λ n. Swept (Reg reg) d e (items_of s d port (ops_of l place 0 (all_bytes n) value write)) (items_of z e port (ops_of l place 0 (all_bytes n) value write))) (sym size)
      (access_swept place 0 (all_bytes (place_at l place).bytes) value write (Reg reg) s z d e here at.right (reg_cells reg place write at) (all_reached l place 0 write here) made are same)

  pub narrow_swept : (field place value : ℕ) (write : Bool) (s z : Standing) (d e : State) → IsWay l (item.Reg (reg_of c field)) write place
      → is_narrow c l field place write ≡ true → SameMakeup (flawed t g) (flawed t h) (reg_of c field) → AreDevices t g h d e → SameIn (Reg (reg_of c field)) d e
      → Swept (Reg (reg_of c field)) d e (items_of s d (place_at l place).port (ops_of l place 0 (bytes_of_field (field_of c field).shape) value write))
      (items_of z e (place_at l place).port (ops_of l place 0 (bytes_of_field (field_of c field).shape) value write))
  narrow_swept field place value write s z d e at is made are same =
      let here = reg_here (reg_of c field) place write at in
      let lone = alone_at c l field place write is in
      access_swept place 0 (bytes_of_field (field_of c field).shape) value write (Reg (reg_of c field)) s z d e here at.right (reg_cells (reg_of c field) place write at)
      (narrow_reached l place 0 (bytes_of_field (field_of c field).shape) write here lone.no_fifo lone.carried) made are same

  -- ---- a location's

  pub location_swept : (mem place index value : ℕ) (write : Bool) (s z : Standing) (d e : State) → IsWay l (item.Mem mem) write place
      → index < memory_size c mem → AreDevices t g h d e → e.locations ≡ d.locations
      → Swept (Loc mem index) d e (items_of s d (place_at l place).port (ops_of l place index (all_bytes (location_size c mem)) value write))
      (items_of z e (place_at l place).port (ops_of l place index (all_bytes (location_size c mem)) value write))
  location_swept mem place index value write s z d e at inside are same =
      let port = (place_at l place).port in
      let row = place_at l place in
      let count : memory_size c mem ≡ row.size =
      map_or_some (λ (m : Memory). m.size) (slice_get c.mems mem) row.size ((sound.built place at.there.inside).1 mem at.there.item_is) in
      let spot : IsLocation l place index = record { place_in = at.there.inside; index_in = subst (λ n. index < n) count inside } in
      let here = is_here l place index sound.layout spot in
      let size : location_size c mem ≡ row.bytes = size_is c (item.Mem mem) row.bytes (bytes_at (item.Mem mem) place write at) in
      subst (λ n. Swept (Loc mem index) d e (items_of s d port (ops_of l place index (all_bytes n) value write)) (items_of z e port (ops_of l place index (all_bytes n) value write))) (sym size)
      (access_swept place index (all_bytes row.bytes) value write (Loc mem index) s z d e here at.right (λ w. ap (λ i. cell_of i index) at.there.item_is)
      (all_reached l place index write here)
      (record { mems = refl; hears = second.memories mem index ∙ sym (first.memories mem index) }) are
      (record { bits = λ r is. absurd cc; marks = λ r is. absurd cc; locations = λ m i is. same }))

-- ---- what else is done to a register of both

-- one register of both is as the other's, and nothing else of the first was touched
pub record Goes (q : ℕ) (d after other : State) : Type 0 where
  pub same : SameIn (Reg q) after other
  pub touches : TouchesOnly (Reg q) d after
  pub beats : (p a : ℕ) → after.beats p a ≡ 0

-- the register is the same in both, and made the same
pub record AreAlikeIn (q : ℕ) (d e : State) : Type 0 where
  pub made : SameMakeup d.setup e.setup q
  pub size : IsSized d e
  pub bits : slice_index e.bits q ≡ slice_index d.bits q
  pub marks : slice_index e.marks q ≡ slice_index d.marks q
  pub beats : (p a : ℕ) → d.beats p a ≡ 0

pub goes_nowhere : (q : ℕ) (d e : State) → AreAlikeIn q d e → Goes q d d e
goes_nowhere q d e are = record { same = reg_same q d e are.bits are.marks; touches = stays (Reg q) d; beats = are.beats }

-- with these bits in the register
abbrev depositing : State → ℕ → (ℕ → Bool) → State
depositing s q f = record s { bits = slice_set s.bits q (held s.setup q f) }

goes_deposited : (q : ℕ) (d e : State) (f k : ℕ → Bool) → AreAlikeIn q d e → ((b : ℕ) → b < 64 → k b ≡ f b) → Goes q d (depositing d q f) (depositing e q k)
goes_deposited q d e f k are same = record {
  same = reg_same q (depositing d q f) (depositing e q k) (set_both d.bits e.bits q _ _ are.size.bits (held_same d.setup e.setup q f k are.made same)) are.marks;
  touches = record {
    setup = refl;
    size = length-set d.bits q _;
    mark_size = refl;
    bits = λ r other. get_or-set_other d.bits q r _ 0 (other_cell q r other);
    marks = λ r other. refl;
    locations = λ r is. refl;
  };
  beats = are.beats;
}

pub goes_poked : (q v : ℕ) (d e : State) → AreAlikeIn q d e → Goes q d (poked d (Reg q) v) (poked e (Reg q) v)
unfolding poked
goes_poked q v d e are =
    goes_deposited q d e (λ b. if is_some (field_at d.setup q b) then bit v b else bit (slice_index d.bits q) b)
    (λ b. if is_some (field_at e.setup q b) then bit v b else bit (slice_index e.bits q) b) are
    (λ b low. ap (λ fs. if is_some (position (λ (f : FieldRow). covers f q b) fs) then bit v b else bit (slice_index e.bits q) b) are.made.fields
    ∙ ap (λ x. if is_some (field_at d.setup q b) then bit v b else bit x b) are.bits)

abbrev set_in : State → FieldRow → (reg v : ℕ) → State
set_in s f reg v = depositing s reg (put_bit f.lsb f.width (bit v) (bit (slice_index s.bits reg)))

hw_is : (c : ChipData) (l : LayoutData) (g : Flaws) (s : State) (field v : ℕ) → s.setup ≡ flawed (bare c l) g
    → hw_set s field v ≡ set_in s (row_of_field (bare c l) field) (reg_of c field) v
unfolding hw_set
hw_is c l g s field v setup =
    ap (λ (u : Setup). set_in s (row_of_field u field) (row_of_field u field).reg v) setup
    ∙ ap (λ r. set_in s (row_of_field (bare c l) field) r v) (row_reg c l field)

pub goes_set : (c : ChipData) (l : LayoutData) (g h : Flaws) (field v : ℕ) (d e : State) → d.setup ≡ flawed (bare c l) g → e.setup ≡ flawed (bare c l) h
    → AreAlikeIn (reg_of c field) d e → Goes (reg_of c field) d (hw_set d field v) (hw_set e field v)
goes_set c l g h field v d e first second are =
    let q = reg_of c field in
    let f = row_of_field (bare c l) field in
    subst (λ x. Goes q d x (hw_set e field v)) (sym (hw_is c l g d field v first))
    (subst (Goes q d (set_in d f q v)) (sym (hw_is c l h e field v second))
    (goes_deposited q d e (put_bit f.lsb f.width (bit v) (bit (slice_index d.bits q))) (put_bit f.lsb f.width (bit v) (bit (slice_index e.bits q))) are
    (λ b low. ap (λ x. put_bit f.lsb f.width (bit v) (bit x) b) are.bits)))

pub found_same : (q : ℕ) (d e : State) → AreAlikeIn q d e → peeked e (Reg q) ≡ peeked d (Reg q)
unfolding peeked
found_same q d e are = are.bits

-- ---- a reset

pub record AreReset (r : ℕ) (d e after other : State) : Type 0 where
  pub bits : slice_index other.bits r ≡ slice_index after.bits r
  pub marks : slice_index other.marks r ≡ slice_index after.marks r
  pub setup : after.setup ≡ d.setup
  pub size : length after.bits ≡ length d.bits
  pub mark_size : length after.marks ≡ length d.marks
  pub locations : after.locations ≡ d.locations
  pub other_locations : other.locations ≡ e.locations
  pub beats : (p a : ℕ) → after.beats p a ≡ 0

cleared : (b : Bool) (ms : List ℕ) → length (if b then replicate (length ms) 0 else ms) ≡ length ms
cleared true ms = length-replicate (length ms) 0
cleared false ms = refl

pub are_reset : (r kind : ℕ) (d e : State) → SameMakeup d.setup e.setup r → IsSized d e → slice_index e.bits r ≡ slice_index d.bits r
    → slice_index e.marks r ≡ slice_index d.marks r → AreReset r d e (reset_by d kind) (reset_by e kind)
unfolding reset_by
are_reset r kind d e made size bits marks = record {
  bits = map_both (reg_reset d kind) (reg_reset e kind) (length d.bits) (length e.bits) r 0 size.bits
      (λ low. held_same d.setup e.setup r (λ b. reset_bit d.setup kind (field_at d.setup r b) b (bit (slice_index d.bits r) b))
      (λ b. reset_bit e.setup kind (field_at e.setup r b) b (bit (slice_index e.bits r) b)) made
      (λ b small. ap (λ x. reset_bit e.setup kind (field_at e.setup r b) b (bit x b)) bits ∙ made.resets kind b (bit (slice_index d.bits r) b)));
  marks = cleared_same 0 (kind == 0) r d.marks e.marks size.marks marks;
  setup = refl;
  size = length-map-range_with_len (reg_reset d kind) 0 (length d.bits);
  mark_size = cleared (kind == 0) d.marks;
  locations = refl;
  other_locations = refl;
  beats = λ p a. refl;
}

-- ---- a location, not over the bus

pub location_same : (c : ChipData) (l : LayoutData) (g h : Flaws) (m i : ℕ) (d e : State) → d.setup ≡ flawed (bare c l) g → e.setup ≡ flawed (bare c l) h
    → e.locations ≡ d.locations → peeked e (Loc m i) ≡ peeked d (Loc m i)
unfolding peeked
location_same c l g h m i d e first second same =
    ap (λ (u : Setup). slice_index e.locations (location u m i)) second ∙ ap (λ ls. slice_index ls (location (bare c l) m i)) same
    ∙ sym (ap (λ (u : Setup). slice_index d.locations (location u m i)) first)

-- the second holds what the first does, but for the locations
pub record LeavesRegisters (d after : State) : Type 0 where
  pub setup : after.setup ≡ d.setup
  pub bits : after.bits ≡ d.bits
  pub marks : after.marks ≡ d.marks
  pub beats : (p a : ℕ) → after.beats p a ≡ d.beats p a

pub poke_leaves : (m i v : ℕ) (d : State) → LeavesRegisters d (poked d (Loc m i) v)
unfolding poked
poke_leaves m i v d = record { setup = refl; bits = refl; marks = refl; beats = λ p a. refl }

abbrev stored_in : Setup → List ℕ → (m i v : ℕ) → List ℕ
stored_in u ls m i v = slice_set ls (location u m i) (v % 256 ^ (mem_of u m).bytes)

pub poke_same : (c : ChipData) (l : LayoutData) (g h : Flaws) (m i v : ℕ) (d e : State) → d.setup ≡ flawed (bare c l) g → e.setup ≡ flawed (bare c l) h
    → e.locations ≡ d.locations → (poked e (Loc m i) v).locations ≡ (poked d (Loc m i) v).locations
unfolding poked
poke_same c l g h m i v d e first second same =
    ap (λ (u : Setup). stored_in u e.locations m i v) second ∙ ap (λ ls. stored_in (bare c l) ls m i v) same
    ∙ sym (ap (λ (u : Setup). stored_in u d.locations m i v) first)

-- What a device with the model's chip and layout has.
use Rattle.std.proofs.Common.{◌≡◌, ℕ, zero, suc, ◌+◌, ◌<◌, List, [], ◌∷◌, length, get_or, slice_get, Option, None, Some, option_map, refl, sym, ap, ◌∙◌, subst}
use Rattle.std.specs.Option.{option_map_or}
use Rattle.std.proofs.lemmas.List.{length-map}
use Rattle.rl_bus.specs.declared.table.Cell.{Cell}
use Rattle.rl_bus.specs.declared.table.Cell.TheVariants.{Reg, Loc}
use Rattle.rl_bus.specs.Device.{IsCellOf, IsFieldOf}
use Rattle.rl_bus.specs.Setup.{Setup, Flaws, mem_of, no_mem}
use Rattle.rl_bus.specs.State.{State, poked, hw_set, reset_by}
use Rattle.rl_model.specs.declared.rows.RegRow.{RegRow}
use Rattle.rl_model.specs.declared.rows.MemRow.{MemRow as Mem}
use Rattle.rl_model.specs.Rows.{ChipData}
use Rattle.rl_map.specs.Layout.{LayoutData}
use Rattle.rl_map.specs.Tables.{setup_of, mem_rows, field_row}
use Rattle.rl_access.specs.Model.{ModelData, IsDeviceOf}
use Rattle.rl_access.specs.Rules.{memory_size}

regs_of : (c : ChipData) (l : LayoutData) (flaws : Flaws) → length (setup_of c l flaws).regs ≡ length c.regs
unfolding setup_of
regs_of c l flaws = length-map c.regs (λ (r : RegRow). r.bytes)

fields_there : (c : ChipData) (l : LayoutData) (flaws : Flaws) → length (setup_of c l flaws).fields ≡ length c.fields
unfolding setup_of
fields_there c l flaws = length-map c.fields field_row

rows_count : (first : ℕ) (ms : List Mem) → length (mem_rows first ms) ≡ length ms
rows_count first [] = refl
rows_count first (m ∷ ms) = ap suc (rows_count (first + m.size) ms)

pub rows_size : (first : ℕ) (ms : List Mem) (k : ℕ) → (get_or (mem_rows first ms) k no_mem).size ≡ option_map_or (λ m. m.size) (slice_get ms k) 0
rows_size first [] k = refl
rows_size first (m ∷ ms) zero = refl
rows_size first (m ∷ ms) (suc k) = rows_size (first + m.size) ms k

mems_of : (c : ChipData) (l : LayoutData) (flaws : Flaws) → length (setup_of c l flaws).mems ≡ length c.mems
unfolding setup_of
mems_of c l flaws = rows_count 0 c.mems

sizes_of : (c : ChipData) (l : LayoutData) (flaws : Flaws) (mem : ℕ) → (mem_of (setup_of c l flaws) mem).size ≡ memory_size c mem
unfolding setup_of
sizes_of c l flaws mem = rows_size 0 c.mems mem

-- a register of the chip is one of the device
pub reg_there : (m : ModelData) (told : Option State) (reg : ℕ) → IsDeviceOf m told → reg < length m.chip.regs → IsCellOf told (Reg reg)
reg_there m told reg device inside s e =
    let t = device s e in
    record {
      reg = λ r same. let is : reg ≡ r = cc in subst (λ n. n < length s.setup.regs) is (subst (λ n. reg < n) (sym (ap (λ (t : Setup). length t.regs) t.setup ∙ regs_of m.chip m.layout t.flaws))
          inside);
      loc = λ mem i same. absurd (let no = same in cc);
    }

-- and a location of a memory
pub location_there : (m : ModelData) (told : Option State) (mem index : ℕ) → IsDeviceOf m told → mem < length m.chip.mems → index < memory_size m.chip mem → IsCellOf told (Loc mem index)
location_there m told mem index device inside within s e =
    let t = device s e in
    record {
      reg = λ r same. absurd (let no = same in cc);
      loc = λ n i same.
          let is : mem ≡ n = cc in
          let at : index ≡ i = cc in (
            subst (λ k. k < length s.setup.mems) is (subst (λ k. mem < k) (sym (ap (λ (t : Setup). length t.mems) t.setup ∙ mems_of m.chip m.layout t.flaws)) inside),
            subst (λ k. k < (mem_of s.setup n).size) at (subst (λ k. index < (mem_of s.setup k).size) is (subst (λ k. index < k) (sym (ap (λ (t : Setup). (mem_of t mem).size) t.setup ∙ sizes_of
                m.chip m.layout t.flaws mem)) within)),
          );
    }

-- and a field
pub field_there : (m : ModelData) (told : Option State) (field : ℕ) → IsDeviceOf m told → field < length m.chip.fields → IsFieldOf told field
field_there m told field device inside s e =
    let t = device s e in
    subst (λ n. field < n) (sym (ap (λ (t : Setup). length t.fields) t.setup ∙ fields_there m.chip m.layout t.flaws)) inside

-- a step that leaves what a device has
pub device_after_step : (m : ModelData) (before after : Option State) (step : State → State) → ((s : State) → (step s).setup ≡ s.setup) → after ≡ option_map step before → IsDeviceOf m before →
    IsDeviceOf m after
device_after_step m None after step keeps e device s at = absurd (let none = e in cc)
device_after_step m (Some d) after step keeps e device s at =
    let same : step d ≡ s = cc in
    let t = device d refl in
    record { flaws = t.flaws; setup = ap (λ (s : State). s.setup) (sym same) ∙ keeps d ∙ t.setup }

pub keeps_poked : (s : State) (cell : Cell) (value : ℕ) → (poked s cell value).setup ≡ s.setup
unfolding poked
keeps_poked s (Reg r) value = refl
keeps_poked s (Loc m i) value = refl

pub keeps_hw_set : (s : State) (field value : ℕ) → (hw_set s field value).setup ≡ s.setup
unfolding hw_set
keeps_hw_set s field value = refl

pub keeps_reset : (s : State) (kind : ℕ) → (reset_by s kind).setup ≡ s.setup
unfolding reset_by
keeps_reset s kind = refl

-- the device after each call of the backdoor
pub device_poked : (m : ModelData) (before after : Option State) (cell : Cell) (value : ℕ) → after ≡ option_map (λ s. poked s cell value) before → IsDeviceOf m before → IsDeviceOf m after
device_poked m before after cell value e device = device_after_step m before after (λ s. poked s cell value) (λ s. keeps_poked s cell value) e device

pub device_set : (m : ModelData) (before after : Option State) (field value : ℕ) → after ≡ option_map (λ s. hw_set s field value) before → IsDeviceOf m before → IsDeviceOf m after
device_set m before after field value e device = device_after_step m before after (λ s. hw_set s field value) (λ s. keeps_hw_set s field value) e device

pub device_reset : (m : ModelData) (before after : Option State) (kind : ℕ) → after ≡ option_map (λ s. reset_by s kind) before → IsDeviceOf m before → IsDeviceOf m after
device_reset m before after kind e device = device_after_step m before after (λ s. reset_by s kind) (λ s. keeps_reset s kind) e device

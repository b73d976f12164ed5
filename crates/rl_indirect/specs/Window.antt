-- Which two registers are a window to so many entries.
use Rattle.std.specs.Prelude.{ℕ, ◌^◌, ◌==◌, nat_lt, nat_le, not, ◌&&◌, Bool, true, false, if◌then◌else◌, length, Option, None, Some}
use Rattle.std.specs.List.{list_all}
use Rattle.rl_policy.specs.Table.{spends_mark}
use Rattle.rl_policy.specs.declared.policy.Policy.{Policy}
use Rattle.rl_policy.specs.declared.policy.Policy.TheVariants.{Rw}
use Rattle.rl_model.specs.declared.rows.Field.{Field}
use Rattle.rl_model.specs.Fields.{fields_of, field_in}
use Rattle.rl_model.specs.Rows.{ChipData}
use Rattle.rl_indirect.specs.declared.window.Window.{Window}
use Rattle.rl_indirect.specs.declared.window.WindowFault.{WindowFault}
use Rattle.rl_indirect.specs.declared.window.WindowFault.TheVariants.{SameRegister, BadIndex, BadData, BadSize, IndexOutside}

abbrev pub is_rw : Policy → Bool
is_rw Rw = true
is_rw _ = false

-- it stands at bit 0, a write stores what is written, and nothing else changes it
abbrev pub is_index_field : Field → Bool
is_index_field f = f.lsb == 0 && is_rw f.policy && not f.volatile

-- The index register of an indirect data register (uvm_reg_indirect_data, IEEE 1800.2-2017, 18.7). That it has one
-- field alone, a plain one at bit 0, is this project's own.
abbrev pub is_index : ChipData → (reg : ℕ) → Bool
is_index c reg = length (fields_of c reg) == 1 && is_index_field (field_in (fields_of c reg) 0).shape

-- a write to it depends on nothing but its bits, and nothing else changes them
abbrev pub is_data_field : Field → Bool
is_data_field f = not (spends_mark f.policy) && not f.volatile

-- The data register of a window (uvm_reg_indirect_data, IEEE 1800.2-2017, 18.7). Which policies its fields may have is
-- this project's own.
abbrev pub is_data : ChipData → (reg : ℕ) → Bool
is_data c reg = list_all (λ f. is_data_field f.shape) (fields_of c reg)

-- there are entries, at most 65,536 of them, and the index field can select each
abbrev pub is_size : ChipData → (index_reg size : ℕ) → Bool
is_size c index_reg size =
    nat_lt 0 size && nat_le size 65536 && nat_le size (2 ^ (field_in (fields_of c index_reg) 0).shape.width)

-- The first condition of a window that fails. The conditions and their order are this project's own.
abbrev pub window_fault : ChipData → Window → (size : ℕ) → Option WindowFault
window_fault c w size =
    if w.index_reg == w.data_reg then Some SameRegister
    else if not (is_index c w.index_reg) then Some BadIndex
    else if not (is_data c w.data_reg) then Some BadData
    else if not (is_size c w.index_reg size) then Some BadSize
    else None

-- the index selects no entry: in the device, or where it selects one there, in the model
abbrev pub outside_fault : (size there believed : ℕ) → Option WindowFault
outside_fault size there believed =
    if nat_le size there then Some (IndexOutside there)
    else if nat_le size believed then Some (IndexOutside believed)
    else None

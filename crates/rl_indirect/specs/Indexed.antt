-- What an access by index does, over any device.
use Rattle.std.specs.Prelude.{◌≡◌, ℕ, ◌<◌, ◌≤◌, Bool, true, false, if◌then◌else◌, Option, slice_index}
use Rattle.rl_model.specs.Fields.{fields_of}
use Rattle.rl_mirror.specs.Compared.{differing}
use Rattle.rl_access.specs.declared.event.End.{End}
use Rattle.rl_access.specs.declared.event.End.TheVariants as end
use Rattle.rl_access.specs.declared.event.Event.{Event}
use Rattle.rl_access.specs.declared.event.Op.{Op}
use Rattle.rl_access.specs.declared.event.Op.TheVariants as op
use Rattle.rl_access.specs.Call.{Scene, Performs}
use Rattle.rl_access.specs.Event.{EventFits}
use Rattle.rl_access.specs.Model.{ModelData}
use Rattle.rl_indirect.specs.declared.indexed.Indexed.{Indexed}
use Rattle.rl_indirect.specs.declared.indexed.Indexed.TheVariants.{NoSuchEntry, AtIndex, At}
use Rattle.rl_indirect.specs.Bank.{BankData, SettlesDevice, bank_believed, model_believed, entries_believed}

abbrev pub is_done : End → Bool
is_done end.Done = true
is_done _ = false

-- The index register is written, and the device follows it. The model follows where the write was done.
pub record Selects (b new : BankData) (s t : Scene) (map : Option ℕ) (k : ℕ) (index : Event) : Type 0 where
  -- what stands right after the write, and the bank once the device has followed
  pub written : Scene
  pub half : BankData
  pub performs : Performs s written (op.Write b.window.index_reg map k) index
  pub device : SettlesDevice b half written.device t.device
  pub adapters : t.adapters ≡ written.adapters
  pub errors : written.account.errors ≤ t.account.errors
  pub model : t.model ≡ (if is_done index.end then model_believed half written.model k else written.model)
  pub bank : new ≡ (if is_done index.end then bank_believed half written.model k else half)

-- entry k was selected, and then the data register was accessed
pub record Reaches (b new : BankData) (s t : Scene) (map : Option ℕ) (k : ℕ) (on_data : Op)
    (index access : Event) : Type 0 where
  pub selected : Scene
  pub selects : Selects b new s selected map k index
  pub performs : Performs selected t on_data access

-- An access by index (uvm_reg_indirect_data, IEEE 1800.2-2017, 18.7). Past the size nothing is done. Elsewhere the
-- index register is written, and only where that was done the data register is accessed.
abbrev pub IsIndexed : (b new : BankData) → (s t : Scene) → (map : Option ℕ) → (k : ℕ)
    → (on_data : Op) → Indexed → Type 0
IsIndexed b new s t map k on_data NoSuchEntry = (b.size ≤ k) × (new ≡ b) × (t ≡ s)
IsIndexed b new s t map k on_data (AtIndex index) =
    (k < b.size) × (is_done index.end ≡ false) × Selects b new s t map k index
IsIndexed b new s t map k on_data (At index access) =
    (k < b.size) × (is_done index.end ≡ true) × Reaches b new s t map k on_data index access

-- each event can be told of the model
abbrev pub IndexedFits : ModelData → Indexed → Type 0
IndexedFits m NoSuchEntry = Unit {0}
IndexedFits m (AtIndex index) = EventFits m index
IndexedFits m (At index access) = EventFits m index × EventFits m access

-- a check that read a value names the compared fields of the data register whose bits aren't
-- those of the model's entry k
abbrev pub NamesDiffering : BankData → ModelData → (k : ℕ) → Indexed → Type 0
NamesDiffering b m k NoSuchEntry = Unit {0}
NamesDiffering b m k (AtIndex index) = Unit {0}
NamesDiffering b m k (At index access) =
    (read : ℕ) → access.end ≡ end.Value read
    → access.differ ≡ differing (fields_of m.chip b.window.data_reg) read (slice_index (entries_believed b m) k)

-- A bank over a device and a model that agree: both have the same entries, and an access by index
-- is one step of one of them.
use Rattle.std.specs.Prelude.{◌≡◌, ℕ, Bool, true, false, if◌then◌else◌, List, All, slice_index, slice_set}
use Rattle.rl_model.specs.Fields.{fields_of}
use Rattle.rl_split.specs.Step.{Register, every, ranswer}
use Rattle.rl_mirror.specs.Mirror.{IsValueOf, mirrored_of}
use Rattle.rl_access.specs.declared.event.End.{End}
use Rattle.rl_access.specs.declared.event.End.TheVariants as end
use Rattle.rl_access.specs.declared.event.Event.{Event}
use Rattle.rl_access.specs.Call.{Scene}
use Rattle.rl_access.specs.Model.{ModelData}
use Rattle.rl_access.specs.Tally.{is_bus_error}
use Rattle.rl_plain.specs.Agree.{Agree}
use Rattle.rl_plain.specs.OneStep.{Step, register_after}
use Rattle.rl_indirect.specs.declared.indexed.Indexed.{Indexed}
use Rattle.rl_indirect.specs.declared.indexed.Indexed.TheVariants.{NoSuchEntry, AtIndex, At}
use Rattle.rl_indirect.specs.Bank.{BankData, entries_there, entries_believed}
use Rattle.rl_indirect.specs.Indexed.{is_done}

-- The device and the model agree, and so do their entries, each of which is a value of the data register.
-- Either has that entry in its data register which the index register selects.
pub record BankAgree (s : Scene) (b : BankData) : Type 0 where
  pub agree : Agree s
  pub entries : entries_there b agree.device ≡ entries_believed b s.model
  pub values : All (IsValueOf s.model.chip b.window.data_reg) (entries_believed b s.model)
  pub device : b.device.selected ≡ mirrored_of s.model.mirror b.window.index_reg
  pub model : b.model.selected ≡ mirrored_of s.model.mirror b.window.index_reg

-- ---- one entry takes a step

-- the data register as it is with entry k in it; none of its fields takes its first write alone
abbrev pub entry_at : BankData → ModelData → (k : ℕ) → Register
entry_at b m k = record { bits = slice_index (entries_believed b m) k; spent = λ field. false }

-- the entries with entry k after a step of all fields of the data register
abbrev pub entries_stepped : BankData → ModelData → (k : ℕ) → Step → List ℕ
entries_stepped b m k step =
    slice_set (entries_believed b m) k (register_after (fields_of m.chip b.window.data_reg) step (entry_at b m k)).bits

abbrev pub is_refused : End → Bool
is_refused (end.Refused why) = true
is_refused _ = false

-- entry k takes the step where the data register was accessed, and else every entry stays
abbrev pub entries_after : BankData → ModelData → (k : ℕ) → Step → Indexed → List ℕ
entries_after b m k step NoSuchEntry = entries_believed b m
entries_after b m k step (AtIndex index) = entries_believed b m
entries_after b m k step (At index access) =
    if is_refused access.end then entries_believed b m
    else entries_stepped b m k step

-- a value that was read is what a read of entry k answers
abbrev pub ReadsEntry : BankData → ModelData → (k : ℕ) → Indexed → Type 0
ReadsEntry b m k NoSuchEntry = Unit {0}
ReadsEntry b m k (AtIndex index) = Unit {0}
ReadsEntry b m k (At index access) =
    (read : ℕ) → access.end ≡ end.Value read
    → read ≡ ranswer (fields_of m.chip b.window.data_reg) every (entry_at b m k)

-- neither event ended by a bus error
abbrev pub HasNoBusError : Indexed → Type 0
HasNoBusError NoSuchEntry = Unit {0}
HasNoBusError (AtIndex index) = is_bus_error index.end ≡ false
HasNoBusError (At index access) = (is_bus_error index.end ≡ false) × (is_bus_error access.end ≡ false)

-- an access by index is a step of entry k, and leaves agreement
pub record IsEntryStep (s t : Scene) (b new : BankData) (k : ℕ) (step : Step) (r : Indexed) : Type 0 where
  pub agree : BankAgree t new
  pub entries : entries_believed new t.model ≡ entries_after b s.model k step r
  pub reads : ReadsEntry b s.model k r
  pub no_error : HasNoBusError r

-- ---- its first half

-- the index register was accessed: every entry stays, and entry k is in the data register where the index was written
pub record KeepsEntries (s t : Scene) (b new : BankData) (k : ℕ) (index : Event) : Type 0 where
  pub agree : BankAgree t new
  pub entries : entries_believed new t.model ≡ entries_believed b s.model
  pub selected : is_done index.end ≡ true → new.model.selected ≡ k
  pub no_error : is_bus_error index.end ≡ false

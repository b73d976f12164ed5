-- Flaws of several registers in one device: what a register shows is what it shows with its own flaws alone.
use Rattle.std.specs.Prelude.{◌≡◌, ℕ, ◌==◌, ◌&&◌, Bool, false, not, if◌then◌else◌, List, [], ◌∷◌, drop, filter, map, All}
use Rattle.std.specs.Prelude.{Option, Some, None, option_map, IsSome}
use Rattle.std.specs.Option.{option_map_or}
use Rattle.rl_bus.specs.Standing.{Standing}
use Rattle.rl_model.specs.Chip.{IsSound as IsSoundChip}
use Rattle.rl_model.specs.Rows.{ChipData}
use Rattle.rl_map.specs.Layout.{IsSound as IsSoundLayout}
use Rattle.rl_map.specs.Maps.{IsBuiltWith}
use Rattle.rl_access.specs.declared.event.Event.{Event}
use Rattle.rl_access.specs.Operation.{register_of}
use Rattle.rl_flaw.specs.declared.flaw.Flaw.{Flaw}
use Rattle.rl_desc.specs.Data.{DescData}
use Rattle.rl_session.specs.Judged.{first_world}
use Rattle.rl_grade.specs.declared.job.Task.{Task}
use Rattle.rl_grade.specs.declared.seen.Find.{Find}
use Rattle.rl_grade.specs.declared.seen.Seen.{Seen}
use Rattle.rl_grade.specs.Alike.{without_flaws}
use Rattle.rl_grade.specs.Find.{all_seen, first_find, new_in, shows}
use Rattle.rl_grade.specs.Heard.{Heard}
use Rattle.rl_grade.specs.Job.{heard_by}
use Rattle.rl_grade.specs.Place.{with_flaw}
pub use Rattle.rl_grade.specs.Registers.{register_with}

-- ---- flaws of registers

abbrev pub is_flaw_in : ChipData → (reg : ℕ) → Flaw → Bool
is_flaw_in c reg flaw = option_map_or (λ r. r == reg) (register_with c flaw) false

-- those of one register
abbrev pub flaws_in : ChipData → (reg : ℕ) → List Flaw → List Flaw
flaws_in c reg flaws = filter (is_flaw_in c reg) flaws

-- each is of some register
abbrev pub AreOfRegisters : ChipData → List Flaw → Type 0
AreOfRegisters c flaws = All (λ flaw. IsSome (register_with c flaw)) flaws

-- a description with these flaws and no others
abbrev pub with_flaws : DescData → List Flaw → DescData
with_flaws d flaws = record { chip = d.chip; layout = d.layout; flaws = flaws }

-- its parts are sound, and belong together
pub record IsSoundDesc (d : DescData) : Type 0 where
  pub chip : IsSoundChip d.chip
  pub layout : IsSoundLayout d.layout
  pub built : IsBuiltWith d.layout d.chip

-- ---- what is told of a register

-- an event is of another register than this one
abbrev pub is_of_other : ChipData → (reg : ℕ) → Event → Bool
is_of_other c reg e = option_map_or (λ r. not (r == reg)) (register_of c e.op) false

-- all of an event but its bus items, whose tags go on through all registers
abbrev pub untraced : Event → Event
untraced e = record e { trace = [] }

-- nothing, of an event of another register
abbrev pub told_in : ChipData → (reg : ℕ) → Event → Option Event
told_in c reg e = if is_of_other c reg e then None else Some (untraced e)

-- with the number of its line
abbrev pub line_told : ChipData → (reg : ℕ) → Heard → Option (ℕ × Event)
line_told c reg h = option_map (λ e. (h.line, e)) (told_in c reg h.told.event)

-- of each event in order, what is told of the register and of what is no register's
abbrev pub account_of : ChipData → (reg : ℕ) → List Heard → List (Option (ℕ × Event))
account_of c reg heard = map (line_told c reg) heard

-- What the tasks show of a register, and of what is no register's, depends on no flaw of another register.
abbrev pub OwnFlawsAlone : Type 0
OwnFlawsAlone =
    (d : DescData) (flaws others : List Flaw) (reg : ℕ) (adapters : List Standing) (tasks : List Task)
    → IsSoundDesc d → AreOfRegisters d.chip flaws → AreOfRegisters d.chip others
    → flaws_in d.chip reg flaws ≡ flaws_in d.chip reg others
    → account_of d.chip reg (heard_by (first_world (with_flaws d flaws) adapters) tasks)
    ≡ account_of d.chip reg (heard_by (first_world (with_flaws d others) adapters) tasks)

-- ---- finds

abbrev pub is_of_register : ChipData → (reg : ℕ) → Event → Bool
is_of_register c reg e = option_map_or (λ r. r == reg) (register_of c e.op) false

-- the first event of the register that shows more than the one of its number
unfoldable pub find_in : ChipData → (reg : ℕ) → (base : List Seen) → List Heard → Option Find
find_in c reg base [] = None
find_in c reg base (h ∷ heard) =
    if is_of_register c reg h.told.event && shows (new_in base h.told.event)
    then Some (record { line = h.line; op = h.told.event.op; new = new_in base h.told.event })
    else find_in c reg (drop 1 base) heard

-- it is one of these, and no other of them is of its register
pub record IsAloneIn (c : ChipData) (flaws : List Flaw) (reg : ℕ) (flaw : Flaw) : Type 0 where
  pub register : register_with c flaw ≡ Some reg
  pub alone : flaws_in c reg flaws ≡ flaw ∷ []

-- One run with flaws of several registers answers for each of which no other is of its register: by the events of this
-- register it is found where it is found alone.
abbrev pub FoundAsAlone : Type 0
FoundAsAlone =
    (d : DescData) (flaws : List Flaw) (reg : ℕ) (flaw : Flaw) (adapters : List Standing) (tasks : List Task)
    → IsSoundDesc d → AreOfRegisters d.chip flaws → IsAloneIn d.chip flaws reg flaw
    → let base = all_seen (heard_by (first_world (without_flaws d) adapters) tasks) in
    find_in d.chip reg base (heard_by (first_world (with_flaws d flaws) adapters) tasks)
    ≡ first_find base (heard_by (first_world (with_flaw d flaw) adapters) tasks)

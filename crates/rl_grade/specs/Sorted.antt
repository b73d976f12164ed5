-- The finds of a run by the registers that they are of: of each register the first.
use Rattle.std.specs.Prelude.{◌≡◌, ℕ, ◌<◌, List, [], length, drop, if◌then◌else◌, Option, Some, None}
use Rattle.std.specs.Prelude.{slice_index_or, slice_set}
use Rattle.std.specs.Option.{option_or}
use Rattle.rl_access.specs.declared.event.Event.{Event}
use Rattle.rl_access.specs.Operation.{register_of}
use Rattle.rl_model.specs.Rows.{ChipData}
use Rattle.rl_grade.specs.declared.seen.Find.{Find}
use Rattle.rl_grade.specs.declared.seen.Seen.{Seen}
use Rattle.rl_grade.specs.Find.{new_in, shows}
use Rattle.rl_grade.specs.Heard.{Heard}
use Rattle.rl_grade.specs.Together.{find_in}

-- a value at a place of a table, unless one is there already
abbrev pub kept_first : {A : Type 0} → Option ℕ → Option A → List (Option A) → List (Option A)
kept_first None value table = table
kept_first (Some at) value table = slice_set table at (option_or (slice_index_or table at None) value)

-- the find that an event of a line is, if it shows more than the first of these
abbrev pub find_here : (line : ℕ) → List Seen → Event → Option Find
find_here line base e =
    if shows (new_in base e) then Some (record { line = line; op = e.op; new = new_in base e }) else None

-- what becomes of an event: what it shows more is its register's, and the next is beside the second
pub record Sorts (c : ChipData) (line : ℕ) (base : List Seen) (found : List (Option Find)) (e : Event) (line-now : ℕ)
    (rest : List Seen) (now : List (Option Find)) : Type 0 where
  pub line_is : line-now ≡ line
  pub rest_is : rest ≡ drop 1 base
  pub found_is : now ≡ kept_first (register_of c e.op) (find_here line base e) found

-- each register has its first find, of so many
pub record AreSorted (c : ChipData) (regs : ℕ) (base : List Seen) (heard : List Heard) (found : List (Option Find))
    : Type 0 where
  pub size : length found ≡ regs
  pub each : (reg : ℕ) → reg < regs → slice_index_or found reg None ≡ find_in c reg base heard

-- none has one yet
pub record IsBlank {A : Type 0} (size : ℕ) (table : List (Option A)) : Type 0 where
  pub size_is : length table ≡ size
  pub none : (at : ℕ) → slice_index_or table at None ≡ None

-- What an event counts for.
use Rattle.std.specs.Prelude.{ℕ, ◌+◌, ◌-◌, ◌^◌, min, Bool, true, false, if◌then◌else◌, count_ones}
use Rattle.rl_access.specs.declared.event.End.{End}
use Rattle.rl_access.specs.declared.event.End.TheVariants as end
use Rattle.rl_access.specs.declared.event.Event.{Event}
use Rattle.rl_access.specs.declared.event.Tally.{Tally}

abbrev pub is_bus_error : End → Bool
is_bus_error (end.BusError word) = true
is_bus_error _ = false

-- a count stays at its limit
abbrev pub more : ℕ → ℕ → ℕ
more count n = min (count + n) (2 ^ 64 - 1)

-- one step more, its differing fields and its bus error
abbrev pub counted : Tally → Event → Tally
counted t e = record {
  steps = more t.steps 1;
  differences = more t.differences (count_ones e.differ);
  errors = if is_bus_error e.end then more t.errors 1 else t.errors;
}

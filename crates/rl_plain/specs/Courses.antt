-- Operations of the plain machine one after another.
use Rattle.std.specs.Prelude.{ℕ, zero, suc, List, [], ◌∷◌, Ok, Err}
use Rattle.rl_model.specs.Rows.{ChipData}
use Rattle.rl_map.specs.Layout.{LayoutData}
use Rattle.rl_access.specs.declared.event.Event.{Event}
use Rattle.rl_access.specs.declared.event.Op.{Op}
use Rattle.rl_access.specs.Rules.{Grant}
use Rattle.rl_seq.specs.Plan.{Plan, stop, step, look}
use Rattle.rl_plain.specs.Machine.{Machine, seen, Done, refused_at, machine_step}

pub record Course : Type 0 where
  pub events : List Event
  pub machine : Machine

-- one operation, and then the rest from the machine after it
abbrev pub then_on : Done → (Machine → Course) → Course
then_on done rest =
    let after = rest done.machine in
    record { events = done.event ∷ after.events; machine = after.machine }

-- each operation: none of them ends by a bus error
unfoldable pub through : ChipData → LayoutData → Machine → List Op → Course
through c l p [] = record { events = []; machine = p }
through c l p (op ∷ ops) = then_on (machine_step c l p op) (λ after. through c l after ops)

-- each operation of a plan, which may look at the machine as it then is
unfoldable pub along : ChipData → LayoutData → Machine → Plan → Course
along c l p stop = record { events = []; machine = p }
along c l p (step op plan) = then_on (machine_step c l p op) (λ after. along c l after plan)
along c l p (look f) = along c l p (f (seen c l p))

-- as many of them, from the first on
unfoldable pub first_along : ChipData → LayoutData → Machine → (count : ℕ) → Plan → Course
first_along c l p count stop = record { events = []; machine = p }
first_along c l p zero (step op plan) = record { events = []; machine = p }
first_along c l p (suc count) (step op plan) =
    then_on (machine_step c l p op) (λ after. first_along c l after count plan)
first_along c l p count (look f) = first_along c l p count (f (seen c l p))

-- an operation that is refused as a whole, or done as those that it stands for
abbrev pub burst : ChipData → LayoutData → Machine → Grant → Op → List Op → Course
burst c l p (Ok place) op ops = through c l p ops
burst c l p (Err why) op ops =
    let done = refused_at c l op why p in
    record { events = done.event ∷ []; machine = done.machine }

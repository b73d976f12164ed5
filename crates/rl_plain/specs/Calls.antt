-- Each call on a device without flaws is the plain machine's.
use Rattle.std.specs.Prelude.{◌≡◌, ℕ, ◌<◌, List, [], ◌∷◌, length, map, take, All, slice_index, Option, Some, Ok, Err, sum_by}
use Rattle.rl_bus.specs.Setup.{location}
use Rattle.rl_bus.specs.State.{State, first_state}
use Rattle.rl_model.specs.Rows.{ChipData}
use Rattle.rl_model.specs.Chip.{IsSound as IsSoundChip}
use Rattle.rl_map.specs.Layout.{LayoutData, IsSound as IsSoundLayout}
use Rattle.rl_map.specs.Tables.{setup_of}
use Rattle.rl_split.specs.Law.{HasLocation, no_flaws}
use Rattle.rl_mirror.specs.Prediction.{fresh}
use Rattle.rl_access.specs.declared.event.Event.{Event}
use Rattle.rl_access.specs.declared.event.Op.{Op}
use Rattle.rl_access.specs.declared.event.Refused.{Refused}
use Rattle.rl_access.specs.Call.{Scene, IsRefused, Performs}
use Rattle.rl_access.specs.Gathering.{IsNothingGathered}
use Rattle.rl_access.specs.HandsOver.{Told}
use Rattle.rl_access.specs.Model.{ModelData, IsModel, IsSameChip}
use Rattle.rl_access.specs.Operation.{location_size, IsMapIn, HasNumbers}
use Rattle.rl_access.specs.Rules.{Grant, memory_size}
use Rattle.rl_access.specs.Runs.{RunsInto, RunsThrough, writes_of, reads_of}
use Rattle.rl_seq.specs.declared.sequence.Sequence.{Sequence}
use Rattle.rl_seq.specs.Plan.{Plan, stop, step, look, Breaks, Runs}
use Rattle.rl_seq.specs.Sequences.{plan_of}
use Rattle.rl_plain.specs.Sorts.{sort_of, LeavesMemories}
use Rattle.rl_plain.specs.Agree.{HasNoVolatile, Agree}
use Rattle.rl_plain.specs.Machine.{Machine, seen, first_machine, refused_at, machine_step}
use Rattle.rl_plain.specs.Courses.{Course, through, along, first_along, burst}

-- the event without its items
abbrev pub without_items : Event → Event
without_items e = record e { trace = [] }

-- the device has the location, which holds what it holds in the machine
pub record HasContent (c : ChipData) (d : State) (p : Machine) (mem index : ℕ) : Type 0 where
  pub has : HasLocation d mem index (location_size c mem)
  pub holds : slice_index d.locations (location d.setup mem index) ≡ p.locations mem index

-- it has each location of the chip's memories so
abbrev pub HasAllContents : ChipData → State → Machine → Type 0
HasAllContents c d p = (mem index : ℕ) → mem < length c.mems → index < memory_size c mem → HasContent c d p mem index

-- The device and the model agree and are the machine's: what is believed, which is what the device has,
-- and each location of the memories.
pub record IsMachineOf (s : Scene) (p : Machine) : Type 0 where
  pub agree : Agree s
  pub model : s.model ≡ seen s.model.chip s.model.layout p
  pub locations : HasAllContents s.model.chip agree.device p

-- ---- every call leaves them so, and its event without items is the machine's; it is so too where the call is refused

abbrev pub CallIsPlain : Type 0
CallIsPlain =
    (s new : Scene) (op : Op) (event : Event) (p : Machine)
    → HasNumbers s.model.chip (length s.model.layout.maps) op → IsModel s.model → IsMachineOf s p
    → Performs s new op event
    → let done = machine_step s.model.chip s.model.layout p op in
    IsMachineOf new done.machine × (without_items event ≡ done.event)

-- the model is again one, of the same chip and layout
abbrev pub CallKeepsModel : Type 0
CallKeepsModel =
    (s new : Scene) (op : Op) (event : Event) (p : Machine)
    → HasNumbers s.model.chip (length s.model.layout.maps) op → IsModel s.model → IsMachineOf s p
    → Performs s new op event
    → IsModel new.model × IsSameChip s.model new.model

-- ---- of the registers alone

-- the operations that aren't on a location of a memory
abbrev pub IsOffMemory : Op → Type 0
IsOffMemory op = LeavesMemories (sort_of op)

-- they are the machine's whatever the device has in the locations of its memories
abbrev pub RegisterCallIsPlain : Type 0
RegisterCallIsPlain =
    (s new : Scene) (op : Op) (event : Event) (p : Machine)
    → IsOffMemory op → HasNumbers s.model.chip (length s.model.layout.maps) op → IsModel s.model
    → Agree s → s.model ≡ seen s.model.chip s.model.layout p → Performs s new op event
    → let done = machine_step s.model.chip s.model.layout p op in
    Agree new × (new.model ≡ seen new.model.chip new.model.layout done.machine) × (without_items event ≡ done.event)

-- ---- operations one after another

pub record IsPlainCourse (s new : Scene) (told : List Told) (course : Course) : Type 0 where
  pub machine : IsMachineOf new course.machine
  pub model : IsModel new.model
  pub same : IsSameChip s.model new.model
  pub events : map (λ t. without_items t.event) told ≡ course.events

-- those of a burst: none ends by a bus error
abbrev pub RunIsPlain : Type 0
RunIsPlain =
    (s new : Scene) (ops : List Op) (told : List Told) (p : Machine)
    → All (HasNumbers s.model.chip (length s.model.layout.maps)) ops → IsModel s.model → IsMachineOf s p
    → RunsThrough s ops told new
    → IsPlainCourse s new told (through s.model.chip s.model.layout p ops)

-- a burst: it is done as the operations that it stands for, or refused by its name
abbrev pub IsBurstRun : (s new : Scene) → Grant → Op → List Op → List Told → Type 0
IsBurstRun s new (Ok place) op ops told = RunsThrough s ops told new
IsBurstRun s new (Err why) op ops told =
    (event : Event) × IsRefused s new op why event × (told ≡ record { model = s.model; event = event } ∷ [])

abbrev pub BurstIsPlain : Type 0
BurstIsPlain =
    (s new : Scene) (g : Grant) (op : Op) (ops : List Op) (told : List Told) (p : Machine)
    → All (HasNumbers s.model.chip (length s.model.layout.maps)) ops → IsModel s.model → IsMachineOf s p
    → IsBurstRun s new g op ops told
    → IsPlainCourse s new told (burst s.model.chip s.model.layout p g op ops)

-- the operations of a burst on a memory have their numbers
pub record HaveNumbersOn (c : ChipData) (maps mem : ℕ) (over : Option ℕ) (first : ℕ) : Type 0 where
  pub writes : (values : List ℕ) → All (HasNumbers c maps) (writes_of mem over first values)
  pub reads : (count : ℕ) → All (HasNumbers c maps) (reads_of mem over first count)

abbrev pub BurstsHaveNumbers : Type 0
BurstsHaveNumbers =
    (c : ChipData) (maps mem : ℕ) (over : Option ℕ) (first : ℕ)
    → mem < length c.mems → IsMapIn maps over → HaveNumbersOn c maps mem over first

-- every operation of a plan has its numbers, whatever is believed
abbrev pub PlanHasNumbers : ChipData → LayoutData → Plan → Type 0
PlanHasNumbers c l stop = Unit {0}
PlanHasNumbers c l (step op plan) = HasNumbers c (length l.maps) op × PlanHasNumbers c l plan
PlanHasNumbers c l (look f) = (m : ModelData) → m.chip ≡ c → m.layout ≡ l → PlanHasNumbers c l (f m)

-- those of the sequences have
abbrev pub PlansHaveNumbers : Type 0
PlansHaveNumbers =
    (which : Sequence) (c : ChipData) (l : LayoutData) (block : Option ℕ) → IsSoundChip c → IsSoundLayout l
    → PlanHasNumbers c l (plan_of which c l block)

-- those of a plan
abbrev pub PlanIsPlain : Type 0
PlanIsPlain =
    (s new : Scene) (plan : Plan) (told : List Told) (p : Machine)
    → PlanHasNumbers s.model.chip s.model.layout plan → IsModel s.model → IsMachineOf s p → Runs plan s told new
    → IsPlainCourse s new told (along s.model.chip s.model.layout p plan)

-- ---- a recorder that fails at an event: what is told is the first of the operations, and is the machine's too

abbrev pub BrokenRunIsPlain : Type 0
BrokenRunIsPlain =
    (s new : Scene) (ops : List Op) (told : List Told) (p : Machine)
    → All (HasNumbers s.model.chip (length s.model.layout.maps)) ops → IsModel s.model → IsMachineOf s p
    → RunsInto s ops told new
    → IsPlainCourse s new told (through s.model.chip s.model.layout p (take (length told) ops))

abbrev pub BrokenPlanIsPlain : Type 0
BrokenPlanIsPlain =
    (s new : Scene) (plan : Plan) (told : List Told) (p : Machine)
    → PlanHasNumbers s.model.chip s.model.layout plan → IsModel s.model → IsMachineOf s p → Breaks plan s told new
    → IsPlainCourse s new told (first_along s.model.chip s.model.layout p (length told) plan)

-- ---- an operation that is refused as a whole, for whatever cause

abbrev pub RefusedIsPlain : Type 0
RefusedIsPlain =
    (s new : Scene) (op : Op) (why : Refused) (event : Event) (p : Machine)
    → IsMachineOf s p → IsRefused s new op why event
    → IsMachineOf new p × (without_items event ≡ (refused_at s.model.chip s.model.layout op why p).event)

-- ---- where they begin

-- the first state of a device without flaws, with all locations of its memories
abbrev pub first_device : ChipData → LayoutData → State
first_device c l = first_state (setup_of c l no_flaws) (sum_by (λ m. m.size) c.mems)

-- it and a new model of the same chip and layout
abbrev pub FirstOnesArePlain : Type 0
FirstOnesArePlain =
    (s : Scene) → IsModel s.model → HasNoVolatile s.model.chip
    → s.model.mirror ≡ fresh s.model.chip → IsNothingGathered s.model.gathered
    → s.device ≡ Some (first_device s.model.chip s.model.layout)
    → IsMachineOf s (first_machine s.model.chip)

-- The operations of a plan, register by register and memory by memory.
use Rattle.std.specs.Prelude.{ℕ, zero, suc, ◌-◌, ◌*◌, ◌^◌, ◌==◌, nat_lt, Bool, true, false, not, ◌&&◌, ◌||◌, if◌then◌else◌}
use Rattle.std.specs.Prelude.{List, [], ◌∷◌, ◌++◌, length, find, filter_map, Option, Some, None, is_some, unwrap_or}
use Rattle.std.specs.List.{list_any}
use Rattle.rl_model.specs.declared.rows.Item.{Item}
use Rattle.rl_model.specs.declared.rows.Item.TheVariants as item
use Rattle.rl_model.specs.Chip.{backdoor_of, value_for}
use Rattle.rl_model.specs.Fields.{fields_of, size_of}
use Rattle.rl_model.specs.Rows.{ChipData}
use Rattle.rl_map.specs.Layout.{LayoutData, has_right, place_at, same_item}
use Rattle.rl_mirror.specs.Compared.{is_compared}
use Rattle.rl_access.specs.declared.event.Op.{Op}
use Rattle.rl_access.specs.declared.event.Op.TheVariants as op
use Rattle.rl_access.specs.Operation.{location_size}
use Rattle.rl_access.specs.Rules.{is_writable, memory_size}
use Rattle.rl_plan.specs.declared.asked.Asked.{Asked}
use Rattle.rl_plan.specs.declared.step.Sort.{Sort}
use Rattle.rl_plan.specs.declared.step.Sort.TheVariants as sort
use Rattle.rl_plan.specs.declared.step.Step.{Step}
use Rattle.rl_plan.specs.declared.step.Step.TheVariants as step
use Rattle.rl_plan.specs.declared.target.Target.{Target}
use Rattle.rl_plan.specs.declared.visit.Visit.{Visit}
use Rattle.rl_plan.specs.declared.visit.Visit.TheVariants as visit
use Rattle.rl_plan.specs.declared.way.Way.{Way}
use Rattle.rl_plan.specs.Asked.{uses_backdoor}
use Rattle.rl_plan.specs.Steps.{further_steps_of, steps_of}

-- ---- places

-- the map of a place, and what the bus may do there
abbrev pub way_at : LayoutData → (place : ℕ) → Way
way_at l place = record {
  map = (place_at l place).map;
  reads = has_right (place_at l place).rights false;
  writes = has_right (place_at l place).rights true;
}

-- an item's, of the first so many places
abbrev pub ways_of : LayoutData → Item → (places : ℕ) → List Way
ways_of l item zero = []
ways_of l item (suc k) = ways_of l item k ++ (if same_item (place_at l k).item item then way_at l k ∷ [] else [])

-- ---- how a register is reached

-- as many ones as so many bytes have bits
abbrev pub ones_of : (bytes : ℕ) → ℕ
ones_of bytes = 2 ^ (8 * bytes) - 1

abbrev pub target_of : ChipData → Asked → (reg : ℕ) → List Way → Target
target_of c asked reg ways = record {
  reg = reg;
  reader = find (λ w. w.reads) ways;
  writer = find (λ w. w.writes) ways;
  backdoor = uses_backdoor asked && unwrap_or (backdoor_of c (item.Reg reg)) false;
  ones = ones_of (size_of c reg);
}

-- a check compares one of its fields
abbrev pub is_seen : ChipData → (reg : ℕ) → Bool
is_seen c reg = list_any (λ f. is_compared f.shape) (fields_of c reg)

-- by the bus alone
abbrev pub bus_sort : (reader writer : Option Way) → Sort
bus_sort None writer = sort.Unseen
bus_sort (Some way) None = sort.Reads
bus_sort (Some way) (Some other) = sort.Bus

abbrev pub sort_by : (seen : Bool) → Target → Sort
sort_by false t = sort.Unseen
sort_by true t = if t.backdoor then sort.Both else bus_sort t.reader t.writer

abbrev pub sort_of : ChipData → Target → Sort
sort_of c t = sort_by (is_seen c t.reg) t

-- ---- a step is an operation, or none

abbrev pub back_op : Target → Option Op
back_op t = if t.backdoor then Some (op.BackCheck t.reg) else None

abbrev pub check_by : Target → Option Way → Option Op
check_by t (Some way) = Some (op.Check t.reg (Some way.map))
check_by t None = back_op t

abbrev pub check_op : Target → Option Op
check_op t = check_by t t.reader

abbrev pub write_by : Target → (value : ℕ) → Option Way → Option Op
write_by t value (Some way) = Some (op.Write t.reg (Some way.map) value)
write_by t value None = None

abbrev pub write_op : Target → (value : ℕ) → Option Op
write_op t value = write_by t value t.writer

abbrev pub poke_op : Target → (value : ℕ) → Option Op
poke_op t value = if t.backdoor then Some (op.Poke t.reg value) else None

abbrev pub op_of : Target → (kind : ℕ) → Step → Option Op
op_of t kind step.Reset = Some (op.Reset kind)
op_of t kind step.Check = check_op t
op_of t kind step.BackCheck = back_op t
op_of t kind step.WriteZeros = write_op t 0
op_of t kind step.WriteOnes = write_op t t.ones
op_of t kind step.PokeZeros = poke_op t 0
op_of t kind step.PokeOnes = poke_op t t.ones

-- ---- what is done at places, one by one

abbrev pub some_op : Option Op → List Op
some_op None = []
some_op (Some o) = o ∷ []

abbrev pub only_if : Bool → Op → Option Op
only_if holds o = if holds then Some o else None

abbrev pub is_through : Option Way → (map : ℕ) → Bool
is_through None map = false
is_through (Some way) map = way.map == map

-- the steps go by this place
abbrev pub is_gone : Target → (seen : Bool) → Way → Bool
is_gone t seen way = seen && (is_through t.reader way.map || is_through t.writer way.map)

-- an access, by which an address that fails shows
abbrev pub touch_op : (reg : ℕ) → Way → Op
touch_op reg way = if way.reads then op.Check reg (Some way.map) else op.Write reg (Some way.map) 0

abbrev pub visit_op : Visit → Way → Option Op
visit_op (visit.Touch t seen) way = only_if (not (is_gone t seen way)) (touch_op t.reg way)
visit_op (visit.Fill mem index value) way = only_if way.writes (op.MemWrite mem (Some way.map) index value)
visit_op (visit.Check mem index value) way = only_if way.reads (op.MemCheck mem (Some way.map) index value)
visit_op (visit.Read mem index) way = only_if way.reads (op.MemRead mem (Some way.map) index)

-- ---- a register

-- a field of the register has a value for the kind of reset
abbrev pub has_value : ChipData → (reg kind : ℕ) → Bool
has_value c reg kind = list_any (λ f. is_some (value_for kind f.resets)) (fields_of c reg)

-- with a kind other than HARD, for which a field has a value
abbrev pub further_steps : ChipData → Sort → (reg kind : ℕ) → List Step
further_steps c sort reg kind = if kind == 0 || not (has_value c reg kind) then [] else further_steps_of sort

-- with the first so many kinds
abbrev pub further_ops_as : ChipData → Sort → Target → (kinds : ℕ) → List Op
further_ops_as c sort t zero = []
further_ops_as c sort t (suc k) = further_ops_as c sort t k ++ filter_map (op_of t k) (further_steps c sort t.reg k)

abbrev pub further_ops : ChipData → Target → List Op
further_ops c t = further_ops_as c (sort_of c t) t (length c.kinds)

abbrev pub is_seen_as : Sort → Bool
is_seen_as sort.Unseen = false
is_seen_as sort = true

-- its steps with HARD, and an access at each other place
abbrev pub ops_as : Sort → Target → List Way → List Op
ops_as sort t ways =
    filter_map (op_of t 0) (steps_of sort) ++ filter_map (visit_op (visit.Touch t (is_seen_as sort))) ways

abbrev pub reg_ops : ChipData → Target → List Way → List Op
reg_ops c t ways = ops_as (sort_of c t) t ways

-- ---- a memory

-- it takes what the bus writes
abbrev pub is_filled : ChipData → (mem : ℕ) → List Way → Bool
is_filled c mem ways = is_writable c mem && list_any (λ w. w.writes) ways

-- a location is written at each place and checked at each, or only read where no write is taken
abbrev pub location_ops : List Way → (filled : Bool) → (mem value index : ℕ) → List Op
location_ops ways true mem value index =
    filter_map (visit_op (visit.Fill mem index value)) ways ++ filter_map (visit_op (visit.Check mem index value)) ways
location_ops ways false mem value index = filter_map (visit_op (visit.Read mem index)) ways

-- its first and its last location
abbrev pub mem_ops : ChipData → (mem : ℕ) → List Way → List Op
mem_ops c mem ways =
    let at : ℕ → List Op = location_ops ways (is_filled c mem ways) mem (ones_of (location_size c mem)) in
    at 0 ++ (if nat_lt 1 (memory_size c mem) then at (memory_size c mem - 1) else [])

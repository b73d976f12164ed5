-- The rules of events: which operation is refused and why, what any other one sends, and what it makes of the items.
use Rattle.std.specs.Prelude.{ℕ, ◌-◌, ◌*◌, ◌^◌, nat_lt, nat_le, ◌+◌, ◌==◌, Bool, true, false, if◌then◌else◌, List, [], ◌∷◌, map, slice_get, slice_set, Option, None, Some, unwrap_or, Result, Ok, Err}
use Rattle.std.specs.Option.{option_map_or}
use Rattle.rl_policy.specs.Bits.{bit, from_bits, put_bit}
use Rattle.rl_bus.specs.Account.{Request}
use Rattle.rl_bus.specs.Account as ask
use Rattle.rl_bus.specs.declared.op.BusOp.{BusOp}
use Rattle.rl_bus.specs.declared.table.Cell.TheVariants as cell
use Rattle.rl_bus.specs.State.{State, peeked, poked, hw_set, reset_by}
use Rattle.rl_model.specs.Chip.{backdoor_of}
use Rattle.rl_model.specs.Rows.{ChipData}
use Rattle.rl_model.specs.declared.rows.Field.{Field}
use Rattle.rl_model.specs.declared.rows.Item.{Item}
use Rattle.rl_model.specs.declared.rows.Item.TheVariants as item
use Rattle.rl_map.specs.Layout.{LayoutData, place_at, port_at, place_of, has_right}
use Rattle.rl_split.specs.Access.{all_bytes, ops_of, joined}
use Rattle.rl_split.specs.Narrow.{is_narrow, bytes_of_field}
use Rattle.rl_split.specs.declared.access.Outgoing.{Outgoing}
use Rattle.rl_mirror.specs.Compared.{differ}
use Rattle.rl_model.specs.Fields.{field_of, first_of, size_of, fields_of}
use Rattle.rl_mirror.specs.Fields.{owned, part_of}
use Rattle.rl_mirror.specs.Mirror.{mirrored_of, desired_of, marks_in}
use Rattle.rl_mirror.specs.Prediction.{predict_write, predict_read, predict_raw, reset, set, needs_update, update_word_of, neutral_around, written, shown, left_by_read}
use Rattle.rl_access.specs.declared.event.End.{End}
use Rattle.rl_access.specs.declared.event.End.TheVariants as end
use Rattle.rl_access.specs.declared.event.Event.{Event}
use Rattle.rl_access.specs.declared.event.Op.{Op}
use Rattle.rl_access.specs.declared.event.Op.TheVariants as op
use Rattle.rl_access.specs.declared.event.Refused.{Refused}
use Rattle.rl_access.specs.declared.event.Refused.TheVariants.{NotPlaced, NotObserved, NoRight, NoBackdoor, NotVolatile, NotWritable, OutOfRange, TooWide}
use Rattle.rl_access.specs.declared.trace.TraceItem.{TraceItem}
use Rattle.rl_access.specs.declared.access.Access.{Access}
use Rattle.rl_access.specs.declared.predictor.Gathered.{Gathered}
use Rattle.rl_access.specs.Items.{asked_by, failed_at, words_answered, state_after_all}
use Rattle.rl_access.specs.Gathering.{no_words}
use Rattle.rl_access.specs.Model.{ModelData}
use Rattle.rl_access.specs.Operation.{reg_of, register_of, location_size}

-- ---- what a chip has

abbrev pub memory_size : ChipData → ℕ → ℕ
memory_size c mem = option_map_or (λ m. m.size) (slice_get c.mems mem) 0

abbrev pub is_writable : ChipData → ℕ → Bool
is_writable c mem = option_map_or (λ m. m.writable) (slice_get c.mems mem) false

abbrev pub item_size : ChipData → Item → ℕ
item_size c (item.Reg reg) = size_of c reg
item_size c (item.Mem mem) = location_size c mem

abbrev pub field_width : ChipData → ℕ → ℕ
field_width c field = (field_of c field).shape.width

-- ---- refusals: the place of an operation that isn't refused, or the first cause that holds;
-- the place is 0 where none is used

abbrev pub Grant : Type 0
Grant = Result ℕ Refused

-- the next condition of an operation that was granted so far
abbrev pub only_where : Grant → Bool → Refused → Grant
only_where (Ok place) holds why = if holds then Ok place else Err why
only_where (Err first) holds why = Err first

abbrev pub placed : Option ℕ → Grant
placed None = Err NotPlaced
placed (Some place) = Ok place

-- The place has the right of the direction (uvm_reg_map::add_reg and add_mem, IEEE 1800.2-2017, 18.2). That a missing
-- right refuses the access is this project's own.
abbrev pub with_right : LayoutData → Bool → Grant → Grant
with_right l write (Ok place) = only_where (Ok place) (has_right (place_at l place).rights write) NoRight
with_right l write (Err first) = Err first

-- its root is explicit
abbrev pub with_watch : LayoutData → Grant → Grant
with_watch l (Ok place) = only_where (Ok place) (port_at l (place_at l place).port).explicit NotObserved
with_watch l (Err first) = Err first

abbrev pub way : ModelData → Item → Option ℕ → Bool → Grant
way m item map write = with_right m.layout write (placed (place_of m.layout item map))

abbrev pub watched_way : ModelData → ℕ → Option ℕ → Bool → Grant
watched_way m reg map write =
    with_right m.layout write (with_watch m.layout (placed (place_of m.layout (item.Reg reg) map)))

abbrev pub by_backdoor : ModelData → Item → Grant
by_backdoor m item = only_where (Ok 0) (unwrap_or (backdoor_of m.chip item) false) NoBackdoor

abbrev pub fitting : ModelData → Item → ℕ → Grant → Grant
fitting m item value grant = only_where grant (nat_lt value (256 ^ item_size m.chip item)) TooWide

abbrev pub fitting_field : ModelData → ℕ → ℕ → Grant → Grant
fitting_field m field value grant = only_where grant (nat_lt value (2 ^ field_width m.chip field)) TooWide

abbrev pub at_location : ModelData → ℕ → ℕ → Grant → Grant
at_location m mem index grant = only_where grant (nat_lt index (memory_size m.chip mem)) OutOfRange

abbrev pub at_locations : ModelData → (mem first count : ℕ) → Grant → Grant
at_locations m mem first count grant = only_where grant (nat_le (first + count) (memory_size m.chip mem)) OutOfRange

abbrev pub writable : ModelData → ℕ → Grant → Grant
writable m mem grant = only_where grant (is_writable m.chip mem) NotWritable

-- The place of an operation, or the first cause of its refusal. Causes and their order are this project's own.
abbrev pub grant : ModelData → Op → Grant
grant m (op.Write reg map value) = fitting m (item.Reg reg) value (way m (item.Reg reg) map true)
grant m (op.Read reg map) = way m (item.Reg reg) map false
grant m (op.Mirror reg map) = way m (item.Reg reg) map false
grant m (op.Check reg map) = way m (item.Reg reg) map false
grant m (op.FieldWrite field map value) = fitting_field m field value (way m (item.Reg (reg_of m.chip field)) map true)
grant m (op.FieldRead field map) = way m (item.Reg (reg_of m.chip field)) map false
grant m (op.Set field value) = fitting_field m field value (Ok 0)
grant m (op.Show reg) = Ok 0
grant m (op.Update reg map) = way m (item.Reg reg) map true
grant m (op.BackWrite reg value) = fitting m (item.Reg reg) value (by_backdoor m (item.Reg reg))
grant m (op.BackRead reg) = by_backdoor m (item.Reg reg)
grant m (op.BackCheck reg) = by_backdoor m (item.Reg reg)
grant m (op.Peek reg) = by_backdoor m (item.Reg reg)
grant m (op.Poke reg value) = fitting m (item.Reg reg) value (by_backdoor m (item.Reg reg))
grant m (op.MemWrite mem map index value) =
    fitting m (item.Mem mem) value (at_location m mem index (writable m mem (way m (item.Mem mem) map true)))
grant m (op.MemRead mem map index) = at_location m mem index (way m (item.Mem mem) map false)
grant m (op.MemCheck mem map index value) =
    fitting m (item.Mem mem) value (at_location m mem index (way m (item.Mem mem) map false))
grant m (op.BurstWrite mem map first count) =
    at_locations m mem first count (writable m mem (way m (item.Mem mem) map true))
grant m (op.BurstRead mem map first count) = at_locations m mem first count (way m (item.Mem mem) map false)
grant m (op.MemPeek mem index) = at_location m mem index (by_backdoor m (item.Mem mem))
grant m (op.MemPoke mem index value) =
    fitting m (item.Mem mem) value (at_location m mem index (by_backdoor m (item.Mem mem)))
grant m (op.OtherWrite reg map value) = fitting m (item.Reg reg) value (watched_way m reg map true)
grant m (op.OtherRead reg map) = watched_way m reg map false
grant m (op.Hw field value) =
    fitting_field m field value (only_where (Ok 0) (field_of m.chip field).shape.volatile NotVolatile)
grant m (op.Reset kind) = Ok 0

-- ---- the operation as its event names it

-- the map of the place used, or the one asked for
abbrev pub map_of_place : LayoutData → Option ℕ → Option ℕ → Option ℕ
map_of_place l None map = map
map_of_place l (Some place) map = Some (place_at l place).map

abbrev pub map_used : ModelData → Item → Option ℕ → Option ℕ
map_used m item map = map_of_place m.layout (place_of m.layout item map) map

abbrev pub named : ModelData → Op → Op
named m (op.Write reg map value) = op.Write reg (map_used m (item.Reg reg) map) value
named m (op.Read reg map) = op.Read reg (map_used m (item.Reg reg) map)
named m (op.Mirror reg map) = op.Mirror reg (map_used m (item.Reg reg) map)
named m (op.Check reg map) = op.Check reg (map_used m (item.Reg reg) map)
named m (op.FieldWrite field map value) = op.FieldWrite field (map_used m (item.Reg (reg_of m.chip field)) map) value
named m (op.FieldRead field map) = op.FieldRead field (map_used m (item.Reg (reg_of m.chip field)) map)
named m (op.Set field value) = op.Set field value
named m (op.Show reg) = op.Show reg
named m (op.Update reg map) = op.Update reg (map_used m (item.Reg reg) map)
named m (op.BackWrite reg value) = op.BackWrite reg value
named m (op.BackRead reg) = op.BackRead reg
named m (op.BackCheck reg) = op.BackCheck reg
named m (op.Peek reg) = op.Peek reg
named m (op.Poke reg value) = op.Poke reg value
named m (op.MemWrite mem map index value) = op.MemWrite mem (map_used m (item.Mem mem) map) index value
named m (op.MemRead mem map index) = op.MemRead mem (map_used m (item.Mem mem) map) index
named m (op.MemCheck mem map index value) = op.MemCheck mem (map_used m (item.Mem mem) map) index value
named m (op.BurstWrite mem map first count) = op.BurstWrite mem (map_used m (item.Mem mem) map) first count
named m (op.BurstRead mem map first count) = op.BurstRead mem (map_used m (item.Mem mem) map) first count
named m (op.MemPeek mem index) = op.MemPeek mem index
named m (op.MemPoke mem index value) = op.MemPoke mem index value
named m (op.OtherWrite reg map value) = op.OtherWrite reg (map_used m (item.Reg reg) map) value
named m (op.OtherRead reg map) = op.OtherRead reg (map_used m (item.Reg reg) map)
named m (op.Hw field value) = op.Hw field value
named m (op.Reset kind) = op.Reset kind

-- ---- accesses over the bus

-- all fields of a register
abbrev pub every_field : ℕ
every_field = 2 ^ 64 - 1

-- the whole register
abbrev pub whole : ModelData → (reg place value : ℕ) → Access
whole m reg place value = record {
  reg = reg;
  place = place;
  chosen = all_bytes (size_of m.chip reg);
  fields = every_field;
  value = value;
}

-- one field and its bytes, with 0 outside the field
abbrev pub field_alone : ModelData → (field place value : ℕ) → Access
field_alone m field place value =
    let f = (field_of m.chip field).shape in
    record {
      reg = f.reg;
      place = place;
      chosen = bytes_of_field f;
      fields = 2 ^ (field - first_of m.chip f.reg);
      value = from_bits 64 (put_bit f.lsb f.width (bit value) (bit 0));
    }

-- what was gathered of the place is forgotten where its root is explicit
abbrev pub forgotten : LayoutData → ℕ → List Gathered → List Gathered
forgotten l place gathered =
    if (port_at l (place_at l place).port).explicit then slice_set gathered place no_words else gathered

abbrev pub forgetting : ModelData → ℕ → ModelData
forgetting m place = record m { gathered = forgotten m.layout place m.gathered }

-- ---- what became of an operation: its end, the model afterwards, and the differing fields

pub record Outcome : Type 0 where
  pub end : End
  pub model : ModelData
  pub differ : ℕ

-- after a failed item the model is as it was
abbrev pub or_error : Option ℕ → ModelData → Outcome → Outcome
or_error None m good = good
or_error (Some k) m good = record { end = end.BusError k; model = m; differ = 0 }

abbrev pub quiet : End → ModelData → Outcome
quiet e m = record { end = e; model = m; differ = 0 }

-- A write of a register over the bus (uvm_reg::write, IEEE 1800.2-2017, 18.4). Unless an item failed, it is predicted
-- (uvm_reg_field::predict with UVM_PREDICT_WRITE, 18.5).
abbrev pub write_outcome : ModelData → End → Access → List TraceItem → Outcome
write_outcome m good a items =
    or_error (failed_at items) m
    (quiet good (record m { mirror = predict_write m.chip a.reg a.value a.fields m.mirror }))

abbrev pub value_of : ModelData → Access → List TraceItem → ℕ
value_of m a items = joined m.layout a.place 0 a.chosen (words_answered items)

-- A read of a register over the bus (uvm_reg::read and mirror, IEEE 1800.2-2017, 18.4). A check compares with what was
-- mirrored before the read (uvm_reg::mirror with UVM_CHECK).
abbrev pub read_outcome : ModelData → Bool → Access → List TraceItem → Outcome
read_outcome m check a items =
    let value = value_of m a items in
    or_error (failed_at items) m (record {
      end = end.Value value;
      model = record m { mirror = predict_read m.chip a.reg value a.fields m.mirror };
      differ = if check then differ m.chip a.reg value m.mirror else 0;
    })

-- ---- a field

abbrev pub end_in_field : Field → End → End
end_in_field f end.Done = end.Done
end_in_field f (end.Value value) = end.Value (part_of f value)
end_in_field f (end.Sent word) = end.Sent word
end_in_field f end.Nothing = end.Nothing
end_in_field f (end.BusError word) = end.BusError word
end_in_field f (end.Refused why) = end.Refused why

-- the value read is the field's part
abbrev pub in_field : ChipData → ℕ → Outcome → Outcome
in_field c field o = record o { end = end_in_field (field_of c field).shape o.end }

abbrev pub is_alone : ModelData → (field place : ℕ) → Bool → Bool
is_alone m field place write = is_narrow m.chip m.layout field place write

-- A field write (uvm_reg_field::write, IEEE 1800.2-2017, 18.5): narrow, or with the neutral word in each other field,
-- which is this project's own.
abbrev pub field_written : ModelData → (field place value : ℕ) → Access
field_written m field place value =
    if is_alone m field place true then field_alone m field place value
    else whole m (reg_of m.chip field) place (neutral_around m.chip field value m.mirror)

-- A field read (uvm_reg_field::read, IEEE 1800.2-2017, 18.5): narrow, or of the whole register.
abbrev pub field_read : ModelData → (field place : ℕ) → Access
field_read m field place =
    if is_alone m field place false then field_alone m field place 0 else whole m (reg_of m.chip field) place 0

abbrev pub forgetting_field : ModelData → (field place : ℕ) → Bool → ModelData
forgetting_field m field place write = record m {
  gathered = if is_alone m field place write then m.gathered else forgotten m.layout place m.gathered;
}

-- ---- a memory

abbrev pub location_bytes : ModelData → ℕ → ℕ
location_bytes m mem = all_bytes (location_size m.chip mem)

-- an access to it, word by word
abbrev pub outgoing_at : ModelData → (mem place index value : ℕ) → (write : Bool) → Outgoing
outgoing_at m mem place index value write = record {
  place = place;
  index = index;
  chosen = location_bytes m mem;
  value = value;
  write = write;
}

-- What a read of a location brings (uvm_mem::read, IEEE 1800.2-2017, 18.6).
abbrev pub location_value : ModelData → (mem place index : ℕ) → List TraceItem → ℕ
location_value m mem place index items = joined m.layout place index (location_bytes m mem) (words_answered items)

-- A value was read that isn't the given one. The check of a location is this project's own.
abbrev pub value_differs : End → ℕ → ℕ
value_differs end.Done value = 0
value_differs (end.Value read) value = if read == value then 0 else 1
value_differs (end.Sent word) value = 0
value_differs end.Nothing value = 0
value_differs (end.BusError word) value = 0
value_differs (end.Refused why) value = 0

-- the mark of a check
abbrev pub marked : Op → End → ℕ
marked (op.MemCheck mem map index value) e = value_differs e value
marked _ e = 0

-- ---- the backdoor: what is made of the bits that the device has

-- the lowest bytes
abbrev pub low_bytes : ℕ → ℕ → ℕ
low_bytes bytes value = from_bits (8 * bytes) (λ i. bit value (0 + i))

abbrev pub owned_of : ModelData → ℕ → ℕ → ℕ
owned_of m reg sampled = owned (fields_of m.chip reg) sampled

-- A backdoor write (uvm_reg::write, IEEE 1800.2-2017, 18.4). That each field takes its write effect, with the mirror's
-- spent mark, is this project's own.
abbrev pub back_written : ModelData → (reg value sampled : ℕ) → ℕ
back_written m reg value sampled =
    written (fields_of m.chip reg) (marks_in m.chip m.mirror.spent reg) (owned_of m reg sampled) value

-- What a backdoor read answers (uvm_reg::read, IEEE 1800.2-2017, 18.4).
abbrev pub back_value : ModelData → (reg sampled : ℕ) → ℕ
back_value m reg sampled = shown (fields_of m.chip reg) (owned_of m reg sampled)

-- The bits after a backdoor read (uvm_reg::read, IEEE 1800.2-2017, 18.4), each by the policy of its field.
abbrev pub back_left : ModelData → (reg sampled : ℕ) → ℕ
back_left m reg sampled = left_by_read (fields_of m.chip reg) (owned_of m reg sampled)

abbrev pub back_outcome : ModelData → Bool → (reg sampled : ℕ) → Outcome
back_outcome m check reg sampled =
    let value = back_value m reg sampled in
    record {
      end = end.Value value;
      model = record m { mirror = predict_read m.chip reg value every_field m.mirror };
      differ = if check then differ m.chip reg value m.mirror else 0;
    }

-- A peek or a poke makes these bits mirrored and desired (uvm_reg::peek and poke, IEEE 1800.2-2017, 18.4).
abbrev pub taking_raw : ModelData → (reg value : ℕ) → ModelData
taking_raw m reg value = record m { mirror = predict_raw m.chip reg value m.mirror }

-- ---- the operations of a granted operation

abbrev pub access_ops : ModelData → Access → Bool → List BusOp
access_ops m a write = ops_of m.layout a.place 0 a.chosen (if write then a.value else 0) write

abbrev pub sends : ModelData → Op → (place : ℕ) → List BusOp
sends m (op.Write reg map value) place = access_ops m (whole m reg place value) true
sends m (op.Read reg map) place = access_ops m (whole m reg place 0) false
sends m (op.Mirror reg map) place = access_ops m (whole m reg place 0) false
sends m (op.Check reg map) place = access_ops m (whole m reg place 0) false
sends m (op.FieldWrite field map value) place = access_ops m (field_written m field place value) true
sends m (op.FieldRead field map) place = access_ops m (field_read m field place) false
sends m (op.Set field value) place = []
sends m (op.Show reg) place = []
sends m (op.Update reg map) place =
    if needs_update m.mirror reg then access_ops m (whole m reg place (update_word_of m.chip reg m.mirror)) true else []
sends m (op.BackWrite reg value) place = []
sends m (op.BackRead reg) place = []
sends m (op.BackCheck reg) place = []
sends m (op.Peek reg) place = []
sends m (op.Poke reg value) place = []
sends m (op.MemWrite mem map index value) place = ops_of m.layout place index (location_bytes m mem) value true
sends m (op.MemRead mem map index) place = ops_of m.layout place index (location_bytes m mem) 0 false
sends m (op.MemCheck mem map index value) place = ops_of m.layout place index (location_bytes m mem) 0 false
sends m (op.BurstWrite mem map first count) place = []
sends m (op.BurstRead mem map first count) place = []
sends m (op.MemPeek mem index) place = []
sends m (op.MemPoke mem index value) place = []
sends m (op.OtherWrite reg map value) place = access_ops m (whole m reg place value) true
sends m (op.OtherRead reg map) place = access_ops m (whole m reg place 0) false
sends m (op.Hw field value) place = []
sends m (op.Reset kind) place = []

-- ---- what becomes of it: of its items, and of the bits that the device was found to have

-- Each operation of uvm_reg (IEEE 1800.2-2017, 18.4), uvm_reg_field (18.5) and uvm_mem (18.6). `OtherWrite`,
-- `OtherRead`, `Hw` and `MemCheck` are this project's own.
abbrev pub outcome : ModelData → Op → (place sampled : ℕ) → List TraceItem → Outcome
outcome m (op.Write reg map value) place sampled items =
    write_outcome (forgetting m place) end.Done (whole m reg place value) items
outcome m (op.Read reg map) place sampled items = read_outcome (forgetting m place) false (whole m reg place 0) items
outcome m (op.Mirror reg map) place sampled items = read_outcome (forgetting m place) false (whole m reg place 0) items
outcome m (op.Check reg map) place sampled items = read_outcome (forgetting m place) true (whole m reg place 0) items
outcome m (op.FieldWrite field map value) place sampled items =
    write_outcome (forgetting_field m field place true) end.Done (field_written m field place value) items
outcome m (op.FieldRead field map) place sampled items =
    in_field m.chip field (read_outcome (forgetting_field m field place false) false (field_read m field place) items)
outcome m (op.Set field value) place sampled items =
    quiet end.Done (record m { mirror = set m.chip field value m.mirror })
outcome m (op.Show reg) place sampled items = quiet end.Done m
outcome m (op.Update reg map) place sampled items =
    let word = update_word_of m.chip reg m.mirror in
    if needs_update m.mirror reg
    then write_outcome (forgetting m place) (end.Sent word) (whole m reg place word) items
    else quiet end.Nothing m
outcome m (op.BackWrite reg value) place sampled items =
    quiet end.Done (taking_raw m reg (back_written m reg value sampled))
outcome m (op.BackRead reg) place sampled items = back_outcome m false reg sampled
outcome m (op.BackCheck reg) place sampled items = back_outcome m true reg sampled
outcome m (op.Peek reg) place sampled items =
    quiet (end.Value (owned_of m reg sampled)) (taking_raw m reg (owned_of m reg sampled))
outcome m (op.Poke reg value) place sampled items = quiet end.Done (taking_raw m reg value)
outcome m (op.MemWrite mem map index value) place sampled items = or_error (failed_at items) m (quiet end.Done m)
outcome m (op.MemRead mem map index) place sampled items =
    or_error (failed_at items) m (quiet (end.Value (location_value m mem place index items)) m)
outcome m (op.MemCheck mem map index value) place sampled items =
    let read = location_value m mem place index items in
    or_error (failed_at items) m (record { end = end.Value read; model = m; differ = if read == value then 0 else 1 })
outcome m (op.BurstWrite mem map first count) place sampled items = quiet end.Done m
outcome m (op.BurstRead mem map first count) place sampled items = quiet end.Done m
outcome m (op.MemPeek mem index) place sampled items =
    quiet (end.Value (low_bytes (location_size m.chip mem) sampled)) m
outcome m (op.MemPoke mem index value) place sampled items = quiet end.Done m
outcome m (op.OtherWrite reg map value) place sampled items =
    write_outcome (forgetting m place) end.Done (whole m reg place value) items
outcome m (op.OtherRead reg map) place sampled items =
    read_outcome (forgetting m place) false (whole m reg place 0) items
outcome m (op.Hw field value) place sampled items = quiet end.Done m
outcome m (op.Reset kind) place sampled items = quiet end.Done (record m { mirror = reset m.chip kind m.mirror })

-- ---- the event

abbrev pub register_event : Op → (reg : ℕ) → List TraceItem → Outcome → Event
register_event op reg items o = record {
  op = op;
  end = o.end;
  trace = items;
  mirrored = mirrored_of o.model.mirror reg;
  desired = desired_of o.model.mirror reg;
  differ = o.differ;
}

abbrev pub memory_event : Op → List TraceItem → Outcome → Event
memory_event op items o = record { op = op; end = o.end; trace = items; mirrored = 0; desired = 0; differ = o.differ }

abbrev pub event_at : Option ℕ → Op → List TraceItem → Outcome → Event
event_at None op items o = memory_event op items o
event_at (Some reg) op items o = register_event op reg items o

abbrev pub event_of : ModelData → Op → List TraceItem → Outcome → Event
event_of m op items o = event_at (register_of m.chip op) op items o

abbrev pub refused_event : ModelData → Op → Refused → Event
refused_event m op why = event_of m op [] (quiet (end.Refused why) m)

-- ---- the device, where it tells its state

-- the bits that it is found to have, where the backdoor reads them
abbrev pub found_by : State → Op → ℕ
found_by d (op.BackWrite reg value) = peeked d (cell.Reg reg)
found_by d (op.BackRead reg) = peeked d (cell.Reg reg)
found_by d (op.BackCheck reg) = peeked d (cell.Reg reg)
found_by d (op.Peek reg) = peeked d (cell.Reg reg)
found_by d (op.MemPeek mem index) = peeked d (cell.Loc mem index)
found_by d _ = 0

-- the bits that it deposits, where it uses the backdoor
abbrev pub deposited : ModelData → Op → (sampled : ℕ) → ℕ
deposited m (op.BackWrite reg value) sampled = back_written m reg value sampled
deposited m (op.BackRead reg) sampled = back_left m reg sampled
deposited m (op.BackCheck reg) sampled = back_left m reg sampled
deposited m (op.Poke reg value) sampled = value
deposited m (op.MemPoke mem index value) sampled = value
deposited m _ sampled = 0

-- What is asked of the device: a deposit of these bits, a change, a reset, or these items.
abbrev pub asks_of : Op → (deposit : ℕ) → List TraceItem → List Request
asks_of (op.BackWrite reg value) deposit items = ask.poke (cell.Reg reg) deposit ∷ []
asks_of (op.BackRead reg) deposit items = ask.poke (cell.Reg reg) deposit ∷ []
asks_of (op.BackCheck reg) deposit items = ask.poke (cell.Reg reg) deposit ∷ []
asks_of (op.Poke reg value) deposit items = ask.poke (cell.Reg reg) deposit ∷ []
asks_of (op.MemPoke mem index value) deposit items = ask.poke (cell.Loc mem index) deposit ∷ []
asks_of (op.Hw field value) deposit items = ask.hw field value ∷ []
asks_of (op.Reset kind) deposit items = ask.reset kind ∷ []
asks_of _ deposit items = map asked_by items

-- The device after an operation, where it tells its state. The device's steps are this project's own.
abbrev pub device_after : ModelData → Op → (sampled : ℕ) → List TraceItem → State → State
device_after m (op.BackWrite reg value) sampled items d = poked d (cell.Reg reg) (back_written m reg value sampled)
device_after m (op.BackRead reg) sampled items d = poked d (cell.Reg reg) (back_left m reg sampled)
device_after m (op.BackCheck reg) sampled items d = poked d (cell.Reg reg) (back_left m reg sampled)
device_after m (op.Poke reg value) sampled items d = poked d (cell.Reg reg) value
device_after m (op.MemPoke mem index value) sampled items d = poked d (cell.Loc mem index) value
device_after m (op.Hw field value) sampled items d = hw_set d field value
device_after m (op.Reset kind) sampled items d = reset_by d kind
device_after m _ sampled items d = state_after_all d items

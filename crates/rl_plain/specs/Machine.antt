-- The plain machine: it steps whole registers, with no maps, words, enables, beats or adapters.
use Rattle.std.specs.Prelude.{ℕ, ◌+◌, ◌-◌, ◌==◌, Bool, true, false, not, ◌&&◌, if◌then◌else◌, List, [], length, map, get_or, replicate, slice_set, Option, None, Some, Ok, Err}
use Rattle.std.specs.List.{range_with_len}
use Rattle.rl_policy.specs.Bits.{bit, from_bits, put_bit}
use Rattle.rl_policy.specs.Table.{after_write, is_write_only}
use Rattle.rl_policy.specs.declared.policy.Policy.{Policy}
use Rattle.rl_model.specs.Rows.{FieldSeen, ChipData}
use Rattle.rl_model.specs.Fields.{field_of, first_of, fields_of, policy_in}
use Rattle.rl_map.specs.Layout.{LayoutData}
use Rattle.rl_split.specs.Narrow.{is_narrow}
use Rattle.rl_split.specs.Step.{Register, every, ranswer}
use Rattle.rl_mirror.specs.Fields.{word_by_field, owned, part_of}
use Rattle.rl_mirror.specs.Mirror.{MirrorData, marks_in}
use Rattle.rl_mirror.specs.Prediction.{written, after_reset, needs_update, update_word_of, neutral_around}
use Rattle.rl_access.specs.declared.event.End.{End}
use Rattle.rl_access.specs.declared.event.End.TheVariants as end
use Rattle.rl_access.specs.declared.event.Event.{Event}
use Rattle.rl_access.specs.declared.event.Op.{Op}
use Rattle.rl_access.specs.declared.event.Op.TheVariants as op
use Rattle.rl_access.specs.declared.event.Refused.{Refused}
use Rattle.rl_access.specs.Gathering.{no_words}
use Rattle.rl_access.specs.Model.{ModelData}
use Rattle.rl_access.specs.Operation.{reg_of, register_of}
use Rattle.rl_access.specs.Rules.{Grant, grant, named}
use Rattle.rl_plain.specs.OneStep.{Step, write_step, read_step, no_step, register_after, own_field}

-- ---- its state

pub record Machine : Type 0 where
  -- the bits and the desired value of each register
  pub bits : List ℕ
  pub desired : List ℕ
  -- a first-write mark for each field, counted through all registers
  pub spent : List Bool
  -- what each location of each memory holds
  pub locations : (mem index : ℕ) → ℕ

-- a register of it
abbrev pub register_at : ChipData → Machine → ℕ → Register
register_at c p reg = record { bits = get_or p.bits reg 0; spent = marks_in c p.spent reg }

-- the mirror that would believe just this
abbrev pub mirror_of : Machine → MirrorData
mirror_of p = record { mirrored = p.bits; desired = p.desired; spent = p.spent }

-- A model with this mirror, which has gathered nothing. By its chip and its layout an operation is granted or refused,
-- and its event names the map that was used. A plan may look at its mirror.
abbrev pub seen : ChipData → LayoutData → Machine → ModelData
seen c l p = record { chip = c; layout = l; mirror = mirror_of p; gathered = replicate (length l.places) no_words }

-- ---- one register takes a step

-- the step makes the field's new bits its desired value: a read tells nothing of a write-only field
abbrev pub settles : Step → Policy → ℕ → Bool
settles (write_step chosen word) p k = chosen k
settles (read_step chosen) p k = chosen k && not (is_write_only p)
settles no_step p k = false

abbrev pub desired_after : List FieldSeen → Step → (bits desired : ℕ) → ℕ
desired_after fields step bits desired =
    word_by_field fields (λ k b. if settles step (policy_in fields k) k then bit bits b else bit desired b)

-- the mark of a field once the register is this one: those of other registers stay
abbrev pub mark_after : ChipData → (reg : ℕ) → Register → Machine → ℕ → Bool
mark_after c reg r p n =
    if (field_of c n).shape.reg == reg then r.spent (n - first_of c reg) else get_or p.spent n false

-- the register becomes this one
abbrev pub becomes : ChipData → (reg : ℕ) → Step → Register → Machine → Machine
becomes c reg step r p = record p {
  bits = slice_set p.bits reg r.bits;
  desired = slice_set p.desired reg (desired_after (fields_of c reg) step r.bits (get_or p.desired reg 0));
  spent = map (mark_after c reg r p) (range_with_len 0 (length p.spent));
}

-- by a step of it
abbrev pub taking : ChipData → (reg : ℕ) → Step → Machine → Machine
taking c reg step p = becomes c reg step (register_after (fields_of c reg) step (register_at c p reg)) p

abbrev pub stepped : ChipData → (reg : ℕ) → Step → Machine → Machine
stepped c reg (write_step chosen word) p = taking c reg (write_step chosen word) p
stepped c reg (read_step chosen) p = taking c reg (read_step chosen) p
stepped c reg no_step p = p

-- ---- other changes of its state

-- a register has these bits, also as its desired value
abbrev pub with_both : (reg bits : ℕ) → Machine → Machine
with_both reg bits p = record p { bits = slice_set p.bits reg bits; desired = slice_set p.desired reg bits }

-- a field is to become this
abbrev pub with_wish : ChipData → (field value : ℕ) → Machine → Machine
with_wish c field value p =
    let f = (field_of c field).shape in
    let old = get_or p.desired f.reg 0 in
    let wish = λ (b : ℕ). after_write f.policy (bit old (f.lsb + b)) (bit value b) (get_or p.spent field false) in
    record p { desired = slice_set p.desired f.reg (from_bits 64 (put_bit f.lsb f.width wish (bit old))) }

-- a location holds this
abbrev pub with_location : (mem index value : ℕ) → Machine → Machine
with_location mem index value p =
    record p { locations = λ m i. if m == mem && i == index then value else p.locations m i }

-- each field with a value for the kind takes it
abbrev pub values_reset : ChipData → (kind : ℕ) → List ℕ → List ℕ
values_reset c kind values =
    map (λ reg. after_reset (fields_of c reg) kind (get_or values reg 0)) (range_with_len 0 (length values))

-- as bits and as desired value, and the hard reset clears all marks
abbrev pub with_reset : ChipData → (kind : ℕ) → Machine → Machine
with_reset c kind p = record p {
  bits = values_reset c kind p.bits;
  desired = values_reset c kind p.desired;
  spent = if kind == 0 then replicate (length p.spent) false else p.spent;
}

-- after a hard reset, with 0 in each field without a value for it and in each location
abbrev pub first_machine : ChipData → Machine
first_machine c = with_reset c 0 (record {
  bits = replicate (length c.regs) 0;
  desired = replicate (length c.regs) 0;
  spent = replicate (length c.fields) false;
  locations = λ mem index. 0;
})

-- ---- what an operation at a place makes of it

-- an access to a field reaches it alone where it is narrow, and else all fields of its register
abbrev pub reached : ChipData → LayoutData → (field place : ℕ) → Bool → ℕ → Bool
reached c l field place write = if is_narrow c l field place write then own_field c field else every

-- the word with the value in the field: where all fields are written, it has the neutral word in each other one
abbrev pub word_with : ChipData → LayoutData → (field place value : ℕ) → Machine → ℕ
word_with c l field place value p =
    let f = (field_of c field).shape in
    if is_narrow c l field place true then from_bits 64 (put_bit f.lsb f.width (bit value) (bit 0))
    else neutral_around c field value (mirror_of p)

abbrev pub field_write_step : ChipData → LayoutData → (field place value : ℕ) → Machine → Step
field_write_step c l field place value p = write_step (reached c l field place true) (word_with c l field place value p)

abbrev pub field_read_step : ChipData → LayoutData → (field place : ℕ) → Step
field_read_step c l field place = read_step (reached c l field place false)

-- the word that an update sends, if some field has another desired value than its bits
abbrev pub update_step : ChipData → (reg : ℕ) → Machine → Step
update_step c reg p =
    if needs_update (mirror_of p) reg then write_step every (update_word_of c reg (mirror_of p)) else no_step

-- the bits after a write by the backdoor, which keeps the marks
abbrev pub back_bits : ChipData → (reg value : ℕ) → Machine → ℕ
back_bits c reg value p = written (fields_of c reg) (marks_in c p.spent reg) (get_or p.bits reg 0) value

abbrev pub machine_after : ChipData → LayoutData → Op → (place : ℕ) → Machine → Machine
machine_after c l (op.Write reg _ value) place p = stepped c reg (write_step every value) p
machine_after c l (op.Read reg _) place p = stepped c reg (read_step every) p
machine_after c l (op.Mirror reg _) place p = stepped c reg (read_step every) p
machine_after c l (op.Check reg _) place p = stepped c reg (read_step every) p
machine_after c l (op.FieldWrite field _ value) place p =
    stepped c (reg_of c field) (field_write_step c l field place value p) p
machine_after c l (op.FieldRead field _) place p = stepped c (reg_of c field) (field_read_step c l field place) p
machine_after c l (op.Set field value) place p = with_wish c field value p
machine_after c l (op.Show reg) place p = p
machine_after c l (op.Update reg _) place p = stepped c reg (update_step c reg p) p
machine_after c l (op.BackWrite reg value) place p = with_both reg (back_bits c reg value p) p
machine_after c l (op.BackRead reg) place p = stepped c reg (read_step every) p
machine_after c l (op.BackCheck reg) place p = stepped c reg (read_step every) p
machine_after c l (op.Peek reg) place p = with_both reg (get_or p.bits reg 0) p
machine_after c l (op.Poke reg value) place p = with_both reg (owned (fields_of c reg) value) p
machine_after c l (op.MemWrite mem _ index value) place p = with_location mem index value p
machine_after c l (op.MemRead mem _ index) place p = p
machine_after c l (op.MemCheck mem _ index value) place p = p
machine_after c l (op.BurstWrite mem _ first count) place p = p
machine_after c l (op.BurstRead mem _ first count) place p = p
machine_after c l (op.MemPeek mem index) place p = p
machine_after c l (op.MemPoke mem index value) place p = with_location mem index value p
machine_after c l (op.OtherWrite reg _ value) place p = stepped c reg (write_step every value) p
machine_after c l (op.OtherRead reg _) place p = stepped c reg (read_step every) p
machine_after c l (op.Hw field value) place p = p
machine_after c l (op.Reset kind) place p = with_reset c kind p

-- ---- how it ends, from the machine before it

-- what a read of the register answers
abbrev pub answer_in : ChipData → (reg : ℕ) → Machine → End
answer_in c reg p = end.Value (ranswer (fields_of c reg) every (register_at c p reg))

-- and a read of the field, alone or with its register
abbrev pub field_answer : ChipData → LayoutData → (field place : ℕ) → Machine → End
field_answer c l field place p =
    let reg = reg_of c field in
    let read = ranswer (fields_of c reg) (reached c l field place false) (register_at c p reg) in
    end.Value (part_of (field_of c field).shape read)

-- the word that an update sent
abbrev pub update_end : ChipData → (reg : ℕ) → Machine → End
update_end c reg p =
    if needs_update (mirror_of p) reg then end.Sent (update_word_of c reg (mirror_of p))
    else end.Nothing

abbrev pub machine_end : ChipData → LayoutData → Op → (place : ℕ) → Machine → End
machine_end c l (op.Read reg _) place p = answer_in c reg p
machine_end c l (op.Mirror reg _) place p = answer_in c reg p
machine_end c l (op.Check reg _) place p = answer_in c reg p
machine_end c l (op.FieldRead field _) place p = field_answer c l field place p
machine_end c l (op.Update reg _) place p = update_end c reg p
machine_end c l (op.BackRead reg) place p = answer_in c reg p
machine_end c l (op.BackCheck reg) place p = answer_in c reg p
machine_end c l (op.Peek reg) place p = end.Value (get_or p.bits reg 0)
machine_end c l (op.MemRead mem _ index) place p = end.Value (p.locations mem index)
machine_end c l (op.MemCheck mem _ index value) place p = end.Value (p.locations mem index)
machine_end c l (op.MemPeek mem index) place p = end.Value (p.locations mem index)
machine_end c l (op.OtherRead reg _) place p = answer_in c reg p
machine_end c l _ place p = end.Done

-- a check of a location differs where it holds another value than the given one; a check of a register finds nothing
abbrev pub machine_differ : Op → Machine → ℕ
machine_differ (op.MemCheck mem _ index value) p = if p.locations mem index == value then 0 else 1
machine_differ _ p = 0

-- ---- its events: they have no items

pub record Done : Type 0 where
  pub event : Event
  pub machine : Machine

-- that of the register; 0 where there is none
abbrev pub value_at : Option ℕ → List ℕ → ℕ
value_at None values = 0
value_at (Some reg) values = get_or values reg 0

-- the event tells the bits and the desired value that the register of its operation, if it is on one, has afterwards
abbrev pub told : ChipData → Op → End → (differ : ℕ) → Machine → Event
told c op end differ p = record {
  op = op;
  end = end;
  trace = [];
  mirrored = value_at (register_of c op) p.bits;
  desired = value_at (register_of c op) p.desired;
  differ = differ;
}

abbrev pub done_at : ChipData → LayoutData → Op → (place : ℕ) → Machine → Done
done_at c l op place p =
    let after = machine_after c l op place p in
    let end = machine_end c l op place p in
    record { event = told c (named (seen c l p) op) end (machine_differ op p) after; machine = after }

-- a refused operation changes nothing
abbrev pub refused_at : ChipData → LayoutData → Op → Refused → Machine → Done
refused_at c l op why p = record { event = told c (named (seen c l p) op) (end.Refused why) 0 p; machine = p }

abbrev pub done_by : ChipData → LayoutData → Op → Machine → Grant → Done
done_by c l op p (Ok place) = done_at c l op place p
done_by c l op p (Err why) = refused_at c l op why p

-- an operation is refused by its first cause, or done
unfoldable pub machine_step : ChipData → LayoutData → Machine → Op → Done
machine_step c l p op = done_by c l op p (grant (seen c l p) op)

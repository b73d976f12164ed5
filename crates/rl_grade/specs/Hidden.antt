-- Flaws that no script finds. Most of them are silent: each bit that the flaw could change is alike with and without
-- it, or has its first value at each moment, or is never looked at. The others change what no check compares.
use Rattle.std.specs.Prelude.{ℕ, ◌<◌, ◌==◌, Bool, true, false, not, ◌&&◌, ◌||◌, if◌then◌else◌, List, length, unwrap_or, Option, Some, None}
use Rattle.std.specs.List.{list_all, range_with_len}
use Rattle.rl_policy.specs.Bits.{bit}
use Rattle.rl_policy.specs.Table.{after_read, after_write, is_write_only, spends_mark}
use Rattle.rl_policy.specs.declared.policy.Policy.{Policy}
use Rattle.rl_bus.specs.declared.table.WordRow.{WordRow}
use Rattle.rl_model.specs.Chip.{HasItem, backdoor_of, value_for}
use Rattle.rl_model.specs.Fields.{field_of}
use Rattle.rl_model.specs.Rows.{ChipData, FieldSeen}
use Rattle.rl_model.specs.declared.rows.Item.TheVariants.{Reg, Mem}
use Rattle.rl_model.specs.declared.rows.Reset.{Reset}
use Rattle.rl_map.specs.Layout.{LayoutData}
use Rattle.rl_access.specs.Rules.{is_writable}
use Rattle.rl_flaw.specs.declared.flaw.Flaw.{Flaw}
use Rattle.rl_flaw.specs.declared.flaw.Flaw.TheVariants.{Deaf, ErrorNth, ErrorRange, OtherPolicy, OtherReset, Stuck}
use Rattle.rl_grade.specs.declared.bits.FlawedBit.{FlawedBit}
use Rattle.rl_grade.specs.declared.bits.Ways.{Ways}
use Rattle.rl_grade.specs.Reached.{is_reached}
use Rattle.rl_grade.specs.Unchecked.{is_unchecked}

-- ---- tests of bits

abbrev pub for_both : (Bool → Bool) → Bool
for_both test = test false && test true

abbrev pub is_same : Bool → Bool → Bool
is_same true b = b
is_same false b = not b

-- ---- a bit that is the same in both devices

-- the same is left by each write
abbrev pub writes_alike : FlawedBit → Bool
writes_alike b =
    is_same (spends_mark b.own) (not b.deaf && spends_mark b.other)
    && for_both (λ old. for_both (λ new. for_both (λ spent.
    is_same (after_write b.own old new spent) (if b.deaf then old else after_write b.other old new spent))))

-- and by each read, which answers the same
abbrev pub reads_alike : FlawedBit → Bool
reads_alike b =
    is_same (is_write_only b.own) (is_write_only b.other)
    && for_both (λ old. is_same (after_read b.own old) (after_read b.other old))

abbrev pub is_loose : Option Bool → Bool
is_loose None = true
is_loose (Some v) = false

abbrev pub is_alike : Ways → FlawedBit → Bool
is_alike w b = is_loose b.stuck && ((not w.written || writes_alike b) && (not w.read || reads_alike b))

-- ---- a bit that isn't looked at: reads answer 0 in its place, or there are none

abbrev pub is_unseen : Ways → FlawedBit → Bool
is_unseen w b = not w.backdoor && (not w.read || (is_write_only b.own && is_write_only b.other))

-- ---- a bit that has one value at each moment in both devices

-- each write leaves this value
abbrev pub keeps_written : Bool → Policy → Bool
keeps_written v p = for_both (λ new. for_both (λ spent. is_same (after_write p v new spent) v))

-- and each read
abbrev pub keeps_read : Bool → Policy → Bool
keeps_read v p = is_same (after_read p v) v

-- it isn't stuck at the other value
abbrev pub may_hold : Bool → Option Bool → Bool
may_hold v None = true
may_hold v (Some s) = is_same s v

abbrev pub is_fixed : Bool → Ways → FlawedBit → Bool
is_fixed v w b =
    not w.backdoor && (not b.volatile && (may_hold v b.stuck
    && ((not w.written || (keeps_written v b.own && (b.deaf || keeps_written v b.other)))
    && (not w.read
    || (keeps_read v b.own && (keeps_read v b.other
    && is_same (is_write_only b.own) (is_write_only b.other)))))))

-- the value of bit i of a field at a HARD reset; 0 where it has none
abbrev pub first_bit : FieldSeen → (i : ℕ) → Bool
first_bit f i = bit (unwrap_or (value_for 0 f.resets) 0) i

-- each reset gives the bit its first value
abbrev pub resets_alike : FieldSeen → (i : ℕ) → Bool
resets_alike f i = list_all (λ (r : Reset). is_same (bit r.value i) (first_bit f i)) f.resets

-- ---- flaws

-- nothing that any script can do tells bit i of the field from one without the flaw
abbrev pub is_bit_hidden : Ways → FlawedBit → FieldSeen → (i : ℕ) → Bool
is_bit_hidden w b f i = is_alike w b || (is_unseen w b || (is_fixed (first_bit f i) w b && resets_alike f i))

abbrev pub ways_to : ChipData → List WordRow → (reg : ℕ) → Ways
ways_to c rows reg = record {
  written = is_reached rows (Reg reg) true;
  read = is_reached rows (Reg reg) false;
  backdoor = unwrap_or (backdoor_of c (Reg reg)) false;
}

abbrev pub sound_bit : FieldSeen → FlawedBit
sound_bit f =
    record { own = f.shape.policy; other = f.shape.policy; stuck = None; deaf = false; volatile = f.shape.volatile }

abbrev pub stuck_bit : FieldSeen → Bool → FlawedBit
stuck_bit f v =
    record { own = f.shape.policy; other = f.shape.policy; stuck = Some v; deaf = false; volatile = f.shape.volatile }

abbrev pub other_bit : FieldSeen → Policy → FlawedBit
other_bit f p = record { own = f.shape.policy; other = p; stuck = None; deaf = false; volatile = f.shape.volatile }

abbrev pub deaf_bit : FieldSeen → FlawedBit
deaf_bit f =
    record { own = f.shape.policy; other = f.shape.policy; stuck = None; deaf = true; volatile = f.shape.volatile }

-- each bit of the field is hidden
abbrev pub is_field_hidden : Ways → FlawedBit → FieldSeen → Bool
is_field_hidden w b f = list_all (is_bit_hidden w b f) (range_with_len 0 f.shape.width)

-- writes to a register reach nothing: each bit of the field is hidden, if it is the register's
abbrev pub is_deaf_hidden : Ways → (reg : ℕ) → FieldSeen → Bool
is_deaf_hidden w reg f = not (f.shape.reg == reg) || is_field_hidden w (deaf_bit f) f

-- of each field
abbrev pub is_deafness_hidden : ChipData → List WordRow → (reg : ℕ) → Bool
is_deafness_hidden c rows reg =
    list_all (is_deaf_hidden (ways_to c rows reg) reg) c.fields

-- what a flaw names is in the chip
abbrev pub IsThere : ChipData → Flaw → Type 0
IsThere c (Stuck field i v) = field < length c.fields
IsThere c (OtherPolicy field p) = field < length c.fields
IsThere c (OtherReset field kind value) = field < length c.fields
IsThere c (Deaf item) = HasItem c item
IsThere c (ErrorRange port from to) = Unit {0}
IsThere c (ErrorNth nth) = Unit {0}

-- each event stays as it is without the flaw, over these words
abbrev pub is_silent_by : ChipData → List WordRow → Flaw → Bool
is_silent_by c rows (Stuck field i v) =
    let f = field_of c field in is_bit_hidden (ways_to c rows f.shape.reg) (stuck_bit f v) f i
is_silent_by c rows (OtherPolicy field p) =
    let f = field_of c field in is_field_hidden (ways_to c rows f.shape.reg) (other_bit f p) f
is_silent_by c rows (OtherReset field kind value) =
    let f = field_of c field in is_unseen (ways_to c rows f.shape.reg) (sound_bit f)
is_silent_by c rows (Deaf (Reg reg)) = is_deafness_hidden c rows reg
is_silent_by c rows (Deaf (Mem mem)) = not (is_writable c mem) || not (is_reached rows (Mem mem) true)
is_silent_by c rows (ErrorRange port from to) = false
is_silent_by c rows (ErrorNth nth) = false

abbrev pub is_silent : ChipData → LayoutData → Flaw → Bool
is_silent c l flaw = is_silent_by c l.rows flaw

-- no script finds it: each event stays as it is, or no check compares what the flaw changes
abbrev pub is_hidden : ChipData → LayoutData → Flaw → Bool
is_hidden c l flaw = is_silent c l flaw || is_unchecked c flaw

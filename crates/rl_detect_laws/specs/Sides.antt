-- One bit of a field, in a device where it is stuck, deaf or has another policy: what a write and a check make of it,
-- and which steps of a sequence show it. It is a computation over the table of policies.
use Rattle.std.specs.Prelude.{Bool, not, ◌||◌}
use Rattle.rl_policy.specs.Table.{either_alone, after_write, after_read, value_read, spends_mark}
use Rattle.rl_policy.specs.declared.policy.Policy.{Policy}

-- what the device holds of the bit, and whether its first write was taken there;
-- what is believed of it, and whether the first write of its field is believed to be taken
pub record Sides : Type 0 where
  pub held : Bool
  pub marked : Bool
  pub believed : Bool
  pub spent : Bool

-- the one thing that is wrong with the bit in the device
pub data BitFlaw : Type 0 where
  sticks : Bool → BitFlaw
  hears_nothing : BitFlaw
  goes_by : Policy → BitFlaw

-- ---- the device's side, of a bit that is described with policy p

abbrev pub held_written : BitFlaw → (held word marked : Bool) → Bool
held_written (sticks v) held word marked = v
held_written hears_nothing held word marked = held
held_written (goes_by q) held word marked = after_write q held word marked

abbrev pub mark_written : BitFlaw → (marked : Bool) → Bool
mark_written (sticks v) marked = marked
mark_written hears_nothing marked = marked
mark_written (goes_by q) marked = marked || spends_mark q

abbrev pub held_read : BitFlaw → Policy → (held : Bool) → Bool
held_read (sticks v) p held = v
held_read hears_nothing p held = after_read p held
held_read (goes_by q) p held = after_read q held

-- what a read over the bus answers
abbrev pub answered : BitFlaw → (held : Bool) → Bool
answered (sticks v) held = held
answered hears_nothing held = held
answered (goes_by q) held = value_read q held

-- what a deposit by the backdoor leaves
abbrev pub held_deposited : BitFlaw → (value : Bool) → Bool
held_deposited (sticks v) value = v
held_deposited hears_nothing value = value
held_deposited (goes_by q) value = value

-- ---- both sides, after an operation

abbrev pub written : BitFlaw → Policy → (word : Bool) → Sides → Sides
written f p word x = record {
  held = held_written f x.held word x.marked;
  marked = mark_written f x.marked;
  believed = after_write p x.believed word x.spent;
  spent = x.spent || spends_mark p;
}

abbrev pub checked : BitFlaw → Policy → Sides → Sides
checked f p x = record x { held = held_read f p x.held; believed = after_read p (answered f x.held) }

-- By the backdoor each goes by the described policy.
abbrev pub checked_behind : BitFlaw → Policy → Sides → Sides
checked_behind f p x =
    record x { held = held_deposited f (after_read p x.held); believed = after_read p x.held }

abbrev pub written_behind : BitFlaw → Policy → (word : Bool) → Sides → Sides
written_behind f p word x =
    let new = after_write p x.held word x.spent in
    record x { held = held_deposited f new; believed = new }

-- a check reads something else than is believed; so does one by the backdoor
abbrev pub differs : BitFlaw → Sides → Bool
differs f x = either_alone (answered f x.held) x.believed

abbrev pub differs_behind : Sides → Bool
differs_behind x = either_alone x.held x.believed

-- ---- what a sequence does

-- the other value is written
abbrev pub turned : BitFlaw → Policy → Sides → Sides
turned f p x = written f p (not x.believed) x

-- Twice the other value is written and the register checked: one of the two checks differs. So `bit_bash` does with
-- each bit, and `shared_access` with each register at two places.
abbrev pub shows_twice : BitFlaw → Policy → Sides → Bool
shows_twice f p x = differs f (turned f p x) || differs f (turned f p (checked f p (turned f p x)))

-- `access_test` writes the other value over the bus and checks it by the backdoor, and then the first value the other
-- way round.
abbrev pub shows_behind : BitFlaw → Policy → Sides → Bool
shows_behind f p x =
    differs_behind (turned f p x)
    || differs f (written_behind f p x.believed (checked_behind f p (turned f p x)))

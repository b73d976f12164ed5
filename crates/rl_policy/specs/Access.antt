-- What an access does to one bit, by the policy that the bit has: none, where it belongs to no field.
use Rattle.std.specs.Prelude.{Bool, false, ◌&&◌, ◌||◌, if◌then◌else◌, Option, Some, None}
use Rattle.rl_policy.specs.Table.{after_write, after_read, value_read, spends_mark}
use Rattle.rl_policy.specs.declared.policy.Policy.{Policy}

-- A write's effect on a bit, where its byte is enabled (uvm_reg_field, IEEE 1800.2-2017, 18.5).
abbrev pub bit_written : Option Policy → (stored mark written lane : Bool) → Bool
bit_written None x s w l = x
bit_written (Some p) x s w l = if l then after_write p x w s else x

-- Whether the first write of a write-once bit is spent, after a write where its byte is enabled. The mark is this
-- project's own.
abbrev pub mark_written : Option Policy → (mark lane : Bool) → Bool
mark_written None s l = s
mark_written (Some p) s l = s || (l && spends_mark p)

-- What a read answers of a bit: 0 where it belongs to no field.
abbrev pub bit_answered : Option Policy → (stored : Bool) → Bool
bit_answered None x = false
bit_answered (Some p) x = value_read p x

-- A read's effect on a bit, where its byte is enabled (uvm_reg_field, IEEE 1800.2-2017, 18.5).
abbrev pub bit_left : Option Policy → (stored lane : Bool) → Bool
bit_left None x l = x
bit_left (Some p) x l = if l then after_read p x else x

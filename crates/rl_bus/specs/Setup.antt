-- What a device has and never changes: its tables and its flaws.
use Rattle.std.specs.Prelude.{ℕ, ◌+◌, Bool, false, ◌&&◌, ◌||◌, ◌==◌, nat_le, if◌then◌else◌, List, Option, Some, None, option_map, position, find, filter, get_or}
use Rattle.std.specs.List.{list_any}
use Rattle.std.specs.Option.{option_or}
use Rattle.rl_policy.specs.Bits.{is_within, from_bits}
use Rattle.rl_policy.specs.declared.policy.Policy.{Policy}
use Rattle.rl_policy.specs.declared.policy.Policy.TheVariants.{Ro}
use Rattle.rl_bus.specs.declared.table.Cell.{Cell}
use Rattle.rl_bus.specs.declared.table.Cell.TheVariants as cell
use Rattle.rl_bus.specs.declared.table.FieldRow.{FieldRow}
use Rattle.rl_bus.specs.declared.table.ResetRow.{ResetRow}
use Rattle.rl_bus.specs.declared.table.MemRow.{MemRow}
use Rattle.rl_bus.specs.declared.table.WordRow.{WordRow}
use Rattle.rl_bus.specs.declared.table.PolicyRow.{PolicyRow}
use Rattle.rl_bus.specs.declared.table.StuckRow.{StuckRow}
use Rattle.rl_bus.specs.declared.table.RangeRow.{RangeRow}
use Rattle.rl_bus.specs.declared.table.ItemRow.{ItemRow}
use Rattle.rl_bus.specs.declared.table.ItemRow.TheVariants as item

-- Each sort of flaw in the order of the description. Flaws are this project's own.
pub record Flaws : Type 0 where
  pub policies : List PolicyRow
  pub resets : List ResetRow
  pub stuck : List StuckRow
  pub ranges : List RangeRow
  pub nths : List ℕ
  pub deaf : List ItemRow

pub record Setup : Type 0 where
  -- the bytes of each register
  pub regs : List ℕ
  -- the fields of all registers, and their reset values
  pub fields : List FieldRow
  pub resets : List ResetRow
  pub mems : List MemRow
  -- the bytes of each port
  pub ports : List ℕ
  -- the words of all places; those of one address stand by their order
  pub words : List WordRow
  pub flaws : Flaws

-- what stands past the end of a table
abbrev pub no_field : FieldRow
no_field = record { reg = 0; lsb = 0; width = 0; policy = Ro }

abbrev pub no_mem : MemRow
no_mem = record { first = 0; bytes = 0; size = 0; writable = false }

abbrev pub no_stuck : StuckRow
no_stuck = record { field = 0; bit = 0; value = false }

abbrev pub field_of : Setup → ℕ → FieldRow
field_of t field = get_or t.fields field no_field

abbrev pub mem_of : Setup → ℕ → MemRow
mem_of t mem = get_or t.mems mem no_mem

-- ---- registers

abbrev pub covers : FieldRow → ℕ → ℕ → Bool
covers f reg b = f.reg == reg && is_within f.lsb f.width b

-- the number of the field that bit b of the register belongs to
abbrev pub field_at : Setup → ℕ → ℕ → Option ℕ
field_at t reg b = position (λ f. covers f reg b) t.fields

-- the policy that a field has in the device: that of the first flaw that names it, or else the declared one
abbrev pub or_else : {A : Type 0} → Option A → A → A
or_else None a = a
or_else (Some b) a = b

abbrev pub policy_of : Setup → ℕ → Policy
policy_of t field =
    or_else (option_map (λ f. f.policy) (find (λ f. f.field == field) t.flaws.policies)) (field_of t field).policy

-- the policy that bit b of the register has in the device
abbrev pub policy_at : Setup → ℕ → ℕ → Option Policy
policy_at t reg b = option_map (policy_of t) (field_at t reg b)

-- the value that bit b of the register is stuck at
abbrev pub names_bit : Setup → StuckRow → ℕ → ℕ → Bool
names_bit t s reg b = (field_of t s.field).reg == reg && (field_of t s.field).lsb + s.bit == b

abbrev pub stuck_at : Setup → ℕ → ℕ → Option Bool
stuck_at t reg b = option_map (λ s. s.value) (find (λ s. names_bit t s reg b) t.flaws.stuck)

-- The register with these bits. A stuck bit has its value whatever is written, so each step ends by this.
unfoldable pub held : Setup → ℕ → (ℕ → Bool) → ℕ
held t reg bits = from_bits 64 (λ b. or_else (stuck_at t reg b) (bits b))

-- the value that a field takes at a reset of this kind: that of the first flaw, or else the declared one
abbrev pub value_in : List ResetRow → ℕ → ℕ → Option ℕ
value_in rows field kind = option_map (λ r. r.value) (find (λ r. r.field == field && r.kind == kind) rows)

-- The value that a field takes at a reset of this kind: that of the first flaw, or else the declared one
-- (uvm_reg_field::set_reset, IEEE 1800.2-2017, 18.5).
abbrev pub reset_of : Setup → ℕ → ℕ → Option ℕ
reset_of t field kind = option_or (value_in t.flaws.resets field kind) (value_in t.resets field kind)

-- ---- cells

-- where a location stands among those of all memories
abbrev pub location : Setup → (mem index : ℕ) → ℕ
location t mem index = (mem_of t mem).first + index

-- a row names the item that a cell is part of
abbrev pub is_of : Cell → ItemRow → Bool
is_of (cell.Reg r) (item.Reg q) = r == q
is_of (cell.Loc mem index) (item.Mem m) = mem == m
is_of (cell.Reg r) (item.Mem m) = false
is_of (cell.Loc mem index) (item.Reg s) = false

abbrev pub is_deaf : Setup → Cell → Bool
is_deaf t c = list_any (is_of c) t.flaws.deaf

-- ---- words

abbrev pub stands_at : ℕ → ℕ → WordRow → Bool
stands_at port address w = w.port == port && w.address == address

-- a word lets items of the direction through
abbrev pub stands_for : ℕ → ℕ → Bool → WordRow → Bool
stands_for port address write w = stands_at port address w && (if write then w.writes else w.reads)

-- the words of a direction at an address
abbrev pub words_at : Setup → (port address : ℕ) → (write : Bool) → List WordRow
words_at t port address write =
    filter (stands_for port address write) t.words

-- the address has a word of the place
abbrev pub is_of_place : Setup → (place port address : ℕ) → Bool
is_of_place t place port address = list_any (λ w. stands_at port address w && w.place == place) t.words

-- a flaw makes an item fail by its address or by its number
abbrev pub is_named : Setup → (port address count : ℕ) → Bool
is_named t port address count =
    list_any (λ r. r.port == port && nat_le r.from address && nat_le address r.to) t.flaws.ranges
    || list_any (λ nth. nth == count) t.flaws.nths

-- The flaws of a description over a chip and its layout: the first fault, and the flaws by number.
use Rattle.std.specs.Prelude.{ℕ, ◌+◌, ◌^◌, ◌==◌, ◌&&◌, nat_lt, nat_le, Bool, if◌then◌else◌, List, [], ◌∷◌, length, take, drop}
use Rattle.std.specs.Prelude.{position, slice_get, bytes_eq, Option, Some, None, is_some, option_map, option_and_then}
use Rattle.std.specs.List.{filter_map}
use Rattle.std.specs.Option.{option_or}
use Rattle.rl_model.specs.Rows.{ChipData}
use Rattle.rl_model.specs.Chip.{field_path, value_for}
use Rattle.rl_map.specs.Layout.{LayoutData, map_named}
use Rattle.rl_model.specs.declared.rows.Item.{Item}
use Rattle.rl_model.specs.declared.rows.Item.TheVariants.{Reg, Mem}
use Rattle.rl_flaw.specs.Flaws.{width_of}
use Rattle.rl_flaw.specs.declared.flaw.Flaw.{Flaw}
use Rattle.rl_flaw.specs.declared.flaw.Flaw.TheVariants as flaw
use Rattle.rl_desc.specs.declared.fault.DescFault.{DescFault}
use Rattle.rl_desc.specs.declared.fault.DescFault.TheVariants.{TooManyFlaws, Flaw as BadFlaw}
use Rattle.rl_desc.specs.declared.flaw.FlawPart.{FlawPart}
use Rattle.rl_desc.specs.declared.flaw.FlawPart.TheVariants.{OtherPolicy, OtherReset, Stuck, ErrorRange, ErrorNth, Deaf}
use Rattle.rl_desc.specs.Refusals.{or_else}

-- ---- what names stand for

-- the field of a path: its register's path, a dot and its name
abbrev pub field_at : ChipData → List ℕ → Option ℕ
field_at chip path = position (λ f. bytes_eq (field_path chip f) path) chip.fields

-- the place of a text
abbrev pub text_at : List ℕ → List (List ℕ) → Option ℕ
text_at text texts = position (λ t. bytes_eq t text) texts

abbrev pub kind_at : ChipData → List ℕ → Option ℕ
kind_at chip name = text_at name chip.kinds

-- the paths of the registers, and of the memories
abbrev pub reg_paths : ChipData → List (List ℕ)
reg_paths chip = take (length chip.regs) (drop chip.scopes chip.paths)

abbrev pub mem_paths : ChipData → List (List ℕ)
mem_paths chip = take (length chip.mems) (drop (chip.scopes + length chip.regs) chip.paths)

abbrev pub item_at : ChipData → List ℕ → Option Item
item_at chip path =
    option_or (option_map Reg (text_at path (reg_paths chip))) (option_map Mem (text_at path (mem_paths chip)))

-- the port of a map, which only a root has
abbrev pub port_of_map : LayoutData → ℕ → Option ℕ
port_of_map layout map = position (λ p. p.map == map) layout.ports

abbrev pub root_at : LayoutData → List ℕ → Option ℕ
root_at layout name = option_and_then (port_of_map layout) (map_named layout name)

-- the value of a field for a kind
abbrev pub reset_value : ChipData → ℕ → ℕ → Option ℕ
reset_value chip f kind = option_and_then (λ x. value_for kind x.resets) (slice_get chip.fields f)

-- ---- one flaw

abbrev pub flaw_if : Bool → Flaw → Option Flaw
flaw_if b x = if b then Some x else None

abbrev pub reset_flaw : ChipData → ℕ → ℕ → ℕ → Option Flaw
reset_flaw chip value f kind =
    flaw_if (is_some (reset_value chip f kind) && nat_lt value (2 ^ width_of chip f)) (flaw.OtherReset f kind value)

abbrev pub stuck_flaw : ChipData → (bit value : ℕ) → ℕ → Option Flaw
stuck_flaw chip bit value f = flaw_if (nat_lt bit (width_of chip f) && nat_lt value 2) (flaw.Stuck f bit (value == 1))

-- The flaw of a row, where each name is there and each value is one that it can have.
unfoldable pub flaw_of : ChipData → LayoutData → FlawPart → Option Flaw
flaw_of chip layout (OtherPolicy field policy) = option_map (λ f. flaw.OtherPolicy f policy) (field_at chip field)
flaw_of chip layout (OtherReset field kind value) =
    option_and_then (λ f. option_and_then (reset_flaw chip value f) (kind_at chip kind)) (field_at chip field)
flaw_of chip layout (Stuck field bit value) = option_and_then (stuck_flaw chip bit value) (field_at chip field)
flaw_of chip layout (ErrorRange map from to) =
    option_and_then (λ p. flaw_if (nat_le from to) (flaw.ErrorRange p from to)) (root_at layout map)
flaw_of chip layout (ErrorNth nth) = flaw_if (nat_lt 0 nth) (flaw.ErrorNth nth)
flaw_of chip layout (Deaf item) = option_map flaw.Deaf (item_at chip item)

-- ---- all flaws

abbrev pub bad_flaw : ℕ → Option Flaw → Option DescFault
bad_flaw row None = Some (BadFlaw row)
bad_flaw row (Some x) = None

abbrev pub flaw_fault : ChipData → LayoutData → ℕ → FlawPart → Option DescFault
flaw_fault chip layout row part =
    if nat_le 256 row then Some (TooManyFlaws row) else bad_flaw row (flaw_of chip layout part)

-- the first fault of flaws that are counted from row
abbrev pub flaws_fault : ChipData → LayoutData → ℕ → List FlawPart → Option DescFault
flaws_fault chip layout row [] = None
flaws_fault chip layout row (part ∷ parts) =
    or_else (flaw_fault chip layout row part) (flaws_fault chip layout (row + 1) parts)

abbrev pub flaws_of : ChipData → LayoutData → List FlawPart → List Flaw
flaws_of chip layout parts = filter_map (flaw_of chip layout) parts

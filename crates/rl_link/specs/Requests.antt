-- The lines that ask.
use Rattle.std.specs.Prelude.{ℕ, List, [], ◌∷◌, codes, decimal, Bool, true, false, map, get_or}
use Rattle.rl_policy.specs.Numbers.{hex_digits}
use Rattle.rl_bus.specs.Account.{Request}
use Rattle.rl_bus.specs.Account as ask
use Rattle.rl_bus.specs.declared.op.BusOp.{BusOp}
use Rattle.rl_model.specs.Rows.{ChipData}
use Rattle.rl_model.specs.Chip.{field_path}
use Rattle.rl_map.specs.declared.rows.PortRow.{PortRow}
use Rattle.rl_map.specs.Layout.{LayoutData, map_at}
use Rattle.rl_report.specs.Numbers.{lanes_text}
use Rattle.rl_report.specs.Pieces.{joined}

abbrev pub way : (write : Bool) → List ℕ
way true = codes "w "
way false = codes "r "

-- `w` or `r`, the port's map, the address, the word, a binary digit for each lane, and the tag
abbrev pub transfer_line : (port : List ℕ) → BusOp → (tag : ℕ) → List ℕ
transfer_line port op tag =
    joined (way op.write ∷ port ∷ codes " 0x" ∷ hex_digits op.address ∷ codes " 0x" ∷ hex_digits op.word
    ∷ codes " " ∷ lanes_text op.bytes op.lanes ∷ codes " #" ∷ decimal tag ∷ codes "\n" ∷ [])

abbrev pub reset_line : (kind : List ℕ) → List ℕ
reset_line kind = joined (codes "reset " ∷ kind ∷ codes "\n" ∷ [])

abbrev pub hw_line : (field : List ℕ) (value : ℕ) → List ℕ
hw_line field value = joined (codes "hw " ∷ field ∷ codes " 0x" ∷ hex_digits value ∷ codes "\n" ∷ [])

-- ---- names

-- the root map of each port, each reset kind, and each field's path
pub record NameData : Type 0 where
  pub ports : List (List ℕ)
  pub kinds : List (List ℕ)
  pub fields : List (List ℕ)

-- a number past the end has the empty name
abbrev pub name_at : List (List ℕ) → ℕ → List ℕ
name_at names number = get_or names number []

abbrev pub port_name : LayoutData → PortRow → List ℕ
port_name l port = (map_at l port.map).name

abbrev pub names_of : ChipData → LayoutData → NameData
names_of c l = record { ports = map (port_name l) l.ports; kinds = c.kinds; fields = map (field_path c) c.fields }

-- ---- what a device is asked

-- the line that asks for it; a deposit has none
abbrev pub request_of : NameData → Request → List ℕ
request_of names (ask.transfer port op tag answer) = transfer_line (name_at names.ports port) op tag
request_of names (ask.poke cell value) = []
request_of names (ask.reset kind) = reset_line (name_at names.kinds kind)
request_of names (ask.hw field value) = hw_line (name_at names.fields field) value

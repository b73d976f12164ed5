-- The last line of a session whose description is refused.
use Rattle.std.specs.Prelude.{ℕ, ◌+◌, List, [], ◌∷◌, codes, decimal, Option, Some, None}
use Rattle.rl_policy.specs.Numbers.{hex_digits}
use Rattle.rl_model.specs.declared.fault.Array.{Array}
use Rattle.rl_model.specs.declared.fault.Array.TheVariants as array
use Rattle.rl_model.specs.declared.fault.Spot.{Spot}
use Rattle.rl_model.specs.declared.fault.ModelCause.{ModelCause}
use Rattle.rl_model.specs.declared.fault.ModelCause.TheVariants as model
use Rattle.rl_map.specs.declared.fault.MapCause.{MapCause}
use Rattle.rl_map.specs.declared.fault.MapCause.TheVariants as map
use Rattle.rl_desc.specs.declared.fault.DescCause.{DescCause}
use Rattle.rl_desc.specs.declared.fault.DescCause.TheVariants.{Text, UnknownKey, MissingKey, WrongType, BadValue}
use Rattle.rl_desc.specs.declared.fault.DescFault.{DescFault}
use Rattle.rl_desc.specs.declared.fault.DescFault.TheVariants.{Bad, Model, Map, TooManyFlaws, Flaw, Memory}
use Rattle.rl_desc.specs.Keys.{key_name}
use Rattle.rl_report.specs.Pieces.{joined}

-- ---- where

abbrev pub array_name : Array → List ℕ
array_name array.Block = codes "block"
array_name array.File = codes "file"
array_name array.Reg = codes "reg"
array_name array.Mem = codes "mem"
array_name array.Map = codes "map"
array_name array.Place = codes "place"
array_name array.Flaw = codes "flaw"

-- fields are counted from 1
abbrev pub field_text : Option ℕ → List ℕ
field_text None = []
field_text (Some field) = joined (codes " field " ∷ decimal (field + 1) ∷ [])

-- nothing for the text as a whole, and rows are counted from 1
abbrev pub where_text : Option Spot → List ℕ
where_text None = []
where_text (Some spot) =
    joined (codes " " ∷ array_name spot.array ∷ codes " " ∷ decimal (spot.row + 1) ∷ field_text spot.field ∷ [])

-- ---- why

abbrev pub bad_reason : DescCause → List (List ℕ)
bad_reason Text = codes "not toml" ∷ []
bad_reason UnknownKey = codes "unknown key" ∷ []
bad_reason (MissingKey key) = codes "missing key " ∷ key_name key ∷ []
bad_reason (WrongType key) = codes "wrong type of " ∷ key_name key ∷ []
bad_reason (BadValue key) = codes "bad value of " ∷ key_name key ∷ []

abbrev pub model_reason : ModelCause → List ℕ
model_reason model.TooMany = codes "too many"
model_reason model.NoSuchParent = codes "no such parent"
model_reason model.BadName = codes "bad name"
model_reason model.DuplicateName = codes "duplicate name"
model_reason model.TooDeep = codes "too deep"
model_reason model.BadWidth = codes "bad width"
model_reason model.BadSize = codes "bad size"
model_reason model.FieldOutside = codes "field outside"
model_reason model.FieldsOverlap = codes "fields overlap"
model_reason model.ResetTooWide = codes "reset too wide"

-- the other place is counted from 1
abbrev pub map_reason : MapCause → List (List ℕ)
map_reason map.TooMany = codes "too many" ∷ []
map_reason map.BadName = codes "bad name" ∷ []
map_reason map.DuplicateName = codes "duplicate name" ∷ []
map_reason map.NoSuchMap = codes "no such map" ∷ []
map_reason map.TooDeep = codes "too deep" ∷ []
map_reason map.BadBytes = codes "bad bytes" ∷ []
map_reason map.NoSuchAdapter = codes "no such adapter" ∷ []
map_reason map.NoSuchItem = codes "no such item" ∷ []
map_reason map.PlacedTwice = codes "placed twice" ∷ []
map_reason map.MemInFifo = codes "memory in fifo" ∷ []
map_reason map.AddressOverflow = codes "address overflow" ∷ []
map_reason map.Unaligned = codes "unaligned" ∷ []
map_reason (map.SharedAddress address other) =
    codes "shared address 0x" ∷ hex_digits address ∷ codes " with place " ∷ decimal (other + 1) ∷ []

-- ---- the line

-- what stands before the reason
abbrev pub before_reason : Option Spot → List ℕ
before_reason spot = joined (codes "refused description" ∷ where_text spot ∷ codes ": " ∷ [])

abbrev pub refusal_text : Option Spot → List (List ℕ) → List ℕ
refusal_text spot reason =
    joined (codes "refused description" ∷ where_text spot ∷ codes ": " ∷ joined reason ∷ codes "\n" ∷ [])

abbrev pub flaw_at : ℕ → Option Spot
flaw_at row = Some (record { array = array.Flaw; row = row; field = None })

-- want of memory has no line
abbrev pub description_refused_text : DescFault → List ℕ
description_refused_text (Bad cause spot) = refusal_text spot (bad_reason cause)
description_refused_text (Model cause spot) = refusal_text (Some spot) (model_reason cause ∷ [])
description_refused_text (Map cause spot) = refusal_text (Some spot) (map_reason cause)
description_refused_text (TooManyFlaws row) = refusal_text (flaw_at row) (codes "too many" ∷ [])
description_refused_text (Flaw row) = refusal_text (flaw_at row) (codes "bad flaw" ∷ [])
description_refused_text Memory = []

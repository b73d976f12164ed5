-- What a description without a fault describes is sound, and what follows of the log of each session.
use Rattle.std.specs.Prelude.{◌≡◌, ℕ, ◌<◌, ◌^◌, List, length, All, None, Ok}
use Rattle.rl_bus.specs.declared.op.AdapterKind.{AdapterKind}
use Rattle.rl_bus.specs.Standing.{Standing, kinds_of}
use Rattle.rl_model.specs.Build.{chip_of, chip_fault}
use Rattle.rl_model.specs.Chip.{IsSound as IsChip}
use Rattle.rl_model.specs.Data.{PartsData}
use Rattle.rl_model.specs.Rows.{ChipData}
use Rattle.rl_map.specs.declared.parts.MapNode.{MapNode}
use Rattle.rl_map.specs.declared.parts.PlacePart.{PlacePart}
use Rattle.rl_map.specs.Faults.{layout_fault}
use Rattle.rl_map.specs.Layout.{LayoutData, IsSound as IsLayout}
use Rattle.rl_map.specs.Maps.{layout_of, IsBuiltWith}
use Rattle.rl_access.specs.Model.{IsModel}
use Rattle.rl_desc.specs.Data.{DescData}
use Rattle.rl_session.specs.Judged.{first_world}
use Rattle.rl_session.specs.Session.{opening_of}
use Rattle.rl_session_laws.specs.PlainLog.{IsPlainLog}

-- there are fewer than 2 ^ 32 adapters, and none takes an address past 64 bits
pub record AreKinds (kinds : List AdapterKind) : Type 0 where
  pub few : length kinds < 2 ^ 32
  pub low : All (λ k. k.most_address < 2 ^ 64) kinds

-- ---- a chip and its layout

abbrev pub EveryChipSound : Type 0
EveryChipSound = (parts : PartsData) → chip_fault parts ≡ None → IsChip (chip_of parts)

-- it is sound, and each of its items is the chip's
pub record IsLayoutOf (chip : ChipData) (layout : LayoutData) : Type 0 where
  pub sound : IsLayout layout
  pub built : IsBuiltWith layout chip

abbrev pub EveryLayoutSound : Type 0
EveryLayoutSound =
    (chip : ChipData) (maps : List MapNode) (places : List PlacePart) (kinds : List AdapterKind)
    → IsChip chip → AreKinds kinds
    → layout_fault chip maps places kinds ≡ None → IsLayoutOf chip (layout_of chip maps places kinds)

-- ---- a session

abbrev pub EveryOpeningSound : Type 0
EveryOpeningSound =
    (bytes : List ℕ) (adapters : List Standing) (desc : DescData) → AreKinds (kinds_of adapters)
    → opening_of bytes (kinds_of adapters) ≡ Ok desc → IsModel (first_world desc adapters).model

abbrev pub EveryLogIsPlain : Type 0
EveryLogIsPlain = (bytes : List ℕ) (adapters : List Standing) → AreKinds (kinds_of adapters) → IsPlainLog bytes adapters

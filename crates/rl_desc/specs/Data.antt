-- The rows of a description, without where they lie in memory.
use Rattle.std.specs.Prelude.{List}
use Rattle.rl_model.specs.Data.{PartsData}
use Rattle.rl_model.specs.Rows.{ChipData}
use Rattle.rl_map.specs.declared.parts.MapNode.{MapNode}
use Rattle.rl_map.specs.declared.parts.PlacePart.{PlacePart}
use Rattle.rl_map.specs.Layout.{LayoutData}
use Rattle.rl_flaw.specs.declared.flaw.Flaw.{Flaw}
use Rattle.rl_desc.specs.declared.flaw.FlawPart.{FlawPart}

pub record DocumentData : Type 0 where
  pub parts : PartsData
  pub maps : List MapNode
  pub places : List PlacePart
  pub flaws : List FlawPart

-- a chip, its layout and the flaws of its device
pub record DescData : Type 0 where
  pub chip : ChipData
  pub layout : LayoutData
  pub flaws : List Flaw

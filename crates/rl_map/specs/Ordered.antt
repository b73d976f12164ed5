-- What holds once all places are added and their rows are in order.
use Rattle.std.specs.Prelude.{◌≡◌, List, [], Option, Some, IsPermutation}
use Rattle.std.specs.List.Sorted.{IsStableByKey}
use Rattle.std.specs.Ordering.{nat_cmp}
use Rattle.rl_model.specs.Rows.{ChipData}
use Rattle.rl_bus.specs.declared.table.WordRow.{WordRow}
use Rattle.rl_map.specs.declared.fault.MapFault.{MapFault}
use Rattle.rl_map.specs.declared.parts.PlacePart.{PlacePart}
use Rattle.rl_map.specs.declared.places.Placing.{Placing}
use Rattle.rl_map.specs.declared.rows.MapRow.{MapRow}
use Rattle.rl_map.specs.declared.rows.PortRow.{PortRow}
use Rattle.rl_map.specs.declared.shared.Shared.{Shared}
use Rattle.rl_map.specs.Layout.{key_of, IsAscending}
use Rattle.rl_map.specs.Building.{ArePlaces}
use Rattle.rl_map.specs.Clashes.{IsLeast, IsMade, first_fault}
use Rattle.rl_map.specs.Links.{AreLinked}
use Rattle.rl_map.specs.Locations.{AreWordsOf}
use Rattle.rl_map.specs.Steps.{own_faults, accepted}

-- The places of these parts up to the first that is refused, with their rows in order, and the first fault. `first` are
-- the rows as they were added, `best` the first clash among them, and `refused` the first fault but for clashes.
pub record AreOrdered (chip : ChipData) (maps : List MapRow) (ports : List PortRow) (parts : List PlacePart)
    (p : Placing) (fault : Option MapFault) : Type 0 where
  pub first : List WordRow
  pub best : Option Shared
  pub refused : Option MapFault
  pub rows_are : p.places.items ≡ accepted chip maps ports [] 0 parts
  pub refused_is : refused ≡ own_faults chip maps ports [] 0 parts
  pub placed : ArePlaces chip maps ports p.places.items first
  pub words : AreWordsOf maps ports p.places.items p.words.items
  pub links : AreLinked p.places.items p.links.lasts.items p.links.before.items
  pub moved : IsPermutation first p.rows.items
  pub ascending : IsAscending p.rows.items
  pub stable : IsStableByKey key_of nat_cmp first p.rows.items
  pub least : IsLeast p.places.items p.rows.items best
  pub made : (s : Shared) → best ≡ Some s → IsMade p.places.items p.rows.items s
  pub fault_is : fault ≡ first_fault best refused

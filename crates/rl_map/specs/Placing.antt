-- What holds of the places while they are added one after another.
use Rattle.std.specs.Prelude.{List}
use Rattle.rl_model.specs.Rows.{ChipData}
use Rattle.rl_map.specs.declared.rows.MapRow.{MapRow}
use Rattle.rl_map.specs.declared.rows.PortRow.{PortRow}
use Rattle.rl_map.specs.declared.places.Placing.{Placing}
use Rattle.rl_map.specs.Links.{AreLinked}
use Rattle.rl_map.specs.Locations.{AreWordsOf}
use Rattle.rl_map.specs.Building.{ArePlaces}

-- the places so far with their rows, what is kept of their words, and the links from item to place
pub record ArePlaced (chip : ChipData) (maps : List MapRow) (ports : List PortRow) (p : Placing) : Type 0 where
  pub places : ArePlaces chip maps ports p.places.items p.rows.items
  pub words : AreWordsOf maps ports p.places.items p.words.items
  pub links : AreLinked p.places.items p.links.lasts.items p.links.before.items

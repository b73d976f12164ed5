-- The words that the contracts of the places use, passed on from one place. Declares nothing.
pub use Rattle.rl_map.specs.Level.{IsPath}
pub use Rattle.rl_map.specs.Seat.{AddressesFit}
pub use Rattle.rl_map.specs.Layout.{cell_of, word_row, location_of}
pub use Rattle.rl_map.specs.Locations.{AreStraight, AreLocations}
pub use Rattle.rl_map.specs.Maps.{place_row}
pub use Rattle.rl_map.specs.Steps.{own_fault, own_faults, accepted}
pub use Rattle.rl_map.specs.Building.{HasTables, rows_of, path_in, port_for}
pub use Rattle.rl_map.specs.Placing.{ArePlaced}

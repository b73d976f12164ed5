-- The words that the contracts of this crate use, passed on from one place. Declares nothing.
pub use Rattle.rl_bus.specs.Lanes.{all_lanes}
pub use Rattle.rl_bus.specs.Spread.{AreInCell}
pub use Rattle.rl_bus.specs.Wire.{Fits}
pub use Rattle.rl_map.specs.Layout.{place_at, words_of, IsLocation}
pub use Rattle.rl_map.specs.Words.{lanes_of}
pub use Rattle.rl_split.specs.Access.{IsChoice, all_bytes, lanes_for, op_for, kind_of, bus_bytes_of, ops_of, orders_of, joined}
pub use Rattle.rl_split.specs.Lists.{ops_in, orders_in}
pub use Rattle.rl_split.specs.Outgoing.{IsOutgoingOn, words_in, word_in, sent_as}
pub use Rattle.rl_split.specs.UnderWay.{whole_ops}

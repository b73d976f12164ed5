-- The words of the crates below that the contracts here use.
pub use Rattle.std.specs.Io.KnownBytes.{Appends}
pub use Rattle.rl_bus.specs.Account.{Asks}
pub use Rattle.rl_bus.specs.Device.{IsStep, IsPortOf, IsCellOf, IsFieldOf}
pub use Rattle.rl_bus.specs.Lanes.{IsWidth}
pub use Rattle.rl_bus.specs.State.{poked, reset_by, hw_set}
pub use Rattle.rl_bus.specs.Wire.{carried_by, tag_of, IsWellFormed, IsReplyTo, answered_by}
pub use Rattle.rl_report.specs.Pieces.{AppendsFront, Puts}
pub use Rattle.rl_session_run.specs.Prelude.{LeavesEnded, kinds_of}

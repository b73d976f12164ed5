-- The words that the contracts of accesses through a region use, passed on from one place. Declares nothing.
pub use Rattle.rl_bus.specs.Causes.{HasCause}
pub use Rattle.rl_access.specs.Call.{scene_of, Performs}
pub use Rattle.rl_access.specs.Event.{EventFits}
pub use Rattle.rl_access.specs.Model.{IsReady}
pub use Rattle.rl_access.specs.Operation.{IsMapIn}
pub use Rattle.rl_access.specs.Rules.{grant}
pub use Rattle.rl_access.specs.Runs.{IsBurst, write_grant, writes_of}
pub use Rattle.rl_mam.specs.Mam.{IsManagerOf}
pub use Rattle.rl_mam.specs.Outside.{LeavesOutside}
pub use Rattle.rl_mam.specs.Regions.{region_at, location_in}

-- The words that the contracts of an opening use, passed on from one place. Declares nothing.
pub use Rattle.rl_access.specs.Model.{IsModel}
pub use Rattle.rl_access.specs.World.{IsAt}
pub use Rattle.rl_flaw.specs.Flaws.{AreFlawsOf}
pub use Rattle.rl_bench.specs.State.{bench_state}
pub use Rattle.rl_bus.specs.Standing.{Standing, kinds_of}
pub use Rattle.rl_map.specs.Maps.{IsBuiltWith}
pub use Rattle.rl_session.specs.Judged.{first_world}
pub use Rattle.rl_session.specs.Opened.{IsOpened}
pub use Rattle.rl_session.specs.Refusals.{description_refused_text}
pub use Rattle.rl_session.specs.Session.{opening_after}

-- The words that the contracts of a session use, passed on from one place. Declares nothing.
pub use Rattle.rl_session_run.specs.Prelude.{LeavesEnded}
pub use Rattle.example_wishbone.specs.Session.{RunsOnTimer, has_flaws, on_timer}

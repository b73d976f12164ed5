-- The words that the contracts of this crate use, passed on from one place. Declares nothing.
pub use Rattle.rl_bus.specs.declared.op.AdapterKind.{AdapterKind}
pub use Rattle.rl_bus.specs.Causes.{Rose}
pub use Rattle.rl_report.specs.Ends.{EndedOnce}
pub use Rattle.rl_report.specs.Opening.{TakesNoHead}
pub use Rattle.rl_report.specs.Reading.{input_of}
pub use Rattle.rl_log.specs.Causes.{IsCaused}
pub use Rattle.rl_log.specs.Earlier.{KeepsEarlier}
pub use Rattle.rl_log.specs.Statuses.{is_complete}
pub use Rattle.rl_session.specs.Prelude.{Standing, kinds_of, IsBuiltWith, opening_after}
pub use Rattle.rl_session.specs.Session.{opening_of}
pub use Rattle.rl_session_run.specs.Opening.{AwaitsScript, IsBehindHead, IsFresh, IsRunnable, LeavesScript, OpensAs, OpensWith, ReadsHead}
pub use Rattle.rl_session_run.specs.Opening.{opening_on, played_on}
pub use Rattle.rl_session_run.specs.Output.{output_of, run_lines, WritesJudged}
pub use Rattle.rl_session_run.specs.Stays.{LeavesEnded, LeavesOpen, Stays, StaysOpen}
pub use Rattle.rl_session_run.specs.Telling.{Checks, Stops, refused_status}
pub use Rattle.rl_play.specs.Prelude.{NoneFailed, told}
pub use Rattle.rl_session.specs.Prelude.{IsModel, first_world}
pub use Rattle.rl_session.specs.Judged.{script_judged}
pub use Rattle.rl_session_run.specs.Running.{RunsScript}
pub use Rattle.rl_session_run.specs.Script.{PlaysRest, RunsSession}
pub use Rattle.rl_play.specs.Prelude.{IsReady, IsSameChip, Tells}
pub use Rattle.rl_play.specs.Played.{coming, IsPlayed}
pub use Rattle.rl_bench.specs.State.{bench_state}
pub use Rattle.rl_session.specs.Judged.{soak_judged, soak_script_judged}
pub use Rattle.rl_session.specs.Soak.{soak_line_text}

-- The words that the contracts of this crate use, passed on from one place. Declares nothing.
pub use Rattle.rl_session_run.specs.Prelude.{AwaitsScript, EndedOnce, IsBuiltWith, IsCaused, IsModel, KeepsEarlier, LeavesScript, Rose, Standing, TakesNoHead, WritesJudged, first_world, is_complete, kinds_of, output_of}
pub use Rattle.rl_play.specs.Prelude.{Leaves, Tells}
pub use Rattle.rl_map.specs.LayoutText.{layout_text}
pub use Rattle.rl_session_laws.specs.PlainLog.{IsPlainLog}
pub use Rattle.rl_session_run.specs.Running.{RunsScript}
pub use Rattle.rl_session.specs.Judged.{judged, map_judged, taken_text}
pub use Rattle.rl_weave_laws.specs.Scripts.{IsWovenLogPlain}
pub use Rattle.rl_weave_log.specs.Judged.{woven_judged, woven_script_judged, woven_taken_text}
pub use Rattle.regrun.specs.Output.{woven_lines, RunsWhole}
pub use Rattle.regrun.specs.Task.{Does}
pub use Rattle.regrun.specs.Words.{asked_by}

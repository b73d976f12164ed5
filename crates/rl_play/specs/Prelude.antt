-- The words that the contracts of this crate use, passed on from one place. Declares nothing.
pub use Rattle.rl_access.specs.Model.{IsReady, IsSameChip}
pub use Rattle.rl_bus.specs.Causes.{Rose, HasCause}
pub use Rattle.rl_log.specs.Causes.{IsCaused, NoneFailed}
pub use Rattle.rl_log.specs.Endings.{end_status, IsCounted, PlayEnds}
pub use Rattle.rl_log.specs.Statuses.{is_complete}
pub use Rattle.rl_log.specs.Telling.{Tells}
pub use Rattle.rl_log.specs.Entry.{plan_of}
pub use Rattle.rl_log.specs.Log.{said_by}
pub use Rattle.rl_log.specs.Texts.{refused_text, end_text}
pub use Rattle.rl_play.specs.AnyDevice.{spot, Logs, LogsInTurn, RunsOn, Turns, PlaysOnAnyDevice}
pub use Rattle.rl_play.specs.Work.{asked, one_op, planned, single}
pub use Rattle.rl_play.specs.Done.{DoesFirstEvents}
pub use Rattle.rl_log.specs.Earlier.{KeepsEarlier}
pub use Rattle.rl_play.specs.Heard.{heard}
pub use Rattle.rl_play.specs.Job.{job_work, JobHasNumbers}
pub use Rattle.rl_play.specs.Leaves.{stop_of, fault_of, NotByCounts, StaysReady, Leaves, LeavesLines, CutsLine}
pub use Rattle.rl_play.specs.Moment.{moment_of}
pub use Rattle.rl_play.specs.Played.{BreaksFrom, KeepsCut, PlaysLine, PlaysScript, PlaysThrough}
pub use Rattle.rl_play.specs.Told.{told}
pub use Rattle.rl_report.specs.Got.{Hands}
pub use Rattle.rl_report.specs.Pieces.{SinkStays}
pub use Rattle.rl_report.specs.Reading.{input_of, HoldsLine}
pub use Rattle.rl_script.specs.Reading.{read_of}
pub use Rattle.rl_script.specs.Said.{line_said}

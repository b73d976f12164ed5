-- The words that the contracts of this crate use, passed on from one place. Declares nothing.
pub use Rattle.rl_access.specs.Event.{EventFits, ItemFits}
pub use Rattle.rl_play.specs.Prelude.{IsReady, IsSameChip, IsCounted, Tells, said_by, heard, stop_of, NotByCounts, Leaves, LeavesLines, moment_of}
pub use Rattle.rl_play.specs.Prelude.{SinkStays, input_of, read_of, line_said}
pub use Rattle.rl_report.specs.Item.{item_line}
pub use Rattle.rl_report.specs.Pieces.{PutsText}
pub use Rattle.rl_weave.specs.Step.{event_told}
pub use Rattle.rl_weave.specs.Weave.{IsWeave, IsWeaveOn, words_left}
pub use Rattle.rl_weave_log.specs.Adding.{access_in, access_said, adding_line, is_named}
pub use Rattle.rl_weave_log.specs.Refusals.{further_reason, refused_woven_text}
pub use Rattle.rl_weave_log.specs.Setting.{Writes}
pub use Rattle.rl_weave_log.specs.Turns.{EndsGroup, IsGathering, Takes, WeavesLine, WeavesLines, WeavesThrough}
pub use Rattle.rl_weave_log.specs.WeaveLog.{counted_at_end, group, is_blank, line_at_end, step_text, word_drawn, words}

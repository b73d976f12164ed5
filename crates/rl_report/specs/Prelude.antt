-- The words that the contracts of the line reader use, passed on from one place. Declares nothing.
pub use Rattle.std.specs.Io.BufRead.{strip_last}
pub use Rattle.std.specs.Io.KnownBytes.{Keeps}
pub use Rattle.rl_bus.specs.Causes.{HasCause, Rose}
pub use Rattle.rl_report.specs.Got.{Hands}
pub use Rattle.rl_report.specs.Lines.{first_line}
pub use Rattle.rl_report.specs.Opening.{HeadIs, TakesNoHead}
pub use Rattle.rl_report.specs.Reading.{input_of, HoldsLine, IsLaterPhase, SamePhase}
pub use Rattle.rl_report.specs.Taken.{Takes}

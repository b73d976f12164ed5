-- The words that the contracts of the device use, passed on from one place. Declares nothing.
pub use Rattle.rl_bus.specs.Account.{without_peer, Asks}
pub use Rattle.rl_bus.specs.Causes.{AnswerHasCause}
pub use Rattle.rl_bus.specs.Device.{IsStep, IsPortOf, IsCellOf, IsFieldOf}
pub use Rattle.rl_bus.specs.Lanes.{IsWidth}
pub use Rattle.rl_bus.specs.Setup.{stands_at}
pub use Rattle.rl_bus.specs.State.{state_after, answer_of, first_state, poked, reset_by, hw_set}
pub use Rattle.rl_bus.specs.Wire.{carried_by, tag_of, IsWellFormed, IsReplyTo, IsAtOnce, answered_by}
pub use Rattle.rl_map.specs.Maps.{IsBuiltWith}
pub use Rattle.rl_bench.specs.Beats.{IsQuiet, HasBeats, BeatsAreWords}
pub use Rattle.rl_bench.specs.Board.{FitCells, IsSetup, HasRoom}
pub use Rattle.rl_flaw.specs.Flaws.{AreFlawsOf, first_of}
pub use Rattle.rl_bench.specs.Found.{words_on, words_for, beat_for, item_is_faulty}
pub use Rattle.rl_bench.specs.Stretch.{IsStretch, IsHint, AreOrdered}
pub use Rattle.rl_bench.specs.Tables.{setup_held}

-- The words that the contracts of a weave use, passed on from one place. Declares nothing.
pub use Rattle.rl_access.specs.Call.{scene_of}
pub use Rattle.rl_access.specs.Event.{EventFits, ItemFits}
pub use Rattle.rl_access.specs.Model.{IsReady, IsSameChip}
pub use Rattle.rl_weave.specs.Access.{IsNumbered, IsWovenOn, woven_at}
pub use Rattle.rl_weave.specs.Step.{IsStepOf, end_of, event_told, step_told}
pub use Rattle.rl_weave.specs.Weave.{HasSentNothing, IsWeave, IsWeaveOn, empty, adding, appended, woven_of, place_used, number_of, same_register, stepped, words_left}

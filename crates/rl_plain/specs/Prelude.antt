-- The laws that the functions of this crate state, passed on from one place. Declares nothing.
pub use Rattle.rl_plain.specs.Agree.{KeepsAgreement, MemoryAccessKeepsAgreement, NewOnesAgree}
pub use Rattle.rl_plain.specs.Alike.{AlikeLayoutsStepAlike}
pub use Rattle.rl_plain.specs.Believed.{AccessIsBelieved, DepositIsBelieved, WriteIsStored}
pub use Rattle.rl_plain.specs.Calls.{BrokenPlanIsPlain, BrokenRunIsPlain, BurstIsPlain, BurstsHaveNumbers, CallIsPlain, CallKeepsModel, FirstOnesArePlain}
pub use Rattle.rl_plain.specs.Calls.{PlanIsPlain, PlansHaveNumbers, RefusedIsPlain, RegisterCallIsPlain, RunIsPlain}
pub use Rattle.rl_plain.specs.EachCall.{EachCallKeepsAgreement, NewOnesAgreeWithMemories, ResetIsPlain}
pub use Rattle.rl_plain.specs.Fronts.{BurstHandsOverFront, SequenceHandsOverFront}
pub use Rattle.rl_plain.specs.Masters.{OtherStepsCommute}
pub use Rattle.rl_plain.specs.OneStep.{AccessIsStep}

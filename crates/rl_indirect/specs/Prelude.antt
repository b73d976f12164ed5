-- The words that the contracts of this crate use, passed on from one place. Declares nothing.
pub use Rattle.rl_bus.specs.Standing.{Standing}
pub use Rattle.rl_bus.specs.State.{State, poked}
pub use Rattle.rl_split.specs.Step.{every}
pub use Rattle.rl_access.specs.Call.{scene, scene_of}
pub use Rattle.rl_access.specs.Event.{EventFits}
pub use Rattle.rl_access.specs.Model.{IsDeviceOf, IsModel, IsReady, IsSameChip}
pub use Rattle.rl_access.specs.Operation.{IsMapIn}
pub use Rattle.rl_access.specs.Rules.{taking_raw}
pub use Rattle.rl_plain.specs.Agree.{Agree}
pub use Rattle.rl_plain.specs.OneStep.{write_step, read_step}
pub use Rattle.rl_indirect.specs.Agree.{BankAgree, IsEntryStep, KeepsEntries}
pub use Rattle.rl_indirect.specs.Bank.{IsBank, IsBankOf, IsBuilt, IsFound, IsOverData, IsSameBank, SettlesDevice}
pub use Rattle.rl_indirect.specs.Bank.{bank_believed, model_believed, entries_there, entries_believed}
pub use Rattle.rl_indirect.specs.Indexed.{IsIndexed, IndexedFits, NamesDiffering, Selects, is_done}
pub use Rattle.rl_indirect.specs.Window.{outside_fault}

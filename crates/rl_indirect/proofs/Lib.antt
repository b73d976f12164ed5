pub mod Built
pub mod Data
pub mod EntrySteps
pub mod Following
pub mod Found
pub mod NewBanks
pub mod Windows

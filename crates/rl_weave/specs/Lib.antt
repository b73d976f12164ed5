pub mod Access
pub mod Weave
pub mod Step
pub mod Prelude

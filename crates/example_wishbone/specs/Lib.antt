pub mod Kinds
pub mod Prelude
pub mod Session

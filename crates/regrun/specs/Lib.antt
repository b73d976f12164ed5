pub mod Output
pub mod Prelude
pub mod Task
pub mod Words

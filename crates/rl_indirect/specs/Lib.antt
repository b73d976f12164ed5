pub mod Agree
pub mod Bank
pub mod Indexed
pub mod Window
pub mod Prelude

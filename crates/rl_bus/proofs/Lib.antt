pub mod Asking
mod Moves
pub mod Reached
pub mod LaneLemmas
mod Rows
pub mod Words

pub mod Judged
pub mod LayoutPieces
pub mod Opened
pub mod Prelude
pub mod Refusals
pub mod Session
pub mod Soak

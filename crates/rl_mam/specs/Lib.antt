pub mod Mam
pub mod Outside
pub mod Regions
pub mod Prelude

pub mod Opening
pub mod Output
pub mod Prelude
pub mod Running
pub mod Script
pub mod Stays
pub mod Telling

pub mod AnyDevice
pub mod Endings
pub mod Groups
pub mod Half
pub mod Order
pub mod Runs
pub mod Scripts

pub mod Arms
pub mod FreeRuns
pub mod Grants
pub mod Outside
pub mod RegionLists
pub mod Stores

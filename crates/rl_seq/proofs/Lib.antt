pub mod AskedLemmas
pub mod Choosing
pub mod Following
pub mod Granting
pub mod Planned
pub mod Stretch
pub mod Turning
pub mod Walking

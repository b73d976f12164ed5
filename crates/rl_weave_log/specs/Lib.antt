pub mod Adding
pub mod Judged
pub mod Prelude
pub mod Refusals
pub mod Setting
pub mod Stage
pub mod Turns
pub mod WeaveLog

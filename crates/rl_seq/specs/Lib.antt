pub mod Choice
pub mod Granted
pub mod Plan
pub mod Running
pub mod Sequences
pub mod Stage
pub mod Visits

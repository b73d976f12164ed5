pub mod Faults
pub mod Lines
pub mod StageLemmas
pub mod Words

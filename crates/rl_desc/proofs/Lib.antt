mod ArrayLemmas
mod DocumentLemmas
mod FirstLemmas
mod FlawLemmas
mod Places
mod PolicyLemmas
mod RowLemmas
pub mod StepLemmas
pub mod ThereLemmas
mod ValueLemmas

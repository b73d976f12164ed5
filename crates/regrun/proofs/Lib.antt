pub mod BreakLemmas
pub mod JudgedLemmas
pub mod LawLemmas
pub mod PlainLemmas
pub mod RunLemmas
pub mod TaskLemmas
pub mod WordLemmas
pub mod WovenLemmas

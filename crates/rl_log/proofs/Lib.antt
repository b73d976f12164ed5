pub mod EventLemmas
pub mod KnownLemmas
pub mod LineLemmas
pub mod ScriptLemmas
pub mod Numbers
pub mod TellingLemmas

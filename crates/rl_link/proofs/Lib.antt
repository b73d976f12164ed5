mod RequestLemmas
mod SpeakLemmas
mod BreakLemmas
mod ComingLemmas
mod NameLemmas
mod SaidLemmas
mod SentLemmas
mod TextLemmas

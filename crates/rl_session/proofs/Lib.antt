pub mod FirstLemmas
pub mod HexLemmas
pub mod KindLemmas
pub mod LayoutLemmas
pub mod ListingLemmas
pub mod RefusalLemmas
pub mod SessionLemmas

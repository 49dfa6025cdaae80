pub mod SameLemmas
pub mod OwedLemmas

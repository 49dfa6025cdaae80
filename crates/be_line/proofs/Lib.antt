pub mod FieldLemmas
pub mod OptionLemmas
pub mod SplitLemmas
pub mod StandingLemmas
pub mod PortLemmas

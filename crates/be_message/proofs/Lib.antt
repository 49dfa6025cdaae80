pub mod DepthLemmas
pub mod KeptLemmas
pub mod PlaceLemmas
pub mod SoundLemmas
pub mod NameLemmas

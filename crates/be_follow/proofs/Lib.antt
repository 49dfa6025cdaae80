pub mod FrameLemmas
pub mod WayLemmas

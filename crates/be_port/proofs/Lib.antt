pub mod LawLemmas
pub mod QueueLemmas

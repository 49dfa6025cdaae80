pub mod AllowLemmas
pub mod ClipLemmas
pub mod StackLemmas

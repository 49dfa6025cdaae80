pub mod WorkSums
pub mod WorkUpdates
pub mod WorkNumbers
pub mod WorkChains
pub mod WorkTable
pub mod WorkInput
pub mod RoutableLemmas
pub mod FrameLemmas

pub mod Rising
pub mod UpFrom
mod HandLists
pub mod Growth
mod Marked
mod MissLemmas
mod Sums
mod Families
mod Stopping
mod KeepPlaces
mod KeepCommit
mod KeepPasses
mod KeepStop
mod KeepOpen
mod InHand
mod Ordered
mod Full
mod Closing
mod Unlogging
pub mod Holding
pub mod Gathered

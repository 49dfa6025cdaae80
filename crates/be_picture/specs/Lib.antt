pub mod Recording
pub mod Sorts
pub mod Faults
pub mod Text
pub mod Playing
pub mod OffScreens
pub mod OffFaults
pub mod Laws

pub mod Counts
pub mod Summary
pub mod Colors
pub mod Laws

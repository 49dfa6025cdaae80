pub mod Counted
pub mod Visited

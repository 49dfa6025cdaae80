mod Listed
pub mod Follows
mod Scheduling
pub mod Left

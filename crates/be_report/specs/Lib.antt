pub mod Lines
pub mod Report
pub mod Readers
pub mod Entries
pub mod Told
pub mod Possible
pub mod Outcomes
pub mod Laws

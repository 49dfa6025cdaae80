pub mod Edge
pub mod Faults
pub mod InMemory
pub mod Telling

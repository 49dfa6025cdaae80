pub mod TreeText
pub mod ArchiveLine
pub mod Reading
pub mod Faults
pub mod Laws

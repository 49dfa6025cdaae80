pub mod Looking
pub mod Executed
pub mod Changed
pub mod Begun

pub mod Lines
pub mod Heard
pub mod Opened
pub mod Windows

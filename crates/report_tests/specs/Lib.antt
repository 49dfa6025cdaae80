pub mod Bare
pub mod Lines

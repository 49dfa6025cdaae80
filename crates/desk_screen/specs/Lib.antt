pub mod Screens
pub mod Making

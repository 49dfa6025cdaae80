pub mod Taken
pub mod ButtonText
pub mod Hearing

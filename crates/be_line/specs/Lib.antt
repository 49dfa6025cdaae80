pub mod Fields
pub mod FirstWords
pub mod GivenOptions
pub mod Kinds
pub mod Options
pub mod Shaped
pub mod Standing
pub mod Words

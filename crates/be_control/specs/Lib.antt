pub mod Buttons
pub mod Letters
pub mod Laws

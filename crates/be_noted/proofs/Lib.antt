pub mod Texts
pub mod Claims
pub mod Makers
pub mod Letters
pub mod Updates
pub mod Both
pub mod Lawful
mod Noted

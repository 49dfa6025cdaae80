pub mod Chains
pub mod Happening
pub mod Lent
pub mod Plannable
pub mod Planning
pub mod Letters

pub mod Forms
pub mod GivenDeeds
pub mod Grammar
pub mod Kinds
pub mod Laws
pub mod LineDeeds
pub mod Outcomes
pub mod Progress

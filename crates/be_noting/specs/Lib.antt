pub mod Noting
pub mod Histories
pub mod Laws

pub mod Windows
pub mod Owner
pub mod Visible
pub mod Order
pub mod Limits
pub mod Changes
pub mod Whole
pub mod Laws

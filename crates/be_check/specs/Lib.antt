pub mod Following
pub mod Checking
pub mod Explaining
pub mod Stepping
pub mod Laws
pub mod Taking

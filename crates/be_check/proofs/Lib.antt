pub mod Following
pub mod Trying
pub mod Coming
pub mod Illegal
pub mod Changing
pub mod Deciding
pub mod Looking
pub mod Watched
pub mod Takers
pub mod Gathering
mod Noting

pub mod Wanted
pub mod Turned
pub mod Workers
pub mod Fork

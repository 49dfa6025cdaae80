pub mod Listed
pub mod Noted
pub mod Noting
pub mod NotingLaws

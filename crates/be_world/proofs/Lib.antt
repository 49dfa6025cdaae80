pub mod Pixels
pub mod Openings
pub mod Places
pub mod Telling
pub mod Allowed
pub mod Suiting
pub mod Keeping
pub mod Performed
pub mod WorkMade
mod Having
mod Marked
mod Marking
mod Stirred
mod Untouched
mod NotesWith

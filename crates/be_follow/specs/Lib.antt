pub mod Shifts
pub mod Frames

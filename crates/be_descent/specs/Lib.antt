pub mod Marks
pub mod Cutting
pub mod Places
pub mod Clips
pub mod Fronts
pub mod Drawing
pub mod Inks
pub mod Pieces

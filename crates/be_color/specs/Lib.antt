pub mod Color
pub mod Pattern
pub mod Pixel

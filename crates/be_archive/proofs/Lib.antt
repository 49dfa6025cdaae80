pub mod Written
pub mod Depths
pub mod Read
pub mod Only
pub mod Back

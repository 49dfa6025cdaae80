pub mod Lists
pub mod Windows
pub mod Colored
pub mod Firsts
pub mod Shown
pub mod More

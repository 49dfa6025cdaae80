pub mod Truths
pub mod Numbers
pub mod Bytes
pub mod Lists
pub mod Orderings

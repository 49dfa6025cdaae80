pub mod Jotting

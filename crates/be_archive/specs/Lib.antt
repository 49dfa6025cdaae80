pub mod Archives
pub mod Columns
pub mod Values
pub mod Reading
pub mod Rows
pub mod Faults
pub mod Laws

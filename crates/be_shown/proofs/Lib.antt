pub mod Panes
pub mod Owners
pub mod Rows
pub mod Told
pub mod After
pub mod DesktopLemmas
pub mod TraceLemmas

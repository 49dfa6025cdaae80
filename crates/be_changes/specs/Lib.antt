pub mod Planned
pub mod Left
pub mod Panes
pub mod Ports
pub mod Posts
pub mod Events
pub mod Activations

pub mod Pixels
pub mod Standing
pub mod Stretches
pub mod Desktop
pub mod Traces

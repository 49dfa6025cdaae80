pub mod Counting
pub mod Counters
pub mod InHand
pub mod Opening
pub mod Changing
pub mod Laws

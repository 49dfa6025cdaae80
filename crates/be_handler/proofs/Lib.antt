pub mod AboveLemmas
pub mod FilterLemmas
pub mod FirstLemmas
pub mod Pigeonhole
pub mod RouteLemmas

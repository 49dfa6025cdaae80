pub mod TestLemmas
pub mod RunLemmas
pub mod RowLemmas

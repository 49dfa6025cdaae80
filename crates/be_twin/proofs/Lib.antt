pub mod StackLemmas
pub mod PixelLemmas
pub mod JudgedLemmas
pub mod MadeLemmas
pub mod ExecutedLemmas
pub mod PenLemmas

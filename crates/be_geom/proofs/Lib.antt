pub mod Between
pub mod RectLemmas
pub mod Numbered
pub mod StretchLemmas
pub mod SameRects

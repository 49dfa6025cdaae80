pub mod PixelLemmas

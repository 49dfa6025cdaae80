-- What a source over a reader and a sink over a writer are seen as.
use Rattle.std.specs.Prelude.{ℕ}

-- a reader or a writer, and how many of its calls have failed
pub record Edge (Inner : Type 0) : Type 0 where
  pub inner : Inner
  pub faults : ℕ

-- When a pane owes its window's looper a notice of an update, and what is kept of one that was
-- posted (this project's own).
use Rattle.std.specs.Prelude.{◌≡◌, ℤ, true, false, None}
use Rattle.be_span.specs.Spans.{Spans, cell_in, is_dirty}
use Rattle.be_pane.specs.declared.pane.Pane.{Pane}

-- no pixel waits
abbrev pub IsClean : Spans → Type 0
IsClean spans = (x y : ℤ) → is_dirty (cell_in spans x y) ≡ false

-- some pixel waits, no session is open, and no notice was posted that hasn't begun
pub record IsOwed (pane : Pane) : Type 0 where
  pub waits : ¬ IsClean pane.spans
  pub closed : pane.session ≡ None
  pub unnoticed : pane.notified ≡ false

-- a notice was posted
abbrev pub with_notice : Pane → Pane
with_notice pane = record pane { notified = true }

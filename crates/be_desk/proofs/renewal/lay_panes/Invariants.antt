use Rattle.std.proofs.Common.{◌≡◌, ℤ, Some, cond, take}
use Rattle.std.specs.Prelude.{IsSome}
use Rattle.be_span.specs.declared.Cell.{Cell}
use Rattle.be_span.specs.Spans.{cell_in}
use Rattle.be_desk.specs.Plans.{lent}
use Rattle.be_desk.specs.Renewals.{AreShown, is_in_some}
use Rattle.be_desk.proofs.renewal.lay_panes.Given as goal

abbrev pub invariant-loop-pane : goal.invariant-loop-pane
invariant-loop-pane l = record {
  region : l.spans.rects ≡ l.fn.spans.rects;
  cells : (cells : ℤ → ℤ → Cell) → AreShown cells (lent l.panes) → (x y : ℤ) → IsSome (cell_in l.fn.spans x y) → cell_in l.spans x y ≡ cond (is_in_some (take l.pane-index (lent l.panes)) x y) (Some (cells x y)) (cell_in l.fn.spans x y);
}

-- What a pane owes and keeps, by what it stands for (this project's own).
use Rattle.std.specs.Prelude.{◌≡◌, ◌↔◌, ℕ, ℤ, Bool, true, false, None}
use Rattle.be_geom.specs.declared.point.Point.{Point}
use Rattle.be_span.specs.declared.Cell.{Cell}
use Rattle.be_views.specs.Trees.{Tree}
use Rattle.be_pane.specs.Panes as machine
use Rattle.be_pane.specs.declared.pane.Pane.{Pane}
use Rattle.be_pane.specs.StandsFor.{PaneStandsFor}
use Rattle.be_pane.specs.Owed.{IsOwed, with_notice}

-- some pixel that the window owns waits, no session is open, and no notice was posted that hasn't
-- begun
pub record OwesNotice (kept : machine.Pane) (owned : ℤ → ℤ → Bool) (cells : ℤ → ℤ → Cell) : Type 0
  where
    pub waits : ¬ ((x y : ℤ) → owned x y ≡ true → (cells x y).dirty ≡ false)
    pub closed : kept.session ≡ None
    pub unnoticed : kept.notified ≡ false

-- a pane owes a notice where the window does for which it stands
abbrev pub OwedByPixels : Type 0
OwedByPixels =
    (pane : Pane) (w : ℕ) (corner : Point) (kept : machine.Pane) (tree : Tree)
    (owned : ℤ → ℤ → Bool) (cells : ℤ → ℤ → Cell) →
    PaneStandsFor pane w corner kept tree owned cells → IsOwed pane ↔ OwesNotice kept owned cells

-- with a notice a pane stands for its window with a notice
abbrev pub NotedAsPosted : Type 0
NotedAsPosted =
    (pane : Pane) (w : ℕ) (corner : Point) (kept : machine.Pane) (tree : Tree)
    (owned : ℤ → ℤ → Bool) (cells : ℤ → ℤ → Cell) →
    PaneStandsFor pane w corner kept tree owned cells →
    PaneStandsFor (with_notice pane) w corner (record kept { notified = true }) tree owned cells

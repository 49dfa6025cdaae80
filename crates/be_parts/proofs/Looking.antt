-- The pixels of a window's slice are those that it owns, with their cells.
use Rattle.std.proofs.Common.{◌≡◌, ℕ, Bool, true, false, Option, Some, None, refl, sym, ap, ◌∙◌}
use Rattle.std.specs.Prelude.{ℤ, unwrap_or, if◌then◌else◌}
use Rattle.be_geom.specs.declared.point.Point.{Point}
use Rattle.be_pane.specs.Panes as machine
use Rattle.be_pane.specs.StandsFor.{PaneStandsFor}
use Rattle.be_pane.specs.declared.pane.Pane.{Pane}
use Rattle.be_span.specs.Cells.{desktop_cell}
use Rattle.be_span.specs.declared.Cell.{Cell}
use Rattle.be_views.specs.Trees.{Tree}
use Rattle.be_machine.specs.Pixels.{pixel_at}
use Rattle.be_machine.specs.State.{State}
use Rattle.be_machine.specs.Windows.{width_of, owned}
use Rattle.be_rules.specs.Slices.{shown_of}
use Rattle.be_rules.proofs.Looks.{look_own}
use Rattle.be_parts.specs.Panes.{IsFull}
use Rattle.be_parts.specs.Stands.{is_there, has_cell, cell_of}

there_if : (b : Bool) (o : Option Cell) → (b ≡ true → (c : Cell) × (o ≡ Some c)) → is_there (if b then o else None) ≡ b
there_if true o h = ap is_there (h refl).1
there_if false o h = refl

pub has_owned : (s : State) (w : ℕ) → IsFull s w → (x y : ℤ) → has_cell (shown_of s w) x y ≡ owned s w x y
has_owned s w full x y = ap is_there (look_own (width_of s) (owned s w) s.screen x y) ∙ there_if (owned s w x y) (pixel_at s x y) (full x y)

pub cell_owned : (s : State) (w : ℕ) (x y : ℤ) → owned s w x y ≡ true → cell_of (shown_of s w) x y ≡ unwrap_or (pixel_at s x y) desktop_cell
cell_owned s w x y mine = ap (λ o. unwrap_or o desktop_cell) (look_own (width_of s) (owned s w) s.screen x y) ∙ rw mine refl

pub stands_as : (p : Pane) (w : ℕ) (corner : Point) (kept : machine.Pane) (tree : Tree) (own other : ℤ → ℤ → Bool) (cells new : ℤ → ℤ → Cell) → ((x y : ℤ) → other x y ≡ own x y) → ((x y : ℤ) → own x y ≡ true → new x y ≡ cells x y) → PaneStandsFor p w corner kept tree own cells → PaneStandsFor p w corner kept tree other new
stands_as p w corner kept tree own other cells new same is h = record {
  number = h.number;
  place = h.place;
  pixels = λ x y. h.pixels x y ∙ sym (same x y);
  shown = λ x y e. let mine : own x y ≡ true = sym (same x y) ∙ e in h.shown x y mine ∙ ap Some (sym (is x y mine));
  views = h.views;
  colors = h.colors;
  stacks = h.stacks;
  session = h.session;
  notice = h.notice;
}

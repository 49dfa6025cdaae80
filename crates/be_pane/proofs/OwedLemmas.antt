-- What waits in a pane, by the pixels that its window owns.
use Rattle.std.proofs.Common.{◌≡◌, ℕ, ℤ, Bool, true, false, List, Option, Some, None, inl, inr, refl, sym, ap, ◌∙◌}
use Rattle.std.proofs.lemmas.Option.{none-some}
use Rattle.be_facts.proofs.Truths.{true_or_false}
use Rattle.be_geom.specs.declared.point.Point.{Point}
use Rattle.be_geom.specs.declared.rect.Rect.{Rect}
use Rattle.be_span.specs.declared.Cell.{Cell}
use Rattle.be_span.specs.Spans.{is_dirty}
use Rattle.be_span.proofs.CellLemmas.{cell_none}
use Rattle.be_views.specs.Trees.{Tree}
use Rattle.be_pane.specs.Panes as machine
use Rattle.be_pane.specs.declared.pane.Pane.{Pane}
use Rattle.be_region.specs.Sessions.{SameSession}
use Rattle.be_pane.specs.StandsFor.{PaneStandsFor}
use Rattle.be_pane.specs.Owed.{IsClean}
use Rattle.be_pane.specs.Laws.{OwedByPixels}

pub both_closed : (a : Option (List Rect)) (b : Option (List Point)) → SameSession a b → a ≡ None → b ≡ None
both_closed (Some rects) b same e = absurd (none-some rects (sym e))
both_closed None (Some pixels) same e = absurd same
both_closed None None same e = refl

pub closed_both : (a : Option (List Rect)) (b : Option (List Point)) → SameSession a b → b ≡ None → a ≡ None
closed_both a (Some pixels) same e = absurd (none-some pixels (sym e))
closed_both (Some rects) None same e = absurd same
closed_both None None same e = refl

pub none_waits : (pane : Pane) (w : ℕ) (corner : Point) (kept : machine.Pane) (tree : Tree) (owned : ℤ → ℤ → Bool) (cells : ℤ → ℤ → Cell) → PaneStandsFor pane w corner kept tree owned cells → ((x y : ℤ) → owned x y ≡ true → (cells x y).dirty ≡ false) → IsClean pane.spans
none_waits pane w corner kept tree owned cells stands none x y =
    elim (true_or_false (owned x y)) [
      | inl h ↦ ap is_dirty (stands.shown x y h) ∙ none x y h
      | inr h ↦ ap is_dirty (cell_none pane.spans x y (stands.pixels x y ∙ h))
    ]

pub clean_owned : (pane : Pane) (w : ℕ) (corner : Point) (kept : machine.Pane) (tree : Tree) (owned : ℤ → ℤ → Bool) (cells : ℤ → ℤ → Cell) → PaneStandsFor pane w corner kept tree owned cells → IsClean pane.spans → (x y : ℤ) → owned x y ≡ true → (cells x y).dirty ≡ false
clean_owned pane w corner kept tree owned cells stands clean x y h = sym (ap is_dirty (stands.shown x y h)) ∙ clean x y

pub owed_by_pixels : OwedByPixels
owed_by_pixels pane w corner kept tree owned cells stands = (
  λ owed. record {
    waits = λ none. owed.waits (none_waits pane w corner kept tree owned cells stands none);
    closed = both_closed pane.session kept.session stands.session owed.closed;
    unnoticed = sym stands.notice ∙ owed.unnoticed;
  },
  λ owes. record {
    waits = λ clean. owes.waits (clean_owned pane w corner kept tree owned cells stands clean);
    closed = closed_both pane.session kept.session stands.session owes.closed;
    unnoticed = stands.notice ∙ owes.unnoticed;
  },
)

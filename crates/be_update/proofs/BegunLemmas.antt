-- A pane whose update has begun, and the window for which it stands.
use Rattle.std.proofs.Common.{◌≡◌, ℕ, ℤ, ◌+ℤ◌, Bool, true, ◌&&◌, cond, length, List, Option, Some, inl, inr, sym, ap, subst, ◌∙◌}
use Rattle.std.specs.Option.{option_map}
use Rattle.be_geom.specs.declared.point.Point.{Point}
use Rattle.be_geom.specs.declared.rect.Rect.{Rect}
use Rattle.be_geom.specs.Places.{less}
use Rattle.be_geom.specs.Rects.{moved_rect, rect_has}
use Rattle.std.specs.Prelude.{map, slice_get}
use Rattle.be_facts.proofs.Truths.{true_or_false}
use Rattle.be_region.specs.Regions.{region_has}
use Rattle.be_span.specs.declared.Cell.{Cell}
use Rattle.be_span.specs.Cells.{unmarked}
use Rattle.be_span.specs.Spans.{cell_in, is_dirty}
use Rattle.be_span.proofs.CellLemmas.{cell_none}
use Rattle.be_state.specs.Stacks.{Stack}
use Rattle.be_views.specs.Trees.{Tree}
use Rattle.be_pane.specs.Panes as machine
use Rattle.be_pane.specs.SameStacks.{SameStacks}
use Rattle.be_pane.specs.declared.pane.Pane.{Pane}
use Rattle.be_region.specs.Sessions.{SameSession}
use Rattle.be_pane.specs.StandsFor.{IsWhole, PaneStandsFor}
use Rattle.be_update.specs.Sessions.{session_of, with_session}
use Rattle.be_update.specs.Listing.{listed_views}
use Rattle.be_update.specs.Surveys.{Surveyed, IsSurveyOf, HasBegun}
use Rattle.be_update.specs.Laws.{AreDirty, BegunAsTheMachine, StaysWhole, SurveyedForEach, cleaned}
use Rattle.be_update.proofs.PixelLemmas.{has_pixel, moved_has}

dirty_there : (pane : Pane) (w : ℕ) (corner : Point) (kept : machine.Pane) (tree : Tree) (owned : ℤ → ℤ → Bool) (cells : ℤ → ℤ → Cell) → PaneStandsFor pane w corner kept tree owned cells → (x y : ℤ) → is_dirty (cell_in pane.spans x y) ≡ (owned x y && (cells x y).dirty)
dirty_there pane w corner kept tree owned cells stands x y =
    elim (true_or_false (owned x y)) [
      | inl h ↦ ap is_dirty (stands.shown x y h) ∙ sym (ap (λ v. v && (cells x y).dirty) h)
      | inr h ↦ ap is_dirty (cell_none pane.spans x y (stands.pixels x y ∙ h)) ∙ sym (ap (λ v. v && (cells x y).dirty) h)
    ]

session_same : (s : Surveyed) (pane : Pane) (w : ℕ) (corner : Point) (kept : machine.Pane) (tree : Tree) (owned : ℤ → ℤ → Bool) (cells : ℤ → ℤ → Cell) (dirty : List Point) → IsSurveyOf s pane → PaneStandsFor pane w corner kept tree owned cells → AreDirty owned cells dirty → (x y : ℤ) → region_has s.session x y ≡ has_pixel (session_of corner dirty) x y
session_same s pane w corner kept tree owned cells dirty survey stands are x y =
    survey.session x y
    ∙ dirty_there pane w corner kept tree owned cells stands (x +ℤ pane.place.x) (y +ℤ pane.place.y)
    ∙ sym (are (x +ℤ pane.place.x) (y +ℤ pane.place.y))
    ∙ sym (moved_has dirty pane.place x y)
    ∙ ap (λ (c : Point). has_pixel (map (λ p. less p c) dirty) x y) stands.place

pub surveyed_for_each : SurveyedForEach
surveyed_for_each s pane other w corner kept tree owned cells stands also survey = record {
  session = λ x y.
      let its : is_dirty (cell_in pane.spans (x +ℤ pane.place.x) (y +ℤ pane.place.y)) ≡ is_dirty (cell_in other.spans (x +ℤ pane.place.x) (y +ℤ pane.place.y)) = dirty_there pane w corner kept tree owned cells stands (x +ℤ pane.place.x) (y +ℤ pane.place.y) ∙ sym (dirty_there other w corner kept tree owned cells also (x +ℤ pane.place.x) (y +ℤ pane.place.y)) in
      survey.session x y ∙ its ∙ ap (λ (at : Point). is_dirty (cell_in other.spans (x +ℤ at.x) (y +ℤ at.y))) (stands.place ∙ sym also.place);
  views = λ pixels same. survey.views pixels same ∙ ap (λ t. listed_views t pixels) (stands.views ∙ sym also.views);
}

cleaned_there : (owned : ℤ → ℤ → Bool) (cells : ℤ → ℤ → Cell) (x y : ℤ) → owned x y ≡ true → cleaned owned cells x y ≡ unmarked (cells x y)
cleaned_there owned cells x y h = ap (λ v. cond v (unmarked (cells x y)) (cells x y)) h

begun_stands : (s : Surveyed) (old new : Pane) (w : ℕ) (corner : Point) (kept : machine.Pane) (tree : Tree) (owned : ℤ → ℤ → Bool) (cells : ℤ → ℤ → Cell) (dirty : List Point) → IsSurveyOf s old → HasBegun s old new → PaneStandsFor old w corner kept tree owned cells → AreDirty owned cells dirty → PaneStandsFor new w corner (with_session (session_of corner dirty) kept) tree owned (cleaned owned cells)
begun_stands s old new w corner kept tree owned cells dirty survey begun stands are = record {
  number = begun.window ∙ stands.number;
  place = begun.place ∙ stands.place;
  pixels = λ x y. ap (λ rs. region_has rs x y) begun.region ∙ stands.pixels x y;
  shown = λ x y h. begun.cells x y ∙ ap (option_map unmarked) (stands.shown x y h) ∙ ap (λ (c : Cell). Some c) (sym (cleaned_there owned cells x y h));
  views = begun.tree ∙ stands.views;
  colors = begun.colors ∙ stands.colors;
  stacks = subst (λ (l : List Stack). SameStacks l kept.stacks) (sym begun.states) stands.stacks;
  session = subst (λ (r : Option (List Rect)). SameSession r (Some (session_of corner dirty))) (sym begun.session) (session_same s old w corner kept tree owned cells dirty survey stands are);
  notice = begun.notice;
}

pub begun_as_the_machine : BegunAsTheMachine
begun_as_the_machine s old new w corner kept tree owned cells dirty survey begun stands are = (
  begun_stands s old new w corner kept tree owned cells dirty survey begun stands are,
  survey.views (session_of corner dirty) (session_same s old w corner kept tree owned cells dirty survey stands are)
      ∙ ap (λ t. listed_views t (session_of corner dirty)) stands.views,
)

-- ---- a pane stays whole

pub whole_begun : (s : Surveyed) (old new : Pane) → HasBegun s old new → IsWhole old → IsWhole new
whole_begun s old new begun whole = record {
  colored = ap (λ l. length l) begun.colors ∙ whole.colored ∙ ap (λ (t : Tree). length t) (sym begun.tree);
  drawn = ap (λ l. length l) begun.states ∙ whole.drawn ∙ ap (λ (t : Tree). length t) (sym begun.tree);
  within = λ x y has root got.
      ap (λ (at : Point). rect_has (moved_rect root.frame at.x at.y) x y) begun.place
      ∙ whole.within x y (ap (λ rs. region_has rs x y) (sym begun.region) ∙ has) root (ap (λ (t : Tree). slice_get t 0) (sym begun.tree) ∙ got);
}

pub stays_whole : StaysWhole
stays_whole = (whole_begun, λ pane whole. record { colored = whole.colored; drawn = whole.drawn; within = whole.within })

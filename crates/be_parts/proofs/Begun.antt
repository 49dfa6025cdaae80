-- A pane in which an update began stands for the slice after that.
use Rattle.std.proofs.Common.{◌≡◌, ℕ, Bool, true, false, List, [], ◌∷◌, Option, Some, None, refl, sym, ap, ◌∙◌, subst}
use Rattle.std.specs.Prelude.{ℤ, ◌+ℤ◌, ◌&&◌, ◌||◌, unwrap_or, option_map, if◌then◌else◌}
use Rattle.std.specs.List.{list_any}
use Rattle.std.specs.Option.{option_map_or}
use Rattle.std.proofs.lemmas.Option.{same_Some}
use Rattle.be_geom.specs.declared.point.Point.{Point}
use Rattle.be_geom.specs.Places.{at_pixel, same_point}
use Rattle.be_pane.specs.Owed.{IsClean}
use Rattle.be_pane.specs.StandsFor.{PaneStandsFor}
use Rattle.be_pane.specs.declared.pane.Pane.{Pane}
use Rattle.be_region.specs.Regions.{region_has}
use Rattle.be_span.specs.Cells.{desktop_cell}
use Rattle.be_span.specs.Spans.{Spans, cell_in, is_dirty}
use Rattle.be_span.specs.declared.Cell.{Cell}
use Rattle.be_update.specs.Laws.{AreDirty, BegunAsTheMachine, ListedAsDirty, PassedAsTheMachine, cleaned}
use Rattle.be_update.specs.Listing.{listed_views}
use Rattle.be_update.specs.Sessions.{cleaned_cell, is_any, passed, session_of, with_session}
use Rattle.be_update.specs.Surveys.{HasBegun, IsSurveyOf, Surveyed, without_notice}
use Rattle.be_views.specs.Trees.{Tree}
use Rattle.be_span.proofs.CellLemmas.{cell_none}
use Rattle.be_span.proofs.EachLemmas.{cell_by}
use Rattle.be_pane.proofs.OwedLemmas.{closed_both}
use Rattle.be_update.proofs.BegunLemmas.{whole_begun}
use Rattle.be_machine.specs.Pixels.{pixel_at}
use Rattle.be_machine.specs.State.{State}
use Rattle.be_machine.specs.Update.{begun, listing_of, opened, passed_by}
use Rattle.be_machine.specs.Windows.{width_of, owned, corner_at, dirty_of}
use Rattle.be_machine.specs.Lists.{with_both}
use Rattle.be_machine.proofs.Lists.{at_here}
use Rattle.be_rules.specs.Slices.{Slice, pane, shown_of}
use Rattle.be_parts.specs.Begun.{IsBegun, IsPassed}
use Rattle.be_parts.specs.Changed.{cells_in}
use Rattle.be_parts.specs.Stands.{has_cell, cell_of, PaneShows, PaneIs}
use Rattle.be_parts.proofs.Changed.{same_region, same_cells, same_tree}
use Rattle.be_parts.specs.Panes.{IsFull}
use Rattle.be_parts.proofs.Looking.{has_owned, cell_owned, stands_as}

-- ---- outside the region is no cell

none_by : (b : Bool) (rest : Bool) (o p : Option ℕ) → (b || rest) ≡ false → (rest ≡ false → p ≡ None) → (if b then o else p) ≡ None
none_by true rest o p e later = absurd (cc)
none_by false rest o p e later = later e

cell_by_region : (b : Bool) (p e : Spans) (x y : ℤ) → region_has p.rects x y ≡ b → region_has p.rects x y ≡ region_has e.rects x y → (region_has p.rects x y ≡ true → cell_in p x y ≡ cell_in e x y) → cell_in p x y ≡ cell_in e x y
cell_by_region true p e x y has same inside = inside has
cell_by_region false p e x y has same inside = cell_none p x y has ∙ sym (cell_none e x y (sym same ∙ has))

-- ---- a survey of one pane that stands for a slice is one of another

module _ (w : ℕ) (s : State) (full : IsFull s w) (e p : Pane) (g : PaneShows w (shown_of s w) e) (h : PaneShows w (shown_of s w) p) where
  same_cell : (x y : ℤ) → cell_in p.spans x y ≡ cell_in e.spans x y
  same_cell x y = cell_by_region (region_has p.spans.rects x y) p.spans e.spans x y refl (same_region w s full e p g h x y) (same_cells w s full e p g h x y)

  same_place : e.place ≡ p.place
  same_place = g.stands.place ∙ same_Some g.corner h.corner (sym g.is_corner ∙ h.is_corner) ∙ sym h.stands.place

  survey_for : (survey : Surveyed) → IsSurveyOf survey e → IsSurveyOf survey p
  survey_for survey is = record {
    session = λ x y. is.session x y ∙ ap (λ (at : Point). is_dirty (cell_in e.spans (x +ℤ at.x) (y +ℤ at.y))) same_place ∙ ap is_dirty (sym (same_cell (x +ℤ p.place.x) (y +ℤ p.place.y)));
    views = λ pixels same. is.views pixels same ∙ ap (λ (t : Tree). listed_views t pixels) (same_tree w s full e p g h);
  }

-- ---- what waits

module _ (s : State) (w : ℕ) (full : IsFull s w) where
  pub are_dirty : ListedAsDirty → AreDirty (owned s w) (cells_in s) (dirty_of s w)
  unfolding dirty_of
  are_dirty listed = listed (width_of s) (owned s w) s.screen (cells_in s) (λ x y mine. let c = full x y mine in c.1 ∙ ap (λ o. Some (unwrap_or o desktop_cell)) (sym c.1))

  pub as_owned : (p : Pane) (h : PaneShows w (shown_of s w) p) → PaneStandsFor p w h.corner h.kept h.tree (owned s w) (cells_in s)
  as_owned p h = stands_as p w h.corner h.kept h.tree (has_cell (shown_of s w)) (owned s w) (cell_of (shown_of s w)) (cells_in s) (λ x y. sym (has_owned s w full x y)) (λ x y e. sym (cell_owned s w x y (sym (has_owned s w full x y) ∙ e))) h.stands

-- ---- it begins

module _ (s : State) (w : ℕ) (full : IsFull s w) (dirty : is_any (dirty_of s w) ≡ true) (corner : Point) (is_corner : corner_at s w ≡ Some corner) where
  abbrev t : State
  t = opened s w corner

  begun_is : begun s w ≡ t
  unfolding begun
  begun_is = ap (λ b. if b then option_map_or (opened s w) (corner_at s w) s else passed_by s w) dirty ∙ ap (λ o. option_map_or (opened s w) o s) is_corner

  pixel_then : (x y : ℤ) → pixel_at t x y ≡ option_map (cleaned_cell (owned s w) (pixel_at s) x y) (pixel_at s x y)
  pixel_then x y = cell_by (width_of s) (cleaned_cell (owned s w)) s.screen x y

  full_then : IsFull t w
  full_then x y mine = let c = full x y mine in (cleaned_cell (owned s w) (pixel_at s) x y c.0, pixel_then x y ∙ ap (option_map (cleaned_cell (owned s w) (pixel_at s) x y)) c.1)

  cell_then : (x y : ℤ) → owned s w x y ≡ true → cells_in t x y ≡ cleaned (owned s w) (cells_in s) x y
  cell_then x y mine = let c = full x y mine in ap (λ o. unwrap_or o desktop_cell) (pixel_then x y ∙ ap (option_map (cleaned_cell (owned s w) (pixel_at s) x y)) c.1) ∙ ap (λ o. cleaned_cell (owned s w) (pixel_at s) x y (unwrap_or o desktop_cell)) (sym c.1)

pub begun_surveyed : (survey : Surveyed) (old new : Slice) (p : Pane) → IsBegun survey old new → PaneIs old p → IsSurveyOf survey p
begun_surveyed survey old new p x is = survey_for x.window x.state x.full x.example p x.shows (subst (λ (o : Slice). PaneIs o p) x.before is) survey x.surveyed

pub begun_shows : (survey : Surveyed) (old new : Slice) (p q : Pane) → IsBegun survey old new → PaneIs old p → HasBegun survey p q → BegunAsTheMachine → ListedAsDirty → PaneIs new q
begun_shows survey old new p q x is b begins listed =
    let s : State = x.state in
    let w : ℕ = x.window in
    let h : PaneShows w (shown_of s w) p = subst (λ (o : Slice). PaneIs o p) x.before is in
    let pixels : List Point = session_of h.corner (dirty_of s w) in
    let after = (begins survey p q w h.corner h.kept h.tree (owned s w) (cells_in s) (dirty_of s w) (begun_surveyed survey old new p x is) b (as_owned s w x.full p h) (are_dirty s w x.full listed)).0 in
    let u : State = t s w x.full x.dirty h.corner h.is_corner in
    let full_u : IsFull u w = full_then s w x.full x.dirty h.corner h.is_corner in
    let shows : PaneShows w (shown_of u w) q = record {
      kept = with_session pixels h.kept;
      is_kept = at_here s.panes w (with_session pixels) h.kept h.is_kept;
      corner = h.corner;
      is_corner = h.is_corner;
      tree = h.tree;
      is_tree = h.is_tree;
      stands = stands_as q w h.corner (with_session pixels h.kept) h.tree (owned s w) (has_cell (shown_of u w)) (cleaned (owned s w) (cells_in s)) (cell_of (shown_of u w)) (has_owned u w full_u) (λ i j mine. cell_owned u w i j mine ∙ cell_then s w x.full x.dirty h.corner h.is_corner i j mine) after;
      whole = whole_begun survey p q b h.whole;
    } in
    subst (λ (o : Slice). PaneIs o q) (sym (x.after_is ∙ ap (λ r. pane w (shown_of r w)) (begun_is s w x.full x.dirty h.corner h.is_corner))) shows

-- the views that come of it are those that the machine lists
pub begun_views : (survey : Surveyed) (old new : Slice) (p q : Pane) (x : IsBegun survey old new) → PaneIs old p → HasBegun survey p q → BegunAsTheMachine → ListedAsDirty → survey.views ≡ listing_of x.state x.window
unfolding listing_of
begun_views survey old new p q x is b begins listed =
    let s : State = x.state in
    let w : ℕ = x.window in
    let h : PaneShows w (shown_of s w) p = subst (λ (o : Slice). PaneIs o p) x.before is in
    let both = begins survey p q w h.corner h.kept h.tree (owned s w) (cells_in s) (dirty_of s w) (begun_surveyed survey old new p x is) b (as_owned s w x.full p h) (are_dirty s w x.full listed) in
    both.1 ∙ sym (λ i. unwrap_or (with_both (λ corner tree. Some (listed_views tree (session_of corner (dirty_of s w)))) (h.is_corner i) (h.is_tree i)) [])

-- ---- it is passed over

passed_is : (s : State) (w : ℕ) → is_any (dirty_of s w) ≡ false → begun s w ≡ passed_by s w
unfolding begun
passed_is s w clean = ap (λ b. if b then option_map_or (opened s w) (corner_at s w) s else passed_by s w) clean

none_any : (l : List Point) (q : Point) → is_any l ≡ false → list_any (same_point q) l ≡ false
none_any [] q e = refl
none_any (p ∷ ps) q e = absurd (cc)

dirty_by : (b : Bool) (spans : Spans) (own : Bool) (c : Cell) (x y : ℤ) → own ≡ b → region_has spans.rects x y ≡ own → (own ≡ true → cell_in spans x y ≡ Some c) → (own && c.dirty) ≡ false → is_dirty (cell_in spans x y) ≡ false
dirty_by true spans own c x y e has shown clean = ap is_dirty (shown e) ∙ ap (λ b. b && c.dirty) (sym e) ∙ clean
dirty_by false spans own c x y e has shown clean = ap is_dirty (cell_none spans x y (has ∙ e))

pub passed_clean : (old new : Slice) (p : Pane) → IsPassed old new → PaneIs old p → ListedAsDirty → IsClean p.spans × (p.session ≡ None)
passed_clean old new p x is listed =
    let s : State = x.state in
    let w : ℕ = x.window in
    let h : PaneShows w (shown_of s w) p = subst (λ (o : Slice). PaneIs o p) x.before is in
    let stands = as_owned s w x.full p h in (
      λ i j. dirty_by (owned s w i j) p.spans (owned s w i j) (cells_in s i j) i j refl (stands.pixels i j) (stands.shown i j) (sym (are_dirty s w x.full listed i j) ∙ none_any (dirty_of s w) (at_pixel i j) x.clean),
      closed_both p.session h.kept.session h.stands.session (x.closed h.kept h.is_kept),
    )

pub passed_shows : (old new : Slice) (p q : Pane) → IsPassed old new → PaneIs old p → q ≡ without_notice p → PassedAsTheMachine → PaneIs new q
passed_shows old new p q x is b passes =
    let s : State = x.state in
    let w : ℕ = x.window in
    let h : PaneShows w (shown_of s w) p = subst (λ (o : Slice). PaneIs o p) x.before is in
    let shows : PaneShows w (shown_of (passed_by s w) w) (without_notice p) = record {
      kept = passed h.kept;
      is_kept = at_here s.panes w passed h.kept h.is_kept;
      corner = h.corner;
      is_corner = h.is_corner;
      tree = h.tree;
      is_tree = h.is_tree;
      stands = passes p w h.corner h.kept h.tree (has_cell (shown_of s w)) (cell_of (shown_of s w)) h.stands;
      whole = record { colored = h.whole.colored; drawn = h.whole.drawn; within = h.whole.within };
    } in
    subst (λ (o : Slice). PaneIs o q) (sym (x.after_is ∙ ap (λ r. pane w (shown_of r w)) (passed_is s w x.clean))) (subst (λ (r : Pane). PaneShows w (shown_of (passed_by s w) w) r) (sym b) shows)

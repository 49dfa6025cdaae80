-- The views that an update lists, found in a pane.
use Rattle.std.proofs.Common.{◌≡◌, ℕ, Bool, true, false, List, [], ◌∷◌, map, Option, Some, None, refl, sym, ap, ◌∙◌, subst}
use Rattle.std.specs.Prelude.{ℤ, ◌+ℤ◌, filter_map, option_map, option_and_then, unwrap_or, if◌then◌else◌}
use Rattle.std.specs.List.{cons_option}
use Rattle.std.proofs.lemmas.Option.{same_Some}
use Rattle.be_asking.proofs.InHand.{pane_read}
use Rattle.be_asking.specs.declared.activity.Activity.TheVariants as who
use Rattle.be_asking.specs.declared.activity.Runner.TheVariants as by
use Rattle.be_asking.specs.declared.want.Want.TheVariants as want
use Rattle.be_geom.specs.declared.point.Point.{Point}
use Rattle.be_geom.specs.declared.rect.Rect.{Rect}
use Rattle.be_hall.specs.Hands.{meant, part_at}
use Rattle.be_hall.specs.Machine.{Fits}
use Rattle.be_machine.proofs.PixelExposed.{owned_cell_after}
use Rattle.be_machine.specs.Lists.{with_both}
use Rattle.be_machine.specs.Pixels.{owner_in}
use Rattle.be_machine.specs.State.{State}
use Rattle.be_machine.specs.Touched as part
use Rattle.be_machine.specs.Traces.{listed as line_of}
use Rattle.be_machine.specs.Update.{listing_of}
use Rattle.be_machine.specs.Windows.{dirty_of, owned}
use Rattle.be_pane.specs.Owed.{IsClean}
use Rattle.be_pane.specs.StandsFor.{PaneStandsFor}
use Rattle.be_pane.specs.declared.pane.Pane.{Pane}
use Rattle.be_parts.proofs.Begun.{are_dirty, as_owned}
use Rattle.be_parts.specs.Changed.{cells_in}
use Rattle.be_parts.specs.Kept.{Kept}
use Rattle.be_parts.specs.Panes.{IsFull}
use Rattle.be_parts.specs.Parts.{meaning_of}
use Rattle.be_parts.specs.Stands.{PaneIs, PaneShows, cell_of, has_cell}
use Rattle.be_parts.specs.declared.part.Part.{Part}
use Rattle.be_parts.specs.declared.part.Part.TheVariants as kinds
use Rattle.be_ready.proofs.Closed.{pane_there}
use Rattle.be_rules.proofs.Lawfully.{back, state}
use Rattle.be_rules.specs.Places.{place_of}
use Rattle.be_rules.specs.Rules.{IsSound}
use Rattle.be_rules.specs.Slices.{Slice, cell, desk, input, link, looper, pane, port, shown_of, state_of}
use Rattle.be_script.specs.Script.{Declared}
use Rattle.be_region.specs.Regions.{region_has}
use Rattle.be_span.proofs.CellLemmas.{cell_none}
use Rattle.be_span.specs.Spans.{Spans, cell_in, is_dirty}
use Rattle.be_steps.proofs.BeginStates.{begun_pane, has_begun}
use Rattle.be_steps.specs.Steps.{IsAllowed}
use Rattle.be_steps.specs.Surveyed.{IsSurveyedIn}
use Rattle.be_update.specs.Laws.{BegunAsTheMachine, FoundAsTheMachine, ListedAsDirty, SurveyedForEach}
use Rattle.be_update.specs.Listing.{listed_views, rect_in}
use Rattle.be_update.specs.Sessions.{is_any, session_of}
use Rattle.be_update.specs.Surveys.{IsSurveyOf, Surveyed}
use Rattle.be_views.specs.Trees.{Tree, place_of as view_place, preorder}
use Rattle.be_noted.proofs.Makers.{SaysOfEach, trace_is}
use Rattle.std.specs.Borrow.{Bor}
use Rattle.be_facts.proofs.Numbers.{eq_self}
use Rattle.be_geom.proofs.Numbered.{number_is}
use Rattle.be_written.specs.declared.note.Note.TheVariants as note
use Rattle.be_noted.proofs.Texts.{no_text}
use Rattle.be_noted.specs.Listed.{IsListed}
use Rattle.be_noted.specs.Noted.{IsNoted}

-- a survey of one pane is one of another that stands for the same slice
pub survey_each : SurveyedForEach → (slice : Slice) (p q : Pane) (survey : Surveyed) → PaneIs slice p → PaneIs slice q → IsSurveyOf survey p → IsSurveyOf survey q
survey_each law (pane w shown) p q survey a b is =
    let corner : b.corner ≡ a.corner = same_Some b.corner a.corner (sym b.is_corner ∙ a.is_corner) in
    let kept : b.kept ≡ a.kept = same_Some b.kept a.kept (sym b.is_kept ∙ a.is_kept) in
    let tree : b.tree ≡ a.tree = same_Some b.tree a.tree (sym b.is_tree ∙ a.is_tree) in
    law survey p q w a.corner a.kept a.tree (has_cell shown) (cell_of shown) a.stands
    (subst (λ (t : Tree). PaneStandsFor q w a.corner a.kept t (has_cell shown) (cell_of shown)) tree
    (subst (λ k. PaneStandsFor q w a.corner k b.tree (has_cell shown) (cell_of shown)) kept
    (subst (λ (c : Point). PaneStandsFor q w c b.kept b.tree (has_cell shown) (cell_of shown)) corner b.stands)))
    is
survey_each law (desk x) p q survey a b is = absurd a
survey_each law (input k c) p q survey a b is = absurd a
survey_each law (cell m o) p q survey a b is = absurd a
survey_each law (looper w l c) p q survey a b is = absurd a
survey_each law (port w o) p q survey a b is = absurd a
survey_each law (link w l) p q survey a b is = absurd a

-- no pixel, no view
abbrev none_rect : Option Rect
none_rect = None

no_by : {X : Type 0} (o : Option X) → option_and_then (λ _. none_rect) o ≡ None
no_by (Some x) = refl
no_by None = refl

no_views : (tree : Tree) (views : List ℕ) → filter_map {Y = ℕ × Rect} (λ v. option_map (λ r. (v, r)) (rect_in tree [] v)) views ≡ []
no_views tree [] = refl
no_views tree (v ∷ vs) =
    ap (λ (o : Option Rect). cons_option {X = ℕ × Rect} (option_map (λ r. (v, r)) o) (filter_map {Y = ℕ × Rect} (λ u. option_map (λ r. (u, r)) (rect_in tree [] u)) vs)) (no_by (view_place tree v))
    ∙ no_views tree vs

no_pixels : (l : List Point) → is_any l ≡ false → l ≡ []
no_pixels [] e = refl
no_pixels (p ∷ ps) e = absurd (cc)

module _ (d : Declared) (parts : List (ℕ × Part)) (w : ℕ) (allowed : IsAllowed d parts (who.Runner (by.Looper w)) (want.Begins w)) where
  module _ (survey : Option Surveyed) (surveyed : IsSurveyedIn d parts w survey) (all : List Slice) (sound : IsSound d all) (fits : Fits all (meant meaning_of parts)) where
    abbrev s : State
    s = state d all sound

    full : IsFull s w
    full x y mine = owned_cell_after d sound.history w x y sound.legal (number_is w (owner_in s x y) mine)

    shows : PaneShows w (shown_of s w) surveyed.pane
    shows = subst (λ (o : Slice). PaneIs o surveyed.pane) (sym (pane_read d parts all sound fits (kinds.Pane surveyed.kept) w (pane_there d parts w allowed).reachable.there surveyed.there)) surveyed.stands

    listing_is : listing_of s w ≡ listed_views shows.tree (session_of shows.corner (dirty_of s w))
    unfolding listing_of
    listing_is = λ i. unwrap_or (with_both (λ corner tree. Some (listed_views tree (session_of corner (dirty_of s w)))) (shows.is_corner i) (shows.is_tree i)) []

    -- ---- where a pixel waits

    pub listed_some : BegunAsTheMachine → ListedAsDirty → (views : Surveyed) → IsSurveyOf views surveyed.pane → listing_of (state_of d all) w ≡ views.views
    listed_some begins dirty views is =
        ap (λ (t : State). listing_of t w) (back d all sound)
        ∙ listing_is
        ∙ sym (begins views surveyed.pane (begun_pane views surveyed.pane) w shows.corner shows.kept shows.tree (owned s w) (cells_in s) (dirty_of s w) is (has_begun views surveyed.pane) (as_owned s w full surveyed.pane shows) (are_dirty s w full dirty)).1

    -- ---- where none does

    pub listed_none : FoundAsTheMachine → ListedAsDirty → IsClean surveyed.pane.spans → listing_of (state_of d all) w ≡ []
    unfolding listed_views
    listed_none found dirty clean =
        let none : dirty_of s w ≡ [] =
        no_pixels (dirty_of s w) ((found surveyed.pane w shows.corner shows.kept shows.tree (owned s w) (cells_in s) (dirty_of s w) (as_owned s w full surveyed.pane shows) (are_dirty s w full dirty)).1.0 clean) in
        ap (λ (t : State). listing_of t w) (back d all sound)
        ∙ listing_is
        ∙ ap (λ l. listed_views shows.tree (session_of shows.corner l)) none
        ∙ no_views shows.tree (preorder shows.tree)

  -- what is noted of the views
  pub says_listed : (views : Bor (List (ℕ × Rect))) → IsListed d parts w views.now → SaysOfEach d parts (by.Looper w) (note.Listed views)
  says_listed views is e number all sound fits =
      trace_is d parts (who.Runner (by.Looper w)) (want.Begins w) allowed e number all sound fits
      ∙ ap (λ b. if b then map (λ p. line_of p.0 p.1) (listing_of (state_of d all) w) else []) (eq_self w)
      ∙ ap (map (λ p. line_of p.0 p.1)) (is all sound fits)

  pub none_listed : IsListed d parts w [] → IsNoted d parts (who.Runner (by.Looper w)) []
  none_listed is e number all sound fits =
      no_text d (state_of d all) e (trace_is d parts (who.Runner (by.Looper w)) (want.Begins w) allowed e number all sound fits
      ∙ ap (λ b. if b then map (λ p. line_of p.0 p.1) (listing_of (state_of d all) w) else []) (eq_self w)
      ∙ ap (map (λ p. line_of p.0 p.1)) (is all sound fits))

  -- a survey of the window's pane is one of the pane in hand
  pub survey_here : SurveyedForEach → (k : Kept) → part_at parts (place_of d (part.pane w)) ≡ Some (kinds.Pane k) → (p : Pane) → PaneIs k.slice p → (survey : Surveyed) → IsSurveyedIn d parts w (Some survey) → IsSurveyOf survey p
  survey_here law k at p stands survey surveyed =
      let same : surveyed.kept.slice ≡ k.slice = ap meaning_of (same_Some (kinds.Pane surveyed.kept) (kinds.Pane k) (sym surveyed.there ∙ at)) in
      survey_each law k.slice surveyed.pane p survey (subst (λ (o : Slice). PaneIs o surveyed.pane) same surveyed.stands) stands surveyed.found.0

-- ---- a copy

cell_by : (b : Bool) (s : Spans) (x y : ℤ) → region_has s.rects x y ≡ b → (if b then cell_in s x y else None) ≡ cell_in s x y
cell_by true s x y has = refl
cell_by false s x y has = sym (cell_none s x y has)

-- a survey of a pane is one of a pane with the same views and pixels at the same place
pub survey_copy : (was : Pane) (survey : Surveyed) (region : List Rect) (spans : Spans) (tree : Tree) → region ≡ was.spans.rects → tree ≡ was.tree
    → ((x y : ℤ) → cell_in spans x y ≡ (if region_has region x y then cell_in was.spans x y else None)) → IsSurveyOf survey was
    → (copy : Pane) → copy.spans ≡ spans → copy.tree ≡ tree → copy.place ≡ was.place → IsSurveyOf survey copy
survey_copy was survey region spans tree same_region same_tree cells is copy copy_spans copy_tree copy_place = record {
  session = λ x y.
      is.session x y
      ∙ ap (λ (at : Point). is_dirty (cell_in was.spans (x +ℤ at.x) (y +ℤ at.y))) (sym copy_place)
      ∙ ap is_dirty (sym (ap (λ (s : Spans). cell_in s (x +ℤ copy.place.x) (y +ℤ copy.place.y)) copy_spans
      ∙ cells (x +ℤ copy.place.x) (y +ℤ copy.place.y)
      ∙ ap (λ (r : List Rect). if region_has r (x +ℤ copy.place.x) (y +ℤ copy.place.y) then cell_in was.spans (x +ℤ copy.place.x) (y +ℤ copy.place.y) else None) same_region
      ∙ cell_by (region_has was.spans.rects (x +ℤ copy.place.x) (y +ℤ copy.place.y)) was.spans (x +ℤ copy.place.x) (y +ℤ copy.place.y) refl));
  views = λ pixels same. is.views pixels same ∙ ap (λ (t : Tree). listed_views t pixels) (sym (copy_tree ∙ same_tree));
}

-- Panes that stand for their windows do so after a change.
use Rattle.std.specs.Prelude.{ℤ, pos, ◌+ℤ◌, ◌-ℤ◌, ◌==◌, Contains, slice_get, option_and_then}
use Rattle.std.specs.Option.{option_map}
use Rattle.std.proofs.Common.{◌≡◌, ℕ, Bool, true, false, cond, List, Option, Some, None, inl, inr, refl, sym, ap, ◌∙◌, subst, arith}
use Rattle.std.proofs.lemmas.Bool.{eqb-true, false≢true}
use Rattle.std.proofs.lemmas.Int.{ints}
use Rattle.std.proofs.lemmas.Option.{same_Some}
use Rattle.be_geom.specs.declared.rect.Rect.{Rect}
use Rattle.be_geom.specs.declared.point.Point.{Point}
use Rattle.be_color.specs.declared.colors.Color.{Color}
use Rattle.be_geom.specs.Numbers.{is_number}
use Rattle.be_geom.specs.Rects.{rect_has, moved_rect}
use Rattle.be_geom.specs.declared.change.Change.{Change}
use Rattle.be_geom.proofs.Numbered.{number_is}
use Rattle.be_pane.specs.declared.pane.Pane.{Pane}
use Rattle.be_pane.specs.SameStacks.{SameStacks}
use Rattle.be_region.specs.Sessions.{SameSession}
use Rattle.be_region.specs.Regions.{region_has}
use Rattle.be_span.specs.Cells.{Lookup, desktop_cell}
use Rattle.be_span.specs.Spans.{Spans, cell_in}
use Rattle.be_span.specs.declared.Cell.{Cell}
use Rattle.be_stack.specs.Owner.{owner_at}
use Rattle.be_stack.specs.Windows.{Windows}
use Rattle.be_stack.specs.declared.window.Window.{Window}
use Rattle.be_views.specs.Trees.{Tree, left_top}
use Rattle.be_desk.specs.Affected.{AreAffected, OwnsTheSame}
use Rattle.be_desk.specs.Changes as changes
use Rattle.be_desk.specs.Changes.{Desk, owns, own_cell, cell_of, changed_cell, motion_of, exposed_at}
use Rattle.be_desk.specs.Laws.{CarriedAsTheMachine, PlannedForEach, OthersAsTheMachine, EachPixelOnce, PanesAreWhole}
use Rattle.be_desk.specs.Plans.{AreChanged, AreRenewed}
use Rattle.be_desk.specs.declared.planned.Renewed.{Renewed}
use Rattle.be_desk.specs.declared.planned.Renewed.TheVariants.{Whole, InPlace}
use Rattle.be_facts.proofs.Truths.{true_or_false}
use Rattle.be_span.proofs.CellLemmas.{cell_none}
use Rattle.be_desk.proofs.ShiftLemmas.{shifted_alike}
use Rattle.be_desk.specs.Desks.{at_origin}
use Rattle.be_desk.proofs.DeskLemmas.{is_after}
use Rattle.be_desk.proofs.OthersLemmas.{others_stay}
use Rattle.be_desk.proofs.PairedLemmas.{other_trees}
use Rattle.be_desk.proofs.PlanLemmas.{owned_in}
use Rattle.be_geom.proofs.RectLemmas.{same_rects}

-- ---- a pane of the change

pub carried_as_machine : CarriedAsTheMachine
carried_as_machine plan these before after panes pane then_pane cells colors old corner kept tree paired taken same of_pane changed over screen looks colored stands then_corner then_tree then_at then_views =
    let carried = (over before after panes paired taken same of_pane changed).2 in
    record {
      number = carried.window;
      place = same_Some then_pane.place then_corner (sym carried.place ∙ then_at);
      pixels = λ x y. ap (λ (l : Spans). region_has l.rects x y) carried.spans ∙ changed.changed.pixels x y;
      shown = λ x y owned.
          ap (λ (l : Spans). cell_in l x y) carried.spans
          ∙ changed.changed.cells cells colors old screen (colored ∙ ap (λ (l : List Color). Some l) (sym stands.colors)) looks x y owned;
      views = same_Some then_pane.tree then_tree (sym carried.views ∙ then_views);
      colors = carried.colors ∙ stands.colors;
      stacks = subst (λ (l : _). SameStacks l kept.stacks) (sym carried.states) stands.stacks;
      session = subst (λ (s : Option (List Rect)). SameSession s kept.session) (sym carried.session) stands.session;
      notice = carried.notice ∙ stands.notice;
    }

-- ---- another pane for the same window

-- the pixels and cells are those of after the change for it too, where it has these spans
alike : (before after : Desk) (w : ℕ) (change : Change) (panes : List Pane) (pane other : Pane) (spans then_other : Spans) → pane.window ≡ other.window → pane.colors.items ≡ other.colors.items → ((x y : ℤ) → region_has then_other.rects x y ≡ region_has spans.rects x y) → ((x y : ℤ) → region_has then_other.rects x y ≡ true → cell_in then_other x y ≡ cell_in spans x y) → AreChanged before after w change panes pane spans → AreChanged before after w change panes other then_other
alike before after w change panes pane other spans then_other window colors region cells changed = record {
  pixels = λ x y. region x y ∙ changed.pixels x y ∙ ap (λ u. owns after u x y) window;
  cells = λ screen all old is colored looks x y owned.
      let its : owns after pane.window x y ≡ true = ap (λ u. owns after u x y) window ∙ owned in
      cells x y (region x y ∙ changed.pixels x y ∙ its) ∙ changed.cells screen all old is (ap (slice_get all) window ∙ colored ∙ ap (λ (l : List Color). Some l) (sym colors)) looks x y its;
}

pub planned_alike : (before after : Desk) (w : ℕ) (change : Change) (panes : List Pane) (pane other : Pane) (these : Option Renewed) → pane.window ≡ other.window → pane.colors.items ≡ other.colors.items → ((x y : ℤ) → region_has other.spans.rects x y ≡ region_has pane.spans.rects x y) → ((x y : ℤ) → region_has other.spans.rects x y ≡ true → cell_in other.spans x y ≡ cell_in pane.spans x y) → AreRenewed before after w change panes pane these → AreRenewed before after w change panes other these
planned_alike before after w change panes pane other (Some (Whole spans)) window colors region cells renewed = record {
  its = tt;
  changed = alike before after w change panes pane other spans spans window colors (λ x y. refl) (λ x y has. refl) renewed.changed;
}
planned_alike before after w change panes pane other (Some (InPlace shift)) window colors region cells renewed = record {
  its = λ x y. renewed.its x y ∙ sym (region x y);
  changed = subst (AreChanged before after w change panes other) (sym (shifted_alike shift.dx shift.dy shift.next shift.fresh.items pane.spans other.spans each))
      (alike before after w change panes pane other _ _ window colors (λ x y. refl) (λ x y has. refl) renewed.changed);
}
  where
    each : (x y : ℤ) → cell_in other.spans x y ≡ cell_in pane.spans x y
    each x y = elim (true_or_false (region_has other.spans.rects x y)) [
      | inl h ↦ cells x y h
      | inr h ↦ cell_none other.spans x y h ∙ sym (cell_none pane.spans x y (sym (region x y) ∙ h))
    ]
planned_alike before after w change panes pane other None window colors region cells renewed = record {
  its = tt;
  changed = alike before after w change panes pane other pane.spans other.spans window colors region cells renewed.changed;
}

pub planned_for_each : PlannedForEach
planned_for_each before after w change panes pane other these u corner kept tree owned cells stands also changed =
    planned_alike before after w change panes pane other these (stands.number ∙ sym also.number) (stands.colors ∙ sym also.colors) (λ x y. also.pixels x y ∙ sym (stands.pixels x y))
    (λ x y has. let its = sym (also.pixels x y) ∙ has in also.shown x y its ∙ sym (stands.shown x y its)) changed

-- ---- the others

-- what isn't false is so, of two tests
decided : (a b : Bool) → ((a ≡ b → ⊥) → ⊥) → a ≡ b
decided true true h = refl
decided false false h = refl
decided true false h = absurd (h (λ e. false≢true (sym e)))
decided false true h = absurd (h (λ e. false≢true e))

owns_the_same : (before after : Windows) (w : ℕ) (names : List ℕ) (u : ℕ) → AreAffected before after w names → (Contains names u → ⊥) → OwnsTheSame before after u
owns_the_same before after w names u affected not_named x y =
    decided (is_number u (owner_at before x y)) (is_number u (owner_at after x y)) (λ other. not_named ((affected.named u).1 (inr (λ same. other (same x y)))))

is_other : (before after : Windows) (w : ℕ) (names : List ℕ) (u : ℕ) → AreAffected before after w names → (Contains names u → ⊥) → u ≡ w → ⊥
is_other before after w names u affected not_named same = not_named ((affected.named u).1 (inl same))

kept_by_number : (b : Bool) (before after : Desk) (colors : List (List Color)) (w u : ℕ) (motion : changes.Motion) (old : Lookup) (x y : ℤ) (c : Cell) → (u == w) ≡ b → (u ≡ w → ⊥) → owns before u x y ≡ true → cond b (own_cell before after colors w motion old x y c) (own_cell before after colors u changes.still old x y c) ≡ c
kept_by_number true before after colors w u motion old x y c e other owned = absurd (other (eqb-true u w e))
kept_by_number false before after colors w u motion old x y c e other owned =
    ap (λ b. cond b c (exposed_at after colors u x y c)) owned

-- a pixel that another window keeps stays
kept_cell : (before after : Desk) (colors : List (List Color)) (w u : ℕ) (change : Change) (old : Lookup) (x y : ℤ) (c : Cell) → (u ≡ w → ⊥) → owns before u x y ≡ true → owns after u x y ≡ true → changed_cell before after colors w change old x y c ≡ c
unfolding changed_cell
kept_cell before after colors w u change old x y c other owned then_owned =
    ap (λ o. cell_of before after colors w (motion_of change) o old x y c) (number_is u (owner_at after.windows x y) then_owned)
    ∙ kept_by_number (u == w) before after colors w u (motion_of change) old x y c refl other owned

pub others_as_machine : OthersAsTheMachine
others_as_machine desk after w change names cells colors old taken affected u not_named pane corner kept tree stands =
    let same = owns_the_same desk.windows after.windows w names u affected not_named in
    let other = is_other desk.windows after.windows w names u affected not_named in
    let is = is_after desk after w change taken in
    let stay = others_stay desk.windows after.windows w change is.windows in (
      record {
        number = stands.number;
        place = stands.place;
        pixels = λ x y. stands.pixels x y ∙ same x y;
        shown = λ x y then_owned.
            let owned = same x y ∙ then_owned in
            stands.shown x y owned ∙ ap (λ (c : Cell). Some c) (sym (kept_cell desk after colors w u change old x y (cells x y) other owned then_owned));
        views = stands.views;
        colors = stands.colors;
        stacks = stands.stacks;
        session = stands.session;
        notice = stands.notice;
      },
      ap (option_map (λ (window : Window). left_top window.frame)) (stay.windows u other),
      (other_trees change desk.pointing.trees after.pointing.trees w is.trees).1 u other,
    )

-- ---- each pixel

one_owner : (u v : ℕ) (o : Option ℕ) → is_number u o ≡ true → is_number v o ≡ true → u ≡ v
one_owner u v (Some m) e f = sym (eqb-true m u e) ∙ eqb-true m v f
one_owner u v None e f = cc

pub no_owner : (before after : Desk) (colors : List (List Color)) (w : ℕ) (change : Change) (old : Lookup) (x y : ℤ) (c : Cell) → owner_at after.windows x y ≡ None → changed_cell before after colors w change old x y c ≡ desktop_cell
unfolding changed_cell
no_owner before after colors w change old x y c e =
    ap (λ o. cell_of before after colors w (motion_of change) o old x y c) e

pub each_pixel_once : EachPixelOnce
each_pixel_once desk after w change cells colors old x y = (
  λ u v pane other owned others here there. one_owner u v (owner_at after.windows x y) (sym (owned x y) ∙ here) (sym (others x y) ∙ there),
  λ e. no_owner desk after colors w change old x y (cells x y) e,
)

-- ---- whole panes

back_from_origin : (r : Rect) → moved_rect (at_origin r) r.left r.top ≡ r
back_from_origin r =
    same_rects ((r.left +ℤ (pos 0 -ℤ r.left)) +ℤ r.left) r.left ((r.top +ℤ (pos 0 -ℤ r.top)) +ℤ r.top) r.top ((r.right +ℤ (pos 0 -ℤ r.left)) +ℤ r.left) r.right ((r.bottom +ℤ (pos 0 -ℤ r.top)) +ℤ r.top) r.bottom (omega (arith, ints)) (omega (arith, ints)) (omega (arith, ints)) (omega (arith, ints))

pub panes_are_whole : PanesAreWhole
panes_are_whole desk pane paired of_pane = record {
  colored = of_pane.colored;
  drawn = of_pane.drawn;
  within = λ x y has root got.
      let window = owned_in desk.windows pane.window x y (sym (of_pane.pixels x y) ∙ has) in
      let is_root = paired.rooted pane.window window.0 root window.1.0 (ap (option_and_then (λ (t : Tree). slice_get t 0)) of_pane.views ∙ got) in
      let at : left_top window.0.frame ≡ pane.place = same_Some (left_top window.0.frame) pane.place (sym (ap (option_map (λ (w : Window). left_top w.frame)) window.1.0) ∙ of_pane.place) in
      ap (λ (p : Point). rect_has (moved_rect root.frame p.x p.y) x y) (sym at)
      ∙ ap (λ (r : Rect). rect_has (moved_rect r window.0.frame.left window.0.frame.top) x y) is_root.frame
      ∙ ap (λ (r : Rect). rect_has r x y) (back_from_origin window.0.frame)
      ∙ window.1.1;
}

-- The spans that are made for a pane are those after the change.
use Rattle.std.specs.Prelude.{ℤ, slice_get, Contains, if◌then◌else◌}
use Rattle.std.proofs.Common.{◌≡◌, ℕ, ◌<◌, ◌+◌, true, List, [], ◌∷◌, ◌++◌, Result, Ok, length, Option, Some, None, cond, inl, inr, refl, sym, ap, ◌∙◌, subst, arith}
use Rattle.std.proofs.lemmas.Bool.{cases_eq, cases_lt, ne_eqb}
use Rattle.std.proofs.lemmas.List.{length_push}
use Rattle.std.specs.Option.{option_map}
use Rattle.std.proofs.lemmas.Option.{same_Some, slice_get_read, slice_get_within}
use Rattle.be_facts.proofs.Lists.{got_last, got_front}
use Rattle.be_geom.specs.declared.change.Change.{Change}
use Rattle.be_geom.specs.declared.change.Change.TheVariants.{Show, Hide, MoveTo, MoveBy, ResizeTo, Activate, Behind, Focus, Close}
use Rattle.be_geom.specs.declared.point.Point.{Point}
use Rattle.be_geom.specs.declared.rect.Rect.{Rect}
use Rattle.be_input.specs.Pointing.{corner_of}
use Rattle.be_pane.specs.declared.pane.Pane.{Pane}
use Rattle.be_region.specs.Regions.{region_has, SamePixels}
use Rattle.be_span.specs.Cells.{exposed_as}
use Rattle.be_span.specs.Spans.{Spans, cell_in}
use Rattle.be_span.specs.declared.Cell.{Cell}
use Rattle.be_stack.specs.declared.fault.ChangeFault.{ChangeFault}
use Rattle.be_stack.specs.Visible.{IsVisible}
use Rattle.be_stack.specs.Windows.{Windows}
use Rattle.be_stack.specs.declared.window.Window.{Window}
use Rattle.be_views.specs.Trees.{Tree, left_top}
use Rattle.be_desk.specs.Changes.{Desk, owns, desk_after, motion_of, or_exposed}
use Rattle.be_desk.specs.Desks.{IsAsked, IsTaken}
use Rattle.be_desk.specs.Plans.{IsPaneOf, ArePanesOf, AreChanged, AreRenewed, IsPlanOf, IsCarried}
use Rattle.be_desk.specs.declared.planned.Renewed.{Renewed}
use Rattle.be_desk.specs.Renewals.{AreColored, AreUnder, brought_by, color_at, is_kept_by, renewed_cell}
use Rattle.be_desk.specs.declared.renewal.Motion.{Motion}
use Rattle.be_desk.specs.declared.renewal.Motion.TheVariants.{Still}
use Rattle.be_desk.specs.Affected.{OwnsTheSame, OthersStay}
use Rattle.be_desk.specs.Renewed.{AreChangedTo, IsChange, IsRenewalIn, motion_by}
use Rattle.be_desk.specs.declared.renewal.Renewal.{Renewal}
use Rattle.be_desk.proofs.ChangedLemmas.{renewed_is_changed}
use Rattle.be_desk.proofs.DeskLemmas.{IsAfter, TreesAfter, is_after}
use Rattle.be_desk.proofs.OthersLemmas.{others_stay}
use Rattle.be_desk.proofs.PairedLemmas.{other_trees, paired_after, resized_many, set_there}
use Rattle.be_desk.proofs.PlanLemmas.{are_colored, under}

-- where a pane stands among those
pub pane_at : (panes : List Pane) (pane : Pane) → Contains panes pane → (k : ℕ) × (slice_get panes k ≡ Some pane)
pane_at panes pane listed = (listed.0, slice_get_read panes (length panes) listed.0 pane refl listed.1 (sym listed.2))

pub corner_within : (s : Windows) (u : ℕ) (p : Point) → corner_of s u ≡ Some p → u < length s.windows
corner_within s u p e = by_window (slice_get s.windows u) refl e
  where
    by_window : (o : Option Window) → slice_get s.windows u ≡ o → option_map (λ (w : Window). left_top w.frame) o ≡ Some p → u < length s.windows
    by_window (Some window) got e = slice_get_within s.windows u window got
    by_window None got e = cc

-- its window is there afterwards, and its views are the desk's
pub stays_there : (before after : Desk) (w : ℕ) (change : Change) (panes : List Pane) (pane : Pane) → IsChange before after w change panes → Contains panes pane → (pane.window < length after.windows.windows) × (slice_get before.pointing.trees pane.window ≡ Some pane.tree)
stays_there before after w change panes pane is listed =
    let at = pane_at panes pane listed in
    let of_pane = is.panes_of at.0 pane at.1 in
    let within = corner_within before.windows pane.window pane.place of_pane.place in
    let many = (others_stay before.windows after.windows w change (is_after before after w change is.taken).windows).many in
    (omega arith, of_pane.views)

-- it has what its window owns
pub owned_there : (before after : Desk) (w : ℕ) (change : Change) (panes : List Pane) (pane : Pane) → IsChange before after w change panes → Contains panes pane → IsVisible pane.spans.rects before.windows pane.window
owned_there before after w change panes pane is listed =
    let at = pane_at panes pane listed in
    (is.panes_of at.0 pane at.1).pixels

-- ---- a window has as many views as before

same_views : (old new : List Tree) (w : ℕ) (before after : Tree) → new ≡ old → slice_get old w ≡ Some before → slice_get new w ≡ Some after → length after ≡ length before
same_views old new w before after same got then_got =
    ap (λ (t : Tree). length t) (same_Some after before (sym then_got ∙ ap (λ (l : List Tree). slice_get l w) same ∙ got))

own_views : (change : Change) (old new : List Tree) (w : ℕ) (before after : Tree) → TreesAfter old new w change → slice_get old w ≡ Some before → slice_get new w ≡ Some after → length after ≡ length before
own_views (ResizeTo width height) old new w before after trees got then_got =
    let was : trees.0 ≡ before = same_Some trees.0 before (sym trees.2 ∙ got) in
    let is : trees.1 ≡ after = same_Some trees.1 after (sym (ap (λ (l : List Tree). slice_get l w) trees.4 ∙ set_there old w trees.1 trees.0 trees.2) ∙ then_got) in
    ap (λ (t : Tree). length t) (sym is) ∙ resized_many trees.0 trees.1 width height trees.3 ∙ ap (λ (t : Tree). length t) was
own_views Show old new w before after same got then_got = same_views old new w before after same got then_got
own_views Hide old new w before after same got then_got = same_views old new w before after same got then_got
own_views (MoveTo corner) old new w before after same got then_got = same_views old new w before after same got then_got
own_views (MoveBy dx dy) old new w before after same got then_got = same_views old new w before after same got then_got
own_views Activate old new w before after same got then_got = same_views old new w before after same got then_got
own_views (Behind front) old new w before after same got then_got = same_views old new w before after same got then_got
own_views (Focus view) old new w before after same got then_got = same_views old new w before after same got then_got
own_views Close old new w before after same got then_got = same_views old new w before after same got then_got

as_many_views : (before after : Desk) (w : ℕ) (change : Change) (u : ℕ) (old new : Tree) → IsAfter before after w change → slice_get before.pointing.trees u ≡ Some old → slice_get after.pointing.trees u ≡ Some new → length new ≡ length old
as_many_views before after w change u old new is got then_got =
    elim (cases_eq u w) [
      | inl same ↦
          own_views change before.pointing.trees after.pointing.trees w old new is.trees (ap (slice_get before.pointing.trees) (sym same) ∙ got) (ap (slice_get after.pointing.trees) (sym same) ∙ then_got)
      | inr other ↦
          let trees = (other_trees change before.pointing.trees after.pointing.trees w is.trees).1 u other in
          ap (λ (t : Tree). length t) (same_Some new old (sym then_got ∙ trees ∙ got))
    ]

-- ---- the spans

-- each pixel has a colour
pub colored_spans : (before after : Desk) (w : ℕ) (change : Change) (panes : List Pane) (r : Renewal) (region : List Rect) → IsChange before after w change panes → Contains panes r.pane.now → IsRenewalIn after w change r → IsVisible region after.windows r.pane.now.window → AreColored r region
colored_spans before after w change panes r region is listed renewal visible =
    let at = pane_at panes r.pane.now listed in
    let of_pane = is.panes_of at.0 r.pane.now at.1 in
    let then_is = is_after before after w change is.taken in
    let many = as_many_views before after w change r.pane.now.window r.pane.now.tree r.tree.now then_is of_pane.views renewal.views in
    let some : 0 < length r.tree.now = let rooted = of_pane.rooted in omega arith in
    are_colored after w change r region (paired_after before after w change is.paired then_is) some renewal (of_pane.colored ∙ sym many) visible

-- a pixel that stays has the cell that was there
kept_by_still : (r : Renewal) (x y : ℤ) (c : Cell) → r.motion ≡ Still → region_has r.pane.now.spans.rects x y ≡ true → cell_in r.pane.now.spans x y ≡ Some c → renewed_cell r x y c ≡ c
kept_by_still r x y c still here was =
    let exposed : Cell = exposed_as (color_at r x y) c in
    ap (λ (m : Motion). or_exposed (cond (is_kept_by m r x y) (brought_by m r.pane.now.spans x y) None) exposed) still
    ∙ ap (λ b. or_exposed (cond b (cell_in r.pane.now.spans x y) None) exposed) here
    ∙ ap (λ (o : Option Cell). or_exposed o exposed) was

-- each pixel has its cell
pub changed_spans : (before after : Desk) (w : ℕ) (change : Change) (panes : List Pane) (r : Renewal) (region : List Rect) (spans : Spans) → IsChange before after w change panes → Contains panes r.pane.now → IsRenewalIn after w change r → IsVisible region after.windows r.pane.now.window → SamePixels spans.rects region → ((cells : ℤ → ℤ → Cell) → AreUnder panes region cells → (x y : ℤ) → region_has region x y ≡ true → cell_in spans x y ≡ Some (renewed_cell r x y (cells x y))) → AreChanged before after w change panes r.pane.now spans
changed_spans before after w change panes r region spans is listed renewal visible same renewed =
    let at = pane_at panes r.pane.now listed in
    let of_pane = is.panes_of at.0 r.pane.now at.1 in
    record {
      pixels = λ x y. same x y ∙ visible x y;
      cells = λ cells colors old screen colored looks x y owned.
          renewed cells (under before after panes at.0 r.pane.now region cells is.panes_of is.named at.1 visible screen) x y (visible x y ∙ owned)
          ∙ ap (λ (c : Cell). Some c) (sym (renewed_is_changed before after w change colors r old cells x y of_pane renewal (screen.windows at.0 r.pane.now at.1) colored looks owned));
    }

-- the pixels of a pane that keeps all of them, and no others, are as they were
pub kept_spans : (before after : Desk) (w : ℕ) (change : Change) (panes : List Pane) (r : Renewal) (region : List Rect) → IsChange before after w change panes → Contains panes r.pane.now → IsRenewalIn after w change r → IsVisible region after.windows r.pane.now.window → r.motion ≡ Still → SamePixels region r.pane.now.spans.rects → AreChanged before after w change panes r.pane.now r.pane.now.spans
kept_spans before after w change panes r region is listed renewal visible still same =
    let at = pane_at panes r.pane.now listed in
    let of_pane = is.panes_of at.0 r.pane.now at.1 in
    record {
      pixels = λ x y. sym (same x y) ∙ visible x y;
      cells = λ cells colors old screen colored looks x y owned.
          let here = sym (same x y) ∙ visible x y ∙ owned in
          let was = screen.windows at.0 r.pane.now at.1 x y (sym (of_pane.pixels x y) ∙ here) in
          was ∙ ap (λ (c : Cell). Some c) (sym (renewed_is_changed before after w change colors r old cells x y of_pane renewal (screen.windows at.0 r.pane.now at.1) colored looks owned ∙ kept_by_still r x y (cells x y) still here was));
    }

-- nothing need be made ready then
pub unchanged : (before after : Desk) (w : ℕ) (change : Change) (panes : List Pane) (pane : Pane) → AreChanged before after w change panes pane pane.spans → AreRenewed before after w change panes pane None
unchanged before after w change panes pane changed = record { its = tt; changed = changed }

-- a window that isn't the changed one stays where it is
still_other : (after : Desk) (w : ℕ) (change : Change) (r : Renewal) → IsRenewalIn after w change r → (r.pane.now.window ≡ w → ⊥) → r.motion ≡ Still
still_other after w change r renewal other =
    renewal.motion ∙ ap (λ b. if b then motion_by (motion_of change) r.pane.now.place r.place else Still) (ne_eqb r.pane.now.window w other)

-- so where it owns the same pixels its pane is as it was
pub apart_spans : (before after : Desk) (w : ℕ) (change : Change) (panes : List Pane) (r : Renewal) → IsChange before after w change panes → Contains panes r.pane.now → IsRenewalIn after w change r → (r.pane.now.window ≡ w → ⊥) → OwnsTheSame before.windows after.windows r.pane.now.window → AreChanged before after w change panes r.pane.now r.pane.now.spans
apart_spans before after w change panes r is listed renewal other same =
    let at = pane_at panes r.pane.now listed in
    let of_pane = is.panes_of at.0 r.pane.now at.1 in
    kept_spans before after w change panes r r.pane.now.spans.rects is listed renewal (λ x y. of_pane.pixels x y ∙ same x y) (still_other after w change r renewal other) (λ x y. refl)

-- no change of a window moves the others
pub others_of : (before after : Desk) (w : ℕ) (change : Change) (panes : List Pane) → IsChange before after w change panes → OthersStay before.windows after.windows w
others_of before after w change panes is = others_stay before.windows after.windows w change (is_after before after w change is.taken).windows

-- ---- the spans of all panes

pub no_spans : (before after : Desk) (w : ℕ) (change : Change) (panes : List Pane) → AreChangedTo before after w change panes [] 0
no_spans before after w change panes = record { each = refl; are = λ k pane these less got then_got. absurd (omega arith) }

pub one_more : (before after : Desk) (w : ℕ) (change : Change) (panes : List Pane) (spans : List (Option Renewed)) (n : ℕ) (pane : Pane) (these : Option Renewed) → AreChangedTo before after w change panes spans n → slice_get panes n ≡ Some pane → AreRenewed before after w change panes pane these → AreChangedTo before after w change panes (spans ++ these ∷ []) (n + 1)
one_more before after w change panes spans n pane these listed got changed = record {
  each = let long = length_push spans these in let many = listed.each in omega arith;
  are = λ k other own less here then_here.
      elim (cases_lt k n) [
        | inl below ↦
            let many = listed.each in
            listed.are k other own below here (sym (got_front spans these k (omega arith)) ∙ then_here)
        | inr above ↦
            let many = listed.each in
            let same : k ≡ n = omega arith in
            let of_pane = same_Some pane other (sym got ∙ ap (slice_get panes) (sym same) ∙ here) in
            let of_spans = same_Some these own (sym (got_last spans these k (omega arith)) ∙ then_here) in
            subst (λ (p : Pane). AreRenewed before after w change panes p own) of_pane (subst (AreRenewed before after w change panes pane) of_spans changed)
      ];
}

-- ---- the panes afterwards

as_long : {A : Type 0} (xs ys : List A) → xs ≡ ys → length xs ≡ length ys
as_long xs ys e = ap (λ l. length l) e

-- a pane that is carried over is of its window on the desk afterwards
pub pane_after : (before after : Desk) (w : ℕ) (change : Change) (panes : List Pane) (old new : Pane) (these : Spans) → IsAfter before after w change → IsPaneOf before old → AreChanged before after w change panes old these → IsCarried after these old new → IsPaneOf after new
pane_after before after w change panes old new these is of_pane changed carried =
    let many = as_many_views before after w change old.window old.tree new.tree is of_pane.views carried.views in
    let rooted = of_pane.rooted in
    record {
      place = ap (corner_of after.windows) carried.window ∙ carried.place;
      views = ap (slice_get after.pointing.trees) carried.window ∙ carried.views;
      rooted = omega arith;
      colored = as_long new.colors.items old.colors.items carried.colors ∙ of_pane.colored ∙ sym many;
      drawn = as_long new.states.items old.states.items carried.states ∙ of_pane.drawn ∙ sym many;
      pixels = λ x y. ap (λ (l : Spans). region_has l.rects x y) carried.spans ∙ changed.pixels x y ∙ ap (λ n. owns after n x y) (sym carried.window);
    }

-- ---- the plan

same_desk : (a b : Desk) → ◌≡◌ {A = Result Desk ChangeFault} (Ok a) (Ok b) → a ≡ b
same_desk a b e = cc

taken_by : (desk after : Desk) (w : ℕ) (change : Change) → desk_after desk w change ≡ Ok after → IsTaken (desk_after desk w change)
taken_by desk after w change e = subst (λ (r : Result Desk ChangeFault). IsTaken r) (sym e) tt

pub is_plan : (desk after : Desk) (w : ℕ) (change : Change) (panes : List Pane) (spans : List (Option Renewed)) → IsAsked desk w change → desk_after desk w change ≡ Ok after → ArePanesOf desk panes → AreChangedTo desk after w change panes spans (length panes) → IsPlanOf (record { window = w; change = change; windows = after.windows; spans = spans }) desk panes
is_plan desk after w change panes spans asked e panes_of listed = record {
  on_desk = record {
    asked = asked;
    taken = taken_by desk after w change e;
    then_windows = λ other then_e. sym (ap (λ (d : Desk). d.windows) (same_desk after other (sym e ∙ then_e)));
  };
  panes_of = panes_of;
  each = listed.each;
  changed = λ other then_e k pane these got got_spans.
      subst (λ (d : Desk). AreRenewed desk d w change panes pane these) (same_desk after other (sym e ∙ then_e)) (listed.are k pane these (slice_get_within panes k pane got) got got_spans);
}

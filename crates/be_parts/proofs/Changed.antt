-- A pane on which a planned change was carried out stands for the slice after that.
use Rattle.std.proofs.Common.{◌≡◌, ℕ, ◌<◌, true, List, Option, Some, Ok, length, refl, sym, ap, ◌∙◌, subst}
use Rattle.std.specs.Prelude.{ℤ, slice_get, unwrap_or, option_map}
use Rattle.std.proofs.lemmas.Option.{same_Some}
use Rattle.be_facts.proofs.Lists.{get_map}
use Rattle.be_color.specs.declared.colors.Color.{Color}
use Rattle.be_desk.specs.Changes.{Desk, owns, desk_after, changed_cell}
use Rattle.be_desk.specs.Plans.{AreRenewed, CarriesOver, IsPaneOf, LooksUp, Planned}
use Rattle.be_geom.specs.declared.change.Change.{Change}
use Rattle.be_geom.specs.declared.rect.Rect.{Rect}
use Rattle.be_input.specs.Pointing.{corner_of}
use Rattle.be_pane.specs.Panes as machine
use Rattle.be_pane.specs.SameStacks.{SameStacks}
use Rattle.be_region.specs.Sessions.{SameSession}
use Rattle.be_pane.specs.declared.pane.Pane.{Pane}
use Rattle.be_region.specs.Regions.{region_has}
use Rattle.be_span.specs.Cells.{Lookup, desktop_cell}
use Rattle.be_span.specs.Spans.{Spans, cell_in}
use Rattle.be_desk.specs.declared.planned.Renewed.{Renewed}
use Rattle.be_span.specs.declared.Cell.{Cell}
use Rattle.be_span.specs.Screen.{cell_at, each_cell}
use Rattle.be_views.specs.Trees.{Tree}
use Rattle.be_span.proofs.EachLemmas.{cell_by}
use Rattle.be_desk.proofs.StandLemmas.{planned_alike}
use Rattle.be_machine.specs.Pixels.{pixel_at}
use Rattle.be_machine.specs.State.{State}
use Rattle.be_machine.specs.Windows.{width_of, owned, view_colors, changed, changed_to}
use Rattle.be_machine.proofs.Sizes.{KeepsCounts, desk_sizes}
use Rattle.be_rules.specs.Slices.{Slice, pane, shown_of}
use Rattle.be_parts.specs.Changed.{IsChanged, cells_in}
use Rattle.be_parts.specs.Stands.{PaneShows, PaneIs}
use Rattle.be_parts.specs.Panes.{IsFull}
use Rattle.be_parts.proofs.Looking.{has_owned, cell_owned}

-- two panes that stand for the same slice have the same pixels
module _ (w : ℕ) (s : State) (full : IsFull s w) (e p : Pane) (g : PaneShows w (shown_of s w) e) (h : PaneShows w (shown_of s w) p) where
  pub same_region : (x y : ℤ) → region_has p.spans.rects x y ≡ region_has e.spans.rects x y
  same_region x y = h.stands.pixels x y ∙ sym (g.stands.pixels x y)

  pub same_cells : (x y : ℤ) → region_has p.spans.rects x y ≡ true → cell_in p.spans x y ≡ cell_in e.spans x y
  same_cells x y has = h.stands.shown x y (sym (h.stands.pixels x y) ∙ has) ∙ sym (g.stands.shown x y (sym (h.stands.pixels x y) ∙ has))

  same_window : e.window ≡ p.window
  same_window = g.stands.number ∙ sym h.stands.number

  same_kept : g.kept ≡ h.kept
  same_kept = same_Some g.kept h.kept (sym g.is_kept ∙ h.is_kept)

  same_colors : e.colors.items ≡ p.colors.items
  same_colors = g.stands.colors ∙ ap (λ (k : machine.Pane). k.colors) same_kept ∙ sym h.stands.colors

  pub same_tree : e.tree ≡ p.tree
  same_tree = g.stands.views ∙ same_Some g.tree h.tree (sym g.is_tree ∙ h.is_tree) ∙ sym h.stands.views

  of_pane : 0 < length e.tree → IsPaneOf s.desk p
  of_pane rooted = record {
    place = ap (corner_of s.desk.windows) h.stands.number ∙ h.is_corner ∙ ap Some (sym h.stands.place);
    views = ap (slice_get s.desk.pointing.trees) h.stands.number ∙ h.is_tree ∙ ap Some (sym h.stands.views);
    rooted = subst (λ (t : Tree). 0 < length t) same_tree rooted;
    colored = h.whole.colored;
    drawn = h.whole.drawn;
    pixels = λ x y. h.stands.pixels x y ∙ has_owned s w full x y ∙ ap (λ u. owned s u x y) (sym h.stands.number);
  }

-- the state after a change that isn't refused
module _ (s : State) (w : ℕ) (change : Change) (after : Desk) (taken : desk_after s.desk w change ≡ Ok after) where
  abbrev then_state : State
  then_state = changed_to s w change (Ok after)

  then_is : changed s w change ≡ then_state
  unfolding changed
  then_is = ap (changed_to s w change) taken

  abbrev rule : Lookup → ℤ → ℤ → Cell → Cell
  rule = changed_cell s.desk after (view_colors s) w change

  same_width : after.windows.width ≡ width_of s
  same_width = (subst (KeepsCounts s.desk) taken (desk_sizes s.desk w change)).sizes.width

  pixel_then : (x y : ℤ) → pixel_at then_state x y ≡ option_map (rule (pixel_at s) x y) (pixel_at s x y)
  pixel_then x y = ap (λ n. cell_at n (each_cell (width_of s) rule s.screen) x y) same_width ∙ cell_by (width_of s) rule s.screen x y

pub changed_shows : (plan : Planned) (these : Option Renewed) (old new : Slice) (p q : Pane) → IsChanged plan.windows plan.window plan.change these old new → PaneIs old p → CarriesOver plan these p q → PaneIs new q
changed_shows plan these old new p q x is carries =
    let s : State = x.state in
    let w : ℕ = x.window in
    let a : Desk = x.then_desk in
    let t : State = then_state s plan.window plan.change a x.taken in
    let full : IsFull s w = x.full w in
    let h : PaneShows w (shown_of s w) p = subst (λ (o : Slice). PaneIs o p) x.before is in
    let of_p : IsPaneOf s.desk p = of_pane w s full x.example p x.shows h x.rooted in
    let renewed_p : AreRenewed s.desk a plan.window plan.change x.panes p these = planned_alike s.desk a plan.window plan.change x.panes x.example p these (same_window w s full x.example p x.shows h) (same_colors w s full x.example p x.shows h) (same_region w s full x.example p x.shows h) (same_cells w s full x.example p x.shows h) x.renewed in
    let all = carries s.desk a x.panes x.paired x.taken x.windows_are of_p renewed_p in
    let then_of : IsPaneOf a q = all.0 in
    let carried = all.2 in
    let number : q.window ≡ w = carried.window ∙ h.stands.number in
    let full_t : IsFull t w = λ i j mine. let c = x.full_then i j mine in (rule s plan.window plan.change a x.taken (pixel_at s) i j c.0, pixel_then s plan.window plan.change a x.taken i j ∙ ap (option_map (rule s plan.window plan.change a x.taken (pixel_at s) i j)) c.1) in
    let colored : slice_get (view_colors s) p.window ≡ Some p.colors.items = ap (slice_get (view_colors s)) h.stands.number ∙ get_map (λ (k : machine.Pane). k.colors) s.panes w h.kept h.is_kept ∙ ap (λ (l : List Color). Some l) (sym h.stands.colors) in
    let looks : LooksUp (pixel_at s) s.desk plan.window (cells_in s) = λ i j mine. let c = x.full plan.window i j mine in c.1 ∙ ap (λ o. Some (unwrap_or o desktop_cell)) (sym c.1) in
    let shows : PaneShows w (shown_of t w) q = record {
      kept = h.kept;
      is_kept = h.is_kept;
      corner = q.place;
      is_corner = ap (corner_of a.windows) (sym number) ∙ then_of.place;
      tree = q.tree;
      is_tree = ap (slice_get a.pointing.trees) (sym number) ∙ then_of.views;
      stands = record {
        number = number;
        place = refl;
        pixels = λ i j. then_of.pixels i j ∙ ap (λ u. owns a u i j) number ∙ sym (has_owned t w full_t i j);
        shown = λ i j has.
            let mine : owns a w i j ≡ true = sym (has_owned t w full_t i j) ∙ has in
            let c = x.full_then i j mine in
            ap (λ (l : Spans). cell_in l i j) carried.spans
            ∙ renewed_p.changed.cells (cells_in s) (view_colors s) (pixel_at s) x.screen colored looks i j (ap (λ u. owns a u i j) h.stands.number ∙ mine)
            ∙ ap (λ o. Some (rule s plan.window plan.change a x.taken (pixel_at s) i j (unwrap_or o desktop_cell))) c.1
            ∙ ap Some (sym (cell_owned t w i j mine ∙ ap (λ o. unwrap_or o desktop_cell) (full_t i j mine).1));
        views = refl;
        colors = carried.colors ∙ h.stands.colors;
        stacks = subst (λ (l : _). SameStacks l h.kept.stacks) (sym carried.states) h.stands.stacks;
        session = subst (λ (o : Option (List Rect)). SameSession o h.kept.session) (sym carried.session) h.stands.session;
        notice = carried.notice ∙ h.stands.notice;
      };
      whole = all.1;
    } in
    subst (λ (o : Slice). PaneIs o q) (sym (x.after_is ∙ ap (λ r. pane w (shown_of r w)) (then_is s plan.window plan.change a x.taken))) shows

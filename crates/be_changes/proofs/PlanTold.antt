-- What a plan of a change says of the slices of its panes.
use Rattle.std.proofs.Common.{◌≡◌, ℕ, ◌*◌, ◌<◌, true, List, Option, Some, None, Ok, length, refl, sym, ap, ◌∙◌, subst}
use Rattle.std.specs.Prelude.{ℤ, slice_get, unwrap_or, option_map}
use Rattle.std.proofs.lemmas.Option.{same_Some}
use Rattle.be_geom.proofs.Numbered.{number_is}
use Rattle.be_desk.specs.Changes.{Desk, owns, desk_after}
use Rattle.be_desk.specs.Plans.{IsPlanOf, IsScreenOf, Planned}
use Rattle.be_machine.proofs.HasParts.{HasParts}
use Rattle.be_machine.proofs.PixelExposed.{cell_on}
use Rattle.be_machine.proofs.PixelSteps.{IsDesktopAt}
use Rattle.be_machine.proofs.PixelViews.{IsCovered, covered}
use Rattle.be_machine.proofs.Sizes.{KeepsCounts, desk_sizes}
use Rattle.be_machine.specs.Pixels.{pixel_at}
use Rattle.be_machine.specs.State.{State}
use Rattle.be_machine.specs.Windows.{changed, width_of}
use Rattle.be_pane.specs.declared.pane.Pane.{Pane}
use Rattle.be_parts.proofs.Looking.{cell_owned, has_owned}
use Rattle.be_parts.specs.Changed.{IsChanged, cells_in}
use Rattle.be_parts.specs.Panes.{IsFull}
use Rattle.be_parts.specs.Stands.{PaneShows}
use Rattle.be_rules.proofs.ListLemmas.{there_below}
use Rattle.be_rules.specs.Slices.{pane, shown_of}
use Rattle.be_script.specs.Script.{Declared}
use Rattle.be_span.specs.Cells.{desktop_cell}
use Rattle.be_desk.specs.declared.planned.Renewed.{Renewed}
use Rattle.be_span.specs.declared.Cell.{Cell}
use Rattle.be_stack.specs.Owner.{is_on_screen, owner_at}
use Rattle.be_stack.specs.Windows.{Windows}
use Rattle.be_stack.specs.declared.window.Window.{Window}
use Rattle.be_desk.proofs.TakenLemmas.{taken_as}

-- a window of which something is read is there
window_there : {X : Type 0} (f : Window → X) (windows : List Window) (u : ℕ) (x : X) → option_map f (slice_get windows u) ≡ Some x → u < length windows
window_there f windows u x is = by (slice_get windows u) refl is
  where
    by : (o : Option Window) → slice_get windows u ≡ o → option_map f o ≡ Some x → u < length windows
    by (Some window) got e = there_below windows u window got
    by None got e = absurd (cc)

desktop_by : (o : Option Cell) → o ≡ option_map (λ _. desktop_cell) o → unwrap_or o desktop_cell ≡ desktop_cell
desktop_by (Some c) e = same_Some c desktop_cell e
desktop_by None e = refl

-- the window of a pane is there
pub window_of_pane : (d : Declared) (s : State) (parts : HasParts d s) (plan : Planned) (panes : List Pane) (is : IsPlanOf plan s.desk panes) (k : ℕ) (p : Pane) → slice_get panes k ≡ Some p → p.window < length d.windows
window_of_pane d s parts plan panes is k p got = subst (λ n. p.window < n) parts.windows (window_there _ s.desk.windows.windows p.window p.place (is.panes_of k p got).place)

module _ (d : Declared) (s : State) (parts : HasParts d s) (desktop : (x y : ℤ) → IsDesktopAt s x y) (plan : Planned) (panes : List Pane) (is : IsPlanOf plan s.desk panes)
    (shows : (k : ℕ) (p : Pane) → slice_get panes k ≡ Some p → PaneShows p.window (shown_of s p.window) p) where
  pub after : (after : Desk) × (desk_after s.desk plan.window plan.change ≡ Ok after)
  after = taken_as (desk_after s.desk plan.window plan.change) is.on_desk.taken

  sizes : KeepsCounts s.desk (Ok after.0)
  sizes = subst (KeepsCounts s.desk) after.1 (desk_sizes s.desk plan.window plan.change)

  long : length s.screen ≡ width_of s * s.desk.windows.height
  long = parts.screen ∙ (λ i. sym parts.width i * sym parts.height i)

  -- a pixel that a window owns is on the screen
  on_screen : (windows : Windows) → windows.width ≡ s.desk.windows.width → windows.height ≡ s.desk.windows.height → (u : ℕ) (x y : ℤ) → owner_at windows x y ≡ Some u → (c : Cell) × (pixel_at s x y ≡ Some c)
  on_screen windows width height u x y owner =
      let is_there : IsCovered windows u x y = covered windows u x y owner in
      cell_on (width_of s) s.desk.windows.height s.screen x y long (subst (λ n. is_on_screen n x ≡ true) width is_there.column) (subst (λ n. is_on_screen n y ≡ true) height is_there.row)

  pub full : (u : ℕ) → IsFull s u
  full u x y mine = on_screen s.desk.windows refl refl u x y (number_is u (owner_at s.desk.windows x y) mine)

  full_then : (u : ℕ) (x y : ℤ) → owns after.0 u x y ≡ true → (c : Cell) × (pixel_at s x y ≡ Some c)
  full_then u x y mine = on_screen after.0.windows sizes.sizes.width sizes.sizes.height u x y (number_is u (owner_at after.0.windows x y) mine)

  screen_is : IsScreenOf (cells_in s) s.desk panes
  screen_is = record {
    windows = λ k p got x y mine. let h = shows k p got in h.stands.shown x y (has_owned s p.window (full p.window) x y ∙ mine) ∙ ap (λ (c : Cell). Some c) (cell_owned s p.window x y mine);
    desktop = λ x y nobody. desktop_by (pixel_at s x y) (desktop x y nobody);
  }

  -- the pane of a number, with its spans
  pub pane_changed : (k : ℕ) (p : Pane) (these : Option Renewed) → slice_get panes k ≡ Some p → slice_get plan.spans k ≡ Some these
      → IsChanged plan.windows plan.window plan.change these (pane p.window (shown_of s p.window)) (pane p.window (shown_of (changed s plan.window plan.change) p.window))
  pane_changed k p these got got_spans =
      let same : after.0.windows ≡ plan.windows = is.on_desk.then_windows after.0 after.1 in
      record {
        state = s;
        then_desk = after.0;
        panes = panes;
        example = p;
        window = p.window;
        there = subst (λ n. p.window < n) (sym (ap (λ (t : Windows). length t.windows) (sym same) ∙ sizes.sizes.windows ∙ parts.windows)) (window_of_pane d s parts plan panes is k p got);
        limits = is.on_desk.asked.within_limits;
        paired = is.on_desk.asked.paired;
        taken = after.1;
        windows_are = same;
        full = full;
        full_then = full_then p.window;
        screen = screen_is;
        shows = shows k p got;
        rooted = (is.panes_of k p got).rooted;
        renewed = is.changed after.0 after.1 k p these got got_spans;
        before = refl;
        after_is = refl;
      }

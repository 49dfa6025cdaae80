-- A pane on which a command was executed stands for the slice after that.
use Rattle.std.proofs.Common.{◌≡◌, ℕ, Bool, true, List, Option, Some, sym, ap, ◌∙◌, subst}
use Rattle.std.specs.Prelude.{ℤ, slice_get, unwrap_or, option_map, option_and_then}
use Rattle.std.specs.Option.{option_map_or}
use Rattle.be_bitmap.specs.Pictures.{Picture}
use Rattle.be_command.specs.Effects.{Deed, Effect, at_view, changes, ends_update, effect_of}
use Rattle.be_geom.specs.declared.point.Point.{Point}
use Rattle.be_link.specs.Queues.{Numbered}
use Rattle.be_pane.specs.Panes as machine
use Rattle.be_pane.specs.StandsFor.{PaneStandsFor, IsWhole}
use Rattle.be_pane.specs.declared.pane.Pane.{Pane}
use Rattle.be_script.specs.Script.{Declared}
use Rattle.be_span.specs.Cells.{Lookup, desktop_cell}
use Rattle.be_span.specs.declared.Cell.{Cell}
use Rattle.be_twin.specs.Executed.{Sight, sight_of, pane_after, executed_cell, without_session}
use Rattle.be_twin.specs.StandsAfter.{AgreesWith, StandsAfter, cells_after}
use Rattle.be_views.specs.Trees.{Tree}
use Rattle.be_span.proofs.EachLemmas.{cell_by}
use Rattle.be_machine.specs.Commands.{sight_at, without_front, done_at_view, with_effect, executed_command, executed}
use Rattle.be_machine.specs.Lists.{with_both}
use Rattle.be_machine.specs.Pixels.{pixel_at}
use Rattle.be_machine.specs.State.{State}
use Rattle.be_machine.specs.Windows.{owned, corner_at, tree_at}
use Rattle.be_machine.proofs.Lists.{at_here}
use Rattle.be_rules.specs.Slices.{Slice, shown_of}
use Rattle.be_parts.specs.Panes.{IsExecuted}
use Rattle.be_parts.specs.Stands.{has_cell, cell_of, PaneShows, PaneIs}
use Rattle.be_parts.specs.Panes.{IsFull}
use Rattle.be_parts.proofs.Looking.{has_owned, cell_owned, stands_as}

-- what the contract of `execute` gives
abbrev pub Given : List Picture → Effect → Pane → Pane → Type 0
Given pictures effect p q =
    (w : ℕ) (corner : Point) (kept : machine.Pane) (tree : Tree) (own : ℤ → ℤ → Bool) (cells : ℤ → ℤ → Cell) (old : Lookup)
    → PaneStandsFor p w corner kept tree own cells → AgreesWith own cells old → StandsAfter pictures w corner kept tree own cells old effect q

abbrev cells_in : State → ℤ → ℤ → Cell
cells_in s x y = unwrap_or (pixel_at s x y) desktop_cell

-- at a view, where the state after is the one with the deed done
module _ (pictures : List Picture) (s : State) (w v : ℕ) (deed : Deed) (kept : machine.Pane) (corner : Point) (tree : Tree) (full : IsFull s w)
    (is_kept : slice_get s.panes w ≡ Some kept) (is_corner : corner_at s w ≡ Some corner) (is_tree : tree_at s w ≡ Some tree) where
  abbrev t : State
  t = done_at_view pictures (without_front s w) w v deed kept

  abbrev sight : Option Sight
  sight = sight_of corner tree kept v

  sight_is : sight_at s w v kept ≡ sight
  sight_is = λ i. with_both (λ corner tree. sight_of corner tree kept v) (is_corner i) (is_tree i)

  abbrev rule : Lookup → ℤ → ℤ → Cell → Cell
  rule = executed_cell pictures (owned s w) kept.colors deed (sight_at s w v kept)

  pixel_after : (x y : ℤ) → pixel_at t x y ≡ option_map (rule (pixel_at s) x y) (pixel_at s x y)
  pixel_after x y = cell_by s.desk.windows.width rule s.screen x y

  full_after : IsFull t w
  full_after x y mine = let c = full x y mine in (rule (pixel_at s) x y c.0, pixel_after x y ∙ ap (option_map (rule (pixel_at s) x y)) c.1)

  cell_after_is : (x y : ℤ) → owned s w x y ≡ true → cells_in t x y ≡ cells_after pictures (owned s w) kept.colors deed sight (pixel_at s) (cells_in s) x y
  cell_after_is x y mine =
      let c = full x y mine in
      ap (λ o. unwrap_or o desktop_cell) (pixel_after x y ∙ ap (option_map (rule (pixel_at s) x y)) c.1)
      ∙ (λ i. executed_cell pictures (owned s w) kept.colors deed (sight_is i) (pixel_at s) x y (unwrap_or (sym c.1 i) desktop_cell))

  shows_after : (p q : Pane) → PaneStandsFor p w corner kept tree (has_cell (shown_of s w)) (cell_of (shown_of s w)) → IsWhole q → Given pictures (at_view v deed) p q → PaneShows w (shown_of t w) q
  shows_after p q stands whole given =
      let before : PaneStandsFor p w corner kept tree (owned s w) (cells_in s) = stands_as p w corner kept tree (has_cell (shown_of s w)) (owned s w) (cell_of (shown_of s w)) (cells_in s) (λ x y. sym (has_owned s w full x y)) (λ x y e. sym (cell_owned s w x y (sym (has_owned s w full x y) ∙ e))) stands in
      let after : PaneStandsFor q w corner (pane_after pictures deed v sight kept) tree (owned s w) (cells_after pictures (owned s w) kept.colors deed sight (pixel_at s) (cells_in s)) =
      given w corner kept tree (owned s w) (cells_in s) (pixel_at s) before (λ x y mine. let c = full x y mine in c.1 ∙ ap (λ o. Some (unwrap_or o desktop_cell)) (sym c.1)) in
      record {
        kept = pane_after pictures deed v sight kept;
        is_kept = at_here s.panes w (pane_after pictures deed v (sight_at s w v kept)) kept is_kept ∙ ap (λ o. Some (pane_after pictures deed v o kept)) sight_is;
        corner = corner;
        is_corner = is_corner;
        tree = tree;
        is_tree = is_tree;
        stands = stands_as q w corner (pane_after pictures deed v sight kept) tree (owned s w) (has_cell (shown_of t w)) (cells_after pictures (owned s w) kept.colors deed sight (pixel_at s) (cells_in s)) (cell_of (shown_of t w)) (has_owned t w full_after) (λ x y mine. cell_owned t w x y mine ∙ cell_after_is x y mine) after;
        whole = whole;
      }

module _ (d : Declared) (s : State) (w : ℕ) (c : Numbered)
    (oldest : option_and_then (λ link. slice_get link 0) (slice_get s.links w) ≡ Some c) where
  by_effect : executed d s w ≡ with_effect d.pictures (without_front s w) w (effect_of c.command)
  unfolding executed
  by_effect = ap (λ o. option_map_or (executed_command d s w) o s) oldest

  executed_is : (v : ℕ) (deed : Deed) (kept : machine.Pane) → effect_of c.command ≡ at_view v deed
      → slice_get s.panes w ≡ Some kept → executed d s w ≡ done_at_view d.pictures (without_front s w) w v deed kept
  executed_is v deed kept effect is_kept =
      by_effect
      ∙ ap (with_effect d.pictures (without_front s w) w) effect
      ∙ ap (λ o. option_map_or (done_at_view d.pictures (without_front s w) w v deed) o (without_front s w)) is_kept

  -- the end of an update leaves every pixel
  ended_shows : (full : IsFull s w) (p q : Pane) (h : PaneShows w (shown_of s w) p) → IsWhole q → effect_of c.command ≡ ends_update
      → Given d.pictures ends_update p q → PaneShows w (shown_of (executed d s w) w) q
  ended_shows full p q h whole effect given =
      let same : executed d s w ≡ with_effect d.pictures (without_front s w) w ends_update =
      by_effect ∙ ap (with_effect d.pictures (without_front s w) w) effect in
      let before : PaneStandsFor p w h.corner h.kept h.tree (owned s w) (cells_in s) = stands_as p w h.corner h.kept h.tree (has_cell (shown_of s w)) (owned s w) (cell_of (shown_of s w)) (cells_in s) (λ x y. sym (has_owned s w full x y)) (λ x y e. sym (cell_owned s w x y (sym (has_owned s w full x y) ∙ e))) h.stands in
      let after : PaneStandsFor q w h.corner (without_session h.kept) h.tree (owned s w) (cells_in s) =
      given w h.corner h.kept h.tree (owned s w) (cells_in s) (pixel_at s) before (λ x y mine. let c = full x y mine in c.1 ∙ ap (λ o. Some (unwrap_or o desktop_cell)) (sym c.1)) in
      let shows : PaneShows w (shown_of (with_effect d.pictures (without_front s w) w ends_update) w) q = record {
        kept = without_session h.kept;
        is_kept = at_here s.panes w without_session h.kept h.is_kept;
        corner = h.corner;
        is_corner = h.is_corner;
        tree = h.tree;
        is_tree = h.is_tree;
        stands = stands_as q w h.corner (without_session h.kept) h.tree (owned s w) (has_cell (shown_of s w)) (cells_in s) (cell_of (shown_of s w)) (has_owned s w full) (λ x y mine. cell_owned s w x y mine) after;
        whole = whole;
      } in
      subst (λ (t : State). PaneShows w (shown_of t w) q) (sym same) shows

-- by what the command does
shown_by : (effect : Effect) (pictures : List Picture) (old new : Slice) (p q : Pane) (x : IsExecuted pictures effect old new)
    (h : PaneShows x.window (shown_of x.state x.window) p) → IsWhole q → Given x.script.pictures effect p q
    → PaneShows x.window (shown_of (executed x.script x.state x.window) x.window) q
shown_by (at_view v deed) pictures old new p q x h whole given =
    let after : executed x.script x.state x.window ≡ done_at_view x.script.pictures (without_front x.state x.window) x.window v deed h.kept =
    executed_is x.script x.state x.window x.command x.oldest v deed h.kept (sym x.effect_is) h.is_kept in
    let shows : PaneShows x.window (shown_of (done_at_view x.script.pictures (without_front x.state x.window) x.window v deed h.kept) x.window) q =
    shows_after x.script.pictures x.state x.window v deed h.kept h.corner h.tree x.full h.is_kept h.is_corner h.is_tree p q h.stands whole given in
    subst (λ (t : State). PaneShows x.window (shown_of t x.window) q) (sym after) shows
shown_by (changes change) pictures old new p q x h whole given = absurd x.no_change
shown_by ends_update pictures old new p q x h whole given =
    ended_shows x.script x.state x.window x.command x.oldest x.full p q h whole (sym x.effect_is) given

pub executed_shows : (pictures : List Picture) (effect : Effect) (old new : Slice) (p q : Pane) → IsExecuted pictures effect old new → PaneIs old p → IsWhole q → Given pictures effect p q → PaneIs new q
executed_shows pictures effect old new p q x is whole given =
    let h : PaneShows x.window (shown_of x.state x.window) p = subst (λ (o : Slice). PaneIs o p) x.before is in
    subst (λ (o : Slice). PaneIs o q) (sym x.after_is)
    (shown_by effect pictures old new p q x h whole (subst (λ l. Given l effect p q) x.pictures_are given))

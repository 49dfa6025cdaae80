-- A new pane shows what the opening has of its window: nothing.
use Rattle.std.specs.Prelude.{ℤ, pos, negsuc, nat_lt, slice_get, if◌then◌else◌}
use Rattle.std.specs.Option.{option_map}
use Rattle.std.proofs.Common.{◌≡◌, ℕ, Bool, true, false, List, map, Option, Some, None, refl, sym, ap, subst, ◌∙◌, ◌*◌, ◌+◌, arith}
use Rattle.std.proofs.lemmas.Option.{slice_get-map}
use Rattle.be_color.specs.declared.colors.Color.{Color}
use Rattle.be_geom.specs.declared.point.Point.{Point}
use Rattle.be_machine.specs.State.{opening_state, opening_window}
use Rattle.be_machine.specs.Windows.{width_of}
use Rattle.be_pane.specs.Panes.{first_pane}
use Rattle.be_pane.specs.SameStacks.{SameStacks}
use Rattle.be_pane.specs.StandsFor.{PaneStandsFor, IsWhole}
use Rattle.be_pane.specs.declared.pane.Pane.{Pane}
use Rattle.be_parts.specs.Stands.{PaneShows, cell_of, has_cell, is_there}
use Rattle.be_rules.specs.Slices.{look_at, shown_of}
use Rattle.be_rules.proofs.Begins.{first_cells}
use Rattle.be_script.specs.Script.{Declared}
use Rattle.be_script.specs.Windows.{colors_of, tree_of}
use Rattle.be_script.specs.declared.WindowLine.{WindowLine}
use Rattle.be_span.specs.declared.Cell.{Cell}
use Rattle.be_state.specs.Stacks.{first_stack, origin_point}
use Rattle.be_views.specs.Trees.{Tree, left_top}
use Rattle.be_opening.proofs.Lists.{got_enumerated, got_none}

-- ---- no pixel

pub none_if : (b : Bool) (o : Option Cell) → o ≡ None → (if b then o else None) ≡ None
none_if true o e = e
none_if false o e = refl

looks_none : (width : ℕ) (cells : List Cell) (x y : ℤ) → look_at width (map (λ _. None) cells) x y ≡ None
looks_none width cells (pos x) (pos y) = none_if (nat_lt x width) _ (got_none cells (y * width + x))
looks_none width cells (pos x) (negsuc y) = refl
looks_none width cells (negsuc x) y = refl

-- no pixel of the screen is the window's
owns_none : (d : Declared) (w : ℕ) (x y : ℤ) → has_cell (shown_of (opening_state d) w) x y ≡ false
owns_none d w x y =
    ap (λ cells. is_there (look_at (width_of (opening_state d)) cells x y)) (first_cells d w)
    ∙ ap is_there (looks_none (width_of (opening_state d)) (opening_state d).screen x y)

-- ---- what is kept

kept_is : (d : Declared) (w : ℕ) (line : WindowLine) → slice_get d.windows w ≡ Some line → (shown_of (opening_state d) w).kept ≡ Some (first_pane (colors_of d w line))
unfolding opening_state
kept_is d w line got =
    let same : 0 + w ≡ w = omega arith in
    got_enumerated (λ p. first_pane (colors_of d p.0 p.1)) 0 d.windows w line got ∙ ap (λ (n : ℕ). Some (first_pane (colors_of d n line))) same

corner_is : (d : Declared) (w : ℕ) (line : WindowLine) → slice_get d.windows w ≡ Some line → (shown_of (opening_state d) w).corner ≡ Some (left_top line.frame)
unfolding opening_state
corner_is d w line got = ap (option_map (λ window. left_top window.frame)) (slice_get-map opening_window d.windows w ∙ ap (option_map opening_window) got)

tree_is : (d : Declared) (w : ℕ) (line : WindowLine) → slice_get d.windows w ≡ Some line → (shown_of (opening_state d) w).tree ≡ Some (tree_of d w line)
unfolding opening_state
tree_is d w line got =
    let same : 0 + w ≡ w = omega arith in
    got_enumerated (λ p. tree_of d p.0 p.1) 0 d.windows w line got ∙ ap (λ (n : ℕ). Some (tree_of d n line)) same

-- a new pane, put at the window's place
pub new_shows : (d : Declared) (w : ℕ) (line : WindowLine) (p : Pane) (colors : List Color) (tree : Tree) (place : Point) → slice_get d.windows w ≡ Some line → colors ≡ colors_of d w line → tree ≡ tree_of d w line → place ≡ left_top line.frame → ((cells : ℤ → ℤ → Cell) → PaneStandsFor p w origin_point (first_pane colors) tree (λ x y. false) cells) → IsWhole p → PaneShows w (shown_of (opening_state d) w) (record p { place = place })
new_shows d w line p colors tree place got colors_are tree_is_of place_is first whole =
    let stands = first (cell_of (shown_of (opening_state d) w)) in
    record {
      kept = first_pane (colors_of d w line);
      is_kept = kept_is d w line got;
      corner = left_top line.frame;
      is_corner = corner_is d w line got;
      tree = tree_of d w line;
      is_tree = tree_is d w line got;
      stands = record {
        number = stands.number;
        place = place_is;
        pixels = λ x y. stands.pixels x y ∙ sym (owns_none d w x y);
        shown = λ x y e. let no : false ≡ true = sym (owns_none d w x y) ∙ e in cc;
        views = stands.views ∙ tree_is_of;
        colors = stands.colors ∙ colors_are;
        stacks = subst (λ (c : List Color). SameStacks p.states.items (map (λ _. first_stack) c)) colors_are stands.stacks;
        session = stands.session;
        notice = stands.notice;
      };
      whole = record {
        colored = whole.colored;
        drawn = whole.drawn;
        within = λ x y has root is_root. let no : false ≡ true = sym (stands.pixels x y) ∙ has in cc;
      };
    }

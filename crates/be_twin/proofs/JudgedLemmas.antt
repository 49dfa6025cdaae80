-- What comes of a deed, by the drawing states of its view.
use Rattle.std.proofs.Common.{◌≡◌, ℕ, ◌<◌, ◌≤◌, ℤ, Bool, false, List, [], length, Option, Some, None, inl, inr, arith, refl, sym, ap, ◌∙◌}
use Rattle.std.specs.Prelude.{slice_get, is_some, option_and_then, option_map}
use Rattle.std.proofs.lemmas.Bool.{true≢false, cases_lt}
use Rattle.std.proofs.lemmas.Option.{slice_get_past}
use Rattle.be_facts.proofs.Lists.{element}
use Rattle.be_geom.specs.declared.point.Point.{Point}
use Rattle.be_bitmap.specs.Pictures.{Picture}
use Rattle.be_command.specs.Effects.{Deed, Effect, at_view, changes, ends_update}
use Rattle.be_pane.specs.Panes.{Pane}
use Rattle.be_pane.specs.declared.pane.Pane as code
use Rattle.be_pane.specs.SameStacks.{SameStack}
use Rattle.be_pane.specs.StandsFor.{PaneStandsFor, IsWhole}
use Rattle.be_pane.proofs.SameLemmas.{stacks_at}
use Rattle.be_span.specs.declared.Cell.{Cell}
use Rattle.be_color.specs.declared.colors.Color.{Color}
use Rattle.be_state.specs.Stacks.{Stack}
use Rattle.be_views.specs.Trees.{Tree, place_of}
use Rattle.be_views.specs.Places.{pair_of}
use Rattle.be_views.specs.Whole.{IsTree}
use Rattle.be_views.proofs.TreeLemmas.{no_place}
use Rattle.be_twin.specs.declared.Outcome.{Outcome}
use Rattle.be_twin.specs.declared.Outcome.TheVariants.{NoView}
use Rattle.be_twin.specs.Deeds.{deed_outcome}
use Rattle.be_twin.specs.Executed.{Sight, outcome_at, sight_by, sight_of}
use Rattle.be_twin.specs.Judged.{ComesOf, IsJudged, by_states}
use Rattle.be_twin.proofs.StackLemmas.{outcome_same}

found : (o : Option Point) → (is_some (option_map pair_of o) ≡ false → ⊥) → (p : Point) × (o ≡ Some p)
found (Some p) h = (p, refl)
found None h = absurd (h refl)

past : (v n : ℕ) → v < n → n ≤ v → ⊥
past v n a b = omega arith

placed : (tree : Tree) (v : ℕ) → IsTree tree → v < length tree → (p : Point) × (place_of tree v ≡ Some p)
placed tree v whole h = found (place_of tree v) (λ none. past v (length tree) h ((no_place tree v whole).0 none))

none_of : (o : Option Point) → is_some (option_map pair_of o) ≡ false → o ≡ None
none_of (Some p) h = absurd (true≢false h)
none_of None h = refl

-- all that is kept of a view, put together of its parts
abbrev seen : Point → Tree → Pane → ℕ → Option Point → Option Stack → Option Color → Option Sight
seen corner tree kept v place stack color =
    option_and_then (λ p. option_and_then (λ s. option_map (sight_by corner tree kept v p s) color) stack) place

sight_there : (corner : Point) (tree : Tree) (kept : Pane) (v : ℕ) (p : Point) (stack : Stack) (color : Color) → place_of tree v ≡ Some p → slice_get kept.stacks v ≡ Some stack → slice_get kept.colors v ≡ Some color → sight_of corner tree kept v ≡ Some (sight_by corner tree kept v p stack color)
unfolding sight_of
sight_there corner tree kept v p stack color place states shown =
    ap (λ o. seen corner tree kept v o (slice_get kept.stacks v) (slice_get kept.colors v)) place
    ∙ ap (λ o. seen corner tree kept v (Some p) o (slice_get kept.colors v)) states
    ∙ ap (λ o. seen corner tree kept v (Some p) (Some stack) o) shown

sight_gone : (corner : Point) (tree : Tree) (kept : Pane) (v : ℕ) → place_of tree v ≡ None → sight_of corner tree kept v ≡ None
unfolding sight_of
sight_gone corner tree kept v place = ap (λ o. seen corner tree kept v o (slice_get kept.stacks v) (slice_get kept.colors v)) place

outcome_there : (pictures : List Picture) (deed : Deed) (corner : Point) (tree : Tree) (kept : Pane) (v : ℕ) (p : Point) (stack : Stack) (color : Color) → outcome_at pictures deed (Some (sight_by corner tree kept v p stack color)) ≡ deed_outcome pictures stack deed
unfolding outcome_at
outcome_there pictures deed corner tree kept v p stack color = refl

outcome_gone : (pictures : List Picture) (deed : Deed) → outcome_at pictures deed None ≡ NoView
unfolding outcome_at
outcome_gone pictures deed = refl

-- what the pane and the machine keep of a view that is there
pub record Found (pane : code.Pane) (corner : Point) (kept : Pane) (tree : Tree) (v : ℕ) : Type 0 where
  pub place : Point
  pub stack : Stack
  pub said : Stack
  pub color : Color
  pub placed : place_of tree v ≡ Some place
  pub stacked : slice_get pane.states.items v ≡ Some stack
  pub colored : slice_get pane.colors.items v ≡ Some color
  pub same : SameStack stack said
  pub sight : sight_of corner tree kept v ≡ Some (sight_by corner tree kept v place said color)

pub found_at : (pane : code.Pane) (v w : ℕ) (corner : Point) (kept : Pane) (tree : Tree) (owned : ℤ → ℤ → Bool) (cells : ℤ → ℤ → Cell) → IsTree pane.tree → IsWhole pane → v < length pane.tree → PaneStandsFor pane w corner kept tree owned cells → Found pane corner kept tree v
found_at pane v w corner kept tree owned cells whole are h stands =
    let drawn = are.drawn in
    let colored = are.colored in
    let place = placed pane.tree v whole h in
    let stack = element pane.states.items v (omega arith) in
    let color = element pane.colors.items v (omega arith) in
    let said = stacks_at pane.states.items kept.stacks v stack.0 stands.stacks stack.1 in
    let there = ap (λ (t : Tree). place_of t v) (sym stands.views) ∙ place.1 in
    let shown = ap (λ (l : List Color). slice_get l v) (sym stands.colors) ∙ color.1 in
    record {
      place = place.0;
      stack = stack.0;
      said = said.0;
      color = color.0;
      placed = there;
      stacked = stack.1;
      colored = color.1;
      same = said.1.1;
      sight = sight_there corner tree kept v place.0 said.0 color.0 there said.1.0 shown;
    }

pub not_found : (pane : code.Pane) (v w : ℕ) (corner : Point) (kept : Pane) (tree : Tree) (owned : ℤ → ℤ → Bool) (cells : ℤ → ℤ → Cell) → IsTree pane.tree → length pane.tree ≤ v → PaneStandsFor pane w corner kept tree owned cells → sight_of corner tree kept v ≡ None
not_found pane v w corner kept tree owned cells whole h stands =
    sight_gone corner tree kept v (ap (λ (t : Tree). place_of t v) (sym stands.views) ∙ none_of (place_of pane.tree v) ((no_place pane.tree v whole).1 h))

there : (pane : code.Pane) (pictures : List Picture) (v : ℕ) (deed : Deed) (corner : Point) (kept : Pane) (tree : Tree) → Found pane corner kept tree v → by_states (slice_get pane.states.items v) (λ s. deed_outcome pictures s deed) ≡ outcome_at pictures deed (sight_of corner tree kept v)
there pane pictures v deed corner kept tree found =
    ap (λ o. by_states o (λ s. deed_outcome pictures s deed)) found.stacked
    ∙ outcome_same pictures deed found.stack found.said found.same
    ∙ sym (outcome_there pictures deed corner tree kept v found.place found.said found.color)
    ∙ sym (ap (outcome_at pictures deed) found.sight)

gone : (pane : code.Pane) (pictures : List Picture) (v : ℕ) (deed : Deed) (corner : Point) (kept : Pane) (tree : Tree) → IsWhole pane → length pane.tree ≤ v → sight_of corner tree kept v ≡ None → by_states (slice_get pane.states.items v) (λ s. deed_outcome pictures s deed) ≡ outcome_at pictures deed (sight_of corner tree kept v)
gone pane pictures v deed corner kept tree are h none =
    let drawn = are.drawn in
    ap (λ o. by_states o (λ s. deed_outcome pictures s deed)) (slice_get_past pane.states.items v (omega arith))
    ∙ sym (outcome_gone pictures deed)
    ∙ sym (ap (outcome_at pictures deed) none)

-- what comes of an effect by what the pane keeps is what comes of it in the window
pub judged_as : (pictures : List Picture) (effect : Effect) (outcome : Outcome) (pane : code.Pane) → IsWhole pane → IsJudged pictures pane effect outcome →
    (w : ℕ) (corner : Point) (kept : Pane) (tree : Tree) (owned : ℤ → ℤ → Bool) (cells : ℤ → ℤ → Cell) → PaneStandsFor pane w corner kept tree owned cells →
    ComesOf pictures corner tree kept effect outcome
judged_as pictures (at_view v deed) outcome pane are judged w corner kept tree owned cells stands =
    judged.comes ∙ (elim (cases_lt v (length pane.tree)) [
      | inl less ↦ there pane pictures v deed corner kept tree (found_at pane v w corner kept tree owned cells judged.tree are less stands)
      | inr more ↦ gone pane pictures v deed corner kept tree are more (not_found pane v w corner kept tree owned cells judged.tree more stands)
    ])
judged_as pictures (changes change) outcome pane are judged w corner kept tree owned cells stands = tt
judged_as pictures ends_update outcome pane are judged w corner kept tree owned cells stands = judged

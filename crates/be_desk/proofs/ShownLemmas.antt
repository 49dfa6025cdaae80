-- Panes of different windows show a screen.
use Rattle.std.specs.Prelude.{ℤ, ◌==◌, slice_get, unwrap_or}
use Rattle.std.proofs.Common.{◌≡◌, ℕ, zero, suc, ◌<◌, Bool, true, false, List, [], ◌∷◌, get_or, Some, None, arith, refl, sym, ap, ◌∙◌, subst}
use Rattle.std.proofs.lemmas.Bool.{eqb-true}
use Rattle.std.proofs.lemmas.Option.{get_or_from_slice_get, same_Some, slice_get_within}
use Rattle.be_geom.specs.Numbers.{is_number}
use Rattle.be_geom.proofs.Numbered.{number_is}
use Rattle.be_pane.specs.declared.pane.Pane.{Pane}
use Rattle.be_span.specs.Cells.{desktop_cell}
use Rattle.be_span.specs.Spans.{cell_in}
use Rattle.be_span.specs.declared.Cell.{Cell}
use Rattle.be_span.proofs.CellLemmas.{cell_none, cell_some}
use Rattle.be_stack.specs.Owner.{owner_at}
use Rattle.be_desk.specs.Changes.{Desk, owns}
use Rattle.be_desk.specs.Laws.{PanesShowAScreen}
use Rattle.be_desk.specs.Plans.{ArePanesOf, AreAscending}

-- the cell of the first pane that has the pixel, else the desktop's
shown_by : List Pane → ℤ → ℤ → Cell
shown_by [] x y = desktop_cell
shown_by (p ∷ ps) x y = unwrap_or (cell_in p.spans x y) (shown_by ps x y)

none_shows : (panes : List Pane) (x y : ℤ) → ((k : ℕ) (pane : Pane) → slice_get panes k ≡ Some pane → cell_in pane.spans x y ≡ None) → shown_by panes x y ≡ desktop_cell
unfolding shown_by
none_shows [] x y none = refl
none_shows (p ∷ ps) x y none =
    ap (λ o. unwrap_or o (shown_by ps x y)) (none zero p refl) ∙ none_shows ps x y (λ k pane got. none (suc k) pane got)

first_shows : (panes : List Pane) (k : ℕ) (pane : Pane) (x y : ℤ) (c : Cell) → slice_get panes k ≡ Some pane → cell_in pane.spans x y ≡ Some c → ((j : ℕ) (other : Pane) → j < k → slice_get panes j ≡ Some other → cell_in other.spans x y ≡ None) → shown_by panes x y ≡ c
unfolding shown_by cell_in
first_shows [] k pane x y c got has none = cc
first_shows (p ∷ ps) zero pane x y c got has none =
    ap (λ o. unwrap_or o (shown_by ps x y)) (ap (λ (q : Pane). cell_in q.spans x y) (same_Some p pane got) ∙ has)
first_shows (p ∷ ps) (suc k) pane x y c got has none =
    ap (λ o. unwrap_or o (shown_by ps x y)) (none zero p (omega arith) refl)
    ∙ first_shows ps k pane x y c got has (λ j other less at. none (suc j) other (omega arith) at)

other_owner : (b : Bool) (u v : ℕ) → (v == u) ≡ b → u < v → b ≡ false
other_owner true u v e less = let same = eqb-true v u e in absurd (omega arith)
other_owner false u v e less = refl

-- one before a pane that has the pixel hasn't got it
none_before : (desk : Desk) (panes : List Pane) (j k : ℕ) (other pane : Pane) (x y : ℤ) → ArePanesOf desk panes → AreAscending panes → j < k → slice_get panes j ≡ Some other → slice_get panes k ≡ Some pane → owns desk pane.window x y ≡ true → cell_in other.spans x y ≡ None
none_before desk panes j k other pane x y of_panes ascending less at got owned =
    let below = ascending j k pane less (slice_get_within panes k pane got) in
    let first = get_or_from_slice_get panes j other pane at in
    let second = get_or_from_slice_get panes k pane pane got in
    let apart : other.window < pane.window = subst (λ (p : Pane). p.window < pane.window) first (subst (λ (p : Pane). (get_or panes j pane).window < p.window) second below) in
    cell_none other.spans x y
    ((of_panes j other at).pixels x y
    ∙ ap (is_number other.window) (number_is pane.window (owner_at desk.windows x y) owned)
    ∙ other_owner (pane.window == other.window) other.window pane.window refl apart)

pub panes_show_a_screen : PanesShowAScreen
panes_show_a_screen desk panes of_panes ascending whole = (
  shown_by panes,
  record {
    windows = λ k pane got x y owned.
        let c = cell_some pane.spans x y (whole k pane got) ((of_panes k pane got).pixels x y ∙ owned) in
        c.1 ∙ ap (λ (d : Cell). Some d) (sym (first_shows panes k pane x y c.0 got c.1 (λ j other less at. none_before desk panes j k other pane x y of_panes ascending less at got owned)));
    desktop = λ x y nobody.
        none_shows panes x y (λ k pane got. cell_none pane.spans x y ((of_panes k pane got).pixels x y ∙ ap (is_number pane.window) nobody));
  },
)

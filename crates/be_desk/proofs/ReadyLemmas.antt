-- What is made ready of a window's pixels is right for them.
use Rattle.std.proofs.Common.{◌≡◌, ℕ, ◌+◌, ℤ, pos, ◌-ℤ◌, Bool, true, false, ◌||◌, ◌&&◌, not, inl, inr, All, cond, List, [], ◌∷◌, ◌++◌, take, slice_get, Option, Some, None, refl, sym, ap, ◌∙◌, add-one}
use Rattle.std.specs.Prelude.{Contains, IsSome}
use Rattle.std.specs.List.{list_any}
use Rattle.std.proofs.lemmas.List.Elements.{All-contains}
use Rattle.std.proofs.lemmas.List.Folds.{list_any-append}
use Rattle.be_facts.proofs.Numbers.{minus_zero}
use Rattle.be_facts.proofs.Truths.{true_or_false}
use Rattle.be_geom.specs.declared.rect.Rect.{Rect}
use Rattle.be_geom.specs.Rects.{rect_has}
use Rattle.be_pane.specs.declared.pane.Pane.{Pane}
use Rattle.be_region.specs.Regions.{region_has, IsDifference}
use Rattle.be_span.specs.declared.Cell.{Cell}
use Rattle.be_span.specs.Cells.{exposed_as}
use Rattle.be_span.specs.Spans.{Spans, cell_in}
use Rattle.be_span.proofs.LaidLemmas.{has_more}
use Rattle.be_desk.specs.Changes.{or_exposed}
use Rattle.be_desk.specs.Renewals.{AreUnder, IsShown, KeepsAt, brought_by, brought_to, color_at, is_kept_by, owned, renewed_cell}
use Rattle.be_desk.specs.Ready.{IsShiftBy}
use Rattle.be_desk.specs.Shifts.{newest, shifted}
use Rattle.be_desk.specs.declared.shift.Shift.{Shift}
use Rattle.be_desk.specs.declared.renewal.Motion.{Motion}
use Rattle.be_desk.specs.declared.renewal.Motion.TheVariants.{Still}
use Rattle.be_desk.specs.declared.renewal.Renewal.{Renewal}
use Rattle.be_desk.proofs.ShiftLemmas.{AreWhole, newest_is, newest_none, newest_some, shifted_cell}

-- ---- the parts

-- those of one rectangle more
pub parts_more : (parts : List Spans) (part : Spans) (rs : List Rect) (m : ℕ) (r : Rect) (x y : ℤ) → slice_get rs m ≡ Some r → list_any (λ s. region_has s.rects x y) parts ≡ region_has (take m rs) x y → region_has part.rects x y ≡ rect_has r x y → list_any (λ s. region_has s.rects x y) (parts ++ part ∷ []) ≡ region_has (take (m + 1) rs) x y
parts_more parts part rs m r x y e so_far is =
    list_any-append (λ (s : Spans). region_has s.rects x y) parts (part ∷ [])
    ∙ ap (λ b. b || (region_has part.rects x y || false)) so_far ∙ ap (λ b. region_has (take m rs) x y || (b || false)) is
    ∙ ap (λ b. region_has (take m rs) x y || b) (or_false (rect_has r x y)) ∙ sym (rw add-one (has_more rs m r x y e))
  where
    or_false : (b : Bool) → (b || false) ≡ b
    or_false true = refl
    or_false false = refl

-- some pixels of a region
pub under_part : (panes : List Pane) (region part : List Rect) (cells : ℤ → ℤ → Cell) → ((x y : ℤ) → region_has part x y ≡ true → region_has region x y ≡ true) → AreUnder panes region cells → AreUnder panes part cells
under_part panes region part cells inside under = record {
  shown = under.shown;
  desktop = λ x y has none. under.desktop x y (inside x y has) none;
}

-- ---- the way

pub keeps_still : (r : Renewal) → r.motion ≡ Still → KeepsAt r (pos 0) (pos 0)
keeps_still r still = record {
  kept = λ x y. ap (λ (m : Motion). is_kept_by m r x y) still ∙ ap (λ z. owned r z y) (sym (minus_zero x)) ∙ ap (λ w. owned r (x -ℤ pos 0) w) (sym (minus_zero y));
  brought = λ x y. ap (λ (m : Motion). brought_by m r.pane.now.spans x y) still ∙ ap (λ z. cell_in r.pane.now.spans z y) (sym (minus_zero x)) ∙ ap (λ w. cell_in r.pane.now.spans (x -ℤ pos 0) w) (sym (minus_zero y));
}

-- ---- a pixel

-- one that is kept has the cell that was there
kept_cell : (r : Renewal) (dx dy : ℤ) (cells : ℤ → ℤ → Cell) (x y : ℤ) → KeepsAt r dx dy → IsShown cells r.pane.now → owned r (x -ℤ dx) (y -ℤ dy) ≡ true → cell_in r.pane.now.spans (x -ℤ dx) (y -ℤ dy) ≡ Some (renewed_cell r x y (cells x y))
kept_cell r dx dy cells x y keeps shown has =
    let exposed : Cell = exposed_as (color_at r x y) (cells x y) in
    let was = shown (x -ℤ dx) (y -ℤ dy) has in
    was ∙ ap (λ (c : Cell). Some c) (sym (ap (λ b. or_exposed (cond b (brought_to r x y) None) exposed) (keeps.kept x y ∙ has) ∙ ap (λ (o : Option Cell). or_exposed o exposed) (keeps.brought x y ∙ was)))

-- what a region has beside what was moved there
beside_has : (a b : Bool) → (a && not b) ≡ false → a ≡ true → b ≡ true
beside_has true true e has = refl
beside_has true false e has = cc
beside_has false b e has = cc

-- a pixel of a buffer that is shifted
pub ready_cell : (r : Renewal) (dx dy : ℤ) (panes : List Pane) (region exposed moved next : List Rect) (fresh : List Spans) (cells : ℤ → ℤ → Cell) (x y : ℤ) → KeepsAt r dx dy → Contains panes r.pane.now → ((z w : ℤ) → region_has moved z w ≡ owned r (z -ℤ dx) (w -ℤ dy)) → IsDifference exposed region moved → ((z w : ℤ) → list_any (λ s. region_has s.rects z w) fresh ≡ region_has exposed z w) → All (λ (s : Spans). (z w : ℤ) → region_has s.rects z w ≡ true → cell_in s z w ≡ Some (renewed_cell r z w (cells z w))) fresh → AreUnder panes region cells → next ≡ region → region_has region x y ≡ true → cell_in (shifted dx dy next fresh r.pane.now.spans) x y ≡ Some (renewed_cell r x y (cells x y))
ready_cell r dx dy panes region exposed moved next fresh cells x y keeps listed was beside parts each under same has =
    shifted_cell dx dy next fresh r.pane.now.spans x y (renewed_cell r x y (cells x y)) (ap (λ l. region_has l x y) same ∙ has)
    (elim (true_or_false (region_has exposed x y)) [
      | inl h ↦ newest_is fresh x y (renewed_cell r x y (cells x y)) _ (λ k s less has_it. each k s less x y has_it) (inr (parts x y ∙ h))
      | inr h ↦
          let there = sym (was x y) ∙ beside_has (region_has region x y) (region_has moved x y) (sym (beside x y) ∙ h) has in
          newest_none fresh x y _ (parts x y ∙ h)
          ∙ kept_cell r dx dy cells x y keeps (All-contains (IsShown cells) panes r.pane.now under.shown listed) there
    ])

-- a pixel that wasn't there is in some part
pub newly_there : (region exposed moved : List Rect) (fresh : List Spans) (x y : ℤ) → IsDifference exposed region moved → ((z w : ℤ) → list_any (λ s. region_has s.rects z w) fresh ≡ region_has exposed z w) → AreWhole fresh → region_has region x y ≡ true → region_has moved x y ≡ false → IsSome (newest fresh x y None)
newly_there region exposed moved fresh x y beside parts whole has gone =
    newest_some fresh x y None whole (parts x y ∙ beside x y ∙ ap (λ b. b && not (region_has moved x y)) has ∙ ap not gone)

-- by its own numbers
pub shift_same : (dx dy : ℤ) (from next : List Rect) (fresh : List Spans) (shift : Shift) (old : Spans) → IsShiftBy dx dy from next fresh shift → shifted shift.dx shift.dy shift.next shift.fresh.items old ≡ shifted dx dy next fresh old
shift_same dx dy from next fresh shift old is =
    ap (λ d. shifted d shift.dy shift.next shift.fresh.items old) is.right
    ∙ ap (λ d. shifted dx d shift.next shift.fresh.items old) is.down
    ∙ ap (λ (l : List Rect). shifted dx dy l shift.fresh.items old) is.after
    ∙ ap (λ (l : List Spans). shifted dx dy next l old) is.exposed

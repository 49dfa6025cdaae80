-- Cells side by side in a row of the screen.
use Rattle.std.proofs.Common.{◌≡◌, ℕ, zero, suc, ◌+◌, ◌*◌, ◌<◌, ◌≤◌, Bool, true, false, List, [], length, Option, Some, None, refl, sym, ap, ◌∙◌, subst, arith, pos}
use Rattle.std.specs.Prelude.{nat_lt, slice_get, if◌then◌else◌}
use Rattle.std.proofs.lemmas.Bool.Decides.{nat_tests}
use Rattle.be_facts.proofs.Numbers.{index_below, nat_lt_from}
use Rattle.be_facts.proofs.Lists.{element}
use Rattle.be_script.specs.Script.{Declared}
use Rattle.be_span.specs.Cells.{desktop_cell}
use Rattle.be_span.specs.Screen.{cell_at}
use Rattle.be_span.specs.declared.Cell.{Cell}
use Rattle.be_machine.specs.Pixels.{pixel_at}
use Rattle.be_machine.specs.State.{State}
use Rattle.be_machine.specs.Windows.{width_of}
use Rattle.be_rules.specs.Rules.{IsSound}
use Rattle.be_rules.specs.Slices.{Slice, state_of}
use Rattle.be_rules.proofs.Lawfully.{state, whole, back}
use Rattle.be_shown.specs.Pixels.{HasCells, pixel_in}
use Rattle.be_shown.proofs.Owners.{on_screen, desktop_there}
use Rattle.be_written.specs.Screens.{AreCellsOf}

below_by : (b : Bool) (x width : ℕ) (o : Option Cell) (c : Cell) → nat_lt x width ≡ b → (if b then o else None) ≡ Some c → (x < width) × (o ≡ Some c)
below_by true x width o c test e = (grind (arith, nat_tests), e)
below_by false x width o c test e = absurd (cc)

-- a cell of the screen by column and row
cell_below : (width : ℕ) (cells : List Cell) (x y : ℕ) (c : Cell) → cell_at width cells (pos x) (pos y) ≡ Some c → (x < width) × (slice_get cells (y * width + x) ≡ Some c)
unfolding cell_at
cell_below width cells x y c e = below_by (nat_lt x width) x width (slice_get cells (y * width + x)) c refl e

pub cell_inside : (width : ℕ) (cells : List Cell) (x y : ℕ) → x < width → cell_at width cells (pos x) (pos y) ≡ slice_get cells (y * width + x)
unfolding cell_at
cell_inside width cells x y lt = rw (nat_lt_from x width lt) refl

pub further : (a b c : ℕ) → a + b + c ≡ a + (b + c)
further a b c = omega arith

module _ (d : Declared) (all : List Slice) (sound : IsSound d all) where
  abbrev s : State
  s = state d all sound

  wide : width_of s ≡ d.width
  wide = (whole d all sound).parts.width

  -- the cell of a column and a row, where a slice has it
  at_column : (k : ℕ) (slice : Slice) (x y : ℕ) (c : Cell) → slice_get all k ≡ Some slice → pixel_in slice (pos x) (pos y) ≡ Some c → (x < d.width) × (slice_get s.screen (y * d.width + x) ≡ Some c)
  at_column k slice x y c there e =
      let pixel : pixel_at s (pos x) (pos y) ≡ Some c = on_screen d all sound k slice (pos x) (pos y) c there e in
      let found = cell_below (width_of s) s.screen x y c pixel in
      (subst (λ n. x < n) wide found.0, subst (λ n. slice_get s.screen (y * n + x) ≡ Some c) wide found.1)

  found_there : (k : ℕ) (slice : Slice) (x y j : ℕ) (cells : List Cell) (c : Cell) → slice_get all k ≡ Some slice → HasCells slice x y cells → j < length cells → slice_get cells j ≡ Some c → (x + j < d.width) × (slice_get s.screen (y * d.width + (x + j)) ≡ Some c)
  found_there k slice x y j cells c there has lt is = at_column k slice (x + j) y c there (has j lt ∙ is)

  -- cells that a slice has from a pixel on are the screen's
  pub cells_are : (k : ℕ) (slice : Slice) (x y : ℕ) (cells : List Cell) → slice_get all k ≡ Some slice → HasCells slice x y cells → AreCellsOf (state_of d all).screen (y * d.width + x) cells
  cells_are k slice x y cells there has j lt =
      let c = element cells j lt in
      let found = found_there k slice x y j cells c.0 there has lt c.1 in
      ap (λ z. slice_get z.screen (y * d.width + x + j)) (back d all sound)
      ∙ ap (slice_get s.screen) (further (y * d.width) x j)
      ∙ found.1
      ∙ sym c.1

  within_by : (k : ℕ) (slice : Slice) (x y n : ℕ) (cells : List Cell) → n ≡ length cells → x < d.width → slice_get all k ≡ Some slice → HasCells slice x y cells → x + n ≤ d.width
  within_by k slice x y zero cells long lt there has = omega arith
  within_by k slice x y (suc n) cells long lt there has =
      let inside : n < length cells = omega arith in
      let c = element cells n inside in
      let last : x + n < d.width = (found_there k slice x y n cells c.0 there has inside c.1).0 in
      omega arith

  -- and lie in its row
  pub cells_within : (k : ℕ) (slice : Slice) (x y : ℕ) (cells : List Cell) → x < d.width → slice_get all k ≡ Some slice → HasCells slice x y cells → x + length cells ≤ d.width
  cells_within k slice x y cells lt there has = within_by k slice x y (length cells) cells refl lt there has

  -- where no slice has a pixel the screen's cell is the desktop's
  pub desktop_is : (x y : ℕ) → x < d.width → y < d.height → ((k : ℕ) (slice : Slice) → slice_get all k ≡ Some slice → pixel_in slice (pos x) (pos y) ≡ None) → slice_get (state_of d all).screen (y * d.width + x) ≡ Some desktop_cell
  desktop_is x y inside below none =
      let on : y * d.width + x < length s.screen = subst (λ n. y * d.width + x < n) (sym (whole d all sound).parts.screen) (index_below x y d.width d.height inside below) in
      let c = element s.screen (y * d.width + x) on in
      let narrow : x < width_of s = subst (λ n. x < n) (sym wide) inside in
      let pixel : pixel_at s (pos x) (pos y) ≡ Some c.0 = cell_inside (width_of s) s.screen x y narrow ∙ ap (λ n. slice_get s.screen (y * n + x)) wide ∙ c.1 in
      ap (λ z. slice_get z.screen (y * d.width + x)) (back d all sound)
      ∙ c.1
      ∙ ap Some (desktop_there d all sound (pos x) (pos y) c.0 none pixel)

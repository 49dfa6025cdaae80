-- The old pixels go their way, and beside them others are exposed.
use Rattle.std.proofs.Common.{◌≡◌, ℤ, ◌-ℤ◌, true, Some, refl, sym, ap, ◌∙◌}
use Rattle.std.specs.Prelude.{not}
use Rattle.std.proofs.lemmas.Bool.{and_parts}
use Rattle.std.proofs.lemmas.Int.{to_z-of_z}
use Rattle.std.proofs.lemmas.Result.{IfOk-weaker}
use Rattle.be_region.specs.Regions.{region_has, SamePixels}
use Rattle.be_span.specs.declared.Cell.{Cell}
use Rattle.be_span.specs.Spans.{cell_in}
use Rattle.be_desk.specs.Plans.{lent}
use Rattle.be_desk.specs.Ready.{IsShiftBy}
use Rattle.be_desk.specs.Renewals.{AreUnder, renewed_cell}
use Rattle.be_desk.specs.Shifts.{shifted}
use Rattle.be_desk.specs.declared.shift.Shift.{Shift}
use Rattle.be_desk.proofs.ReadyLemmas.{newly_there, ready_cell, shift_same, under_part}
use Rattle.be_desk.proofs.ready.shift_to.Goals as goal

pub fresh_parts-requires-clause-colored : goal.fresh_parts-requires-clause-colored
fresh_parts-requires-clause-colored c x y has =
    c.requires.colored x y (and_parts (region_has c.args.region x y) (not (region_has c.args.moved x y)) (sym (c.in_ok-exposed.ensures x y) ∙ has)).0

pub shift_of-requires-clause-moved : goal.shift_of-requires-clause-moved
shift_of-requires-clause-moved c x y =
    let owned_there = c.in_ok-from.ensures (x -ℤ c.args.dx) (y -ℤ c.args.dy) ∙ ap (λ l. region_has l (x -ℤ c.args.dx) (y -ℤ c.args.dy)) c.region-2.ensures.region in
    simp (to_z-of_z, c.ranges.dx, c.ranges.dy) (c.requires.moved x y ∙ sym owned_there)

pub shift_of-requires-clause-fresh : goal.shift_of-requires-clause-fresh
shift_of-requires-clause-fresh c x y has gone =
    newly_there c.args.region c.in_ok-exposed.exposed c.args.moved c.in_ok-fresh.fresh.items x y c.in_ok-exposed.ensures c.in_ok-fresh.ensures.region c.in_ok-fresh.ensures.whole has gone

pub returns : goal.returns
returns c =
    let dx = c.args.dx in
    let dy = c.args.dy in
    let old = c.args.renewal.now.pane.now.spans in
    let fresh = c.in_ok-fresh.fresh.items in
    let shift = simp (to_z-of_z, c.ranges.dx, c.ranges.dy) at c.shift_of.ensures in
    let is : Shift → Type 0 = IsShiftBy dx dy c.in_ok-from.from c.args.region fresh in
    record {
      its = IfOk-weaker c.shift_of.result is (λ (s : Shift). SamePixels s.from old.rects) (λ s of x y. ap (λ l. region_has l x y) of.before ∙ c.in_ok-from.ensures x y ∙ ap (λ l. region_has l x y) c.region-2.ensures.region) shift;
      region = IfOk-weaker c.shift_of.result is (λ (s : Shift). s.next ≡ c.args.region) (λ s of. of.after) shift;
      cells = IfOk-weaker c.shift_of.result is (λ (s : Shift). (cells : ℤ → ℤ → Cell) → AreUnder (lent c.args.panes.now) c.args.region cells → (x y : ℤ) → region_has c.args.region x y ≡ true → cell_in (shifted s.dx s.dy s.next s.fresh.items old) x y ≡ Some (renewed_cell c.args.renewal.now x y (cells x y)))
          (λ s of cells under x y has.
          let inside = λ (z w : ℤ) (has_it : region_has c.in_ok-exposed.exposed z w ≡ true). (and_parts (region_has c.args.region z w) (not (region_has c.args.moved z w)) (sym (c.in_ok-exposed.ensures z w) ∙ has_it)).0 in
          let each = c.in_ok-fresh.ensures.cells cells (under_part (lent c.args.panes.now) c.args.region c.in_ok-exposed.exposed cells inside under) in
          ap (λ t. cell_in t x y) (shift_same dx dy c.in_ok-from.from c.args.region fresh s old of)
          ∙ ready_cell c.args.renewal.now dx dy (lent c.args.panes.now) c.args.region c.in_ok-exposed.exposed c.args.moved c.args.region fresh cells x y c.requires.way c.requires.listed c.requires.moved c.in_ok-exposed.ensures c.in_ok-fresh.ensures.region each under refl has) shift;
    }

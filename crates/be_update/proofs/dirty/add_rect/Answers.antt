use Rattle.std.proofs.Common.{◌≡◌, ◌+ℤ◌, ◌||◌, pos, Bool, true, false, SFits, w16, rules, refl, sym, ap, ◌∙◌, arith}
use Rattle.std.specs.Prelude.{◌&&◌}
use Rattle.std.proofs.lemmas.Int.{ints, to_z-of_z}
use Rattle.be_region.specs.Regions.{region_has}
use Rattle.be_span.specs.Spans.{cell_in, is_dirty}
use Rattle.be_span.proofs.GridLemmas.{has_from}
use Rattle.be_update.proofs.RowLemmas.{IsRowOf, rect_more, rows_none}
use Rattle.be_update.proofs.dirty.add_rect.Goals as goal

or_false : (b : Bool) → b ≡ (b || false)
or_false true = refl
or_false false = refl

pub loop-row-init : goal.loop-row-init
loop-row-init c x y =
    or_false (region_has c.args.rects.now.items x y)
    ∙ ap (λ v. region_has c.args.rects.now.items x y || (v && is_dirty (cell_in c.args.spans.now x y))) (sym (rows_none c.args.rect x y))

pub row_of-requires-clause-inside : goal.row_of-requires-clause-inside
row_of-requires-clause-inside c =
    let left : SFits w16 c.args.rect.left = search rules in
    let right : SFits w16 c.args.rect.right = search rules in
    let top : SFits w16 c.args.rect.top = search rules in
    let bottom : SFits w16 c.args.rect.bottom = search rules in
    let row : SFits w16 c.row_at-y.result = search rules in
    let high = simp to_z-of_z at c.count_of-row-end.ensures in
    let below = c.loop-row-test.true in
    let at = c.row_at-y.ensures in
    simp to_z-of_z (λ x from to. c.requires.inside x c.row_at-y.result (has_from c.args.rect x c.row_at-y.result (record { left = from; right = to; top = omega (arith, ints); bottom = omega (arith, ints) })))

pub loop-row-preserved : goal.loop-row-preserved
loop-row-preserved c =
    let left : SFits w16 c.args.rect.left = search rules in
    let right : SFits w16 c.args.rect.right = search rules in
    let row : SFits w16 c.row_at-y.result = search rules in
    let more = simp c.row_at-y.ensures at (simp to_z-of_z at c.in_ok-add_row.ensures) in
    let width = simp to_z-of_z at c.row_of.ensures.width in
    let cells = simp c.row_at-y.ensures at (simp to_z-of_z at c.row_of.ensures.cells) in
    let of : IsRowOf c.args.spans.now c.args.rect (c.args.rect.top +ℤ pos c.loop-row.row) c.row_of.result.now = record { width = width; cells = cells } in
    rect_more c.args.spans.now c.args.rect c.loop-row.row c.row_of.result.now c.args.rects.now.items c.loop-row.rects.items c.add_row.new.rects.items of c.loop-row.invariant more

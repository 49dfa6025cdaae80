use Rattle.std.specs.Prelude.{pos, slice_get}
use Rattle.std.proofs.Common.{◌≡◌, ◌+◌, ◌*◌, ◌<◌, ◌∙◌, subst, take, arith}
use Rattle.be_bitmap.specs.Pictures.{bitmap_pixel}
use Rattle.be_bitmap.specs.Sides.{IsRefused}
use Rattle.be_world.proofs.Pixels.{all_rows, next_row, not_refused}
use Rattle.be_world.proofs.bitmaps.copy_of.Goals as goal

pub loop-row-preserved : goal.loop-row-preserved
loop-row-preserved c =
    let p = c.args.bitmap.now in
    let inside : c.loop-row.row < p.height = omega (arith, c.height-height.ensures.height) in
    c.in_ok-extend_from_slice.ensures.items
    ∙ next_row p c.loop-row.row c.row_from.result.now inside
    (λ k. subst (λ r. slice_get c.row_from.result.now k ≡ bitmap_pixel p (pos (0 + k)) (pos r))
    c.from.ensures (c.row_from.ensures.pixels k))
    c.loop-row.pixels.items c.width-width.ensures.picture c.loop-row.invariant

pub unreachable-requires : goal.unreachable-requires
unreachable-requires c =
    let p = c.args.bitmap.now in
    let all : c.loop-row.row ≡ p.height = omega (arith, c.height-height.ensures.height) in
    not_refused p c.in-Err.field-0 c.loop-row.pixels.items c.width-width.ensures.picture
    (all_rows p c.loop-row.pixels.items c.width-width.ensures.picture
    (c.loop-row.invariant ∙ (λ i. take (all i * p.width) p.colors)))
    (subst (λ w. IsRefused c.in-Err.field-0 w p.height c.loop-row.pixels.items)
    c.width-width.ensures.width
    (subst (λ h. IsRefused c.in-Err.field-0 c.width-width.result h c.loop-row.pixels.items)
    c.height-height.ensures.height c.in-Err.ensures.refused))

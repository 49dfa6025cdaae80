use Rattle.std.proofs.Common.{rules, pos, ◌+ℤ◌, ◌-ℤ◌, SFits, w16, w32, arith, ◌∙◌, sym}
use Rattle.std.proofs.lemmas.Int.{to_z-of_z, ints}
use Rattle.be_paint.proofs.GlyphLemmas.{no_masks, text_skip, text_past}
use Rattle.be_paint.proofs.glyphs.masks_at.Goals as goal

pub returns-then-codes-count : goal.returns-then-codes-count
returns-then-codes-count c =
    let near : SFits w16 c.glyphs_before-count.result.1 = search rules in
    let x : SFits w32 c.args.x = search rules in
    let px : SFits w16 c.args.pen.x = search rules in
    let pen = simp to_z-of_z at c.glyphs_before-count.ensures.pen in
    let before = simp to_z-of_z at c.glyphs_before-count.ensures.before in
    let few = c.if-codes-count.true in
    no_masks c.args.codes.now c.args.pen.x c.args.pen.y c.args.x (λ y k h.
    text_past c.args.codes.now c.glyphs_before-count.result.0 c.args.pen.x c.glyphs_before-count.result.1 c.args.pen.y (c.args.x +ℤ pos k) y pen (omega (arith, ints)) (λ some. let b = before some in omega (arith, ints)) (omega arith))

pub returns : goal.returns
returns c =
    let near : SFits w16 c.glyphs_before-count.result.1 = search rules in
    let x : SFits w32 c.args.x = search rules in
    let px : SFits w16 c.args.pen.x = search rules in
    let pen = simp to_z-of_z at c.glyphs_before-count.ensures.pen in
    let before = simp to_z-of_z at c.glyphs_before-count.ensures.before in
    let many = c.if-codes-count.false in
    let masks = simp to_z-of_z at c.masks_of.ensures c.args.pen.y in
    record {
      seven = masks.seven;
      each = λ k row h r.
          masks.each k row h r
          ∙ sym (text_skip c.args.codes.now c.glyphs_before-count.result.0 c.args.pen.x c.glyphs_before-count.result.1 c.args.pen.y (c.args.x +ℤ pos k) (c.args.pen.y -ℤ pos 6 +ℤ pos row) pen (omega (arith, ints)) (λ some. let b = before some in omega (arith, ints)) (omega arith));
    }

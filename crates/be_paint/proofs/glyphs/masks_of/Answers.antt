use Rattle.std.proofs.Common.{rules, ℤ, pos, ◌+ℤ◌, ◌-ℤ◌, ◌≡◌, ◌∙◌, ◌<◌, ◌||◌, ℕ, SFits, w16, w32, to_z, get_or, slice_index, refl, add-one, arith}
use Rattle.std.proofs.Math.ListN.{drop}
use Rattle.std.proofs.lemmas.Int.{to_z-of_z, ints, clamps}
use Rattle.be_span.specs.Slices.{mask_bit}
use Rattle.be_paint.specs.Inks.{glyph_covers, pen_behind}
use Rattle.be_paint.proofs.GlyphLemmas.{AreGathered, gathered_all, gathered_more, text_behind, text_end}
use Rattle.be_paint.proofs.glyphs.masks_of.Goals as goal

pub returns-then-x-left : goal.returns-then-x-left
returns-then-x-left c =
    let p : SFits w16 c.args.pen = search rules in
    let x : SFits w32 c.args.x = search rules in
    let low = c.requires.0 in
    let high = c.requires.1 in
    let most = c.loop-code.invariant.most in
    let codes = c.args.codes.now in
    let left : ℤ = to_z w32 c.loop-code.left-bits in
    let end : SFits w32 (c.args.x +ℤ pos 63) = search rules in
    let behind = simp to_z-of_z at c.if-x-left.true in
    let gathered : AreGathered codes (drop c.loop-code.code-index codes) c.args.pen left c.args.x c.loop-code.masks = simp to_z-of_z at c.loop-code.invariant.gathered in
    gathered_all codes (drop c.loop-code.code-index codes) c.args.pen left c.args.x c.loop-code.masks c.loop-code.invariant.seven gathered
    (λ pen_y y k h. text_behind (drop c.loop-code.code-index codes) left pen_y (c.args.x +ℤ pos k) y (omega (arith, ints)) most)

pub loop-code-preserved : goal.loop-code-preserved
loop-code-preserved c =
    let p : SFits w16 c.args.pen = search rules in
    let x : SFits w32 c.args.x = search rules in
    let low = c.requires.0 in
    let high = c.requires.1 in
    let least = c.loop-code.invariant.least in
    let most = c.loop-code.invariant.most in
    let codes = c.args.codes.now in
    let i = c.loop-code.code-index in
    let code = get_or codes i 0 in
    let left : ℤ = to_z w32 c.loop-code.left-bits in
    let away : SFits w32 (to_z w32 c.loop-code.left-bits -ℤ c.args.x) = search rules in
    let next : SFits w32 c.min-left.result = search rules in
    let six : SFits w32 (to_z w32 c.loop-code.left-bits +ℤ pos 6) = search rules in
    let pen : c.min-left.result ≡ pen_behind left = simp to_z-of_z at c.min-left.ensures.value in
    let gathered : AreGathered codes (drop i codes) c.args.pen left c.args.x c.loop-code.masks = simp to_z-of_z at c.loop-code.invariant.gathered in
    let added : (k row : ℕ) → k < 64 → row < 7 → mask_bit (slice_index c.add_glyph.new.masks row) k ≡ (mask_bit (slice_index c.loop-code.masks row) k || glyph_covers code (pos k -ℤ (left -ℤ c.args.x)) (pos row)) = simp to_z-of_z at c.add_glyph.ensures.each in
    simp to_z-of_z record {
      least = omega (arith, ints, clamps);
      most = omega (arith, ints, clamps);
      seven = c.add_glyph.ensures.len ∙ c.loop-code.invariant.seven;
      gathered = rw (pen, add-one c.loop-code.code-index) (gathered_more codes i code c.loop-code.masks c.add_glyph.new.masks c.args.pen left c.args.x c.loop-code-test.true refl added gathered);
    }

pub returns : goal.returns
returns c =
    let p : SFits w16 c.args.pen = search rules in
    let x : SFits w32 c.args.x = search rules in
    let codes = c.args.codes.now in
    let left : ℤ = to_z w32 c.loop-code.left-bits in
    let gathered : AreGathered codes (drop c.loop-code.code-index codes) c.args.pen left c.args.x c.loop-code.masks = simp to_z-of_z at c.loop-code.invariant.gathered in
    gathered_all codes (drop c.loop-code.code-index codes) c.args.pen left c.args.x c.loop-code.masks c.loop-code.invariant.seven gathered
    (λ pen_y y k h. text_end codes c.loop-code.code-index left pen_y (c.args.x +ℤ pos k) y c.loop-code-test.false)

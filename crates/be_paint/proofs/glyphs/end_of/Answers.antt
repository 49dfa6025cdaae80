use Rattle.std.proofs.Common.{rules, ◌≡◌, ◌≤◌, ◌+ℤ◌, ◌<ℤ◌, pos, SFits, w16, w32, to_z, arith}
use Rattle.std.proofs.lemmas.Int.{to_z_pos, to_z-of_z, ints, clamps}
use Rattle.be_paint.proofs.GlyphLemmas.{text_ended}
use Rattle.be_paint.proofs.glyphs.end_of.Goals as goal

pub returns-clause-end : goal.returns-clause-end
returns-clause-end c x y behind =
    let p : SFits w16 c.args.pen.x = search rules in
    let a : SFits w32 c.from.result = search rules in
    let pen = simp to_z-of_z at c.from.ensures in
    let least = c.min-columns.ensures in
    let all = c.saturating_mul.ensures in
    let few : c.min-columns.result ≤ 65544 = omega arith in
    let columns : to_z w32 c.min-columns.result ≡ pos c.min-columns.result = to_z_pos w32 c.min-columns.result (omega arith) in
    let sum : SFits w32 (c.from.result +ℤ pos c.min-columns.result) = search rules in
    let after : (c.from.result +ℤ pos c.min-columns.result) <ℤ x = simp to_z-of_z at (rw columns at behind) in
    text_ended c.args.codes.now c.args.pen.x c.args.pen.y x y (omega (arith, ints)) (omega (arith, ints, clamps))

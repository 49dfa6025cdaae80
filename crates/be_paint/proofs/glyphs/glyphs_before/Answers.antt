use Rattle.std.proofs.Common.{rules, ◌+ℤ◌, SFits, w16, w32, arith}
use Rattle.std.proofs.lemmas.Int.{to_z-of_z, ints}
use Rattle.be_paint.proofs.GlyphLemmas.{steps_within}
use Rattle.be_paint.proofs.glyphs.glyphs_before.Goals as goal

pub returns-clause-pen : goal.returns-clause-pen
returns-clause-pen c =
    let p : SFits w16 c.args.pen = search rules in
    let a : SFits w32 c.from.result = search rules in
    let b : SFits w32 c.from-2.result = search rules in
    let e1 = simp to_z-of_z at c.from.ensures in
    let e2 = c.from-2.ensures in
    let e3 = c.from-3.ensures in
    let within = steps_within c.columns_before-count.result in
    let stops = simp to_z-of_z at c.columns_before-count.ensures.stops in
    let sum : SFits w16 (c.from.result +ℤ c.from-2.result) = search rules in
    let sum32 : SFits w32 (c.from.result +ℤ c.from-2.result) = search rules in
    simp to_z-of_z (omega (arith, ints))

use Rattle.std.proofs.Common.{rules, ◌+◌, ℤ, SFits, w16, to_z, drop, sym, ap, ◌∙◌}
use Rattle.std.proofs.lemmas.Int.{to_z-of_z}
use Rattle.be_paint.specs.Inks.{pen_after_text}
use Rattle.be_twin.proofs.MadeLemmas.{behind_more, stopped}
use Rattle.be_twin.proofs.drawing.pen_behind.Goals as goal

pub loop-code-preserved : goal.loop-code-preserved
loop-code-preserved c =
    let x : ℤ = to_z w16 c.loop-code.x-bits in
    let fits : SFits w16 x = search rules in
    let sum : SFits w16 c.saturating_add-x.result = search rules in
    let codes = c.args.codes.now in
    let k = c.loop-code._code-index in
    simp to_z-of_z (ap (pen_after_text (drop (k + 1) codes)) (c.saturating_add-x.ensures ∙ stopped x fits) ∙ sym (behind_more codes k x c.loop-code-test.true) ∙ c.loop-code.invariant)

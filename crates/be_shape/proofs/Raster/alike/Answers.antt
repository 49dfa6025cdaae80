use Rattle.std.proofs.Common.{SFits, w32, sym, ◌∙◌, rules}
use Rattle.std.proofs.lemmas.Int.{to_z-of_z}
use Rattle.be_shape.proofs.RasterLemmas.{fill_is, frame_is}
use Rattle.be_shape.proofs.Raster.alike.Goals as goal

pub returns-in-Fill-clause-same : goal.returns-in-Fill-clause-same
returns-in-Fill-clause-same c =
    let h : SFits w32 c.args.y = c.ranges.y in
    let m : SFits w32 c.alike.result = search rules in
    let same = simp to_z-of_z at c.alike.ensures.same in
    let is = fill_is c.args.self.now c.in-Fill.rect in
    simp to_z-of_z (λ x z from to. sym (is x z c.in-Fill.is) ∙ same x z from to ∙ is x c.args.y c.in-Fill.is)

pub returns-in-Frame-clause-same : goal.returns-in-Frame-clause-same
returns-in-Frame-clause-same c =
    let h : SFits w32 c.args.y = c.ranges.y in
    let m : SFits w32 c.alike-in-Frame.result = search rules in
    let same = simp to_z-of_z at c.alike-in-Frame.ensures.same in
    let is = frame_is c.args.self.now c.in-Frame.rect c.in-Frame.pen in
    simp to_z-of_z (λ x z from to. sym (is x z c.in-Frame.is) ∙ same x z from to ∙ is x c.args.y c.in-Frame.is)

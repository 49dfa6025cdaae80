use Rattle.std.proofs.Common.{SFits, w16, w32, w64, ◌∙◌, rules}
use Rattle.std.proofs.lemmas.Int.{to_z-of_z}
use Rattle.be_shape.specs.Rows.{span_has}
use Rattle.be_shape.proofs.LineLemmas.{span_of_line, none_of_line}
use Rattle.be_shape.proofs.line.row_of.Goals as goal

pub returns-in-Some-points_within-clause-pixels : goal.returns-in-Some-points_within-clause-pixels
returns-in-Some-points_within-clause-pixels c =
    let f0 : SFits w16 c.args.from.x = search rules in
    let f1 : SFits w16 c.args.from.y = search rules in
    let f2 : SFits w16 c.args.to.x = search rules in
    let f3 : SFits w16 c.args.to.y = search rules in
    let f4 : SFits w32 c.args.y = c.ranges.y in
    let f5 : SFits w64 c.reach-nearest.result.0 = search rules in
    let f6 : SFits w64 c.reach-nearest.result.1 = search rules in
    let f7 : SFits w16 c.point_at.result = search rules in
    let f8 : SFits w16 c.point_at-in-Some-points_within.result = search rules in
    span_of_line c.args.from c.args.to c.args.pen c.args.y c.steps_of-steps.result c.from-distance.result c.reach-nearest.result.0 c.reach-nearest.result.1 c.in-Some-points_within.first c.in-Some-points_within.last c.point_at.result c.point_at-in-Some-points_within.result (span_has c.swept.result) c.steps_of-steps.ensures.value (c.from-distance.ensures ∙ simp to_z-of_z at c.abs_diff.ensures) (simp to_z-of_z at c.reach-nearest.ensures.covers) (simp to_z-of_z at c.in-Some-points_within.ensures) (simp to_z-of_z at c.point_at.ensures) (simp to_z-of_z at c.point_at-in-Some-points_within.ensures) (simp to_z-of_z at c.swept.ensures.all)

pub returns-in-None-points_within-clause-pixels : goal.returns-in-None-points_within-clause-pixels
returns-in-None-points_within-clause-pixels c =
    let f1 : SFits w16 c.args.from.y = search rules in
    let f3 : SFits w16 c.args.to.y = search rules in
    let f4 : SFits w32 c.args.y = c.ranges.y in
    let f5 : SFits w64 c.reach-nearest.result.0 = search rules in
    let f6 : SFits w64 c.reach-nearest.result.1 = search rules in
    none_of_line c.args.from c.args.to c.args.pen c.args.y c.steps_of-steps.result c.from-distance.result c.reach-nearest.result.0 c.reach-nearest.result.1 c.steps_of-steps.ensures.value (c.from-distance.ensures ∙ simp to_z-of_z at c.abs_diff.ensures) (simp to_z-of_z at c.reach-nearest.ensures.covers) (simp to_z-of_z at c.in-None-points_within.ensures)

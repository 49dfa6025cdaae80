use Rattle.std.proofs.Common.{pos, ◌-ℤ◌, SFits, w16, rules}
use Rattle.std.proofs.lemmas.Int.{to_z-of_z}
use Rattle.be_descent.proofs.CutLemmas.{rows_halved}
use Rattle.be_descent.proofs.cutting.rows_at.Goals as goal

pub returns-clause-halves : goal.returns-clause-halves
returns-clause-halves c =
    let z = c.ranges.row in
    let al : SFits w16 c.args.area.left = search rules in
    let ar : SFits w16 c.args.area.right = search rules in
    let at : SFits w16 c.args.area.top = search rules in
    let ab : SFits w16 c.args.area.bottom = search rules in
    let low = c.requires.below in
    let edge : SFits w16 (c.args.row -ℤ pos 1) = search rules in
    simp to_z-of_z (rows_halved c.args.area c.args.row c.requires.across c.requires.below
    c.requires.inside)

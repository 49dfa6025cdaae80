use Rattle.std.proofs.Common.{◌+ℤ◌, ◌-ℤ◌, ◌<ℤ◌, SFits, w32, rules, arith}
use Rattle.std.proofs.lemmas.Int.{to_z-of_z, ints, clamps}
use Rattle.be_descent.proofs.far.down_to.Goals as goal

pub overflow_add-result : goal.overflow_add-result
overflow_add-result c =
    let row : SFits w32 c.args.row = search rules in
    let by : SFits w32 c.args.by = search rules in
    let end : SFits w32 c.args.end = search rules in
    let near = c.requires.by in
    let low = c.requires.low in
    let last = c.requires.end in
    let less : SFits w32 (c.args.end -ℤ c.args.by) = search rules in
    let test = simp to_z-of_z at c.if-row-end.true in
    let up : (c.args.row +ℤ c.args.by) <ℤ c.args.end = omega (arith, ints) in
    simp to_z-of_z (search rules)

pub returns-then-row-end : goal.returns-then-row-end
returns-then-row-end c =
    let row : SFits w32 c.args.row = search rules in
    let by : SFits w32 c.args.by = search rules in
    let end : SFits w32 c.args.end = search rules in
    let near = c.requires.by in
    let low = c.requires.low in
    let last = c.requires.end in
    let less : SFits w32 (c.args.end -ℤ c.args.by) = search rules in
    let test = simp to_z-of_z at c.if-row-end.true in
    let up : (c.args.row +ℤ c.args.by) <ℤ c.args.end = omega (arith, ints) in
    let fits : SFits w32 (c.args.row +ℤ c.args.by) = search rules in
    simp to_z-of_z (omega (arith, ints, clamps))

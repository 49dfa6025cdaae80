use Rattle.std.proofs.Common.{◌<ℤ◌, SFits, w32, arith}
use Rattle.std.proofs.lemmas.Int.{ints, to_z-of_z}
use Rattle.be_shape.proofs.RowLemmas.{one_none, one_some, left_some, right_none, right_some}
use Rattle.be_shape.proofs.row.Row.next_from.Goals as goal

pub returns-in-One-clause-none : goal.returns-in-One-clause-none
returns-in-One-clause-none c =
    let fits : SFits w32 c.args.from = c.ranges.from in
    one_none _ _ _ _ c.in-One.is (simp to_z-of_z at c.cut.ensures.none)

pub returns-in-One-clause-some : goal.returns-in-One-clause-some
returns-in-One-clause-some c =
    let fits : SFits w32 c.args.from = c.ranges.from in
    one_some _ _ _ _ c.in-One.is c.requires (simp to_z-of_z at c.cut.ensures.some)

pub returns-then-from-left-clause-some : goal.returns-then-from-left-clause-some
returns-then-from-left-clause-some c =
    let fits : SFits w32 c.args.from = c.ranges.from in
    left_some _ _ _ _ _ c.in-Two.is c.requires (simp to_z-of_z at c.cut-then-from-left.ensures.some)

pub returns-else-from-left-clause-none : goal.returns-else-from-left-clause-none
returns-else-from-left-clause-none c =
    let fits : SFits w32 c.args.from = c.ranges.from in
    let behind : c.in-Two.left.last <ℤ c.args.from = grind (arith, ints) in
    right_none _ _ _ _ _ c.in-Two.is behind (simp to_z-of_z at c.cut-else-from-left.ensures.none)

pub returns-else-from-left-clause-some : goal.returns-else-from-left-clause-some
returns-else-from-left-clause-some c =
    let fits : SFits w32 c.args.from = c.ranges.from in
    let behind : c.in-Two.left.last <ℤ c.args.from = grind (arith, ints) in
    right_some _ _ _ _ _ c.in-Two.is c.requires behind (simp to_z-of_z at c.cut-else-from-left.ensures.some)

use Rattle.std.proofs.Common.{SFits, w32, arith, rules}
use Rattle.std.proofs.lemmas.Int.{ints, to_z-of_z}
use Rattle.be_descent.proofs.CutLemmas.{halves_turned, copied_down, copied_left, copied_right}
use Rattle.be_descent.proofs.CutLemmas.{copied_up}
use Rattle.be_descent.proofs.halving.halves_of.Goals as goal

pub returns-then-way-gt0-clause-halves : goal.returns-then-way-gt0-clause-halves
returns-then-way-gt0-clause-halves c =
    halves_turned c.args.area c.rows_at.result.0 c.rows_at.result.1 c.rows_at.ensures.halves

pub returns-then-way-gt0-clause-apart : goal.returns-then-way-gt0-clause-apart
returns-then-way-gt0-clause-apart c =
    let bits : SFits w32 c.args.way.down = search rules in
    let test = simp to_z-of_z at c.if-way-gt0.true in
    copied_down c.rows_at.result.0 c.rows_at.result.1 _ c.args.way.right c.args.way.down
    c.rows_at.ensures.above c.rows_at.ensures.rest (omega (arith, ints))

pub returns-else-way-gt0-clause-apart : goal.returns-else-way-gt0-clause-apart
returns-else-way-gt0-clause-apart c =
    let bits : SFits w32 c.args.way.down = search rules in
    let test = simp to_z-of_z at c.if-way-gt0.false in
    copied_up c.rows_at.result.0 c.rows_at.result.1 _ c.args.way.right c.args.way.down
    c.rows_at.ensures.above c.rows_at.ensures.rest (omega (arith, ints))

pub returns-then-way-gt0-2-clause-halves : goal.returns-then-way-gt0-2-clause-halves
returns-then-way-gt0-2-clause-halves c =
    halves_turned c.args.area c.columns_at.result.0 c.columns_at.result.1
    c.columns_at.ensures.halves

pub returns-then-way-gt0-2-clause-apart : goal.returns-then-way-gt0-2-clause-apart
returns-then-way-gt0-2-clause-apart c =
    let bits : SFits w32 c.args.way.right = search rules in
    let test = simp to_z-of_z at c.if-way-gt0-2.true in
    copied_right c.columns_at.result.0 c.columns_at.result.1 _ c.args.way.right c.args.way.down
    c.columns_at.ensures.before c.columns_at.ensures.rest (omega (arith, ints))

pub returns-else-way-gt0-2-clause-apart : goal.returns-else-way-gt0-2-clause-apart
returns-else-way-gt0-2-clause-apart c =
    let bits : SFits w32 c.args.way.right = search rules in
    let test = simp to_z-of_z at c.if-way-gt0-2.false in
    copied_left c.columns_at.result.0 c.columns_at.result.1 _ c.args.way.right c.args.way.down
    c.columns_at.ensures.before c.columns_at.ensures.rest (omega (arith, ints))

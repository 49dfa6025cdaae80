-- A part painted.
use Rattle.std.proofs.Common.{arith, cond, ℕ, pos, subst, sym, ◌+ℤ◌, ◌+◌, ◌-◌, refl}
use Rattle.std.proofs.lemmas.Int.{to_z-of_z}
use Rattle.be_span.specs.declared.Cell.{Cell}
use Rattle.be_span.specs.Painting.{changed, AreInRange}
use Rattle.be_span.proofs.CellLemmas.{part_done, part_length, part_sum, put_sum}
use Rattle.be_span.proofs.rows.paint_part.Goals as goal

pub paint-requires-clause-range : goal.paint-requires-clause-range
paint-requires-clause-range g c =
    let long = part_length c.args.cells.now _ c.args.start c.args.count refl c.requires.fits in
    simp (to_z-of_z, c.ranges.x, c.ranges.y) (subst (λ (n : ℕ). AreInRange c.args.x c.args.y n) (sym long) c.requires.range)

pub paint-requires-clause-clean : goal.paint-requires-clause-clean
paint-requires-clause-clean g c told =
    let n = c.args.start + c.args.count - c.args.start in
    let few = part_sum (λ (x : Cell). cond x.dirty 1 0) c.args.start n c.args.cells.now in
    let none = c.requires.clean told in
    omega arith

pub returns-clause-part : goal.returns-clause-part
returns-clause-part g c =
    let cells = simp (to_z-of_z, c.ranges.x, c.ranges.y) at c.paint.ensures.cells in
    part_done (λ k. changed (g.P.Paint.rule c.args.paint.now) (g.P.Paint.at c.args.paint.now) (c.args.x +ℤ pos k) c.args.y) c.args.start c.args.count c.args.cells.now c.paint.new.cells c.requires.fits c.paint.auto.cells cells

pub returns-clause-marks : goal.returns-clause-marks
returns-clause-marks g c =
    let n = c.args.start + c.args.count - c.args.start in
    let put = put_sum (λ (x : Cell). cond x.dirty 1 0) c.args.start n c.args.cells.now c.paint.new.cells in
    let marks = c.paint.ensures.marks in
    omega arith

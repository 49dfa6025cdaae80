use Rattle.std.proofs.Common.{◌≡◌, ◌<◌, ◌^◌, ◌+ℤ◌, pos, length, SFits, w32, inl, inr, arith, rules}
use Rattle.std.proofs.lemmas.Int.{ints, to_z-of_z, to_z_pos}
use Rattle.be_descent.proofs.CellLemmas.{none_there, one_changed}
use Rattle.be_descent.proofs.thin.paint_pixel.Goals as goal
use Rattle.be_descent.proofs.thin.paint_pixel.Goals.{then-column-x-via-then-column-x, then-column-x-via-else-column-x+then-x-cells}

pub returns-then-column-x-clause-cells : goal.returns-then-column-x-clause-cells
returns-then-column-x-clause-cells g c k =
    let n = length c.args.cells.now in
    let none = none_there (g.P.Paint.rule c.args.paint.now) (g.P.Paint.at c.args.paint.now)
    c.args.cells.now c.args.x c.args.y c.args.column k in
    elim c.then-column-x.branch [
      | then-column-x-via-then-column-x w ↦
          let test = simp (to_z-of_z, c.ranges.x, c.ranges.column) at w.if-column-x.true in
          none (inl (omega (arith, ints)))
      | then-column-x-via-else-column-x+then-x-cells w ↦
          let left = c.requires.range.left in
          let right = c.requires.range.right in
          let few : n < 2 ^ 31 = omega (arith, ints) in
          let end : SFits w32 (c.args.x +ℤ pos n) = search rules in
          let test = rw (
            to_z-of_z w32 _ c.ranges.x,
            to_z_pos w32 n few,
            to_z-of_z w32 _ end,
            to_z-of_z w32 _ c.ranges.column,
          ) at w.if-x-cells.true in
          none (inr (omega (arith, ints)))
    ]

pub returns-clause-cells : goal.returns-clause-cells
returns-clause-cells g c k =
    let inside = simp (to_z-of_z, c.ranges.y, c.ranges.column) at c.paint_part.ensures.part.inside in
    let far = simp (to_z-of_z, c.ranges.x, c.ranges.column) at c.far_from.ensures in
    one_changed (g.P.Paint.rule c.args.paint.now) (g.P.Paint.at c.args.paint.now) c.args.cells.now
    c.paint_part.new.cells c.args.x c.args.y c.args.column c.far_from.result k far inside
    c.paint_part.ensures.part.others

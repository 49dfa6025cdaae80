use Rattle.std.proofs.Common.{ℤ, pos, ◌+ℤ◌, ◌-ℤ◌, Bool, ◌&&◌, slice_get, SFits, w32, ap, ◌∙◌, rules}
use Rattle.std.proofs.lemmas.Int.{to_z-of_z}
use Rattle.be_geom.specs.Points.{between}
use Rattle.be_shape.specs.Rasters.{line_has}
use Rattle.be_descent.proofs.CellLemmas.{moved_between, same_changed}
use Rattle.be_descent.proofs.thin.ThinPaint.paint.Goals as goal

pub returns-in-Some-clause-cells : goal.returns-in-Some-clause-cells
returns-in-Some-clause-cells g c k =
    let s = c.args.self.now in
    let x = c.args.x +ℤ pos k in
    let column = c.in-Some.column in
    let near = s.near.1 in
    let top = c.requires.range.top in
    let bottom = c.requires.range.bottom in
    let more : ℤ → ℤ → Bool = g.P.Paint.at s.paint in
    let at = column +ℤ s.way.right in
    let run : ℤ → ℤ → Bool = λ z w. between at z at && more z w in
    let line : ℤ → ℤ → Bool = λ z w. line_has s.line.from s.line.to 1 (z -ℤ s.way.right)
    (w -ℤ s.way.down) && more z w in
    let across : SFits w32 s.way.right = search rules in
    let down : SFits w32 s.way.down = search rules in
    let away : SFits w32 (c.args.y -ℤ s.way.down) = search rules in
    let here : SFits w32 column = search rules in
    let has = (simp (to_z-of_z, c.ranges.y, down, away) at c.in-Some.ensures.some)
    (x -ℤ s.way.right) in
    let there : SFits w32 (column +ℤ s.way.right) = search rules in
    let cells = simp (to_z-of_z, c.ranges.x, c.ranges.y, across, here, there) at c.paint_pixel.ensures.cells in
    cells k
    ∙ same_changed (g.P.Paint.rule s.paint) run line x c.args.y (slice_get c.args.cells.now k)
    (ap (λ b. b && more x c.args.y) (moved_between column x s.way.right ∙ has))

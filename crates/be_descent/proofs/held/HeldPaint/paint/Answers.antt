use Rattle.std.proofs.Common.{◌≡◌, ℤ, pos, ◌+ℤ◌, ◌-ℤ◌, Bool, ◌&&◌, ◌||◌, slice_get, SFits, w32}
use Rattle.std.proofs.Common.{subst, sym, ap, ◌∙◌, rules}
use Rattle.std.specs.Option.{option_map}
use Rattle.std.proofs.lemmas.Int.{to_z-of_z}
use Rattle.be_facts.proofs.Truths.{and_spread}
use Rattle.be_shape.specs.Rows.{row_has, span_has, IsPair, IsRow}
use Rattle.be_shape.specs.declared.row.Row.{Row}
use Rattle.be_span.specs.Painting.{changed}
use Rattle.be_descent.specs.Inks.{shape_has}
use Rattle.be_descent.proofs.CellLemmas.{both_changed, not_changed, same_changed}
use Rattle.be_descent.proofs.HullLemmas.{pair_apart}
use Rattle.be_descent.proofs.RegionLemmas.{and_none}
use Rattle.be_descent.proofs.held.HeldPaint.paint.Given.{Over}
use Rattle.be_descent.proofs.held.HeldPaint.paint.Goals as goal
use Rattle.be_descent.proofs.held.HeldPaint.paint.Goals.{After-row}

-- the row has the shape's columns
row_is : (g : Over) (c : After-row g) (x : ℤ)
    → row_has c.row.result (x -ℤ c.args.self.now.way.right)
    ≡ shape_has c.args.self.now.raster.now c.args.self.now.way x c.args.y
row_is g c x =
    let s = c.args.self.now in
    let near = s.near.1 in
    let top = c.requires.range.top in
    let bottom = c.requires.range.bottom in
    let down : SFits w32 s.way.down = search rules in
    let away : SFits w32 (c.args.y -ℤ s.way.down) = search rules in
    (simp (to_z-of_z, c.ranges.y, down, away) at c.row.ensures.pixels) (x -ℤ s.way.right)

pub returns-in-Empty-clause-cells : goal.returns-in-Empty-clause-cells
returns-in-Empty-clause-cells g c k =
    let s = c.args.self.now in
    let x = c.args.x +ℤ pos k in
    let at : ℤ → ℤ → Bool = λ x y. shape_has s.raster.now s.way x y && g.P.Paint.at s.paint.now x y in
    let none = sym (row_is g (goal.at.returns-in-Empty-clause-cells g c).After-row x)
    ∙ ap (λ (r : Row). row_has r (x -ℤ s.way.right)) c.in-Empty.is in
    not_changed (g.P.Paint.rule s.paint.now) at x c.args.y (slice_get c.args.cells.now k)
    (ap (λ b. b && g.P.Paint.at s.paint.now x c.args.y) none)

pub returns-in-One-clause-cells : goal.returns-in-One-clause-cells
returns-in-One-clause-cells g c k =
    let s = c.args.self.now in
    let x = c.args.x +ℤ pos k in
    let at : ℤ → ℤ → Bool = λ x y. shape_has s.raster.now s.way x y && g.P.Paint.at s.paint.now x y in
    let run : ℤ → ℤ → Bool = λ z w. span_has c.in-One.run' (z -ℤ s.way.right)
    && g.P.Paint.at s.paint.now z w in
    let across : SFits w32 s.way.right = search rules in
    let cells = simp (to_z-of_z, c.ranges.x, c.ranges.y, across) at c.paint_run.ensures.cells in
    let has = sym (ap (λ (r : Row). row_has r (x -ℤ s.way.right)) c.in-One.is)
    ∙ row_is g (goal.at.returns-in-One-clause-cells g c).After-row x in
    cells k
    ∙ same_changed (g.P.Paint.rule s.paint.now) run at x c.args.y (slice_get c.args.cells.now k)
    (ap (λ b. b && g.P.Paint.at s.paint.now x c.args.y) has)

pub returns-in-Two-clause-cells : goal.returns-in-Two-clause-cells
returns-in-Two-clause-cells g c k =
    let s = c.args.self.now in
    let x = c.args.x +ℤ pos k in
    let y = c.args.y in
    let rule = g.P.Paint.rule s.paint.now in
    let more : ℤ → ℤ → Bool = g.P.Paint.at s.paint.now in
    let at : ℤ → ℤ → Bool = λ x y. shape_has s.raster.now s.way x y && more x y in
    let p : ℤ → ℤ → Bool = λ z w. span_has c.in-Two.left (z -ℤ s.way.right) && more z w in
    let q : ℤ → ℤ → Bool = λ z w. span_has c.in-Two.right (z -ℤ s.way.right) && more z w in
    let across : SFits w32 s.way.right = search rules in
    let first = simp (to_z-of_z, c.ranges.x, c.ranges.y, across) at
    c.paint_run-in-Two.ensures.cells in
    let second = simp (to_z-of_z, c.ranges.x, c.ranges.y, across) at
    c.paint_run-in-Two-2.ensures.cells in
    let pair : IsPair c.in-Two.left c.in-Two.right = subst IsRow c.in-Two.is c.row.ensures.sound in
    let has = sym (ap (λ (r : Row). row_has r (x -ℤ s.way.right)) c.in-Two.is)
    ∙ row_is g (goal.at.returns-in-Two-clause-cells g c).After-row x in
    second k
    ∙ ap (option_map (changed rule q x y)) (first k)
    ∙ both_changed rule p q x y (slice_get c.args.cells.now k)
    (and_none (span_has c.in-Two.left (x -ℤ s.way.right))
    (span_has c.in-Two.right (x -ℤ s.way.right)) (more x y)
    (pair_apart c.in-Two.left c.in-Two.right (x -ℤ s.way.right) pair))
    ∙ same_changed rule (λ z w. p z w || q z w) at x y (slice_get c.args.cells.now k)
    (and_spread (span_has c.in-Two.left (x -ℤ s.way.right))
    (span_has c.in-Two.right (x -ℤ s.way.right)) (more x y)
    ∙ ap (λ b. b && more x y) has)

use Rattle.std.proofs.Common.{◌≡◌, ℤ, pos, ◌+ℤ◌, ◌-ℤ◌, slice_get, SFits, w16, w32, ap, ◌∙◌, arith, rules}
use Rattle.std.specs.Option.{option_map}
use Rattle.std.proofs.lemmas.Int.{ints, to_z-of_z}
use Rattle.be_color.specs.Pixel.{picked}
use Rattle.be_color.specs.declared.colors.Color.{Color}
use Rattle.be_span.specs.Slices.{painted, row_bit}
use Rattle.be_descent.proofs.CellLemmas.{row_color}
use Rattle.be_descent.proofs.coat.CoatPaint.paint.Goals as goal

pub returns-clause-cells : goal.returns-clause-cells
returns-clause-cells c k =
    let s = c.args.self.now in
    let x_fits : SFits w16 s.window.x = search rules in
    let y_fits : SFits w16 s.window.y = search rules in
    let across : SFits w32 c.from-2.result = search rules in
    let down : SFits w32 c.from.result = search rules in
    let right : c.from-2.result ≡ s.window.x = simp to_z-of_z at c.from-2.ensures in
    let low : c.from.result ≡ s.window.y = simp to_z-of_z at c.from.ensures in
    let away_x : SFits w32 (c.args.x -ℤ c.from-2.result) = search rules in
    let away_y : SFits w32 (c.args.y -ℤ c.from.result) = search rules in
    let byte = rw low at (simp (to_z-of_z, c.ranges.y, down, away_y) at c.row_of-byte.ensures) in
    let cells = simp (to_z-of_z, c.ranges.x, across, away_x) at c.paint_bits.ensures.cells in
    let x : ℤ = c.args.x +ℤ pos k -ℤ s.window.x in
    let at : c.args.x -ℤ c.from-2.result +ℤ pos k ≡ x = omega (arith, ints) in
    cells k
    ∙ ap (λ (t : Color). option_map (painted s.brush t) (slice_get c.args.cells.now k))
    (ap (λ z. picked s.brush.mode (row_bit c.row_of-byte.result z) s.brush.high s.brush.low) at
    ∙ row_color s.brush s.pattern.rows c.row_of-byte.result x (c.args.y -ℤ s.window.y) byte)

use Rattle.std.proofs.Common.{◌≡◌, ℕ, ◌+◌, ◌*◌, List, length, take, sym, ap, subst, ◌∙◌, arith}
use Rattle.be_span.specs.declared.Cell.{Cell}
use Rattle.be_summary.specs.Colors.{HasColors}
use Rattle.be_summary.proofs.Strips.{take_strip}
use Rattle.be_summary.proofs.colors.add_row.Goals as goal

pub loop-column-preserved : goal.loop-column-preserved
loop-column-preserved g c =
    let cells = g.S.Screen.cells c.args.screen.now in
    let first = c.args.row * g.S.Screen.across c.args.screen.now in
    let strip = c.row_from-cells.result.now in
    let place : first + (c.loop-column.column + length strip)
    ≡ first + c.loop-column.column + length strip = omega arith in
    record {
      within = omega (arith, c.row_from-cells.ensures.within, c.width-width.ensures);
      told =
          subst (λ (cs : List Cell). HasColors cs c.add_cells.new.colors)
          (sym (ap (λ (n : ℕ). take n cells) place
          ∙ take_strip cells (first + c.loop-column.column) strip c.row_from-cells.ensures.cells))
          (c.in_ok-add_cells.ensures (take (first + c.loop-column.column) cells)
          c.loop-column.invariant.told);
    }

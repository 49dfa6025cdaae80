use Rattle.std.proofs.Common.{ℕ, ◌++◌, ◌∙◌, ap, arith}
use Rattle.std.specs.Fmt.{decimal}
use Rattle.be_written.specs.Screens.{row_at}
use Rattle.be_written.proofs.ScreenRows.{row_begun, row_ended, row_goes_on}
use Rattle.be_written.proofs.screen.write_row.Goals as goal

pub loop-column-init : goal.loop-column-init
loop-column-init g c = record {
  text = row_begun c.args.row (row_at (g.S.Screen.across c.args.screen.now) c.args.row (g.S.Screen.cells c.args.screen.now)) c.args.page.now c.number.new.self
      (c.in_ok-number.ensures ∙ ap (λ (n : ℕ). c.args.page.now ++ decimal n) c.from.ensures);
  strip = record { within = omega arith; told = λ k lt. absurd (omega arith) };
}

pub loop-column-preserved : goal.loop-column-preserved
loop-column-preserved g c = record {
  text = row_goes_on (row_at (g.S.Screen.across c.args.screen.now) c.args.row (g.S.Screen.cells c.args.screen.now)) c.loop-column.column c.longest_run-run.result.end c.longest_run-run.result.rgb c.loop-column.page c.write_run.new.page
      c.longest_run-run.ensures.longest c.in_ok-write_run.ensures
      ∙ c.loop-column.invariant.text;
  strip = c.longest_run-run.ensures.strip;
}

pub returns : goal.returns
returns g c =
    row_ended c.end_line.result (g.S.Screen.across c.args.screen.now) c.args.row c.loop-column.column (g.S.Screen.cells c.args.screen.now) c.loop-column.page c.end_line.new.self _
    c.loop-column.invariant.text (omega arith) c.end_line.ensures

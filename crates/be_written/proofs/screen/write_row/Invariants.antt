use Rattle.std.proofs.Common.{◌≡◌, ◌-◌, ◌++◌}
use Rattle.be_written.specs.ScreenText.{row_text}
use Rattle.be_written.specs.Screens.{IsStrip, row_at}
use Rattle.be_written.proofs.ScreenRows.{row_rest}
use Rattle.be_written.proofs.screen.write_row.Given as goal

-- what is written and what is left to write are the whole row
abbrev pub invariant-loop-column : goal.invariant-loop-column
invariant-loop-column g l =
    let row = row_at (g.S.Screen.across l.screen) l.row (g.S.Screen.cells l.screen) in
    record {
      text : l.page ++ row_rest row l.column ≡ l.fn.page ++ row_text l.row row;
      strip : IsStrip (g.S.Screen.across l.screen) l.row (g.S.Screen.cells l.screen) l.strip;
    }

abbrev pub decreases-loop-column : goal.decreases-loop-column
decreases-loop-column g l = l.width - l.column

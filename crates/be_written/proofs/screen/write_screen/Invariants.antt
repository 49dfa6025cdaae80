use Rattle.std.proofs.Common.{◌≡◌, ◌++◌}
use Rattle.be_written.specs.ScreenText.{screen_text}
use Rattle.be_written.proofs.ScreenRows.{screen_rest}
use Rattle.be_written.proofs.screen.write_screen.Given as goal

-- what is written and what is left to write are the whole screen
abbrev pub invariant-loop-row : goal.invariant-loop-row
invariant-loop-row g l =
    let width = g.S.Screen.across l.screen in
    let cells = g.S.Screen.cells l.screen in
    l.page ++ screen_rest width l.height cells l.row ≡ l.fn.page ++ screen_text width l.height cells

use Rattle.std.proofs.Common.{false, ◌-◌, ◌*◌, get_or, arith}
use Rattle.be_span.specs.declared.Cell.{Cell}
use Rattle.be_written.proofs.ScreenRows.{rgb_there, strip_colored}
use Rattle.be_written.proofs.screen.run_at.Goals as goal

pub returns-clause-colored : goal.returns-clause-colored
returns-clause-colored g c =
    let found = c.strip_with-found.result in
    let some = found.cells.now in
    let place = c.args.column - found.from in
    let cell : Cell = record { rgb = record { red = 0; green = 0; blue = 0 }; dirty = false } in
    let rgb = (get_or some place cell).rgb in
    strip_colored (g.S.Screen.cells c.args.screen.now) some (c.args.row * g.S.Screen.across c.args.screen.now) found.from c.args.column place c.run_end-end.result rgb
    c.strip_with-found.ensures.strip.told
    (c.run_end-end.ensures.colored rgb (rgb_there some place cell (omega arith)))
    (omega arith) c.run_end-end.ensures.ends

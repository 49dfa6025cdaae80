use Rattle.std.proofs.Common.{get_or, arith}
use Rattle.std.proofs.lemmas.Option.{slice_get-get_or}
use Rattle.desk_screen.proofs.ScreenLemmas.{recolored}
use Rattle.desk_screen.proofs.marking.clear_all.Goals as goal

pub loop-place-preserved : goal.loop-place-preserved
loop-place-preserved c desk screen =
    let panes = c.loop-place.panes in
    let n = c.loop-place.place in
    let pane = get_or panes n c.index-panes-place.result in
    let got = slice_get-get_or panes n c.index-panes-place.result (omega arith) in
    recolored desk panes n pane c.clear.new.pane got c.clear.ensures (c.loop-place.invariant desk screen)

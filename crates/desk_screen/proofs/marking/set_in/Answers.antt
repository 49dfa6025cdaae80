use Rattle.std.proofs.Common.{get_or, arith}
use Rattle.std.proofs.lemmas.Option.{slice_get-get_or}
use Rattle.desk_screen.proofs.ScreenLemmas.{recolored}
use Rattle.desk_screen.proofs.marking.set_in.Goals as goal

pub returns : goal.returns
returns c desk screen =
    let panes = c.args.panes.now in
    let n = c.from-place.result in
    let pane = get_or panes n c.index-panes-place.result in
    let got = slice_get-get_or panes n c.index-panes-place.result (omega arith) in
    recolored desk panes n pane c.set.new.pane got c.set.ensures screen

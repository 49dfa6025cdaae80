use Rattle.std.proofs.Common.{◌≡◌, ◌<◌, ◌≤◌, length, get_or, Some, arith}
use Rattle.std.specs.Prelude.{slice_get}
use Rattle.std.proofs.lemmas.Option.{slice_get-get_or}
use Rattle.be_desk.specs.Desks.{desk_of}
use Rattle.desk_screen.proofs.CarriedLemmas.{one_carried, same_change, screen_after, window_there}
use Rattle.desk_screen.proofs.changing.carry_out.Goals as goal

pub carry_out_pane-requires-clause-window : goal.carry_out_pane-requires-clause-window
carry_out_pane-requires-clause-window c =
    let l = c.loop-number in
    let each = l.invariant.each in
    let got : slice_get l.panes l.number ≡ Some (get_or l.panes l.number c.index-panes-number.result) = slice_get-get_or l.panes l.number c.index-panes-number.result (omega (arith, each, l.auto.number-end, c.loop-number-test.true)) in
    window_there (desk_of c.args.desk.now) c.args.plan l.plan c.args.panes.now l.panes l.number (get_or l.panes l.number c.index-panes-number.result) c.requires.screen c.requires.plan l.invariant got

pub loop-number-preserved : goal.loop-number-preserved
loop-number-preserved c =
    let l = c.loop-number in
    let each = l.invariant.each in
    let got : slice_get l.panes l.number ≡ Some (get_or l.panes l.number c.index-panes-number.result) = slice_get-get_or l.panes l.number c.index-panes-number.result (omega (arith, each, l.auto.number-end, c.loop-number-test.true)) in
    one_carried (desk_of c.args.desk.now) c.args.plan l.plan c.carry_out_pane.new.plan c.args.panes.now l.panes l.number (get_or l.panes l.number c.index-panes-number.result) c.carry_out_pane.new.pane c.carry_out_pane.ensures.plan.0
    c.requires.screen c.requires.plan l.invariant (omega (arith, each, l.auto.number-end, c.loop-number-test.true)) got c.carry_out_pane.ensures.carried c.carry_out_pane.ensures.plan.1

pub returns-clause-screen : goal.returns-clause-screen
returns-clause-screen c =
    let l = c.loop-number in
    let each = l.invariant.each in
    screen_after (desk_of c.args.desk.now) (desk_of c.carry_out_desk.new.desk) c.args.plan l.plan c.args.panes.now l.panes l.number c.requires.screen l.invariant (omega (arith, each, l.auto.number-end, c.loop-number-test.false))
    (same_change (desk_of c.args.desk.now) c.args.plan l.plan c.args.panes.now l.panes l.number (desk_of c.carry_out_desk.new.desk) l.invariant c.carry_out_desk.ensures.desk) c.carry_out_desk.ensures.paired

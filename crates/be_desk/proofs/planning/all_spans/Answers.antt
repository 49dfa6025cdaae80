use Rattle.std.proofs.Common.{Option, List, length, sym, refl, subst, ◌+◌, arith}
use Rattle.std.proofs.lemmas.Option.{slice_get_read}
use Rattle.be_desk.specs.declared.planned.Renewed.{Renewed}
use Rattle.be_desk.specs.Desks.{desk_of, desk_with_both}
use Rattle.be_desk.specs.Plans.{lent}
use Rattle.be_desk.specs.Renewed.{AreChangedTo}
use Rattle.be_desk.proofs.LentLemmas.{read_map, within_map}
use Rattle.be_desk.proofs.SpansLemmas.{one_more}
use Rattle.be_desk.proofs.planning.all_spans.Goals as goal

pub loop-pane-preserved : goal.loop-pane-preserved
loop-pane-preserved c =
    let before = desk_of c.args.desk.now in
    let after = desk_with_both before c.args.w c.args.change.now c.args.next.now.stack c.args.next.now.tree in
    let panes = (lent c.args.panes.now) in
    let n = c.loop-pane.pane-index in
    let pane = c.pane-item.result.now in
    let got = slice_get_read panes (length panes) n pane refl (within_map (λ b. b.now) c.args.panes.now n c.loop-pane-test.true) (read_map (λ b. b.now) c.args.panes.now n c.pane-item.result c.pane-item.is) in
    subst (λ (l : List (Option Renewed)). AreChangedTo before after c.args.w c.args.change.now panes l (n + 1)) (sym {A = List (Option Renewed)} c.in_ok-push.ensures.items)
    (one_more before after c.args.w c.args.change.now panes c.loop-pane.all.items n pane c.in_ok-new_spans.field-0 c.loop-pane.invariant got c.in_ok-new_spans.ensures)

pub returns : goal.returns
returns c =
    let before = desk_of c.args.desk.now in
    let after = desk_with_both before c.args.w c.args.change.now c.args.next.now.stack c.args.next.now.tree in
    subst (AreChangedTo before after c.args.w c.args.change.now (lent c.args.panes.now) c.loop-pane.all.items) (omega arith) c.loop-pane.invariant

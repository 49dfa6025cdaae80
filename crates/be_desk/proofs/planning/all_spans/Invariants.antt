use Rattle.be_desk.specs.Desks.{desk_of, desk_with_both}
use Rattle.be_desk.specs.Plans.{lent}
use Rattle.be_desk.specs.Renewed.{AreChangedTo}
use Rattle.be_desk.proofs.planning.all_spans.Given as goal

abbrev pub invariant-loop-pane : goal.invariant-loop-pane
invariant-loop-pane l =
    AreChangedTo (desk_of l.desk) (desk_with_both (desk_of l.desk) l.w l.change l.next.stack l.next.tree) l.w l.change (lent l.panes) l.all.items l.pane-index

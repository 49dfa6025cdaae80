use Rattle.std.proofs.Common.{sym, subst}
use Rattle.std.proofs.lemmas.List.{length-map}
use Rattle.be_desk.specs.Desks.{desk_of, desk_with_both}
use Rattle.be_desk.specs.Plans.{lent}
use Rattle.be_desk.specs.Renewed.{AreChangedTo}
use Rattle.be_desk.proofs.SpansLemmas.{is_plan}
use Rattle.be_desk.proofs.planning.plan.Goals as goal

pub all_spans-requires-clause-change : goal.all_spans-requires-clause-change
all_spans-requires-clause-change c =
    let after = desk_with_both (desk_of c.args.desk.now) c.args.w c.args.change.now c.in_ok-next.next.stack c.in_ok-next.next.tree in
    record {
      paired = c.requires.asked.paired;
      taken = c.in_ok-next.ensures.next;
      panes_of = c.requires.panes;
      named = c.requires.named after c.in_ok-next.ensures.next;
    }

pub returns-clause-plan : goal.returns-clause-plan
returns-clause-plan c =
    let before = desk_of c.args.desk.now in
    let after = desk_with_both before c.args.w c.args.change.now c.in_ok-next.next.stack c.in_ok-next.next.tree in
    is_plan before after c.args.w c.args.change.now (lent c.args.panes.now) c.in_ok-spans.spans.items c.requires.asked c.in_ok-next.ensures.next c.requires.panes (subst (λ n. AreChangedTo before after c.args.w c.args.change.now (lent c.args.panes.now) c.in_ok-spans.spans.items n) (sym (length-map c.args.panes.now (λ b. b.now))) c.in_ok-spans.ensures)

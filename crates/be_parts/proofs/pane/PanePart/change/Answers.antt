use Rattle.std.proofs.Common.{sym, subst}
use Rattle.be_parts.specs.Changed.{HasSpansOf}
use Rattle.be_parts.specs.Kept.{Kept}
use Rattle.be_parts.proofs.Changed.{changed_shows}
use Rattle.be_parts.proofs.pane.PanePart.change.Goals as goal

pub invariant_of-self : goal.invariant_of-self
invariant_of-self c =
    let plan = c.args.plan.now in
    let planned = subst (λ (k : Kept). HasSpansOf plan c.args.number k.slice c.args.next.value) (sym c.self.view_is) c.requires in
    changed_shows plan planned.0 c.self.inside.told.value c.args.next.value c.self.inside.pane c.carry_out_pane.new.pane
    planned.2 c.self.invariant (c.carry_out_pane.ensures.carried planned.0 planned.1)

use Rattle.std.proofs.Common.{sym, subst}
use Rattle.be_command.specs.Effects.{effect_of}
use Rattle.be_parts.specs.Kept.{Kept}
use Rattle.be_parts.specs.Panes.{IsExecuted}
use Rattle.be_parts.proofs.Executed.{executed_shows}
use Rattle.be_parts.proofs.pane.PanePart.execute.Goals as goal

pub invariant_of-self : goal.invariant_of-self
invariant_of-self c =
    executed_shows c.args.bitmaps.now (effect_of c.args.command) c.self.inside.told.value c.args.next.value
    c.self.inside.pane c.execute-outcome.new.pane
    (subst (λ (k : Kept). IsExecuted c.args.bitmaps.now (effect_of c.args.command) k.slice c.args.next.value) (sym c.self.view_is) c.requires)
    c.self.invariant c.execute-outcome.ensures.whole c.execute-outcome.ensures.executed

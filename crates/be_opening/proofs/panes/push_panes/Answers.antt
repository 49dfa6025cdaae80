-- One pane more.
use Rattle.std.proofs.Common.{◌∙◌}
use Rattle.be_machine.specs.Touched as part
use Rattle.be_parts.specs.declared.part.Part.TheVariants as parts
use Rattle.be_script.specs.Script.{declared_by}
use Rattle.be_opening.proofs.More.{next_more, none_more}
use Rattle.be_opening.proofs.panes.push_panes.Goals as goal

pub loop-w-init : goal.loop-w-init
loop-w-init c = none_more (declared_by c.args.script.now) c.args.parts.now.items

pub loop-w-preserved : goal.loop-w-preserved
loop-w-preserved c =
    next_more (declared_by c.args.script.now) (λ w. part.pane w) c.loop-w.w c.args.parts.now.items c.loop-w.parts.items c.push.new.self.items (parts.Pane c.new.result)
    c.loop-w.invariant c.in_ok-push.ensures.items (c.new.ensures.slice ∙ c.told_pane-means.ensures) c.new.ensures.log

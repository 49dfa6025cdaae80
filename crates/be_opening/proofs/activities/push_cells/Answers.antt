-- One application more.
use Rattle.std.proofs.Common.{◌<◌, ◌∙◌, length, rules}
use Rattle.be_machine.specs.Touched as part
use Rattle.be_parts.specs.declared.part.Part.TheVariants as parts
use Rattle.be_script.specs.Script.{declared_by}
use Rattle.be_opening.proofs.Firsts.{cell_is}
use Rattle.be_opening.proofs.More.{next_more, none_more}
use Rattle.be_opening.proofs.activities.push_cells.Goals as goal

pub loop-app-init : goal.loop-app-init
loop-app-init c = none_more (declared_by c.args.script.now) c.args.parts.now.items

pub loop-app-preserved : goal.loop-app-preserved
loop-app-preserved c =
    let less : c.loop-app.app < length c.args.script.now.apps.items = search rules in
    next_more (declared_by c.args.script.now) (λ m. part.cell m) c.loop-app.app c.args.parts.now.items c.loop-app.parts.items c.push.new.self.items (parts.Cell c.new.result)
    c.loop-app.invariant c.in_ok-push.ensures.items (c.new.ensures.slice ∙ cell_is (declared_by c.args.script.now) c.loop-app.app less) c.new.ensures.log

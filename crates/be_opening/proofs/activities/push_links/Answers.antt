-- One link more.
use Rattle.std.proofs.Common.{◌<◌, ◌∙◌, length, refl, rules}
use Rattle.be_machine.specs.Touched as part
use Rattle.be_parts.specs.declared.part.Part.TheVariants as parts
use Rattle.be_script.specs.Script.{declared_by}
use Rattle.be_opening.proofs.Firsts.{link_is}
use Rattle.be_opening.proofs.More.{next_more, none_more}
use Rattle.be_opening.proofs.activities.push_links.Goals as goal

pub loop-w-init : goal.loop-w-init
loop-w-init c = none_more (declared_by c.args.script.now) c.args.parts.now.items

pub loop-w-preserved : goal.loop-w-preserved
loop-w-preserved c =
    let less : c.loop-w.w < length c.args.script.now.windows.items = search rules in
    next_more (declared_by c.args.script.now) (λ w. part.link w) c.loop-w.w c.args.parts.now.items c.loop-w.parts.items c.push.new.self.items (parts.Link c.in_ok-new.field-0)
    c.loop-w.invariant c.in_ok-push.ensures.items (c.in_ok-new.ensures ∙ link_is (declared_by c.args.script.now) c.loop-w.w less) (refl, refl)

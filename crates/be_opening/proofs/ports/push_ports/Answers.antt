-- One port more.
use Rattle.std.proofs.Common.{◌∙◌, refl}
use Rattle.be_machine.specs.Touched as part
use Rattle.be_parts.specs.declared.part.Part.TheVariants as parts
use Rattle.be_script.specs.Script.{declared_by}
use Rattle.be_opening.proofs.Firsts.{port_is}
use Rattle.be_opening.proofs.Lists.{got_seen}
use Rattle.be_opening.proofs.More.{next_more, none_more}
use Rattle.be_opening.proofs.ports.push_ports.Goals as goal

pub loop-w-init : goal.loop-w-init
loop-w-init c = none_more (declared_by c.args.script.now) c.args.parts.now.items

pub loop-w-preserved : goal.loop-w-preserved
loop-w-preserved c =
    let got = got_seen c.args.script.now.windows.items c.deref-line-items.result.now c.loop-w.w c.line-item.result c.deref-line-items.ensures.value c.loop-w-test.true c.line-item.is in
    next_more (declared_by c.args.script.now) (λ w. part.port w) c.loop-w.w c.args.parts.now.items c.loop-w.parts.items c.push.new.self.items (parts.Port c.in_ok-new.field-0)
    c.loop-w.invariant c.in_ok-push.ensures.items (c.in_ok-new.ensures ∙ c.told_port-means.ensures ∙ port_is (declared_by c.args.script.now) c.loop-w.w c.line-item.result got) (refl, refl)

use Rattle.be_machine.specs.Touched as part
use Rattle.be_script.specs.Script.{declared_by}
use Rattle.be_steps.proofs.Owned.{not_missing}
use Rattle.be_world.proofs.WorkMade.{link_has, link_there}
use Rattle.be_world.proofs.making.oldest.Goals as goal

pub find_link-requires : goal.find_link-requires
find_link-requires c =
    (link_there (declared_by c.args.script.now) c.args.held.now.parts c.args.w c.requires).reachable

pub unreachable-requires : goal.unreachable-requires
unreachable-requires c =
    let d = declared_by c.args.script.now in
    let parts = c.args.held.now.parts in
    not_missing d parts (part.link c.args.w) c.in_default.field-0
    (link_there d parts c.args.w c.requires) c.in_default.ensures.missing

pub unreachable-requires-in_default-front : goal.unreachable-requires-in_default-front
unreachable-requires-in_default-front c =
    link_has (declared_by c.args.script.now) c.args.held.now.parts c.args.w c.requires
    c.in-Ok.link.now c.in-Ok.ensures.there c.link.result.now c.link.ensures
    c.in_default-front.ensures

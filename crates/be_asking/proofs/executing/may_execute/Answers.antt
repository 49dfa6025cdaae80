use Rattle.be_script.specs.Script.{declared_by}
use Rattle.be_asking.proofs.ExecutesAnswered.{needs_link, nothing_linked, reach_link}
use Rattle.be_asking.proofs.executing.may_execute.Goals as goal

pub find_link-requires : goal.find_link-requires
find_link-requires c = reach_link (declared_by c.args.script.now) c.args.held.now.parts c.args.number c.args.w c.requires

pub returns-in-Err : goal.returns-in-Err
returns-in-Err c = needs_link (declared_by c.args.script.now) c.args.held.now.parts c.args.number c.args.w c.requires c.in-Err.place c.in-Err.ensures.missing

pub returns-in-None : goal.returns-in-None
returns-in-None c =
    nothing_linked (declared_by c.args.script.now) c.args.held.now.parts c.args.number c.args.w c.requires c.in-Ok.link.now c.in-Ok.ensures.there c.link.result.now c.link.ensures c.in-None.ensures

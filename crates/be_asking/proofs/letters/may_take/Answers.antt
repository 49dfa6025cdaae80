use Rattle.std.proofs.Common.{sym}
use Rattle.be_script.specs.Script.{declared_by}
use Rattle.be_asking.proofs.Takes.{needs_looper, needs_port, owned, reach_looper, reach_port, takes_front, waits_busy, waits_empty}
use Rattle.be_asking.proofs.letters.may_take.Goals as goal

pub find_looper-requires : goal.find_looper-requires
find_looper-requires c = reach_looper (declared_by c.args.script.now) c.args.held.now.parts c.args.number c.args.w c.requires

pub returns-in-Err : goal.returns-in-Err
returns-in-Err c =
    needs_looper (declared_by c.args.script.now) c.args.held.now.parts c.args.number c.args.w c.requires c.in-Err.place c.in-Err.ensures.missing

pub find_port-requires : goal.find_port-requires
find_port-requires c = reach_port (declared_by c.args.script.now) c.args.held.now.parts c.args.number c.args.w c.requires

pub returns-in-Err-find_port : goal.returns-in-Err-find_port
returns-in-Err-find_port c =
    needs_port (declared_by c.args.script.now) c.args.held.now.parts c.args.number c.args.w c.requires c.in-Err-find_port.place
    c.in-Err-find_port.ensures.missing

pub returns-in-Own : goal.returns-in-Own
returns-in-Own c =
    waits_busy (declared_by c.args.script.now) c.args.held.now.parts c.args.number c.args.w c.requires c.in-Ok.looper.now c.in-Ok-find_port.port.now
    c.in-Ok.ensures.there c.in-Ok-find_port.ensures.there c.owner.result c.owner.ensures (owned c.owner.result c.in-Own.is)

pub returns-in-None : goal.returns-in-None
returns-in-None c =
    waits_empty (declared_by c.args.script.now) c.args.held.now.parts c.args.number c.args.w c.requires c.in-Ok.looper.now c.in-Ok-find_port.port.now
    c.in-Ok.ensures.there c.in-Ok-find_port.ensures.there c.queues_are_ports.ensures.empty c.port.result.now c.in-Free.ensures c.port.ensures
    (sym c.in-None.ensures)

pub returns-in-Some : goal.returns-in-Some
returns-in-Some c =
    takes_front (declared_by c.args.script.now) c.args.held.now.parts c.args.number c.args.w c.requires c.in-Ok.looper.now c.in-Ok-find_port.port.now
    c.in-Ok.ensures.there c.in-Ok-find_port.ensures.there c.queues_are_ports.ensures.takes c.port.result.now c.in-Some.letter.now c.in-Free.ensures
    c.port.ensures (sym c.in-Some.ensures)

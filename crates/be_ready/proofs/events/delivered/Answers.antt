use Rattle.be_script.specs.Script.{declared_by}
use Rattle.be_ready.proofs.EventReady.{delivers, desk_there, plannable}
use Rattle.be_ready.proofs.events.delivered.Goals as goal

pub desk_there-requires : goal.desk_there-requires
desk_there-requires c = desk_there (declared_by c.args.script.now) c.args.held.now.parts c.args.event.now c.requires

pub activation-requires : goal.activation-requires
activation-requires c =
    plannable (declared_by c.args.script.now) c.args.held.now.parts c.args.event.now c.requires
    c.desk_there.result.now c.desk_there.ensures c.desk-known.result.now c.desk-known.ensures.slice c.in_ok-delivery.delivery c.in_ok-delivery.ensures c.desk-known.ensures.paired

pub returns : goal.returns
returns c =
    delivers (declared_by c.args.script.now) c.args.held.now.parts c.args.event.now c.requires
    c.desk_there.result.now c.desk_there.ensures c.desk-known.result.now c.desk-known.ensures.slice c.in_ok-delivery.delivery c.in_ok-delivery.ensures
    c.in_ok-first.first c.in_ok-second.second c.in_ok-activation.activation c.in_ok-first.ensures c.in_ok-second.ensures c.in_ok-activation.ensures

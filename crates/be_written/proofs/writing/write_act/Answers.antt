use Rattle.be_script.specs.Script.{declared_by}
use Rattle.be_written.proofs.WriteLemmas.{event_written}
use Rattle.be_written.proofs.writing.write_act.Goals as goal

pub returns-in_ok-write_delivery-in-Event : goal.returns-in_ok-write_delivery-in-Event
returns-in_ok-write_delivery-in-Event c =
    event_written c.write_delivery-in-Event.result (declared_by c.args.script.now) c.in-Event.number c.in-Event.first c.in-Event.second c.args.act.now
    c.args.page.now c.with_number-in-Event.new.page c.write_delivery.new.page c.write_delivery-in-Event.new.page
    c.in-Event.is c.in_ok-with_number-in-Event.ensures c.in_ok-write_delivery-in-Event.ensures c.write_delivery-in-Event.ensures

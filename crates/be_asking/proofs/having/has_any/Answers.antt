use Rattle.be_script.specs.Script.{declared_by}
use Rattle.be_asking.specs.declared.want.Want.TheVariants as want
use Rattle.be_asking.proofs.AllHeld.{told}
use Rattle.be_asking.proofs.Makers.{asked_by}
use Rattle.be_asking.proofs.having.has_any.Goals as goal

pub may_ask-requires : goal.may_ask-requires
may_ask-requires c = asked_by (declared_by c.args.script.now) c.args.held.now.parts c.args.number c.args.who c.args.want c.requires.asked (want.Asks c.in-Asks.runner c.in-Asks.request) c.in-Asks.is

pub returns-in-Asks : goal.returns-in-Asks
returns-in-Asks c = told (declared_by c.args.script.now) c.args.held.now.parts c.args.number c.args.who c.args.want c.requires.asked c.requires.all c.may_ask.result c.may_ask.ensures c.is_may.result c.is_may.ensures

pub may_take-requires : goal.may_take-requires
may_take-requires c = asked_by (declared_by c.args.script.now) c.args.held.now.parts c.args.number c.args.who c.args.want c.requires.asked (want.Takes c.in-Takes.w) c.in-Takes.is

pub returns-in-Takes : goal.returns-in-Takes
returns-in-Takes c = told (declared_by c.args.script.now) c.args.held.now.parts c.args.number c.args.who c.args.want c.requires.asked c.requires.all c.may_take.result c.may_take.ensures c.is_may-in-Takes.result c.is_may-in-Takes.ensures

pub may_begin-requires : goal.may_begin-requires
may_begin-requires c = asked_by (declared_by c.args.script.now) c.args.held.now.parts c.args.number c.args.who c.args.want c.requires.asked (want.Begins c.in-Begins.w) c.in-Begins.is

pub returns-in-Begins : goal.returns-in-Begins
returns-in-Begins c = told (declared_by c.args.script.now) c.args.held.now.parts c.args.number c.args.who c.args.want c.requires.asked c.requires.all c.may_begin.result c.may_begin.ensures c.is_may-in-Begins.result c.is_may-in-Begins.ensures

pub may_flush-requires : goal.may_flush-requires
may_flush-requires c = asked_by (declared_by c.args.script.now) c.args.held.now.parts c.args.number c.args.who c.args.want c.requires.asked (want.Flushes c.in-Flushes.w) c.in-Flushes.is

pub returns-in-Flushes : goal.returns-in-Flushes
returns-in-Flushes c = told (declared_by c.args.script.now) c.args.held.now.parts c.args.number c.args.who c.args.want c.requires.asked c.requires.all c.may_flush.result c.may_flush.ensures c.is_may-in-Flushes.result c.is_may-in-Flushes.ensures

pub may_end_drawing-requires : goal.may_end_drawing-requires
may_end_drawing-requires c = asked_by (declared_by c.args.script.now) c.args.held.now.parts c.args.number c.args.who c.args.want c.requires.asked (want.DrawsEnd c.in-DrawsEnd.w) c.in-DrawsEnd.is

pub returns-in-DrawsEnd : goal.returns-in-DrawsEnd
returns-in-DrawsEnd c = told (declared_by c.args.script.now) c.args.held.now.parts c.args.number c.args.who c.args.want c.requires.asked c.requires.all c.may_end_drawing.result c.may_end_drawing.ensures c.is_may-in-DrawsEnd.result c.is_may-in-DrawsEnd.ensures

pub may_end-requires : goal.may_end-requires
may_end-requires c = asked_by (declared_by c.args.script.now) c.args.held.now.parts c.args.number c.args.who c.args.want c.requires.asked (want.Ends c.in-Ends.w) c.in-Ends.is

pub returns-in-Ends : goal.returns-in-Ends
returns-in-Ends c = told (declared_by c.args.script.now) c.args.held.now.parts c.args.number c.args.who c.args.want c.requires.asked c.requires.all c.may_end.result c.may_end.ensures c.is_may-in-Ends.result c.is_may-in-Ends.ensures

pub may_notify-requires : goal.may_notify-requires
may_notify-requires c = asked_by (declared_by c.args.script.now) c.args.held.now.parts c.args.number c.args.who c.args.want c.requires.asked (want.Notifies c.in-Notifies.w) c.in-Notifies.is

pub returns-in-Notifies : goal.returns-in-Notifies
returns-in-Notifies c = told (declared_by c.args.script.now) c.args.held.now.parts c.args.number c.args.who c.args.want c.requires.asked c.requires.all c.may_notify.result c.may_notify.ensures c.is_may-in-Notifies.result c.is_may-in-Notifies.ensures

pub has_command-requires-clause-asked : goal.has_command-requires-clause-asked
has_command-requires-clause-asked c = asked_by (declared_by c.args.script.now) c.args.held.now.parts c.args.number c.args.who c.args.want c.requires.asked (want.Executes c.in-Executes.w) c.in-Executes.is

pub has_event-requires-clause-asked : goal.has_event-requires-clause-asked
has_event-requires-clause-asked c = asked_by (declared_by c.args.script.now) c.args.held.now.parts c.args.number c.args.who c.args.want c.requires.asked (want.Uses c.in-Uses.line) c.in-Uses.is

pub may_stop-requires : goal.may_stop-requires
may_stop-requires c = asked_by (declared_by c.args.script.now) c.args.held.now.parts c.args.number c.args.who c.args.want c.requires.asked want.Stops c.in-Stops.is

pub returns-in-Stops : goal.returns-in-Stops
returns-in-Stops c = told (declared_by c.args.script.now) c.args.held.now.parts c.args.number c.args.who c.args.want c.requires.asked c.requires.all c.may_stop.result c.may_stop.ensures c.is_may-in-Stops.result c.is_may-in-Stops.ensures

use Rattle.be_script.specs.Script.{declared_by}
use Rattle.be_asking.specs.declared.want.Want.TheVariants as want
use Rattle.be_asking.proofs.Makers.{asked_by}
use Rattle.be_asking.proofs.answering.may.Goals as goal

pub may_ask-requires : goal.may_ask-requires
may_ask-requires c = asked_by (declared_by c.args.script.now) c.args.held.now.parts c.args.number c.args.who c.args.want c.requires (want.Asks c.in-Asks.runner c.in-Asks.request) c.in-Asks.is

pub may_take-requires : goal.may_take-requires
may_take-requires c = asked_by (declared_by c.args.script.now) c.args.held.now.parts c.args.number c.args.who c.args.want c.requires (want.Takes c.in-Takes.w) c.in-Takes.is

pub may_begin-requires : goal.may_begin-requires
may_begin-requires c = asked_by (declared_by c.args.script.now) c.args.held.now.parts c.args.number c.args.who c.args.want c.requires (want.Begins c.in-Begins.w) c.in-Begins.is

pub may_flush-requires : goal.may_flush-requires
may_flush-requires c = asked_by (declared_by c.args.script.now) c.args.held.now.parts c.args.number c.args.who c.args.want c.requires (want.Flushes c.in-Flushes.w) c.in-Flushes.is

pub may_end_drawing-requires : goal.may_end_drawing-requires
may_end_drawing-requires c = asked_by (declared_by c.args.script.now) c.args.held.now.parts c.args.number c.args.who c.args.want c.requires (want.DrawsEnd c.in-DrawsEnd.w) c.in-DrawsEnd.is

pub may_end-requires : goal.may_end-requires
may_end-requires c = asked_by (declared_by c.args.script.now) c.args.held.now.parts c.args.number c.args.who c.args.want c.requires (want.Ends c.in-Ends.w) c.in-Ends.is

pub may_notify-requires : goal.may_notify-requires
may_notify-requires c = asked_by (declared_by c.args.script.now) c.args.held.now.parts c.args.number c.args.who c.args.want c.requires (want.Notifies c.in-Notifies.w) c.in-Notifies.is

pub may_run-requires : goal.may_run-requires
may_run-requires c = asked_by (declared_by c.args.script.now) c.args.held.now.parts c.args.number c.args.who c.args.want c.requires (want.Executes c.in-Executes.w) c.in-Executes.is

pub may_use-requires : goal.may_use-requires
may_use-requires c = asked_by (declared_by c.args.script.now) c.args.held.now.parts c.args.number c.args.who c.args.want c.requires (want.Uses c.in-Uses.line) c.in-Uses.is

pub may_stop-requires : goal.may_stop-requires
may_stop-requires c = asked_by (declared_by c.args.script.now) c.args.held.now.parts c.args.number c.args.who c.args.want c.requires want.Stops c.in-Stops.is

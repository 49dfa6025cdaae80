use Rattle.be_changes.proofs.DeliverDone.{activation_ready, deliver_done, desk_in_hand, few_events, input_in_hand, input_there, may_first, may_second}
use Rattle.be_changes.proofs.events.deliver.Goals as goal
use Rattle.be_script.specs.Script.{declared_by}

pub input_is_there-requires : goal.input_is_there-requires
input_is_there-requires c = input_there (declared_by c.args.script.now) c.args.held.now c.requires.0 c.requires.1 c.args.delivered c.requires.2

pub input_to_change-requires : goal.input_to_change-requires
input_to_change-requires c = input_in_hand (declared_by c.args.script.now) c.args.held.now.parts c.input_place.result (c.input_place.ensures (declared_by c.args.script.now)) c.input_is_there.ensures

pub use_event-requires : goal.use_event-requires
use_event-requires c =
    few_events (declared_by c.args.script.now) c.args.held.now c.requires.0 c.requires.1 c.args.delivered c.requires.2
    c.input_place.result (c.input_place.ensures (declared_by c.args.script.now)) c.input_to_change.result.now c.input_to_change.ensures.value

pub post_to-requires-clause-post : goal.post_to-requires-clause-post
post_to-requires-clause-post c =
    may_first (declared_by c.args.script.now) c.args.held.now c.requires.0 c.requires.1 c.args.delivered c.requires.2
    c.input_place.result (c.input_place.ensures (declared_by c.args.script.now)) c.input_to_change.result.now c.input_to_change.ensures.value c.use_event.new.self c.use_event.ensures.slice c.use_event.ensures.log

pub post_to-requires-2-clause-post : goal.post_to-requires-2-clause-post
post_to-requires-2-clause-post c =
    may_second (declared_by c.args.script.now) c.args.held.now c.requires.0 c.requires.1 c.args.delivered c.requires.2
    c.input_place.result (c.input_place.ensures (declared_by c.args.script.now)) c.input_to_change.result.now c.input_to_change.ensures.value c.use_event.new.self c.use_event.ensures.slice c.use_event.ensures.log
    c.no_spelling_begins_another.ensures c.post_to.new.held c.post_to.ensures

pub activate-requires-clause-ready : goal.activate-requires-clause-ready
activate-requires-clause-ready c =
    activation_ready (declared_by c.args.script.now) c.args.held.now c.requires.0 c.requires.1 c.args.delivered c.requires.2
    c.input_place.result (c.input_place.ensures (declared_by c.args.script.now)) c.input_to_change.result.now c.input_to_change.ensures.value c.use_event.new.self c.use_event.ensures.slice c.use_event.ensures.log
    c.no_spelling_begins_another.ensures c.post_to.new.held c.post_to.ensures c.post_to-2.new.held c.post_to-2.ensures
    c.of-before.result.value c.of-before.ensures

pub desk_to_change-requires : goal.desk_to_change-requires
desk_to_change-requires c =
    desk_in_hand (declared_by c.args.script.now) c.args.held.now c.requires.0 c.requires.1 c.args.delivered c.requires.2
    c.input_place.result (c.input_place.ensures (declared_by c.args.script.now)) c.input_to_change.result.now c.input_to_change.ensures.value c.use_event.new.self c.use_event.ensures.slice c.use_event.ensures.log
    c.no_spelling_begins_another.ensures c.post_to.new.held c.post_to.ensures c.post_to-2.new.held c.post_to-2.ensures
    c.of-before.result.value c.activate.new.held c.of-before.ensures c.activate.ensures c.desk_place.result (c.desk_place.ensures (declared_by c.args.script.now))

pub returns : goal.returns
returns c =
    deliver_done (declared_by c.args.script.now) c.args.held.now c.requires.0 c.requires.1 c.args.delivered c.requires.2
    c.input_place.result (c.input_place.ensures (declared_by c.args.script.now)) c.input_to_change.result.now c.input_to_change.ensures.value c.use_event.new.self c.use_event.ensures.slice c.use_event.ensures.log
    c.no_spelling_begins_another.ensures c.post_to.new.held c.post_to.ensures c.post_to-2.new.held c.post_to-2.ensures
    c.of-before.result.value c.activate.new.held c.of-before.ensures c.activate.ensures c.desk_place.result (c.desk_place.ensures (declared_by c.args.script.now))
    c.desk_to_change.result.now c.remember.new.self c.desk_to_change.ensures.value c.remember.ensures

use Rattle.be_changes.proofs.ActivateDone.{activate_desk, activate_plan, has_activated}
use Rattle.be_changes.proofs.events.activate.Goals as goal
use Rattle.be_script.specs.Script.{declared_by}

pub desk_to_change-requires : goal.desk_to_change-requires
desk_to_change-requires c =
    activate_desk (declared_by c.args.script.now) c.args.before.now.value.parts c.args.held.now c.change_panes.new.held c.args.activation c.requires.ready c.in-Some.field-0 c.in-Some.is c.deref.result.now c.deref.ensures.value
    c.change_panes.ensures.panes.0 c.change_panes.ensures.panes.2 c.desk_place.result (c.desk_place.ensures (declared_by c.args.script.now))

pub change-requires : goal.change-requires
change-requires c =
    activate_plan (declared_by c.args.script.now) c.args.before.now.value.parts c.args.held.now c.change_panes.new.held c.args.activation c.requires.ready c.in-Some.field-0 c.in-Some.is c.deref.result.now c.deref.ensures.value
    c.change_panes.ensures.panes.0 c.change_panes.ensures.panes.2 c.desk_place.result (c.desk_place.ensures (declared_by c.args.script.now))
    c.desk_to_change.result.now c.change_panes.new.plan c.change_panes.ensures.plan.0 c.change_panes.ensures.plan.1 c.desk_to_change.ensures.value

pub returns-in-Some : goal.returns-in-Some
returns-in-Some c =
    has_activated (declared_by c.args.script.now) c.args.before.now.value.parts c.args.held.now c.change_panes.new.held c.args.activation c.requires.ready c.in-Some.field-0 c.in-Some.is c.deref.result.now c.deref.ensures.value
    c.change_panes.ensures.panes.0 c.change_panes.ensures.panes.2 c.desk_place.result (c.desk_place.ensures (declared_by c.args.script.now))
    c.desk_to_change.result.now c.change.new.self c.change_panes.new.plan c.change_panes.ensures.plan.0 c.change_panes.ensures.plan.1 c.change_panes.ensures.panes.1 c.desk_to_change.ensures.value c.change.ensures

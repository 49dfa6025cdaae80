use Rattle.std.proofs.Common.{map}
use Rattle.be_asking.specs.declared.activity.Activity.TheVariants as who
use Rattle.be_changes.proofs.ChangeDone.{change_done, desk_in_hand, link_in_hand, panes_ready, plan_for, popped_is, port_ready, same_change, some_popped}
use Rattle.be_changes.proofs.MadeLists.{left_of_copy}
use Rattle.be_machine.specs.Touched as part
use Rattle.be_parts.specs.Parts.{hand_with}
use Rattle.be_parts.specs.declared.part.Part.TheVariants as kinds
use Rattle.be_rules.specs.Sure.{port_for}
use Rattle.be_changes.proofs.changing.change.Goals as goal
use Rattle.be_script.specs.Script.{declared_by}

pub link_to_change-requires : goal.link_to_change-requires
link_to_change-requires c =
    link_in_hand (declared_by c.args.script.now) c.args.held.now c.args.w c.requires.allowed c.args.plan c.args.places.now c.requires.next c.requires.window c.requires.planned
    c.link_place-link.result c.link_place-link.ensures

pub unwrap-command-requires : goal.unwrap-command-requires
unwrap-command-requires c =
    some_popped (declared_by c.args.script.now) c.args.held.now c.args.w c.requires.allowed c.args.plan c.args.places.now c.requires.next c.requires.window c.requires.planned
    c.link_place-link.result c.link_place-link.ensures c.link_to_change.result.now c.pop.result c.link_to_change.ensures.value c.pop.ensures.command

pub change_panes-requires-clause-panes : goal.change_panes-requires-clause-panes
change_panes-requires-clause-panes c =
    panes_ready (declared_by c.args.script.now) c.args.held.now c.args.w c.requires.allowed c.args.plan c.args.places.now c.requires.next c.requires.window c.requires.planned
    c.link_place-link.result c.link_place-link.ensures c.link_to_change.result.now c.pop.new.self c.link_to_change.ensures.value c.pop.ensures.slice
    c.of-before.result.value c.of-before.ensures

pub close_port-requires-clause-ports : goal.close_port-requires-clause-ports
close_port-requires-clause-ports c =
    port_ready (declared_by c.args.script.now) c.args.held.now c.args.w c.requires.allowed c.args.plan c.args.places.now c.requires.next c.requires.window c.requires.planned
    c.link_place-link.result c.link_place-link.ensures c.link_to_change.result.now c.pop.new.self c.link_to_change.ensures.value c.pop.ensures.slice
    c.change_panes.ensures.panes.0 c.change_panes.new.held
    (left_of_copy (declared_by c.args.script.now) (who.Twin c.args.w) (map part.pane c.change_panes.ensures.panes.0) c.of-before.result.value c.args.held.now (hand_with c.args.held.now c.link_place-link.result (kinds.Link c.pop.new.self)) c.change_panes.new.held c.of-before.ensures c.change_panes.ensures.panes.2)
    c.of-before.result.value c.in-Change.change c.of-before.ensures
    (same_change c.unwrap-command.result.1 c.in-Change.change c.args.plan.change c.in-Change.is
    (popped_is (declared_by c.args.script.now) c.args.held.now c.args.w c.requires.allowed c.args.plan c.args.places.now c.requires.next c.requires.window c.requires.planned
    c.link_place-link.result c.link_place-link.ensures c.link_to_change.result.now c.pop.result c.unwrap-command.result c.link_to_change.ensures.value c.pop.ensures.command c.unwrap-command.ensures))

pub desk_to_change-requires : goal.desk_to_change-requires
desk_to_change-requires c =
    desk_in_hand (declared_by c.args.script.now) c.args.held.now c.args.w c.requires.allowed c.args.plan c.args.places.now c.requires.next c.requires.window c.requires.planned
    c.link_place-link.result c.link_place-link.ensures c.link_to_change.result.now c.pop.new.self c.link_to_change.ensures.value c.pop.ensures.slice
    c.change_panes.ensures.panes.0 c.change_panes.new.held
    (left_of_copy (declared_by c.args.script.now) (who.Twin c.args.w) (map part.pane c.change_panes.ensures.panes.0) c.of-before.result.value c.args.held.now (hand_with c.args.held.now c.link_place-link.result (kinds.Link c.pop.new.self)) c.change_panes.new.held c.of-before.ensures c.change_panes.ensures.panes.2)
    c.in-Change.change c.close_port.new.held
    (left_of_copy (declared_by c.args.script.now) (who.Twin c.args.w) (port_for c.args.w c.in-Change.change) c.of-before.result.value c.args.held.now c.change_panes.new.held c.close_port.new.held c.of-before.ensures c.close_port.ensures)
    (same_change c.unwrap-command.result.1 c.in-Change.change c.args.plan.change c.in-Change.is
    (popped_is (declared_by c.args.script.now) c.args.held.now c.args.w c.requires.allowed c.args.plan c.args.places.now c.requires.next c.requires.window c.requires.planned
    c.link_place-link.result c.link_place-link.ensures c.link_to_change.result.now c.pop.result c.unwrap-command.result c.link_to_change.ensures.value c.pop.ensures.command c.unwrap-command.ensures))
    c.desk_place.result (c.desk_place.ensures (declared_by c.args.script.now))

pub change-requires : goal.change-requires
change-requires c =
    plan_for (declared_by c.args.script.now) c.args.held.now c.args.w c.requires.allowed c.args.plan c.args.places.now c.requires.next c.requires.window c.requires.planned
    c.link_place-link.result c.link_place-link.ensures c.link_to_change.result.now c.pop.new.self c.link_to_change.ensures.value c.pop.ensures.slice
    c.change_panes.ensures.panes.0 c.change_panes.new.held
    (left_of_copy (declared_by c.args.script.now) (who.Twin c.args.w) (map part.pane c.change_panes.ensures.panes.0) c.of-before.result.value c.args.held.now (hand_with c.args.held.now c.link_place-link.result (kinds.Link c.pop.new.self)) c.change_panes.new.held c.of-before.ensures c.change_panes.ensures.panes.2)
    c.in-Change.change c.close_port.new.held
    (left_of_copy (declared_by c.args.script.now) (who.Twin c.args.w) (port_for c.args.w c.in-Change.change) c.of-before.result.value c.args.held.now c.change_panes.new.held c.close_port.new.held c.of-before.ensures c.close_port.ensures)
    (same_change c.unwrap-command.result.1 c.in-Change.change c.args.plan.change c.in-Change.is
    (popped_is (declared_by c.args.script.now) c.args.held.now c.args.w c.requires.allowed c.args.plan c.args.places.now c.requires.next c.requires.window c.requires.planned
    c.link_place-link.result c.link_place-link.ensures c.link_to_change.result.now c.pop.result c.unwrap-command.result c.link_to_change.ensures.value c.pop.ensures.command c.unwrap-command.ensures))
    c.desk_place.result (c.desk_place.ensures (declared_by c.args.script.now))
    c.desk_to_change.result.now c.change_panes.new.plan c.change_panes.ensures.plan.0 c.change_panes.ensures.plan.1 c.desk_to_change.ensures.value

pub returns : goal.returns
returns c =
    change_done (declared_by c.args.script.now) c.args.held.now c.args.w c.requires.allowed c.args.plan c.args.places.now c.requires.next c.requires.window c.requires.planned
    c.link_place-link.result c.link_place-link.ensures c.link_to_change.result.now c.pop.new.self c.link_to_change.ensures.value c.pop.ensures.slice
    c.change_panes.ensures.panes.0 c.change_panes.new.held
    (left_of_copy (declared_by c.args.script.now) (who.Twin c.args.w) (map part.pane c.change_panes.ensures.panes.0) c.of-before.result.value c.args.held.now (hand_with c.args.held.now c.link_place-link.result (kinds.Link c.pop.new.self)) c.change_panes.new.held c.of-before.ensures c.change_panes.ensures.panes.2)
    c.in-Change.change c.close_port.new.held
    (left_of_copy (declared_by c.args.script.now) (who.Twin c.args.w) (port_for c.args.w c.in-Change.change) c.of-before.result.value c.args.held.now c.change_panes.new.held c.close_port.new.held c.of-before.ensures c.close_port.ensures)
    (same_change c.unwrap-command.result.1 c.in-Change.change c.args.plan.change c.in-Change.is
    (popped_is (declared_by c.args.script.now) c.args.held.now c.args.w c.requires.allowed c.args.plan c.args.places.now c.requires.next c.requires.window c.requires.planned
    c.link_place-link.result c.link_place-link.ensures c.link_to_change.result.now c.pop.result c.unwrap-command.result c.link_to_change.ensures.value c.pop.ensures.command c.unwrap-command.ensures))
    c.desk_place.result (c.desk_place.ensures (declared_by c.args.script.now))
    c.desk_to_change.result.now c.change.new.self c.change_panes.new.plan c.change_panes.ensures.plan.0 c.change_panes.ensures.plan.1 c.change_panes.ensures.panes.1 c.desk_to_change.ensures.value c.change.ensures

use Rattle.std.proofs.Common.{refl, arith}
use Rattle.be_changes.proofs.PanesChanged.{all_changed, has_spans, in_place, is_held, none_changed, one_changed, plan_kept}
use Rattle.be_changes.proofs.panes.change_panes.Goals as goal
use Rattle.be_script.specs.Script.{declared_by}

pub loop-number-init : goal.loop-number-init
loop-number-init c = none_changed (declared_by c.args.script.now) c.args.before.now.value.parts c.args.who c.args.plan.now c.args.places.now c.args.held.now c.requires.panes

pub left_at-next-requires-clause-there : goal.left_at-next-requires-clause-there
left_at-next-requires-clause-there c =
    is_held (declared_by c.args.script.now) c.args.before.now.value.parts c.args.who c.args.plan.now c.args.places.now c.args.held.now
    c.loop-number.number c.loop-number.plan c.loop-number.held c.loop-number.invariant c.loop-number-test.true c.args.before.now.value refl

pub pane_to_change-requires : goal.pane_to_change-requires
pane_to_change-requires c =
    in_place (declared_by c.args.script.now) c.args.before.now.value.parts c.args.who c.args.plan.now c.args.places.now c.args.held.now
    c.loop-number.number c.loop-number.plan c.loop-number.held c.loop-number.invariant c.loop-number-test.true

pub change-requires : goal.change-requires
change-requires c =
    has_spans (declared_by c.args.script.now) c.args.before.now.value.parts c.args.who c.args.plan.now c.args.places.now c.args.held.now
    c.loop-number.number c.loop-number.plan c.loop-number.held c.loop-number.invariant c.loop-number-test.true
    c.pane_to_change.result.now c.left_at-next.result.value c.pane_to_change.ensures.value c.left_at-next.ensures

pub loop-number-preserved : goal.loop-number-preserved
loop-number-preserved c =
    one_changed (declared_by c.args.script.now) c.args.before.now.value.parts c.args.who c.args.plan.now c.args.places.now c.args.held.now
    c.loop-number.number c.loop-number.plan c.loop-number.held c.loop-number.invariant c.loop-number-test.true
    c.change.new.plan c.pane_to_change.result.now c.change.new.self c.left_at-next.result.value
    c.pane_to_change.ensures.value c.left_at-next.ensures c.change.ensures.slice c.change.ensures.log c.change.ensures.plan

pub returns-clause-panes : goal.returns-clause-panes
returns-clause-panes c =
    all_changed (declared_by c.args.script.now) c.args.before.now.value.parts c.args.who c.args.plan.now c.args.places.now c.args.held.now
    c.loop-number.number c.loop-number.plan c.loop-number.held (omega arith) c.loop-number.invariant

pub returns-clause-plan : goal.returns-clause-plan
returns-clause-plan c =
    plan_kept (declared_by c.args.script.now) c.args.before.now.value.parts c.args.who c.args.plan.now c.args.places.now c.args.held.now
    c.loop-number.number c.loop-number.plan c.loop-number.held c.loop-number.invariant

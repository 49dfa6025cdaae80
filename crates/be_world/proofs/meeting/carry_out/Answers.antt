use Rattle.be_script.specs.Script.{declared_by}
use Rattle.be_world.proofs.Allowed.{allowed, needs_none, not_ended, suited}
use Rattle.be_world.proofs.meeting.carry_out.Goals as goal

pub meet-requires-clause-allowed : goal.meet-requires-clause-allowed
meet-requires-clause-allowed c =
    allowed (declared_by c.args.script.now) c.args.held.now.parts c.args.number c.args.who
    c.requires.may c.in-Wants.want c.in-Wants.ensures

pub meet-requires-clause-suits : goal.meet-requires-clause-suits
meet-requires-clause-suits c =
    suited (declared_by c.args.script.now) c.args.held.now.parts c.args.number c.args.who
    c.requires.may c.in-Wants.want c.in-Wants.ensures c.args.made c.requires.prepared

pub unreachable-requires : goal.unreachable-requires
unreachable-requires c =
    needs_none (declared_by c.args.script.now) c.args.held.now.parts c.args.number c.args.who
    c.requires.may c.in-Needs.field-0 c.in-Needs.ensures

pub unreachable-requires-in-Nothing : goal.unreachable-requires-in-Nothing
unreachable-requires-in-Nothing c =
    not_ended (declared_by c.args.script.now) c.args.held.now.parts c.args.number c.args.who
    c.requires.may c.in-Nothing.ensures

use Rattle.be_script.specs.Script.{declared_by}
use Rattle.be_world.proofs.Allowed.{needs_none, not_ended}
use Rattle.be_noted.proofs.wanting.note_entry.Goals as goal

pub unreachable-requires : goal.unreachable-requires
unreachable-requires c =
    needs_none (declared_by c.args.script.now) c.args.held.now.parts c.args.number c.args.who
    c.requires.may c.in-Needs.field-0 c.in-Needs.ensures

pub unreachable-requires-in-Nothing : goal.unreachable-requires-in-Nothing
unreachable-requires-in-Nothing c =
    not_ended (declared_by c.args.script.now) c.args.held.now.parts c.args.number c.args.who
    c.requires.may c.in-Nothing.ensures

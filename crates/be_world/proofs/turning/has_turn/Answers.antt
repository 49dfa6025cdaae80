use Rattle.std.proofs.Common.{◌∙◌, ap, sym}
use Rattle.std.specs.Prelude.{option_map}
use Rattle.be_asking.specs.Wants.{activity_in}
use Rattle.be_hall.specs.Hands.{meant}
use Rattle.be_parts.specs.Parts.{meaning_of}
use Rattle.be_script.specs.Script.{declared_by}
use Rattle.be_turns.specs.Turning.{is_some}
use Rattle.be_world.proofs.Telling.{all_held, ended, has_entry, nobody, none_needed}
use Rattle.be_world.proofs.turning.has_turn.Goals as goal

pub returns-in_default : goal.returns-in_default
returns-in_default c =
    λ all sound fits. sym (ap is_some (nobody (declared_by c.args.script.now) c.args.number
    (sym c.activity_of.ensures ∙ ap (option_map activity_in) c.in_default.is) all))

pub returns-in-Nothing : goal.returns-in-Nothing
returns-in-Nothing c =
    λ all sound fits. sym (ap is_some (ended (declared_by c.args.script.now) c.args.number
    (meant meaning_of c.args.held.now.parts) (activity_in c.in-Some.who) (sym c.in-Some.ensures)
    c.in-Nothing.ensures all sound fits))

pub unreachable-requires : goal.unreachable-requires
unreachable-requires c =
    none_needed (declared_by c.args.script.now) c.args.number c.in-Needs.field-0
    (activity_in c.in-Some.who) c.args.held.now.parts (sym c.in-Some.ensures) c.requires.fitting
    c.requires.all c.in-Needs.ensures

pub has_any-requires-clause-all : goal.has_any-requires-clause-all
has_any-requires-clause-all c =
    all_held (declared_by c.args.script.now) c.args.held.now.parts c.requires.all

pub returns-in-Wants : goal.returns-in-Wants
returns-in-Wants c =
    has_entry (declared_by c.args.script.now) c.args.number
    (meant meaning_of c.args.held.now.parts) c.has_any.result c.has_any.ensures

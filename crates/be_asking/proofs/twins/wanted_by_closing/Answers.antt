use Rattle.std.proofs.Common.{sym, ap, ◌∙◌}
use Rattle.be_asking.proofs.OwnParts.{kind_there, own_needed}
use Rattle.be_hall.specs.Hands.{part_at}
use Rattle.be_machine.specs.Touched as part
use Rattle.be_parts.specs.declared.part.Part.TheVariants as parts
use Rattle.be_script.specs.Script.{declared_by}
use Rattle.be_asking.proofs.InputWants.{closing_stops}
use Rattle.be_machine.specs.Activities.{closing}
use Rattle.be_asking.proofs.twins.wanted_by_closing.Goals as goal

pub input_in_hand-requires : goal.input_in_hand-requires
input_in_hand-requires c = kind_there (declared_by c.args.script.now) c.args.held.now.parts c.requires.fitting part.input tt c.input_place-place.result (c.input_place-place.ensures (declared_by c.args.script.now))

pub returns-in-Some : goal.returns-in-Some
returns-in-Some c = closing_stops (declared_by c.args.script.now) c.args.held.now.parts (parts.Input c.in-Some.field-0.now) (ap (part_at c.args.held.now.parts) (sym (c.input_place-place.ensures (declared_by c.args.script.now))) ∙ sym c.in-Some.ensures) c.args.number

pub returns-in-None : goal.returns-in-None
returns-in-None c = own_needed (declared_by c.args.script.now) c.args.held.now.parts c.args.number c.input_place-place.result closing c.requires.number (c.input_place-place.ensures (declared_by c.args.script.now)) (sym c.in-None.ensures)

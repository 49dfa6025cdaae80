use Rattle.std.proofs.Common.{sym, ap, ◌∙◌}
use Rattle.be_asking.proofs.OwnParts.{kind_there, own_needed}
use Rattle.be_hall.specs.Hands.{part_at}
use Rattle.be_machine.specs.Touched as part
use Rattle.be_parts.specs.declared.part.Part.TheVariants as parts
use Rattle.be_script.specs.Script.{declared_by}
use Rattle.be_asking.proofs.InputWants.{input_uses, input_ends}
use Rattle.be_machine.specs.Activities.{input}
use Rattle.be_asking.proofs.twins.wanted_by_input.Goals as goal

pub input_in_hand-requires : goal.input_in_hand-requires
input_in_hand-requires c = kind_there (declared_by c.args.script.now) c.args.held.now.parts c.requires.fitting part.input tt c.input_place-place.result (c.input_place-place.ensures (declared_by c.args.script.now))

pub returns-in_default : goal.returns-in_default
returns-in_default c = own_needed (declared_by c.args.script.now) c.args.held.now.parts c.args.number c.input_place-place.result input c.requires.number (c.input_place-place.ensures (declared_by c.args.script.now)) (sym c.in_default.ensures)

pub returns-in-Some-line_at : goal.returns-in-Some-line_at
returns-in-Some-line_at c = input_uses (declared_by c.args.script.now) c.args.held.now.parts (parts.Input c.in-Some.input.now) (ap (part_at c.args.held.now.parts) (sym (c.input_place-place.ensures (declared_by c.args.script.now))) ∙ sym c.in-Some.ensures) c.used.result c.used.ensures c.args.number c.in-Some-line_at.line (sym c.in-Some-line_at.ensures)

pub returns-in-None : goal.returns-in-None
returns-in-None c = input_ends (declared_by c.args.script.now) c.args.held.now.parts (parts.Input c.in-Some.input.now) (ap (part_at c.args.held.now.parts) (sym (c.input_place-place.ensures (declared_by c.args.script.now))) ∙ sym c.in-Some.ensures) c.used.result c.used.ensures c.args.number (sym c.in-None.ensures)

use Rattle.std.proofs.Common.{sym, ap, ◌∙◌}
use Rattle.be_asking.proofs.LooperWants.{looper_wants}
use Rattle.be_asking.proofs.OwnParts.{kind_there, own_needed}
use Rattle.be_asking.proofs.Spots.{looper_kept}
use Rattle.be_hall.specs.Hands.{part_at}
use Rattle.be_machine.proofs.Histories.{in_range}
use Rattle.be_machine.specs.Activities.{runner, looper}
use Rattle.be_machine.specs.Touched as part
use Rattle.be_parts.specs.declared.part.Part.TheVariants as parts
use Rattle.be_script.specs.Script.{declared_by}
use Rattle.be_asking.proofs.bodies.wanted_by_looper.Goals as goal

pub looper_in_hand-requires : goal.looper_in_hand-requires
looper_in_hand-requires c = kind_there (declared_by c.args.script.now) c.args.held.now.parts c.requires.fitting (part.looper c.args.window) (in_range (declared_by c.args.script.now) c.args.number (runner (looper c.args.window)) c.requires.number) c.looper_place-place.result c.looper_place-place.ensures

pub returns-in-Some : goal.returns-in-Some
returns-in-Some c = looper_wants (declared_by c.args.script.now) c.args.held.now.parts c.args.window (parts.Looper c.in-Some.looper.now) (in_range (declared_by c.args.script.now) c.args.number (runner (looper c.args.window)) c.requires.number) (ap (part_at c.args.held.now.parts) (sym c.looper_place-place.ensures) ∙ sym c.in-Some.ensures) c.looper_want.result c.args.number c.looper_want.ensures

pub returns-in-None : goal.returns-in-None
returns-in-None c = own_needed (declared_by c.args.script.now) c.args.held.now.parts c.args.number c.looper_place-place.result (runner (looper c.args.window)) c.requires.number (c.looper_place-place.ensures ∙ looper_kept (declared_by c.args.script.now) c.args.window) (sym c.in-None.ensures)

use Rattle.std.proofs.Common.{◌≡◌, true, false, sym, ap, ◌∙◌}
use Rattle.be_asking.proofs.OwnParts.{kind_there, own_needed}
use Rattle.be_hall.specs.Hands.{part_at}
use Rattle.be_machine.specs.Touched as part
use Rattle.be_parts.specs.declared.part.Part.TheVariants as parts
use Rattle.be_script.specs.Script.{declared_by}
use Rattle.be_asking.proofs.Spots.{pane_kept}
use Rattle.be_asking.proofs.TwinWants.{twin_notifies, twin_executes}
use Rattle.be_machine.proofs.Histories.{in_range}
use Rattle.be_machine.specs.Activities.{twin}
use Rattle.be_asking.proofs.twins.wanted_by_twin.Goals as goal

pub pane_in_hand-requires : goal.pane_in_hand-requires
pane_in_hand-requires c = kind_there (declared_by c.args.script.now) c.args.held.now.parts c.requires.fitting (part.pane c.args.window) (in_range (declared_by c.args.script.now) c.args.number (twin c.args.window) c.requires.number) c.pane_place-place.result c.pane_place-place.ensures

pub returns-in_default : goal.returns-in_default
returns-in_default c = own_needed (declared_by c.args.script.now) c.args.held.now.parts c.args.number c.pane_place-place.result (twin c.args.window) c.requires.number (c.pane_place-place.ensures ∙ pane_kept (declared_by c.args.script.now) c.args.window) (sym c.in_default.ensures)

pub returns-then-is_owed : goal.returns-then-is_owed
returns-then-is_owed c = twin_notifies (declared_by c.args.script.now) c.args.held.now.parts c.args.window (parts.Pane c.in-Some.pane.now) c.pane.result.now (in_range (declared_by c.args.script.now) c.args.number (twin c.args.window) c.requires.number) (ap (part_at c.args.held.now.parts) (sym c.pane_place-place.ensures) ∙ sym c.in-Some.ensures) c.pane.ensures c.a_notice_is_owed_in_the_window.ensures c.waiting_pixels_are_listed.ensures c.args.number (c.is_owed.ensures.0 c.if-is_owed.true)

pub returns : goal.returns
returns c = twin_executes (declared_by c.args.script.now) c.args.held.now.parts c.args.window (parts.Pane c.in-Some.pane.now) c.pane.result.now (in_range (declared_by c.args.script.now) c.args.number (twin c.args.window) c.requires.number) (ap (part_at c.args.held.now.parts) (sym c.pane_place-place.ensures) ∙ sym c.in-Some.ensures) c.pane.ensures c.a_notice_is_owed_in_the_window.ensures c.waiting_pixels_are_listed.ensures c.args.number (λ is. let never : true ≡ false = sym (c.is_owed.ensures.1 is) ∙ c.if-is_owed.false in absurd (cc))

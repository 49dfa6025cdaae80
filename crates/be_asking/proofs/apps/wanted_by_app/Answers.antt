use Rattle.std.proofs.Common.{None, inl, inr, sym, ap, ◌∙◌, subst}
use Rattle.std.specs.Prelude.{slice_get}
use Rattle.be_asking.proofs.AppWants.{app_asks, app_ends, inside_by, lock_inside, lock_needed}
use Rattle.be_asking.proofs.OwnParts.{kind_there, own_needed}
use Rattle.be_asking.specs.Counts.{IsCount, IsLacking}
use Rattle.be_hall.specs.Hands.{part_at}
use Rattle.be_machine.proofs.Histories.{in_range}
use Rattle.be_machine.specs.Activities.{runner, app}
use Rattle.be_machine.specs.Program.{lock_before}
use Rattle.be_machine.specs.Touched as part
use Rattle.be_parts.specs.declared.part.Part.TheVariants as parts
use Rattle.be_script.specs.Script.{declared_by}
use Rattle.be_asking.proofs.apps.wanted_by_app.Goals as goal

pub cell_in_hand-requires : goal.cell_in_hand-requires
cell_in_hand-requires c = kind_there (declared_by c.args.script.now) c.args.held.now.parts c.requires.fitting (part.cell c.args.app) (in_range (declared_by c.args.script.now) c.args.number (runner (app c.args.app)) c.requires.number) c.cell_place-place.result (c.cell_place-place.ensures (declared_by c.args.script.now))

pub returns-in_default : goal.returns-in_default
returns-in_default c = own_needed (declared_by c.args.script.now) c.args.held.now.parts c.args.number c.cell_place-place.result (runner (app c.args.app)) c.requires.number (c.cell_place-place.ensures (declared_by c.args.script.now)) (sym c.in_default.ensures)

pub app_steps-program-requires : goal.app_steps-program-requires
app_steps-program-requires c = in_range (declared_by c.args.script.now) c.args.number (runner (app c.args.app)) c.requires.number

pub returns-in_default-step_at : goal.returns-in_default-step_at
returns-in_default-step_at c = app_ends (declared_by c.args.script.now) c.args.held.now.parts c.args.app (parts.Cell c.in-Some.cell.now) c.place-at.result (in_range (declared_by c.args.script.now) c.args.number (runner (app c.args.app)) c.requires.number) (ap (part_at c.args.held.now.parts) (sym (c.cell_place-place.ensures (declared_by c.args.script.now))) ∙ sym c.in-Some.ensures) c.place-at.ensures c.args.number (ap (λ l. slice_get l c.place-at.result.step) (sym c.app_steps-program.ensures) ∙ sym c.in_default-step_at.ensures)

pub returns-then-not-reads_buffer : goal.returns-then-not-reads_buffer
returns-then-not-reads_buffer c = app_asks (declared_by c.args.script.now) c.args.held.now.parts c.args.app (parts.Cell c.in-Some.cell.now) c.place-at.result (in_range (declared_by c.args.script.now) c.args.number (runner (app c.args.app)) c.requires.number) (ap (part_at c.args.held.now.parts) (sym (c.cell_place-place.ensures (declared_by c.args.script.now))) ∙ sym c.in-Some.ensures) c.place-at.ensures c.args.number c.in-Some-step_at.instruction.now 0 c.request.result (ap (λ l. slice_get l c.place-at.result.step) (sym c.app_steps-program.ensures) ∙ sym c.in-Some-step_at.ensures) (inl (sym c.reads_buffer.ensures ∙ c.if-not-reads_buffer.true)) c.request.ensures

pub buffered-requires-clause-inside : goal.buffered-requires-clause-inside
buffered-requires-clause-inside c = inside_by c.lock_at.result (lock_inside (declared_by c.args.script.now) c.args.held.now.parts c.args.app (parts.Cell c.in-Some.cell.now) c.place-at.result (in_range (declared_by c.args.script.now) c.args.number (runner (app c.args.app)) c.requires.number) (ap (part_at c.args.held.now.parts) (sym (c.cell_place-place.ensures (declared_by c.args.script.now))) ∙ sym c.in-Some.ensures) c.place-at.ensures c.requires.fitting) (c.lock_at.ensures ∙ ap (λ l. lock_before None l c.place-at.result.step) c.app_steps-program.ensures)

pub returns-in-Ok : goal.returns-in-Ok
returns-in-Ok c = app_asks (declared_by c.args.script.now) c.args.held.now.parts c.args.app (parts.Cell c.in-Some.cell.now) c.place-at.result (in_range (declared_by c.args.script.now) c.args.number (runner (app c.args.app)) c.requires.number) (ap (part_at c.args.held.now.parts) (sym (c.cell_place-place.ensures (declared_by c.args.script.now))) ∙ sym c.in-Some.ensures) c.place-at.ensures c.args.number c.in-Some-step_at.instruction.now c.in-Ok.buffered c.request-in-Ok.result (ap (λ l. slice_get l c.place-at.result.step) (sym c.app_steps-program.ensures) ∙ sym c.in-Some-step_at.ensures) (inr (subst (λ o. IsCount (declared_by c.args.script.now) c.args.held.now.parts o c.in-Ok.buffered) (c.lock_at.ensures ∙ ap (λ l. lock_before None l c.place-at.result.step) c.app_steps-program.ensures) c.in-Ok.ensures.count)) c.request-in-Ok.ensures

pub returns-in-Err : goal.returns-in-Err
returns-in-Err c = lock_needed (declared_by c.args.script.now) c.args.held.now.parts c.args.app (parts.Cell c.in-Some.cell.now) c.place-at.result (in_range (declared_by c.args.script.now) c.args.number (runner (app c.args.app)) c.requires.number) (ap (part_at c.args.held.now.parts) (sym (c.cell_place-place.ensures (declared_by c.args.script.now))) ∙ sym c.in-Some.ensures) c.place-at.ensures c.requires.fitting c.args.number c.in-Err.place c.in-Some-step_at.instruction.now c.requires.number (ap (λ l. slice_get l c.place-at.result.step) (sym c.app_steps-program.ensures) ∙ sym c.in-Some-step_at.ensures) (sym c.reads_buffer.ensures ∙ c.if-not-reads_buffer.false) (subst (λ o. IsLacking (declared_by c.args.script.now) c.args.held.now.parts o c.in-Err.place) (c.lock_at.ensures ∙ ap (λ l. lock_before None l c.place-at.result.step) c.app_steps-program.ensures) c.in-Err.ensures.lacks)

use Rattle.std.proofs.Common.{ℕ, List, length, map, Option, Some, sym, ap, ◌∙◌, subst}
use Rattle.std.specs.Prelude.{option_map, slice_get, unwrap_or}
use Rattle.be_asking.proofs.Told.{body_told, update_told}
use Rattle.be_asking.specs.Loopers.{IsTold}
use Rattle.be_geom.specs.declared.rect.Rect.{Rect}
use Rattle.be_link.specs.Queues.{Buffer, empty_buffer}
use Rattle.be_machine.specs.Program.{update_program}
use Rattle.be_parts.specs.Stages.{stage_of}
use Rattle.be_rules.specs.Slices.{looper_in}
use Rattle.be_script.specs.Script.{declared_by}
use Rattle.be_script.specs.Windows.{body_program}
use Rattle.be_asking.proofs.bodies.looper_want.Goals as goal

pub returns-in-InBody : goal.returns-in-InBody
returns-in-InBody c =
    subst (λ n. IsTold (declared_by c.args.script.now) c.args.window (looper_in c.args.looper.now.slice) n c.step_want.result) (c.len-buffered.ensures.len ∙ ap (λ (o : Option Buffer). length (unwrap_or o empty_buffer).commands) (sym c.buffer.ensures))
    (body_told (declared_by c.args.script.now) c.args.window c.len-buffered.result (looper_in c.args.looper.now.slice) c.in-InBody.place c.in-Some-Some-Some.message.now c.in-Some-Some-Some.route (option_map (λ step. step.now) c.body_step-step.result) c.step_want.result c.end_want.result (sym c.in-Some-Some-Some.ensures.stage ∙ ap (λ s. Some (stage_of s)) c.in-InBody.is) (sym c.in-Some-Some-Some.ensures') (sym c.in-Some-Some-Some.ensures'') (c.body_step-step.ensures ∙ ap (λ k. slice_get (body_program (declared_by c.args.script.now) c.args.window k c.in-Some-Some-Some.route) c.in-InBody.place.step) c.what.ensures.what) c.step_want.ensures c.end_want.ensures)

pub returns-in-InUpdate : goal.returns-in-InUpdate
returns-in-InUpdate c =
    subst (λ n. IsTold (declared_by c.args.script.now) c.args.window (looper_in c.args.looper.now.slice) n c.step_want-in-InUpdate.result) (c.len-buffered.ensures.len ∙ ap (λ (o : Option Buffer). length (unwrap_or o empty_buffer).commands) (sym c.buffer.ensures))
    (update_told (declared_by c.args.script.now) c.args.window c.len-buffered.result (looper_in c.args.looper.now.slice) (map (λ v. v.0) c.in-InUpdate.views.items) c.in-InUpdate.place (option_map (λ step. step.now) c.update_step-step.result) c.step_want-in-InUpdate.result c.draw_end_want.result (sym c.in-Some-Some-Some.ensures.stage ∙ ap (λ s. Some (stage_of s)) c.in-InUpdate.is) (c.update_step-step.ensures ∙ ap (λ (l : List (ℕ × Rect)). slice_get (update_program (declared_by c.args.script.now) c.args.window (map (λ v. v.0) l)) c.in-InUpdate.place.step) c.deref.ensures.value) c.step_want-in-InUpdate.ensures c.draw_end_want.ensures)

use Rattle.std.proofs.Common.{ℕ, ◌≤◌, List, map, Some, sym, ap, ◌∙◌, subst}
use Rattle.std.specs.Prelude.{slice_get}
use Rattle.std.proofs.lemmas.List.{length-map}
use Rattle.be_asking.specs.Wants.{wish_in}
use Rattle.be_geom.specs.declared.rect.Rect.{Rect}
use Rattle.be_machine.specs.Program.{update_program}
use Rattle.be_parts.specs.Holding.{HasFewViews}
use Rattle.be_parts.specs.Stages.{stage_of}
use Rattle.be_script.specs.Script.{declared_by}
use Rattle.be_script.specs.Windows.{body_program}
use Rattle.be_steps.proofs.LooperPast.{in_body_past, in_update_past}
use Rattle.be_steps.proofs.Short.{body_fits, update_fits}
use Rattle.be_steps.proofs.going.looper_past.Goals as goal

pub step_past-requires : goal.step_past-requires
step_past-requires c =
    body_fits (declared_by c.args.script.now) c.args.w c.what.result c.in-InBody.place.step c.in-Some-Some-Some.route c.body_step-step.result c.requires.limits c.body_step-step.ensures

pub step_past-requires-in-InUpdate : goal.step_past-requires-in-InUpdate
step_past-requires-in-InUpdate c =
    update_fits (declared_by c.args.script.now) c.args.w c.in-InUpdate.place.step (map (λ v. v.0) c.in-InUpdate.views.items) c.update_step-step.result c.requires.limits
    (subst (λ n. n ≤ 32) (sym (length-map c.in-InUpdate.views.items (λ v. v.0))) (subst HasFewViews c.in-InUpdate.is c.in-Some-Some-Some.ensures.few))
    (c.update_step-step.ensures ∙ ap (λ (l : List (ℕ × Rect)). slice_get (update_program (declared_by c.args.script.now) c.args.w (map (λ v. v.0) l)) c.in-InUpdate.place.step) c.deref.ensures.value)

pub returns-in-InBody : goal.returns-in-InBody
returns-in-InBody c now =
    in_body_past (declared_by c.args.script.now) c.args.w c.args.accepted (wish_in now c.args.request) c.args.looper.now.slice c.in-InBody.place c.step_past.result c.in-Some-Some-Some.message.now c.in-Some-Some-Some.route
    c.body_step-step.result
    (sym c.in-Some-Some-Some.ensures.stage ∙ ap (λ s. Some (stage_of s)) c.in-InBody.is) (sym c.in-Some-Some-Some.ensures') (sym c.in-Some-Some-Some.ensures'')
    (c.body_step-step.ensures ∙ ap (λ k. slice_get (body_program (declared_by c.args.script.now) c.args.w k c.in-Some-Some-Some.route) c.in-InBody.place.step) c.what.ensures.what)
    (c.step_past.ensures now)

pub returns-in-InUpdate : goal.returns-in-InUpdate
returns-in-InUpdate c now =
    in_update_past (declared_by c.args.script.now) c.args.w c.args.accepted (wish_in now c.args.request) c.args.looper.now.slice (map (λ v. v.0) c.in-InUpdate.views.items) c.in-InUpdate.place c.step_past-in-InUpdate.result
    c.update_step-step.result
    (sym c.in-Some-Some-Some.ensures.stage ∙ ap (λ s. Some (stage_of s)) c.in-InUpdate.is)
    (c.update_step-step.ensures ∙ ap (λ (l : List (ℕ × Rect)). slice_get (update_program (declared_by c.args.script.now) c.args.w (map (λ v. v.0) l)) c.in-InUpdate.place.step) c.deref.ensures.value)
    (c.step_past-in-InUpdate.ensures now)

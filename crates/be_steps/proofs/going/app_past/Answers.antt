use Rattle.std.proofs.Common.{ap, ◌∙◌}
use Rattle.std.specs.Prelude.{slice_get}
use Rattle.be_asking.specs.Wants.{wish_in}
use Rattle.be_script.specs.Script.{declared_by}
use Rattle.be_steps.proofs.Moved.{app_past, gone_by}
use Rattle.be_steps.proofs.Short.{app_fits}
use Rattle.be_steps.proofs.going.app_past.Goals as goal

pub step_past-requires : goal.step_past-requires
step_past-requires c =
    app_fits (declared_by c.args.script.now) c.args.m c.place-place.result.step c.step_at.result c.requires.limits
    (c.step_at.ensures ∙ ap (λ l. slice_get l c.place-place.result.step) c.app_steps.ensures)

pub returns : goal.returns
returns c now =
    app_past (declared_by c.args.script.now) c.args.m c.args.accepted (wish_in now c.args.request) c.args.cell.now.slice c.place-place.result c.step_past.result c.place-place.ensures
    (c.step_past.ensures now
    ∙ gone_by c.step_at.result c.place-place.result c.args.accepted (wish_in now c.args.request) _
    (c.step_at.ensures ∙ ap (λ l. slice_get l c.place-place.result.step) c.app_steps.ensures))

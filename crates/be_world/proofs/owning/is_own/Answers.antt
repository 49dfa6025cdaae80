use Rattle.std.proofs.Common.{◌∙◌, ap, sym}
use Rattle.std.specs.Prelude.{Some, ◌==◌}
use Rattle.be_asking.specs.Wants.{activity_in}
use Rattle.be_asking.specs.declared.activity.Activity.{Activity}
use Rattle.be_script.specs.Script.{declared_by}
use Rattle.be_world.specs.Turns.{wants_place}
use Rattle.be_world.proofs.owning.is_own.Goals as goal

pub returns-in-Some-Input : goal.returns-in-Some-Input
returns-in-Some-Input c =
    let d = declared_by c.args.script.now in
    let is = c.in-Some-Input.field-0-is in
    ap (λ p. c.args.place == p) (c.input_place.ensures d)
    ∙ ap (λ (who : Activity). wants_place d (Some (activity_in who)) c.args.place) (sym is)
    ∙ ap (λ o. wants_place d o c.args.place) c.in-Some-Input.ensures

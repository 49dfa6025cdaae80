use Rattle.std.proofs.Common.{◌≡◌, ◌∙◌, Some, ap, sym, ⊎_elim}
use Rattle.be_asking.specs.Wants.{activity_in}
use Rattle.be_asking.specs.declared.activity.Activity.{Activity}
use Rattle.be_rules.specs.Rules.{kept_at}
use Rattle.be_script.specs.Script.{declared_by}
use Rattle.be_world.proofs.owning.keeper.Goals as goal

pub returns-in-Input : goal.returns-in-Input
returns-in-Input c =
    let d = declared_by c.args.script.now in
    let kept : 1 ≡ kept_at d (Some (activity_in c.args.who)) =
    ⊎_elim (λ is. ap (λ (it : Activity). kept_at d (Some (activity_in it))) (sym is))
    (λ is. ap (λ (it : Activity). kept_at d (Some (activity_in it))) (sym is)) c.in-Input.is in
    c.input_place.ensures d ∙ kept

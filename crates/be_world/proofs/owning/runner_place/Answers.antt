use Rattle.std.proofs.Common.{◌∙◌, ap, sym}
use Rattle.be_asking.specs.Wants.{runner_in}
use Rattle.be_asking.specs.declared.activity.Runner.{Runner}
use Rattle.be_machine.specs.Touched.{own_part}
use Rattle.be_rules.specs.Places.{place_of}
use Rattle.be_script.specs.Script.{declared_by}
use Rattle.be_world.proofs.owning.runner_place.Goals as goal

pub returns-in-App : goal.returns-in-App
returns-in-App c =
    let d = declared_by c.args.script.now in
    c.cell_place.ensures d ∙ ap (λ (r : Runner). place_of d (own_part (runner_in r)))
    (sym c.in-App.is)

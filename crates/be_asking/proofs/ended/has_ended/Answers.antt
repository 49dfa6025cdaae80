use Rattle.be_script.specs.Script.{declared_by}
use Rattle.be_asking.proofs.EndedApps.{app_ended}
use Rattle.be_asking.proofs.ended.has_ended.Goals as goal

pub returns-clause-told : goal.returns-clause-told
returns-clause-told c =
    app_ended (declared_by c.args.script.now) c.args.held.now.parts c.args.app c.in_ok-cell.cell.now c.place-at.result c.app_steps.result.now c.is_past.result c.requires c.in_ok-cell.ensures.there c.place-at.ensures
    c.app_steps.ensures c.is_past.ensures

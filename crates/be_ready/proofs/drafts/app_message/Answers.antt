use Rattle.std.proofs.lemmas.Result.{IfOk-weaker}
use Rattle.be_actor.specs.Drafts.{filled}
use Rattle.std.proofs.Common.{◌≡◌, None}
use Rattle.be_asking.specs.declared.activity.Runner.TheVariants as by
use Rattle.be_ready.proofs.Made.{app_current, app_keeps, app_made, app_some, own_there}
use Rattle.be_ready.specs.Letters.{IsMade}
use Rattle.be_script.specs.Script.{declared_by}
use Rattle.be_ready.proofs.drafts.app_message.Goals as goal

pub cell_there-requires : goal.cell_there-requires
cell_there-requires c = own_there (declared_by c.args.script.now) c.args.held.now.parts (by.App c.args.m) c.args.request c.requires.asked

pub app_draft-requires : goal.app_draft-requires
app_draft-requires c = (own_there (declared_by c.args.script.now) c.args.held.now.parts (by.App c.args.m) c.args.request c.requires.asked).reachable.there

pub filled-requires-clause-fields : goal.filled-requires-clause-fields
filled-requires-clause-fields c =
    app_keeps (declared_by c.args.script.now) c.args.held.now.parts c.args.m c.args.request c.requires.asked c.requires.makes
    c.cell_there.result.now c.cell_there.ensures c.in-Some.draft.now c.in-Some.ensures

pub filled-requires-clause-current : goal.filled-requires-clause-current
filled-requires-clause-current c =
    app_current (declared_by c.args.script.now) c.args.held.now.parts c.args.m c.args.request c.requires.asked c.requires.makes
    c.cell_there.result.now c.cell_there.ensures c.in-Some.draft.now c.in-Some.ensures

pub returns : goal.returns
returns c =
    IfOk-weaker c.filled.result (λ message. message ≡ filled c.in-Some.draft.now None)
    (IsMade (declared_by c.args.script.now) c.args.held.now.parts (by.App c.args.m) c.args.request)
    (app_made (declared_by c.args.script.now) c.args.held.now.parts c.args.m c.args.request c.requires.asked c.requires.makes
    c.cell_there.result.now c.cell_there.ensures c.in-Some.draft.now c.in-Some.ensures)
    c.filled.ensures

pub unreachable-requires : goal.unreachable-requires
unreachable-requires c =
    app_some (declared_by c.args.script.now) c.args.held.now.parts c.args.m c.args.request c.requires.asked c.requires.makes
    c.cell_there.result.now c.cell_there.ensures c.in-None.ensures

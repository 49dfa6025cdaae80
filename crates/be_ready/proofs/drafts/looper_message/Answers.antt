use Rattle.std.proofs.Common.{◌≡◌}
use Rattle.std.proofs.lemmas.Result.{IfOk-weaker}
use Rattle.std.specs.Option.{option_copied}
use Rattle.be_actor.specs.Drafts.{filled}
use Rattle.be_asking.specs.declared.activity.Runner.TheVariants as by
use Rattle.be_ready.proofs.Made.{body_current, body_keeps, body_made, body_some, own_there}
use Rattle.be_ready.specs.Letters.{IsMade}
use Rattle.be_script.specs.Script.{declared_by}
use Rattle.be_ready.proofs.drafts.looper_message.Goals as goal

pub looper_there-looper-requires : goal.looper_there-looper-requires
looper_there-looper-requires c = own_there (declared_by c.args.script.now) c.args.held.now.parts (by.Looper c.args.w) c.args.request c.requires.asked

pub filled-requires-clause-fields : goal.filled-requires-clause-fields
filled-requires-clause-fields c =
    body_keeps (declared_by c.args.script.now) c.args.held.now.parts c.args.w c.args.request c.requires.asked
    c.looper_there-looper.result.now c.looper_there-looper.ensures c.requires.makes c.in-Some.draft.now c.in-Some.ensures

pub filled-requires-clause-current : goal.filled-requires-clause-current
filled-requires-clause-current c =
    body_current (declared_by c.args.script.now) c.args.held.now.parts c.args.w c.args.request c.requires.asked
    c.looper_there-looper.result.now c.looper_there-looper.ensures c.requires.makes c.in-Some.draft.now c.in-Some.ensures (option_copied c.message.result) c.message.ensures

pub returns : goal.returns
returns c =
    IfOk-weaker c.filled.result (λ message. message ≡ filled c.in-Some.draft.now (option_copied c.message.result))
    (IsMade (declared_by c.args.script.now) c.args.held.now.parts (by.Looper c.args.w) c.args.request)
    (body_made (declared_by c.args.script.now) c.args.held.now.parts c.args.w c.args.request c.requires.asked
    c.looper_there-looper.result.now c.looper_there-looper.ensures c.requires.makes c.in-Some.draft.now c.in-Some.ensures (option_copied c.message.result) c.message.ensures)
    c.filled.ensures

pub unreachable-requires : goal.unreachable-requires
unreachable-requires c =
    body_some (declared_by c.args.script.now) c.args.held.now.parts c.args.w c.args.request c.requires.asked
    c.looper_there-looper.result.now c.looper_there-looper.ensures c.requires.makes c.in-None.ensures

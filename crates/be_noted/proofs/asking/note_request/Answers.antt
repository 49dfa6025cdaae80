use Rattle.std.proofs.Common.{refl}
use Rattle.be_asking.specs.declared.activity.Runner.TheVariants as by
use Rattle.be_asking.specs.declared.want.Request.TheVariants as request
use Rattle.be_script.specs.Script.{declared_by}
use Rattle.be_world.proofs.Suiting.{app_replies_never, asked_as, looper_claims_never}
use Rattle.be_noted.proofs.asking.note_request.Goals as goal

-- ---- who asks

pub unreachable-requires : goal.unreachable-requires
unreachable-requires c =
    let d = declared_by c.args.script.now in
    let parts = c.args.held.now.parts in
    let w = c.in-Looper.field-0 in
    looper_claims_never d parts w c.args.request (asked_as d parts c.args.runner c.args.request
    c.requires.allowed (by.Looper w) c.args.request c.in-Looper.is refl) c.in-Claim.is

pub unreachable-requires-in-App-runner : goal.unreachable-requires-in-App-runner
unreachable-requires-in-App-runner c =
    let d = declared_by c.args.script.now in
    let parts = c.args.held.now.parts in
    let m = c.in-App-runner.field-0 in
    app_replies_never d parts m c.in-Reply.draft (asked_as d parts c.args.runner c.args.request
    c.requires.allowed (by.App m) (request.Reply c.in-Reply.draft) c.in-App-runner.is c.in-Reply.is)

use Rattle.be_script.specs.Script.{declared_by}
use Rattle.be_asking.specs.declared.activity.Runner.TheVariants as by
use Rattle.be_asking.specs.declared.want.Request.TheVariants as request
use Rattle.be_world.proofs.Suiting.{app_replies_never, asked_as}
use Rattle.be_world.proofs.making.make_asked.Goals as goal

pub unreachable-requires : goal.unreachable-requires
unreachable-requires c =
    let d = declared_by c.args.script.now in
    let parts = c.args.held.now.parts in
    app_replies_never d parts c.in-App.field-0 c.in-Reply.draft (asked_as d parts c.args.runner
    c.args.request c.requires (by.App c.in-App.field-0) (request.Reply c.in-Reply.draft)
    c.in-App.is c.in-Reply.is)

use Rattle.std.proofs.Common.{refl}
use Rattle.be_asking.specs.declared.activity.Runner.TheVariants as by
use Rattle.be_asking.specs.declared.want.Request.TheVariants as request
use Rattle.be_script.specs.Script.{declared_by}
use Rattle.be_world.proofs.Suiting.{has_reply}
use Rattle.be_noted.proofs.asking.note_made_reply.Goals as goal

pub unreachable-requires : goal.unreachable-requires
unreachable-requires c =
    let reply =
    has_reply (declared_by c.args.script.now) c.args.held.now.parts c.args.made.now
    (by.Looper c.args.w) (request.Reply c.args.draft) c.requires.allowed c.requires.suits
    c.args.draft c.args.w refl refl in
    c.in_default.not-Reply reply.0 reply.1

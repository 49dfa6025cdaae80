use Rattle.std.proofs.Common.{ap, refl}
use Rattle.be_asking.specs.Acts.{post_window}
use Rattle.be_asking.specs.declared.activity.Runner.TheVariants as by
use Rattle.be_asking.specs.declared.want.Request.TheVariants as request
use Rattle.be_script.specs.Script.{declared_by}
use Rattle.be_world.proofs.Suiting.{app_replies_never, asked_as, drawn, has_command, has_letter}
use Rattle.be_world.proofs.Suiting.{has_reply, looper_claims_never, looper_locks_never}
use Rattle.be_world.proofs.Suiting.{looper_unlocks_never, replied, wished}
use Rattle.be_world.proofs.asked.give.Goals as goal

-- ---- letters

pub into_letter-requires : goal.into_letter-requires
into_letter-requires c =
    has_letter (declared_by c.args.script.now) c.args.held.now.parts c.args.made c.args.runner
    c.args.request c.requires.allowed c.requires.suits c.in-Post.w (ap post_window c.in-Post.is)

pub post-requires-clause-letter : goal.post-requires-clause-letter
post-requires-clause-letter c =
    wished (declared_by c.args.script.now) c.args.held.now.parts c.args.made c.args.runner
    c.args.request c.requires.allowed c.requires.suits c.in-Post.w (ap post_window c.in-Post.is)
    c.into_letter.result c.into_letter.ensures

pub into_letter-requires-in-Send : goal.into_letter-requires-in-Send
into_letter-requires-in-Send c =
    has_letter (declared_by c.args.script.now) c.args.held.now.parts c.args.made c.args.runner
    c.args.request c.requires.allowed c.requires.suits c.in-Send.w (ap post_window c.in-Send.is)

pub post-requires-in-Send-clause-letter : goal.post-requires-in-Send-clause-letter
post-requires-in-Send-clause-letter c =
    wished (declared_by c.args.script.now) c.args.held.now.parts c.args.made c.args.runner
    c.args.request c.requires.allowed c.requires.suits c.in-Send.w (ap post_window c.in-Send.is)
    c.into_letter-in-Send.result c.into_letter-in-Send.ensures

pub into_letter-requires-in-Forward : goal.into_letter-requires-in-Forward
into_letter-requires-in-Forward c =
    has_letter (declared_by c.args.script.now) c.args.held.now.parts c.args.made c.args.runner
    c.args.request c.requires.allowed c.requires.suits c.in-Forward.w
    (ap post_window c.in-Forward.is)

pub post-requires-in-Forward-clause-letter : goal.post-requires-in-Forward-clause-letter
post-requires-in-Forward-clause-letter c =
    wished (declared_by c.args.script.now) c.args.held.now.parts c.args.made c.args.runner
    c.args.request c.requires.allowed c.requires.suits c.in-Forward.w
    (ap post_window c.in-Forward.is) c.into_letter-in-Forward.result
    c.into_letter-in-Forward.ensures

-- ---- replies and commands

pub into_reply-requires : goal.into_reply-requires
into_reply-requires c =
    has_reply (declared_by c.args.script.now) c.args.held.now.parts c.args.made c.args.runner
    c.args.request c.requires.allowed c.requires.suits c.in-Reply.draft c.in-Looper.w
    c.in-Reply.is c.in-Looper.is

pub reply-requires-clause-message : goal.reply-requires-clause-message
reply-requires-clause-message c =
    replied (declared_by c.args.script.now) c.args.held.now.parts c.args.made c.args.runner
    c.args.request c.requires.allowed c.requires.suits c.in-Reply.draft c.in-Looper.w
    c.in-Reply.is c.in-Looper.is c.into_reply.result c.into_reply.ensures

pub into_command-requires : goal.into_command-requires
into_command-requires c =
    has_command (declared_by c.args.script.now) c.args.held.now.parts c.args.made c.args.runner
    c.args.request c.requires.allowed c.requires.suits c.in-Draw.command c.in-Draw.is

pub draw-requires-clause-copy : goal.draw-requires-clause-copy
draw-requires-clause-copy c =
    drawn (declared_by c.args.script.now) c.args.held.now.parts c.args.made c.args.runner
    c.args.request c.requires.allowed c.requires.suits c.in-Draw.command c.in-Draw.is
    c.into_command.result c.into_command.ensures

-- ---- who asks

pub unreachable-requires : goal.unreachable-requires
unreachable-requires c =
    let d = declared_by c.args.script.now in
    let parts = c.args.held.now.parts in
    app_replies_never d parts c.in-App.field-0 c.in-Reply.draft (asked_as d parts c.args.runner
    c.args.request c.requires.allowed (by.App c.in-App.field-0) (request.Reply c.in-Reply.draft)
    c.in-App.is c.in-Reply.is)

pub unreachable-requires-in-Looper-runner : goal.unreachable-requires-in-Looper-runner
unreachable-requires-in-Looper-runner c =
    let d = declared_by c.args.script.now in
    let parts = c.args.held.now.parts in
    let w = c.in-Looper-runner.field-0 in
    looper_claims_never d parts w c.args.request (asked_as d parts c.args.runner c.args.request
    c.requires.allowed (by.Looper w) c.args.request c.in-Looper-runner.is refl) c.in-Claim.is

pub unreachable-requires-in-Looper-runner-2 : goal.unreachable-requires-in-Looper-runner-2
unreachable-requires-in-Looper-runner-2 c =
    let d = declared_by c.args.script.now in
    let parts = c.args.held.now.parts in
    let w = c.in-Looper-runner-2.field-0 in
    looper_locks_never d parts w c.args.request (asked_as d parts c.args.runner c.args.request
    c.requires.allowed (by.Looper w) c.args.request c.in-Looper-runner-2.is refl) c.in-Lock.w
    c.in-Lock.is

pub unreachable-requires-in-Looper-runner-3 : goal.unreachable-requires-in-Looper-runner-3
unreachable-requires-in-Looper-runner-3 c =
    let d = declared_by c.args.script.now in
    let parts = c.args.held.now.parts in
    let w = c.in-Looper-runner-3.field-0 in
    looper_unlocks_never d parts w c.args.request (asked_as d parts c.args.runner c.args.request
    c.requires.allowed (by.Looper w) c.args.request c.in-Looper-runner-3.is refl) c.in-Unlock.is

use Rattle.std.proofs.Common.{sym}
use Rattle.std.proofs.lemmas.Option.{same_Some}
use Rattle.std.proofs.lemmas.Result.{IfOk-weaker}
use Rattle.be_asking.specs.declared.activity.Runner.TheVariants as by
use Rattle.be_asking.specs.declared.want.Request.TheVariants as request
use Rattle.be_ready.specs.Letters.{IsMade}
use Rattle.be_script.specs.Script.{declared_by}
use Rattle.be_steps.specs.Waiters.{IsReply}
use Rattle.be_ready.proofs.replies.reply_message.Goals as goal

pub returns : goal.returns
returns c =
    IfOk-weaker c.looper_message.result
    (IsMade (declared_by c.args.script.now) c.args.held.now.parts (by.Looper c.args.w) (request.Reply c.args.draft))
    (IsReply (declared_by c.args.script.now) c.args.held.now.parts c.args.w c.args.draft.now)
    (λ message made all sound fits. sym (same_Some _ message (made all sound fits)))
    c.looper_message.ensures

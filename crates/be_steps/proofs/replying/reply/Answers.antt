use Rattle.std.proofs.Common.{sym, ap, ◌∙◌}
use Rattle.be_asking.specs.declared.activity.Runner.TheVariants as by
use Rattle.be_asking.specs.declared.want.Request.TheVariants as request
use Rattle.be_asking.specs.declared.want.Want.TheVariants as want
use Rattle.be_hall.specs.Hands.{part_at}
use Rattle.be_parts.specs.Effects.{looper_with}
use Rattle.be_parts.specs.Loopers.{at_place}
use Rattle.be_parts.specs.declared.part.Part.TheVariants as kinds
use Rattle.be_script.specs.Script.{declared_by}
use Rattle.be_steps.proofs.Replied.{reply_step, shape}
use Rattle.be_steps.proofs.Waited.{looper_there, waiter_stays, waiter_there}
use Rattle.be_steps.proofs.replying.reply.Goals as goal

pub looper_is_there-requires : goal.looper_is_there-requires
looper_is_there-requires c =
    looper_there (declared_by c.args.script.now) c.args.held.now c.args.w (want.Asks (by.Looper c.args.w) (request.Reply c.args.draft)) c.requires.allowed (shape (declared_by c.args.script.now) c.args.held.now c.args.w c.args.draft c.requires.allowed)

pub who_waits-waits-requires-clause-cells : goal.who_waits-waits-requires-clause-cells
who_waits-waits-requires-clause-cells c =
    waiter_there (declared_by c.args.script.now) c.args.held.now c.args.w (want.Asks (by.Looper c.args.w) (request.Reply c.args.draft)) c.requires.allowed (shape (declared_by c.args.script.now) c.args.held.now c.args.w c.args.draft c.requires.allowed)
    c.looper_is_there.ensures

pub place_past-next-requires-clause-there : goal.place_past-next-requires-clause-there
place_past-next-requires-clause-there c =
    (looper_there (declared_by c.args.script.now) c.args.held.now c.args.w (want.Asks (by.Looper c.args.w) (request.Reply c.args.draft)) c.requires.allowed (shape (declared_by c.args.script.now) c.args.held.now c.args.w c.args.draft c.requires.allowed)).reachable.there

pub tell-requires : goal.tell-requires
tell-requires c = (
  declared_by c.args.script.now,
  waiter_stays (declared_by c.args.script.now) c.args.held.now c.args.w (want.Asks (by.Looper c.args.w) (request.Reply c.args.draft)) c.requires.allowed (shape (declared_by c.args.script.now) c.args.held.now c.args.w c.args.draft c.requires.allowed)
      c.looper_to_change-looper.result.now (ap (part_at c.args.held.now.parts) (sym c.looper_place.ensures) ∙ c.looper_to_change-looper.ensures.value)
      c.looper_place.result (kinds.Looper c.go_to.new.self) c.who_waits-waits.result c.looper_place.ensures c.who_waits-waits.ensures.waits c.who_waits-waits.ensures.there,
)

pub returns : goal.returns
returns c =
    reply_step (declared_by c.args.script.now) c.args.held.now c.args.w c.args.draft c.requires.allowed c.looper_to_change-looper.result.now
    (ap (part_at c.args.held.now.parts) (sym c.looper_place.ensures) ∙ c.looper_to_change-looper.ensures.value) c.args.message c.requires.message
    c.looper_place.result c.looper_place.ensures c.go_to.new.self c.place_past-next.result
    (c.place_past-next.ensures c.looper_to_change-looper.result.now (ap (part_at c.args.held.now.parts) (sym c.looper_place.ensures) ∙ c.looper_to_change-looper.ensures.value))
    (c.go_to.ensures.slice ∙ ap (looper_with (at_place c.place_past-next.result)) c.reply-answer.ensures.slice) (c.go_to.ensures.log ∙ c.reply-answer.ensures.log)
    c.who_waits-waits.result c.who_waits-waits.ensures.waits c.tell.new.held (c.tell.ensures (declared_by c.args.script.now))

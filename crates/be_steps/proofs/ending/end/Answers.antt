use Rattle.std.proofs.Common.{sym, ap, ◌∙◌}
use Rattle.be_asking.specs.declared.want.Want.TheVariants as want
use Rattle.be_hall.specs.Hands.{part_at}
use Rattle.be_parts.specs.declared.part.Part.TheVariants as kinds
use Rattle.be_script.specs.Script.{declared_by}
use Rattle.be_steps.proofs.Ended.{end_step, has_hand, shape}
use Rattle.be_steps.proofs.Waited.{looper_there, waiter_stays, waiter_there}
use Rattle.be_steps.proofs.ending.end.Goals as goal

pub looper_is_there-requires : goal.looper_is_there-requires
looper_is_there-requires c =
    looper_there (declared_by c.args.script.now) c.args.held.now c.args.w (want.Ends c.args.w) c.requires (shape (declared_by c.args.script.now) c.args.held.now c.args.w c.requires)

pub who_waits-waits-requires-clause-cells : goal.who_waits-waits-requires-clause-cells
who_waits-waits-requires-clause-cells c =
    waiter_there (declared_by c.args.script.now) c.args.held.now c.args.w (want.Ends c.args.w) c.requires (shape (declared_by c.args.script.now) c.args.held.now c.args.w c.requires) c.looper_is_there.ensures

pub end-requires : goal.end-requires
end-requires c =
    has_hand (declared_by c.args.script.now) c.args.held.now c.args.w c.requires c.looper_to_change.result.now
    (ap (part_at c.args.held.now.parts) (sym c.looper_place.ensures) ∙ c.looper_to_change.ensures.value)

pub tell-requires : goal.tell-requires
tell-requires c = (
  declared_by c.args.script.now,
  waiter_stays (declared_by c.args.script.now) c.args.held.now c.args.w (want.Ends c.args.w) c.requires (shape (declared_by c.args.script.now) c.args.held.now c.args.w c.requires) c.looper_to_change.result.now
      (ap (part_at c.args.held.now.parts) (sym c.looper_place.ensures) ∙ c.looper_to_change.ensures.value)
      c.looper_place.result (kinds.Looper c.end.new.self) c.who_waits-waits.result c.looper_place.ensures c.who_waits-waits.ensures.waits c.who_waits-waits.ensures.there,
)

pub returns : goal.returns
returns c =
    end_step (declared_by c.args.script.now) c.args.held.now c.args.w c.requires c.looper_to_change.result.now
    (ap (part_at c.args.held.now.parts) (sym c.looper_place.ensures) ∙ c.looper_to_change.ensures.value)
    c.end_word.result c.end_word.ensures c.looper_place.result c.looper_place.ensures c.end.new.self c.end.ensures.slice c.end.ensures.log c.new-word.result c.new-word.ensures
    c.who_waits-waits.result c.who_waits-waits.ensures.waits c.tell.new.held (c.tell.ensures (declared_by c.args.script.now))

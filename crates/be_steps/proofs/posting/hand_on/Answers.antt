use Rattle.std.proofs.Common.{ap, ◌∙◌}
use Rattle.be_parts.specs.Effects.{looper_with}
use Rattle.be_parts.specs.Loopers.{at_place}
use Rattle.be_script.specs.Script.{declared_by}
use Rattle.be_steps.proofs.Owned.{gone_looper, own_looper}
use Rattle.be_steps.specs.Going.{handed_on_in}
use Rattle.be_steps.proofs.posting.hand_on.Goals as goal

pub looper_to_change-looper-requires : goal.looper_to_change-looper-requires
looper_to_change-looper-requires c =
    own_looper (declared_by c.args.script.now) c.args.runner c.in-Looper.w c.looper_place.result c.args.held.now.parts c.in-Looper.is c.looper_place.ensures c.requires.own

pub returns-in-Looper : goal.returns-in-Looper
returns-in-Looper c =
    gone_looper (declared_by c.args.script.now) c.args.runner c.in-Looper.w c.looper_place.result handed_on_in c.args.place c.args.held.now c.looper_to_change-looper.result.now c.go_to-in-Looper.new.self
    c.in-Looper.is c.looper_place.ensures c.looper_to_change-looper.ensures.value (c.go_to-in-Looper.ensures.slice ∙ ap (looper_with (at_place c.args.place)) c.detach.ensures.slice) (c.go_to-in-Looper.ensures.log ∙ c.detach.ensures.log)

use Rattle.std.proofs.Common.{ap, ◌∙◌}
use Rattle.be_machine.specs.State.{ending}
use Rattle.be_machine.specs.Update.{at_stage}
use Rattle.be_parts.specs.Effects.{looper_with}
use Rattle.be_script.specs.Script.{declared_by}
use Rattle.be_steps.proofs.Drawn.{end_done, end_number, end_room, end_there}
use Rattle.be_steps.proofs.drawing.put_end.Goals as goal

pub looper_is_there-requires : goal.looper_is_there-requires
looper_is_there-requires c = end_there (declared_by c.args.script.now) c.args.held.now c.args.w c.requires

pub put-requires-clause-room : goal.put-requires-clause-room
put-requires-clause-room c =
    end_room (declared_by c.args.script.now) c.args.held.now c.args.w c.requires c.looper_place.result c.looper_place.ensures c.looper_to_change-looper.result.now c.looper_to_change-looper.ensures.value

pub put-requires-clause-number : goal.put-requires-clause-number
put-requires-clause-number c =
    end_number (declared_by c.args.script.now) c.args.held.now c.args.w c.requires c.looper_place.result c.looper_place.ensures c.looper_to_change-looper.result.now c.looper_to_change-looper.ensures.value

pub returns : goal.returns
returns c =
    end_done (declared_by c.args.script.now) c.args.held.now c.args.w c.requires c.looper_place.result c.looper_place.ensures c.looper_to_change-looper.result.now c.looper_to_change-looper.ensures.value
    c.draw_nothing_more.new.self (c.draw_nothing_more.ensures.slice ∙ ap (looper_with (at_stage ending)) c.put.ensures.slice) (c.draw_nothing_more.ensures.log ∙ c.put.ensures.log)

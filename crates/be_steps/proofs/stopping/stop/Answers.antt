use Rattle.std.proofs.Common.{ap, ◌∙◌}
use Rattle.be_hall.specs.Hands.{part_at}
use Rattle.be_script.specs.Script.{declared_by}
use Rattle.be_steps.proofs.InputGone.{has_stopped, input_held}
use Rattle.be_steps.proofs.stopping.stop.Goals as goal

pub input_is_there-requires : goal.input_is_there-requires
input_is_there-requires c = input_held (declared_by c.args.script.now) c.args.held.now c.requires

pub input_to_change-requires : goal.input_to_change-requires
input_to_change-requires c =
    (c.input_is_there.ensures.0, ap (part_at c.args.held.now.parts) (c.input_place.ensures (declared_by c.args.script.now)) ∙ c.input_is_there.ensures.1)

pub returns : goal.returns
returns c =
    has_stopped (declared_by c.args.script.now) c.args.held.now c.requires c.input_place.result (c.input_place.ensures (declared_by c.args.script.now)) c.input_to_change.result.now c.input_to_change.ensures.value
    c.stop.new.self c.stop.ensures.slice c.stop.ensures.log

use Rattle.std.proofs.Common.{ap, ◌∙◌}
use Rattle.be_hall.specs.Hands.{part_at}
use Rattle.be_script.specs.Script.{declared_by}
use Rattle.be_steps.proofs.InputGone.{few_events, input_there, used_up}
use Rattle.be_steps.proofs.input.use_up.Goals as goal

pub input_is_there-requires : goal.input_is_there-requires
input_is_there-requires c = input_there (declared_by c.args.script.now) c.args.held.now c.requires

pub input_to_change-requires : goal.input_to_change-requires
input_to_change-requires c =
    (c.input_is_there.ensures.0, ap (part_at c.args.held.now.parts) (c.input_place.ensures (declared_by c.args.script.now)) ∙ c.input_is_there.ensures.1)

pub use_event-requires : goal.use_event-requires
use_event-requires c =
    few_events (declared_by c.args.script.now) c.args.held.now c.requires c.input_place.result (c.input_place.ensures (declared_by c.args.script.now)) c.input_to_change.result.now c.input_to_change.ensures.value

pub returns : goal.returns
returns c =
    used_up (declared_by c.args.script.now) c.args.held.now c.requires c.input_place.result (c.input_place.ensures (declared_by c.args.script.now)) c.input_to_change.result.now c.input_to_change.ensures.value
    c.use_event.new.self c.use_event.ensures.slice c.use_event.ensures.log

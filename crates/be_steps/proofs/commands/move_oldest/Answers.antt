use Rattle.std.proofs.Common.{sym, ap, ◌∙◌}
use Rattle.std.specs.Prelude.{option_map}
use Rattle.be_link.specs.Queues.{numbered}
use Rattle.be_steps.proofs.Moving.{link_stays, moved_nothing, moved_one, room_for_one}
use Rattle.be_steps.proofs.commands.move_oldest.Goals as goal

pub link_to_change-requires : goal.link_to_change-requires
link_to_change-requires c = (
  c.requires.link.0,
  link_stays c.args.looper c.args.link c.requires.apart c.args.held.now c.looper_to_change.result.now c.pop.new.self c.looper_to_change.ensures.value c.pop.ensures.slice c.pop.ensures.log c.requires.link.0 c.requires.link.1,
)

pub push-requires : goal.push-requires
push-requires c =
    room_for_one c.args.looper c.args.link c.requires.apart c.args.held.now c.looper_to_change.result.now c.pop.new.self c.looper_to_change.ensures.value c.pop.ensures.slice c.pop.ensures.log
    c.requires.room (numbered (c.in-Some.number, c.in-Some.command)) (sym (ap (option_map numbered) c.in-Some.is) ∙ c.pop.ensures.command) c.link_to_change.result.now c.link_to_change.ensures.value

pub returns-in-Some : goal.returns-in-Some
returns-in-Some c =
    moved_one c.args.looper c.args.link c.requires.apart c.args.held.now c.looper_to_change.result.now c.pop.new.self c.looper_to_change.ensures.value c.pop.ensures.slice c.pop.ensures.log
    (numbered (c.in-Some.number, c.in-Some.command)) (sym (ap (option_map numbered) c.in-Some.is) ∙ c.pop.ensures.command) c.link_to_change.result.now c.push.new.self c.link_to_change.ensures.value c.push.ensures

pub returns-in_default : goal.returns-in_default
returns-in_default c =
    moved_nothing c.args.looper c.args.link c.requires.apart c.args.held.now c.looper_to_change.result.now c.pop.new.self c.looper_to_change.ensures.value c.pop.ensures.slice c.pop.ensures.log
    (sym (ap (option_map numbered) c.in_default.is) ∙ c.pop.ensures.command) c.requires.link.0 c.requires.link.1

use Rattle.be_machine.specs.Touched as part
use Rattle.be_script.specs.Script.{declared_by}
use Rattle.be_steps.proofs.ExecuteDone.{execute_done, is_executed, link_in_hand, pane_in, pane_there, some_popped}
use Rattle.be_steps.proofs.Stays.{held_as}
use Rattle.be_steps.proofs.executing.execute.Goals as goal

pub pane_is_there-requires : goal.pane_is_there-requires
pane_is_there-requires c = pane_there (declared_by c.args.script.now) c.args.held.now c.args.w c.requires.allowed c.requires.front

pub left_at-drawn-requires-clause-there : goal.left_at-drawn-requires-clause-there
left_at-drawn-requires-clause-there c =
    let there = pane_there (declared_by c.args.script.now) c.args.held.now c.args.w c.requires.allowed c.requires.front in (
      part.pane c.args.w,
      there.reachable.there,
      c.pane_place-pane.ensures,
      held_as (declared_by c.args.script.now) (part.pane c.args.w) c.args.held.now c.of-before.result.value c.pane_place-pane.result c.of-before.ensures c.pane_place-pane.ensures there,
    )

pub link_to_change-requires : goal.link_to_change-requires
link_to_change-requires c =
    link_in_hand (declared_by c.args.script.now) c.args.held.now c.args.w c.requires.allowed c.requires.front c.link_place-link.result c.pane_place-pane.result c.link_place-link.ensures c.pane_place-pane.ensures

pub unwrap-command-requires : goal.unwrap-command-requires
unwrap-command-requires c =
    some_popped (declared_by c.args.script.now) c.args.held.now c.args.w c.requires.allowed c.requires.front c.link_place-link.result c.pane_place-pane.result c.link_place-link.ensures c.pane_place-pane.ensures
    c.link_to_change.result.now c.pop.result c.link_to_change.ensures.value c.pop.ensures.command

pub pane_to_change-requires : goal.pane_to_change-requires
pane_to_change-requires c =
    pane_in (declared_by c.args.script.now) c.args.held.now c.args.w c.requires.allowed c.requires.front c.link_place-link.result c.pane_place-pane.result c.link_place-link.ensures c.pane_place-pane.ensures
    c.pop.new.self c.pane_is_there.ensures

pub execute-requires : goal.execute-requires
execute-requires c =
    is_executed (declared_by c.args.script.now) c.args.held.now c.args.w c.requires.allowed c.requires.front c.link_place-link.result c.pane_place-pane.result c.link_place-link.ensures c.pane_place-pane.ensures
    c.waiting_commands_are_within_limits.ensures.linked c.link_to_change.result.now c.pop.new.self c.left_at-drawn.result.value c.pop.result c.unwrap-command.result c.pane_to_change.result.now c.of-before.result.value c.args.bitmaps.now
    c.requires.bitmaps c.of-before.ensures c.link_to_change.ensures.value c.pop.ensures.command c.unwrap-command.ensures c.pane_to_change.ensures.value c.left_at-drawn.ensures

pub returns : goal.returns
returns c =
    execute_done (declared_by c.args.script.now) c.args.held.now c.args.w c.requires.allowed c.requires.front c.link_place-link.result c.pane_place-pane.result c.link_place-link.ensures c.pane_place-pane.ensures
    c.link_to_change.result.now c.pop.new.self c.left_at-drawn.result.value c.pane_to_change.result.now c.execute.new.self c.of-before.result.value c.of-before.ensures
    c.link_to_change.ensures.value c.pop.ensures.slice c.pane_to_change.ensures.value c.left_at-drawn.ensures c.execute.ensures.slice c.execute.ensures.log

use Rattle.be_machine.specs.Touched as part
use Rattle.be_script.specs.Script.{declared_by}
use Rattle.be_steps.proofs.NoticeDone.{few_letters, has_notice_now, has_notified, notice_done, pane_in, pane_there, port_there}
use Rattle.be_steps.proofs.Stays.{held_as}
use Rattle.be_steps.proofs.updating.notify.Goals as goal

pub port_is_there-requires : goal.port_is_there-requires
port_is_there-requires c = port_there (declared_by c.args.script.now) c.args.held.now c.args.w c.requires.allowed

pub pane_is_there-requires : goal.pane_is_there-requires
pane_is_there-requires c = pane_there (declared_by c.args.script.now) c.args.held.now c.args.w c.requires.allowed

pub left_at-posted-requires-clause-there : goal.left_at-posted-requires-clause-there
left_at-posted-requires-clause-there c =
    let there = port_there (declared_by c.args.script.now) c.args.held.now c.args.w c.requires.allowed in (
      part.port c.args.w,
      there.reachable.there,
      c.port_place-port.ensures,
      held_as (declared_by c.args.script.now) (part.port c.args.w) c.args.held.now c.of-before.result.value c.port_place-port.result c.of-before.ensures c.port_place-port.ensures there,
    )

pub left_at-kept-requires-clause-there : goal.left_at-kept-requires-clause-there
left_at-kept-requires-clause-there c =
    let there = pane_there (declared_by c.args.script.now) c.args.held.now c.args.w c.requires.allowed in (
      part.pane c.args.w,
      there.reachable.there,
      c.pane_place-pane.ensures,
      held_as (declared_by c.args.script.now) (part.pane c.args.w) c.args.held.now c.of-before.result.value c.pane_place-pane.result c.of-before.ensures c.pane_place-pane.ensures there,
    )

pub notice-requires-clause-last : goal.notice-requires-clause-last
notice-requires-clause-last c =
    few_letters (declared_by c.args.script.now) c.args.held.now c.args.w c.requires.allowed c.port_place-port.result c.pane_place-pane.result c.port_place-port.ensures c.pane_place-pane.ensures
    c.port_to_change.result.now c.port_to_change.ensures.value

pub notice-requires-clause-next : goal.notice-requires-clause-next
notice-requires-clause-next c =
    has_notice_now (declared_by c.args.script.now) c.args.held.now c.args.w c.requires.allowed c.port_place-port.result c.pane_place-pane.result c.port_place-port.ensures c.pane_place-pane.ensures
    c.an_owed_notice_is_alone.ensures c.args.letter c.requires.letter c.port_to_change.result.now c.left_at-posted.result.value c.of-before.result.value c.of-before.ensures c.port_to_change.ensures.value c.left_at-posted.ensures

pub pane_to_change-requires : goal.pane_to_change-requires
pane_to_change-requires c =
    pane_in (declared_by c.args.script.now) c.args.held.now c.args.w c.requires.allowed c.port_place-port.result c.pane_place-pane.result c.port_place-port.ensures c.pane_place-pane.ensures c.notice.new.self c.pane_is_there.ensures

pub notify-requires : goal.notify-requires
notify-requires c =
    has_notified (declared_by c.args.script.now) c.args.held.now c.args.w c.requires.allowed c.port_place-port.result c.pane_place-pane.result c.port_place-port.ensures c.pane_place-pane.ensures
    c.notice.new.self c.left_at-kept.result.value c.pane_to_change.result.now c.of-before.result.value c.of-before.ensures c.pane_to_change.ensures.value c.left_at-kept.ensures

pub returns : goal.returns
returns c =
    notice_done (declared_by c.args.script.now) c.args.held.now c.args.w c.requires.allowed c.port_place-port.result c.pane_place-pane.result c.port_place-port.ensures c.pane_place-pane.ensures
    c.port_to_change.result.now c.left_at-posted.result.value c.notice.new.self c.left_at-kept.result.value c.pane_to_change.result.now c.notify.new.self c.of-before.result.value c.of-before.ensures
    c.port_to_change.ensures.value c.left_at-posted.ensures c.notice.ensures.slice c.pane_to_change.ensures.value c.left_at-kept.ensures c.notify.ensures.slice c.notify.ensures.log

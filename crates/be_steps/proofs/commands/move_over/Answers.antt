use Rattle.std.proofs.Common.{◌≡◌, length, arith}
use Rattle.be_steps.proofs.Moving.{moved_all, moved_next, moved_none, still_link, still_looper, still_room}
use Rattle.be_steps.proofs.commands.move_over.Goals as goal

pub loop-init : goal.loop-init
loop-init c = moved_none c.args.looper c.args.link c.requires.apart c.args.held.now c.requires.looper.0 c.requires.link.0 c.requires.looper.1 c.requires.link.1

pub move_oldest-requires-clause-looper : goal.move_oldest-requires-clause-looper
move_oldest-requires-clause-looper c = still_looper c.args.looper c.args.link c.requires.apart c.loop.counter c.args.held.now c.loop.held c.loop.invariant

pub move_oldest-requires-clause-link : goal.move_oldest-requires-clause-link
move_oldest-requires-clause-link c = still_link c.args.looper c.args.link c.requires.apart c.loop.counter c.args.held.now c.loop.held c.loop.invariant

pub move_oldest-requires-clause-room : goal.move_oldest-requires-clause-room
move_oldest-requires-clause-room c = still_room c.args.looper c.args.link c.requires.apart c.loop.counter c.args.held.now c.loop.held c.loop.invariant c.requires.room

pub loop-preserved : goal.loop-preserved
loop-preserved c = moved_next c.args.looper c.args.link c.requires.apart c.loop.counter c.args.held.now c.loop.held c.loop.invariant c.move_oldest.new.held c.move_oldest.ensures

pub returns : goal.returns
returns c =
    let all : c.loop.counter ≡ length c.buffer.result.now.commands = omega (arith, c.loop.auto.counter-end, c.loop-test.false, c.len-count.ensures.len) in
    moved_all c.args.looper c.args.link c.requires.apart c.loop.counter c.args.held.now c.loop.held c.looper_at.result.now c.buffer.result.now c.looper_at.ensures c.buffer.ensures all c.loop.invariant

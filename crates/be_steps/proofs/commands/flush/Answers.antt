use Rattle.be_script.specs.Script.{declared_by}
use Rattle.be_steps.proofs.Flushed.{flush_apart, flush_done, flush_link_there, flush_looper_there, flush_room}
use Rattle.be_steps.proofs.commands.flush.Goals as goal

pub looper_is_there-requires : goal.looper_is_there-requires
looper_is_there-requires c = flush_looper_there (declared_by c.args.script.now) c.args.held.now c.args.w c.requires

pub link_is_there-requires : goal.link_is_there-requires
link_is_there-requires c = flush_link_there (declared_by c.args.script.now) c.args.held.now c.args.w c.requires

pub move_over-requires-clause-apart : goal.move_over-requires-clause-apart
move_over-requires-clause-apart c =
    flush_apart (declared_by c.args.script.now) c.args.held.now c.args.w c.requires c.looper_place.result c.link_place.result c.looper_place.ensures c.link_place.ensures

pub move_over-requires-clause-room : goal.move_over-requires-clause-room
move_over-requires-clause-room c =
    flush_room (declared_by c.args.script.now) c.args.held.now c.args.w c.requires c.looper_place.result c.link_place.result c.looper_place.ensures c.link_place.ensures

pub returns : goal.returns
returns c =
    flush_done (declared_by c.args.script.now) c.args.held.now c.args.w c.requires c.looper_place.result c.link_place.result c.looper_place.ensures c.link_place.ensures c.move_over.new.held c.move_over.ensures

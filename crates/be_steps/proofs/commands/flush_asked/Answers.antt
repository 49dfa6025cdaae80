use Rattle.be_asking.specs.declared.want.Request.TheVariants as request
use Rattle.be_script.specs.Script.{declared_by}
use Rattle.be_steps.proofs.Flushed.{asked_apart, asked_done, asked_link_there, asked_looper_there, asked_own, asked_room}
use Rattle.be_steps.proofs.Gone.{own_there}
use Rattle.be_steps.proofs.commands.flush_asked.Goals as goal

pub own_is_there-requires : goal.own_is_there-requires
own_is_there-requires c = own_there (declared_by c.args.script.now) c.args.held.now.parts c.args.runner request.Flush c.requires

pub looper_is_there-requires : goal.looper_is_there-requires
looper_is_there-requires c = asked_looper_there (declared_by c.args.script.now) c.args.held.now c.args.runner c.requires c.own_window-w.result c.own_window-w.ensures

pub link_is_there-requires : goal.link_is_there-requires
link_is_there-requires c = asked_link_there (declared_by c.args.script.now) c.args.held.now c.args.runner c.requires c.own_window-w.result c.own_window-w.ensures

pub place_past-next-requires-clause-there : goal.place_past-next-requires-clause-there
place_past-next-requires-clause-there c = (own_there (declared_by c.args.script.now) c.args.held.now.parts c.args.runner request.Flush c.requires).reachable.there

pub move_over-requires-clause-apart : goal.move_over-requires-clause-apart
move_over-requires-clause-apart c =
    asked_apart (declared_by c.args.script.now) c.args.held.now c.args.runner c.requires c.own_window-w.result c.own_window-w.ensures c.looper_place.result c.link_place.result c.looper_place.ensures c.link_place.ensures

pub move_over-requires-clause-room : goal.move_over-requires-clause-room
move_over-requires-clause-room c =
    asked_room (declared_by c.args.script.now) c.args.held.now c.args.runner c.requires c.own_window-w.result c.own_window-w.ensures c.looper_place.result c.link_place.result c.looper_place.ensures c.link_place.ensures

pub go_to-requires-clause-own : goal.go_to-requires-clause-own
go_to-requires-clause-own c =
    asked_own (declared_by c.args.script.now) c.args.held.now c.args.runner c.requires c.own_window-w.result c.own_window-w.ensures c.looper_place.result c.link_place.result c.looper_place.ensures c.link_place.ensures
    c.move_over.new.held c.move_over.ensures c.own_is_there.ensures

pub returns : goal.returns
returns c =
    asked_done (declared_by c.args.script.now) c.args.held.now c.args.runner c.requires c.own_window-w.result c.own_window-w.ensures c.looper_place.result c.link_place.result c.looper_place.ensures c.link_place.ensures
    c.move_over.new.held c.move_over.ensures c.place_past-next.result c.go_to.new.held c.place_past-next.ensures c.go_to.ensures

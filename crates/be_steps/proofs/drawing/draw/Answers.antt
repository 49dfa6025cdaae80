use Rattle.be_asking.specs.declared.want.Request.TheVariants as request
use Rattle.be_script.specs.Script.{declared_by}
use Rattle.be_steps.proofs.Drawn.{draw_done, draw_number, draw_own, draw_room, draw_there}
use Rattle.be_steps.proofs.Gone.{own_there}
use Rattle.be_steps.proofs.drawing.draw.Goals as goal

pub own_is_there-requires : goal.own_is_there-requires
own_is_there-requires c = own_there (declared_by c.args.script.now) c.args.held.now.parts c.args.runner (request.Draw c.args.command) c.requires.allowed

pub looper_is_there-requires : goal.looper_is_there-requires
looper_is_there-requires c = draw_there (declared_by c.args.script.now) c.args.held.now c.args.runner c.args.command c.requires.allowed c.own_window-w.result c.own_window-w.ensures

pub place_past-next-requires-clause-there : goal.place_past-next-requires-clause-there
place_past-next-requires-clause-there c = (own_there (declared_by c.args.script.now) c.args.held.now.parts c.args.runner (request.Draw c.args.command) c.requires.allowed).reachable.there

pub put-requires-clause-room : goal.put-requires-clause-room
put-requires-clause-room c =
    draw_room (declared_by c.args.script.now) c.args.held.now c.args.runner c.args.command c.requires.allowed c.own_window-w.result c.own_window-w.ensures
    c.looper_place.result c.looper_place.ensures c.looper_to_change.result.now c.looper_to_change.ensures.value

pub put-requires-clause-number : goal.put-requires-clause-number
put-requires-clause-number c =
    draw_number (declared_by c.args.script.now) c.args.held.now c.args.runner c.args.command c.requires.allowed c.own_window-w.result c.own_window-w.ensures
    c.looper_place.result c.looper_place.ensures c.looper_to_change.result.now c.looper_to_change.ensures.value

pub go_to-requires-clause-own : goal.go_to-requires-clause-own
go_to-requires-clause-own c =
    draw_own (declared_by c.args.script.now) c.args.held.now c.args.runner c.args.command c.requires.allowed c.own_window-w.result c.own_window-w.ensures
    c.looper_place.result c.looper_place.ensures c.looper_to_change.result.now c.looper_to_change.ensures.value c.args.copy c.requires.copy c.put.new.self c.put.ensures.slice c.own_is_there.ensures

pub returns : goal.returns
returns c =
    draw_done (declared_by c.args.script.now) c.args.held.now c.args.runner c.args.command c.requires.allowed c.own_window-w.result c.own_window-w.ensures
    c.looper_place.result c.looper_place.ensures c.looper_to_change.result.now c.looper_to_change.ensures.value c.args.copy c.requires.copy c.put.new.self c.put.ensures.slice
    c.put.ensures.log c.place_past-next.result c.go_to.new.held c.place_past-next.ensures c.go_to.ensures

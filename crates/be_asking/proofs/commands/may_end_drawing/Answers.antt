use Rattle.std.proofs.Common.{sym}
use Rattle.be_script.specs.Script.{declared_by}
use Rattle.be_asking.proofs.DrawAnswered.{draw_waits, draws, few, needs_looper, reach_looper}
use Rattle.be_asking.proofs.commands.may_end_drawing.Goals as goal

pub find_looper-requires : goal.find_looper-requires
find_looper-requires c = reach_looper (declared_by c.args.script.now) c.args.held.now.parts c.args.number c.args.w c.requires

pub returns-in-Err : goal.returns-in-Err
returns-in-Err c = needs_looper (declared_by c.args.script.now) c.args.held.now.parts c.args.number c.args.w c.requires c.in-Err.place c.in-Err.ensures.missing

pub drawn-requires : goal.drawn-requires
drawn-requires c = few (declared_by c.args.script.now) c.args.held.now.parts c.args.number c.args.w c.requires c.in-Ok.looper.now c.in-Ok.ensures.there

pub returns-in-None : goal.returns-in-None
returns-in-None c = draw_waits (declared_by c.args.script.now) c.args.held.now.parts c.args.number c.args.w c.requires c.in-Ok.looper.now c.in-Ok.ensures.there (sym c.in-None.ensures)

pub returns-in-Some : goal.returns-in-Some
returns-in-Some c = draws (declared_by c.args.script.now) c.args.held.now.parts c.args.number c.args.w c.requires c.in-Ok.looper.now c.in-Ok.ensures.there c.in-Some.act (sym c.in-Some.ensures)

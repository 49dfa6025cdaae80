use Rattle.std.proofs.Common.{sym}
use Rattle.be_script.specs.Script.{declared_by}
use Rattle.be_asking.proofs.OwnersAnswered.{draw_needs_looper, draw_reach_looper, draw_waits, draws, few_made}
use Rattle.be_asking.proofs.owning.may_draw.Goals as goal

pub find_looper-requires : goal.find_looper-requires
find_looper-requires c = draw_reach_looper (declared_by c.args.script.now) c.args.held.now.parts c.args.number c.args.runner c.args.w c.args.command c.requires.asked c.requires.owns

pub returns-in-Err : goal.returns-in-Err
returns-in-Err c = draw_needs_looper (declared_by c.args.script.now) c.args.held.now.parts c.args.number c.args.runner c.args.w c.args.command c.requires.asked c.requires.owns c.in-Err.place c.in-Err.ensures.missing

pub drawn-requires : goal.drawn-requires
drawn-requires c = few_made (declared_by c.args.script.now) c.args.held.now.parts c.args.number c.args.runner c.args.w c.args.command c.requires.asked c.requires.owns c.in-Ok.looper.now c.in-Ok.ensures.there

pub returns-in-None : goal.returns-in-None
returns-in-None c = draw_waits (declared_by c.args.script.now) c.args.held.now.parts c.args.number c.args.runner c.args.w c.args.command c.requires.asked c.requires.owns c.in-Ok.looper.now c.in-Ok.ensures.there (sym c.in-None.ensures)

pub returns-in-Some : goal.returns-in-Some
returns-in-Some c = draws (declared_by c.args.script.now) c.args.held.now.parts c.args.number c.args.runner c.args.w c.args.command c.requires.asked c.requires.owns c.in-Ok.looper.now c.in-Ok.ensures.there c.in-Some.act (sym c.in-Some.ensures)

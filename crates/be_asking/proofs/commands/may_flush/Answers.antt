use Rattle.std.proofs.Common.{sym}
use Rattle.be_script.specs.Script.{declared_by}
use Rattle.be_asking.proofs.FlushAnswered.{flush_waits, flushes, needs_link, needs_looper, reach_link, reach_looper}
use Rattle.be_asking.proofs.commands.may_flush.Goals as goal

pub find_looper-requires : goal.find_looper-requires
find_looper-requires c = reach_looper (declared_by c.args.script.now) c.args.held.now.parts c.args.number c.args.w c.requires

pub returns-in-Err : goal.returns-in-Err
returns-in-Err c = needs_looper (declared_by c.args.script.now) c.args.held.now.parts c.args.number c.args.w c.requires c.in-Err.place c.in-Err.ensures.missing

pub find_link-requires : goal.find_link-requires
find_link-requires c = reach_link (declared_by c.args.script.now) c.args.held.now.parts c.args.number c.args.w c.requires

pub returns-in-Err-find_link : goal.returns-in-Err-find_link
returns-in-Err-find_link c = needs_link (declared_by c.args.script.now) c.args.held.now.parts c.args.number c.args.w c.requires c.in-Err-find_link.place c.in-Err-find_link.ensures.missing

pub returns-in-None : goal.returns-in-None
returns-in-None c =
    flush_waits (declared_by c.args.script.now) c.args.held.now.parts c.args.number c.args.w c.requires c.in-Ok.looper.now c.in-Ok-find_link.link.now c.in-Ok.ensures.there c.in-Ok-find_link.ensures.there (sym c.in-None.ensures)

pub returns-in-Some : goal.returns-in-Some
returns-in-Some c =
    flushes (declared_by c.args.script.now) c.args.held.now.parts c.args.number c.args.w c.requires c.in-Ok.looper.now c.in-Ok-find_link.link.now c.in-Ok.ensures.there c.in-Ok-find_link.ensures.there
    c.in-Some.act (sym c.in-Some.ensures)

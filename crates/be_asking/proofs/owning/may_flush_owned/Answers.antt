use Rattle.std.proofs.Common.{sym}
use Rattle.be_script.specs.Script.{declared_by}
use Rattle.be_asking.proofs.OwnersAnswered.{flush_needs_link, flush_needs_looper, flush_reach_link, flush_reach_looper, flush_waits, flushes}
use Rattle.be_asking.proofs.owning.may_flush_owned.Goals as goal

pub find_looper-requires : goal.find_looper-requires
find_looper-requires c = flush_reach_looper (declared_by c.args.script.now) c.args.held.now.parts c.args.number c.args.runner c.args.w c.requires.asked c.requires.owns

pub returns-in-Err : goal.returns-in-Err
returns-in-Err c = flush_needs_looper (declared_by c.args.script.now) c.args.held.now.parts c.args.number c.args.runner c.args.w c.requires.asked c.requires.owns c.in-Err.place c.in-Err.ensures.missing

pub find_link-requires : goal.find_link-requires
find_link-requires c = flush_reach_link (declared_by c.args.script.now) c.args.held.now.parts c.args.number c.args.runner c.args.w c.requires.asked c.requires.owns

pub returns-in-Err-find_link : goal.returns-in-Err-find_link
returns-in-Err-find_link c = flush_needs_link (declared_by c.args.script.now) c.args.held.now.parts c.args.number c.args.runner c.args.w c.requires.asked c.requires.owns c.in-Err-find_link.place c.in-Err-find_link.ensures.missing

pub returns-in-None : goal.returns-in-None
returns-in-None c =
    flush_waits (declared_by c.args.script.now) c.args.held.now.parts c.args.number c.args.runner c.args.w c.requires.asked c.requires.owns c.in-Ok.looper.now c.in-Ok.ensures.there c.in-Ok-find_link.link.now c.in-Ok-find_link.ensures.there
    (sym c.in-None.ensures)

pub returns-in-Some : goal.returns-in-Some
returns-in-Some c =
    flushes (declared_by c.args.script.now) c.args.held.now.parts c.args.number c.args.runner c.args.w c.requires.asked c.requires.owns c.in-Ok.looper.now c.in-Ok.ensures.there c.in-Ok-find_link.link.now c.in-Ok-find_link.ensures.there
    c.in-Some.act (sym c.in-Some.ensures)

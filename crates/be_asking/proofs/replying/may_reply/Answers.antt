use Rattle.std.proofs.Common.{Some, refl, sym, ap, ◌∙◌}
use Rattle.be_script.specs.Script.{declared_by}
use Rattle.be_asking.proofs.RepliesAnswered.{reply_reaches, reply_waits, second_reply, unwanted_reply}
use Rattle.be_asking.proofs.WhoWaits.{needs_cell, needs_looper, reach_cell, reach_looper}
use Rattle.be_asking.proofs.replying.may_reply.Goals as goal

pub find_looper-requires : goal.find_looper-requires
find_looper-requires c = reach_looper (declared_by c.args.script.now) c.args.held.now.parts c.args.number c.args.w _ c.requires.1 (λ x. refl)

pub returns-in-Err : goal.returns-in-Err
returns-in-Err c = needs_looper (declared_by c.args.script.now) c.args.held.now.parts c.args.number c.args.w _ c.requires.1 (λ x. refl) c.in-Err.place c.in-Err.ensures.missing

pub returns-in-None : goal.returns-in-None
returns-in-None c =
    reply_waits (declared_by c.args.script.now) c.args.held.now.parts c.args.number c.args.w c.requires.0 c.requires.1 c.in-Ok.looper.now c.in-Ok.ensures.there c.in-None.ensures.duty

pub returns-in-Done : goal.returns-in-Done
returns-in-Done c =
    second_reply (declared_by c.args.script.now) c.args.held.now.parts c.args.number c.args.w c.requires.0 c.requires.1 c.in-Ok.looper.now c.in-Ok.ensures.there c.in-Some.letter.now.duty
    c.in-Some.ensures.duty c.in-Done.is

pub returns-in-Free : goal.returns-in-Free
returns-in-Free c =
    unwanted_reply (declared_by c.args.script.now) c.args.held.now.parts c.args.number c.args.w c.requires.0 c.requires.1 c.in-Ok.looper.now c.in-Ok.ensures.there c.in-Some.letter.now.duty
    c.in-Some.ensures.duty c.in-Free.is

pub find_cell-requires : goal.find_cell-requires
find_cell-requires c =
    reach_cell (declared_by c.args.script.now) c.args.held.now.parts c.args.number c.args.w _ c.requires.1 (λ x. refl) c.in-Ok.looper.now c.in-Ok.ensures.there c.in-Owed.app
    (sym c.in-Some.ensures.duty ∙ ap Some c.in-Owed.is)

pub returns-in-Err-find_cell : goal.returns-in-Err-find_cell
returns-in-Err-find_cell c =
    needs_cell (declared_by c.args.script.now) c.args.held.now.parts c.args.number c.args.w _ c.requires.1 (λ x. refl) c.in-Ok.looper.now c.in-Ok.ensures.there c.in-Owed.app
    (sym c.in-Some.ensures.duty ∙ ap Some c.in-Owed.is) c.in-Err-find_cell.place c.in-Err-find_cell.ensures.missing

pub returns-in-Ok-find_cell : goal.returns-in-Ok-find_cell
returns-in-Ok-find_cell c =
    reply_reaches (declared_by c.args.script.now) c.args.held.now.parts c.args.number c.args.w c.requires.0 c.requires.1 c.in-Ok.looper.now c.in-Ok.ensures.there c.in-Some.letter.now.duty
    c.in-Some.ensures.duty c.in-Owed.app c.in-Ok-find_cell.field-0.now c.in-Owed.is c.in-Ok-find_cell.ensures.there

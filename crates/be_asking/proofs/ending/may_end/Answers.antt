use Rattle.std.proofs.Common.{Some, refl, sym, ap, ◌∙◌}
use Rattle.be_script.specs.Script.{declared_by}
use Rattle.be_asking.proofs.EndsAnswered.{end_waits, ends_alone, ends_unknown, ends_without, no_route}
use Rattle.be_asking.proofs.WhoWaits.{needs_cell, needs_looper, reach_cell, reach_looper}
use Rattle.be_asking.proofs.ending.may_end.Goals as goal

pub find_looper-requires : goal.find_looper-requires
find_looper-requires c = reach_looper (declared_by c.args.script.now) c.args.held.now.parts c.args.number c.args.w _ c.requires (λ x. refl)

pub returns-in-Err : goal.returns-in-Err
returns-in-Err c = needs_looper (declared_by c.args.script.now) c.args.held.now.parts c.args.number c.args.w _ c.requires (λ x. refl) c.in-Err.place c.in-Err.ensures.missing

pub returns-in-None : goal.returns-in-None
returns-in-None c =
    end_waits (declared_by c.args.script.now) c.args.held.now.parts c.args.number c.args.w c.requires c.in-Ok.looper.now c.in-Ok.ensures.there c.in-None.ensures.duty

pub returns-in-None-route : goal.returns-in-None-route
returns-in-None-route c =
    no_route (declared_by c.args.script.now) c.args.held.now.parts c.args.number c.args.w c.requires c.in-Ok.looper.now c.in-Ok.ensures.there c.in-None-route.ensures

pub returns-in-Done : goal.returns-in-Done
returns-in-Done c =
    ends_alone (declared_by c.args.script.now) c.args.held.now.parts c.args.number c.args.w c.requires c.in-Ok.looper.now c.in-Ok.ensures.there c.in-Some.letter.now.duty c.in-Some-route.route
    c.in-Some.ensures.duty c.in-Some-route.ensures c.in-Done.is

pub find_cell-requires : goal.find_cell-requires
find_cell-requires c =
    reach_cell (declared_by c.args.script.now) c.args.held.now.parts c.args.number c.args.w _ c.requires (λ x. refl) c.in-Ok.looper.now c.in-Ok.ensures.there c.in-Owed.app
    (sym c.in-Some.ensures.duty ∙ ap Some c.in-Owed.is)

pub returns-in-Err-find_cell : goal.returns-in-Err-find_cell
returns-in-Err-find_cell c =
    needs_cell (declared_by c.args.script.now) c.args.held.now.parts c.args.number c.args.w _ c.requires (λ x. refl) c.in-Ok.looper.now c.in-Ok.ensures.there c.in-Owed.app
    (sym c.in-Some.ensures.duty ∙ ap Some c.in-Owed.is) c.in-Err-find_cell.place c.in-Err-find_cell.ensures.missing

pub returns-in-Unknown : goal.returns-in-Unknown
returns-in-Unknown c =
    ends_unknown (declared_by c.args.script.now) c.args.held.now.parts c.args.number c.args.w c.requires c.in-Ok.looper.now c.in-Ok.ensures.there c.in-Some.letter.now.duty c.in-Some-route.route
    c.in-Some.ensures.duty c.in-Some-route.ensures c.in-Owed.app c.in_default.field-0.now c.in-Owed.is c.in_default.ensures.there c.in-Unknown.is

pub returns-in-Skipped : goal.returns-in-Skipped
returns-in-Skipped c =
    ends_without (declared_by c.args.script.now) c.args.held.now.parts c.args.number c.args.w c.requires c.in-Ok.looper.now c.in-Ok.ensures.there c.in-Some.letter.now.duty c.in-Some-route.route
    c.in-Some.ensures.duty c.in-Some-route.ensures c.in-Owed.app c.in_default.field-0.now c.in-Owed.is c.in_default.ensures.there c.in-Skipped.is

use Rattle.std.proofs.Common.{sym, subst}
use Rattle.std.specs.Prelude.{MatchOption}
use Rattle.be_desk.specs.Desks.{desk_of}
use Rattle.be_script.specs.Script.{declared_by}
use Rattle.be_asking.specs.Using.{AreInHand, AreWindows, HasMissing, HasStirred, LacksStirred}
use Rattle.be_asking.proofs.StirredAnswered.{by_option, has_stirred, lacks_stirred, name_stirred, names_below, stirred_named}
use Rattle.be_asking.proofs.stirred.missing_stirred.Goals as goal

pub first_missing-requires-clause-there : goal.first_missing-requires-clause-there
first_missing-requires-clause-there c =
    subst (AreWindows (declared_by c.args.script.now)) (sym c.deref.ensures.value)
    (names_below (declared_by c.args.script.now) c.args.held.now.parts (desk_of c.args.desk.now) c.args.w c.in-Ok.names.items
    (name_stirred (desk_of c.args.desk.now) c.args.w c.in-Ok.names.items c.in-Ok.ensures.taken c.in-Ok.ensures.names) c.requires.many c.requires.there)

pub returns-in-Ok : goal.returns-in-Ok
returns-in-Ok c =
    let there = name_stirred (desk_of c.args.desk.now) c.args.w c.in-Ok.names.items c.in-Ok.ensures.taken c.in-Ok.ensures.names in
    by_option c.first_missing.result (AreInHand (declared_by c.args.script.now) c.args.held.now.parts c.in-Ok.names.items) (HasStirred (declared_by c.args.script.now) c.args.held.now.parts (desk_of c.args.desk.now) c.args.w)
    (HasMissing (declared_by c.args.script.now) c.args.held.now.parts c.in-Ok.names.items) (LacksStirred (declared_by c.args.script.now) c.args.held.now.parts (desk_of c.args.desk.now) c.args.w)
    (has_stirred (declared_by c.args.script.now) c.args.held.now.parts (desk_of c.args.desk.now) c.args.w c.in-Ok.names.items there
    (stirred_named (desk_of c.args.desk.now) c.args.w c.in-Ok.names.items c.in-Ok.ensures.taken c.in-Ok.ensures.names))
    (lacks_stirred (declared_by c.args.script.now) c.args.held.now.parts (desk_of c.args.desk.now) c.args.w c.in-Ok.names.items there c.requires.many c.requires.there)
    (subst (λ names. MatchOption c.first_missing.result (AreInHand (declared_by c.args.script.now) c.args.held.now.parts names) (HasMissing (declared_by c.args.script.now) c.args.held.now.parts names)) c.deref.ensures.value c.first_missing.ensures)

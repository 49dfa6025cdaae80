use Rattle.std.proofs.Common.{refl}
use Rattle.std.proofs.lemmas.Result.{on_ok_weaker}
use Rattle.be_asking.proofs.Takes.{owned}
use Rattle.be_check.specs.Following.{state_in}
use Rattle.be_script.specs.Script.{declared_by}
use Rattle.be_check.proofs.Takers.{takes_busy, takes_front, takes_none, window_there}
use Rattle.be_check.proofs.taking.add_taken.Goals as goal

pub returns-in_default : goal.returns-in_default
returns-in_default c =
    let d = declared_by c.args.script.now in
    takes_none d (state_in d c.args.held.now.parts) c.args.actor c.args.letters.now.items
    c.args.letters.now.items c.in_default.ensures refl

pub owner_of-requires-clause-there : goal.owner_of-requires-clause-there
owner_of-requires-clause-there c =
    window_there (declared_by c.args.script.now) c.args.actor c.in-Some.window c.in-Some.ensures

pub add_front-requires-clause-there : goal.add_front-requires-clause-there
add_front-requires-clause-there c =
    window_there (declared_by c.args.script.now) c.args.actor c.in-Some.window c.in-Some.ensures

pub returns-in-Free : goal.returns-in-Free
returns-in-Free c =
    let d = declared_by c.args.script.now in
    on_ok_weaker c.add_front.result
    (takes_front d (state_in d c.args.held.now.parts) c.args.actor c.args.letters.now.items
    c.add_front.new.letters.items c.in-Some.window c.in-Some.ensures c.in-Free.ensures)
    c.add_front.ensures

pub returns-in-Own : goal.returns-in-Own
returns-in-Own c =
    let d = declared_by c.args.script.now in
    takes_busy d (state_in d c.args.held.now.parts) c.args.actor c.args.letters.now.items
    c.args.letters.now.items c.in-Some.window c.in-Some.ensures c.owner_of.result c.owner_of.ensures
    (owned c.owner_of.result c.in-Own.is) refl

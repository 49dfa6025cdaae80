use Rattle.std.proofs.Common.{suc, arith}
use Rattle.be_descent.proofs.CountLemmas.{few_lie, lying_two}
use Rattle.be_descent.proofs.ReachLemmas.{none_shown, view_shown}
use Rattle.be_descent.proofs.fronts.Fronts.find.Goals as goal

pub returns-in_err-reached-clause-none : goal.returns-in_err-reached-clause-none
returns-in_err-reached-clause-none c =
    rw c.from_residual.ensures (none_shown c.args.tree.now c.args.view c.args.window c.args.area
    c.in_err-reached.ensures.none)

pub add-requires-clause-room : goal.add-requires-clause-room
add-requires-clause-room c =
    let tree = c.args.tree.now in
    let reach = c.in_ok-reached.ensures.some in
    let few = reach.few in
    let two = lying_two c.args.view tree in
    let most = few_lie tree (suc c.args.view) c.len-end.ensures.whole in
    omega (arith, few, two, most)

pub returns-clause-some : goal.returns-clause-some
returns-clause-some c =
    view_shown c.args.tree.now c.args.view c.args.window c.args.area c.in_ok-reached.reached
    c.reach.new.self c.add.new.self c.len-end.ensures.whole c.requires
    c.in_ok-reached.ensures.some c.add.ensures.pixels

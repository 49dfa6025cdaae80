use Rattle.std.proofs.Common.{rules, SFits, w16, arith}
use Rattle.std.proofs.lemmas.Int.{ints}
use Rattle.be_views.proofs.ChildLemmas.{in_frame}
use Rattle.be_views.proofs.children.within.Goals as goal

pub overflow_sub-result : goal.overflow_sub-result
overflow_sub-result c =
    let f : SFits w16 c.args.frame.left = search rules in
    let g : SFits w16 c.args.frame.right = search rules in
    let h = in_frame c.args.frame c.args.place.0 c.args.place.1 c.requires in
    let a = h.0 in
    let b = h.1 in
    search rules

pub overflow_sub-result-2 : goal.overflow_sub-result-2
overflow_sub-result-2 c =
    let f : SFits w16 c.args.frame.top = search rules in
    let g : SFits w16 c.args.frame.bottom = search rules in
    let h = in_frame c.args.frame c.args.place.0 c.args.place.1 c.requires in
    let a = h.2 in
    let b = h.3 in
    search rules

pub returns-clause-across : goal.returns-clause-across
returns-clause-across c =
    let f : SFits w16 c.args.frame.left = search rules in
    let g : SFits w16 c.args.frame.right = search rules in
    let h = in_frame c.args.frame c.args.place.0 c.args.place.1 c.requires in
    let a = h.0 in
    let b = h.1 in
    omega (arith, ints)

pub returns-clause-down : goal.returns-clause-down
returns-clause-down c =
    let f : SFits w16 c.args.frame.top = search rules in
    let g : SFits w16 c.args.frame.bottom = search rules in
    let h = in_frame c.args.frame c.args.place.0 c.args.place.1 c.requires in
    let a = h.2 in
    let b = h.3 in
    omega (arith, ints)

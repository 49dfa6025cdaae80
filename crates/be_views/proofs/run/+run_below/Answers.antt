use Rattle.std.proofs.Common.{◌<◌, ◌+ℤ◌, ◌-ℤ◌, rules, SFits, w16, w32, arith}
use Rattle.std.proofs.lemmas.Int.{to_z-of_z, ints}
use Rattle.be_views.proofs.RunLemmas.{fits_less, fits_more, inner_steps, view_steps, end_steps}
use Rattle.be_views.proofs.run.+run_below.Goals as goal

pub overflow_sub-last : goal.overflow_sub-last
overflow_sub-last t c =
    let a : SFits w16 c.in-Some.frame.left = search rules in
    let b : SFits w16 c.in-Some.frame.right = search rules in
    let l : SFits w32 c.child_run-child.result.1 = search rules in
    let k : SFits w32 c.from-left.result = search rules in
    let x : SFits w32 c.args.place.0 = search rules in
    let left = simp to_z-of_z at c.from-left.ensures in
    let holds = rw c.in-Some.is at c.child_run-child.ensures.holds in
    let right = rw c.in-Some.is at c.child_run-child.ensures.right in
    let outer = c.child_run-child.ensures.run in
    let forward = outer.forward in
    let d : SFits w32 (c.child_run-child.result.1 -ℤ c.from-left.result) = rw left (fits_less c.in-Some.frame c.args.place.0 c.args.place.1 c.child_run-child.result.1 a b holds forward right) in
    simp to_z-of_z d

pub run_below-view-requires : goal.run_below-view-requires
run_below-view-requires t c =
    let a : SFits w16 c.in-Some.frame.left = search rules in
    let b : SFits w16 c.in-Some.frame.right = search rules in
    let l : SFits w32 c.child_run-child.result.1 = search rules in
    let k : SFits w32 c.from-left.result = search rules in
    let x : SFits w32 c.args.place.0 = search rules in
    let left = simp to_z-of_z at c.from-left.ensures in
    let holds = rw c.in-Some.is at c.child_run-child.ensures.holds in
    let right = rw c.in-Some.is at c.child_run-child.ensures.right in
    let outer = c.child_run-child.ensures.run in
    let forward = outer.forward in
    let d : SFits w32 (c.child_run-child.result.1 -ℤ c.from-left.result) = rw left (fits_less c.in-Some.frame c.args.place.0 c.args.place.1 c.child_run-child.result.1 a b holds forward right) in
    let across = c.within-inner.ensures.across in
    simp to_z-of_z (search rules, (c.requires.few, (c.requires.parents, rw (left, across) (omega (arith, ints)))))

pub overflow_add-result : goal.overflow_add-result
overflow_add-result t c =
    let a : SFits w16 c.in-Some.frame.left = search rules in
    let b : SFits w16 c.in-Some.frame.right = search rules in
    let l : SFits w32 c.child_run-child.result.1 = search rules in
    let k : SFits w32 c.from-left.result = search rules in
    let x : SFits w32 c.args.place.0 = search rules in
    let left = simp to_z-of_z at c.from-left.ensures in
    let holds = rw c.in-Some.is at c.child_run-child.ensures.holds in
    let right = rw c.in-Some.is at c.child_run-child.ensures.right in
    let outer = c.child_run-child.ensures.run in
    let forward = outer.forward in
    let d : SFits w32 (c.child_run-child.result.1 -ℤ c.from-left.result) = rw left (fits_less c.in-Some.frame c.args.place.0 c.args.place.1 c.child_run-child.result.1 a b holds forward right) in
    let m : SFits w32 c.run_below-view.result.1 = search rules in
    let across = c.within-inner.ensures.across in
    let inner = simp to_z-of_z at c.run_below-view.ensures.run in
    let low = inner.forward in
    let high = inner.within in
    simp to_z-of_z (fits_more c.from-left.result c.args.place.0 c.child_run-child.result.1 c.run_below-view.result.1 x l (omega (arith, ints)) high)

pub returns-in-Some-clause-view : goal.returns-in-Some-clause-view
returns-in-Some-clause-view t c =
    let child = rw c.in-Some.is at c.child_run-child.ensures.child in
    let some : 0 < c.args.steps = search rules in
    let view = c.run_below-view.ensures.view in
    rw view (view_steps c.args.steps c.args.views.now c.args.v c.args.place.0 c.args.place.1 c.within-inner.result.0 c.within-inner.result.1 (c.in-Some.child, c.in-Some.frame) some child c.within-inner.ensures.across c.within-inner.ensures.down)

pub returns-in-Some-clause-run : goal.returns-in-Some-clause-run
returns-in-Some-clause-run t c =
    let a : SFits w16 c.in-Some.frame.left = search rules in
    let b : SFits w16 c.in-Some.frame.right = search rules in
    let l : SFits w32 c.child_run-child.result.1 = search rules in
    let k : SFits w32 c.from-left.result = search rules in
    let x : SFits w32 c.args.place.0 = search rules in
    let left = simp to_z-of_z at c.from-left.ensures in
    let holds = rw c.in-Some.is at c.child_run-child.ensures.holds in
    let right = rw c.in-Some.is at c.child_run-child.ensures.right in
    let outer = c.child_run-child.ensures.run in
    let forward = outer.forward in
    let d : SFits w32 (c.child_run-child.result.1 -ℤ c.from-left.result) = rw left (fits_less c.in-Some.frame c.args.place.0 c.args.place.1 c.child_run-child.result.1 a b holds forward right) in
    let m : SFits w32 c.run_below-view.result.1 = search rules in
    let end = c.ranges.end in
    let child = rw c.in-Some.is at c.child_run-child.ensures.child in
    let some : 0 < c.args.steps = search rules in
    let inner = simp to_z-of_z at c.run_below-view.ensures.run in
    let across = c.within-inner.ensures.across in
    let low = inner.forward in
    let high = inner.within in
    let n : SFits w32 (c.run_below-view.result.1 +ℤ c.from-left.result) = fits_more c.from-left.result c.args.place.0 c.child_run-child.result.1 c.run_below-view.result.1 x l (omega (arith, ints)) high in
    let whole = simp to_z-of_z at outer in
    let within = rw left at inner in
    simp to_z-of_z (rw left (inner_steps c.args.steps c.args.views.now c.args.v c.args.place.0 c.args.place.1 c.within-inner.result.0 c.within-inner.result.1 c.args.end c.child_run-child.result.1 c.run_below-view.result.1 (c.in-Some.child, c.in-Some.frame) some c.requires.parents child across c.within-inner.ensures.down whole within))

pub returns-in-None-clause-run : goal.returns-in-None-clause-run
returns-in-None-clause-run t c =
    let l : SFits w32 c.child_run-child.result.1 = search rules in
    let end = c.ranges.end in
    let child = rw c.in-None.is at c.child_run-child.ensures.child in
    let some : 0 < c.args.steps = search rules in
    let run = simp to_z-of_z at c.child_run-child.ensures.run in
    simp to_z-of_z (end_steps c.args.steps c.args.views.now c.args.v c.args.place.0 c.args.place.1 c.args.end c.child_run-child.result.1 some c.requires.parents child run)

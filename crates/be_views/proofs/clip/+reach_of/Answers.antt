use Rattle.std.proofs.Common.{◌+◌, ◌-◌, ◌+ℤ◌, rules, SFits, w16, w32, length, take, drop, arith}
use Rattle.std.proofs.lemmas.Int.{to_z-of_z}
use Rattle.be_views.proofs.PlaceLemmas.{view_read}
use Rattle.be_views.proofs.ClipLemmas.{is_in, below_in, near_less, near_sum, near_more, child_reach, cut_is, both_in_range, cut_in_range, root_reach_at}
use Rattle.be_views.proofs.clip.+reach_of.Goals as goal

pub region_of-requires-clause-across : goal.region_of-requires-clause-across
region_of-requires-clause-across t c =
    let l : SFits w32 c.in_ok-reach-in-Some.reach.left = search rules in
    let m : SFits w32 c.in_ok-reach-in-Some.reach.top = search rules in
    let got = view_read c.args.views.now _ c.index-views-from.result c.from.result c.args.v c.from.ensures c.view.view_is (search rules) c.index-views-from.is in
    let lies = is_in c.args.views.now c.in-Some.parent c.args.v _ c.requires.parents c.requires.there got c.in-Some.is in
    let below = below_in c.args.views.now c.in-Some.parent c.args.v _ lies in
    let there = c.requires.there in
    let few = c.requires.few in
    simp to_z-of_z (near_less c.in-Some.parent 32 c.in_ok-reach-in-Some.reach.left (omega arith) c.in_ok-reach-in-Some.ensures.across)

pub region_of-requires-clause-down : goal.region_of-requires-clause-down
region_of-requires-clause-down t c =
    let l : SFits w32 c.in_ok-reach-in-Some.reach.left = search rules in
    let m : SFits w32 c.in_ok-reach-in-Some.reach.top = search rules in
    let got = view_read c.args.views.now _ c.index-views-from.result c.from.result c.args.v c.from.ensures c.view.view_is (search rules) c.index-views-from.is in
    let lies = is_in c.args.views.now c.in-Some.parent c.args.v _ c.requires.parents c.requires.there got c.in-Some.is in
    let below = below_in c.args.views.now c.in-Some.parent c.args.v _ lies in
    let there = c.requires.there in
    let few = c.requires.few in
    simp to_z-of_z (near_less c.in-Some.parent 32 c.in_ok-reach-in-Some.reach.top (omega arith) c.in_ok-reach-in-Some.ensures.down)

pub leave_out-requires-clause-across : goal.leave_out-requires-clause-across
leave_out-requires-clause-across t c =
    let l : SFits w32 c.in_ok-reach-in-Some.reach.left = search rules in
    let m : SFits w32 c.in_ok-reach-in-Some.reach.top = search rules in
    let got = view_read c.args.views.now _ c.index-views-from.result c.from.result c.args.v c.from.ensures c.view.view_is (search rules) c.index-views-from.is in
    let lies = is_in c.args.views.now c.in-Some.parent c.args.v _ c.requires.parents c.requires.there got c.in-Some.is in
    let below = below_in c.args.views.now c.in-Some.parent c.args.v _ lies in
    let there = c.requires.there in
    let few = c.requires.few in
    simp to_z-of_z (near_less c.in-Some.parent 32 c.in_ok-reach-in-Some.reach.left (omega arith) c.in_ok-reach-in-Some.ensures.across)

pub leave_out-requires-clause-down : goal.leave_out-requires-clause-down
leave_out-requires-clause-down t c =
    let l : SFits w32 c.in_ok-reach-in-Some.reach.left = search rules in
    let m : SFits w32 c.in_ok-reach-in-Some.reach.top = search rules in
    let got = view_read c.args.views.now _ c.index-views-from.result c.from.result c.args.v c.from.ensures c.view.view_is (search rules) c.index-views-from.is in
    let lies = is_in c.args.views.now c.in-Some.parent c.args.v _ c.requires.parents c.requires.there got c.in-Some.is in
    let below = below_in c.args.views.now c.in-Some.parent c.args.v _ lies in
    let there = c.requires.there in
    let few = c.requires.few in
    simp to_z-of_z (near_less c.in-Some.parent 32 c.in_ok-reach-in-Some.reach.top (omega arith) c.in_ok-reach-in-Some.ensures.down)

pub overflow_add-result : goal.overflow_add-result
overflow_add-result t c =
    let l : SFits w32 c.in_ok-reach-in-Some.reach.left = search rules in
    let m : SFits w32 c.in_ok-reach-in-Some.reach.top = search rules in
    let got = view_read c.args.views.now _ c.index-views-from.result c.from.result c.args.v c.from.ensures c.view.view_is (search rules) c.index-views-from.is in
    let lies = is_in c.args.views.now c.in-Some.parent c.args.v _ c.requires.parents c.requires.there got c.in-Some.is in
    let below = below_in c.args.views.now c.in-Some.parent c.args.v _ lies in
    let there = c.requires.there in
    let few = c.requires.few in
    let f : SFits w16 c.view.inside.frame.left = search rules in
    let g : SFits w16 c.view.inside.frame.top = search rules in
    let a : SFits w32 c.from-in-Some-2.result = search rules in
    let left = simp to_z-of_z at c.from-in-Some-2.ensures in
    simp to_z-of_z (rw left (near_sum c.in_ok-reach-in-Some.reach.left c.view.inside.frame.left f (near_less c.in-Some.parent 32 c.in_ok-reach-in-Some.reach.left (omega arith) c.in_ok-reach-in-Some.ensures.across)))

pub overflow_add-result-in-Some : goal.overflow_add-result-in-Some
overflow_add-result-in-Some t c =
    let l : SFits w32 c.in_ok-reach-in-Some.reach.left = search rules in
    let m : SFits w32 c.in_ok-reach-in-Some.reach.top = search rules in
    let got = view_read c.args.views.now _ c.index-views-from.result c.from.result c.args.v c.from.ensures c.view.view_is (search rules) c.index-views-from.is in
    let lies = is_in c.args.views.now c.in-Some.parent c.args.v _ c.requires.parents c.requires.there got c.in-Some.is in
    let below = below_in c.args.views.now c.in-Some.parent c.args.v _ lies in
    let there = c.requires.there in
    let few = c.requires.few in
    let f : SFits w16 c.view.inside.frame.left = search rules in
    let g : SFits w16 c.view.inside.frame.top = search rules in
    let a : SFits w32 c.from-in-Some-2.result = search rules in
    let left = simp to_z-of_z at c.from-in-Some-2.ensures in
    let b : SFits w32 c.from-in-Some-3.result = search rules in
    let top = simp to_z-of_z at c.from-in-Some-3.ensures in
    simp to_z-of_z (rw top (near_sum c.in_ok-reach-in-Some.reach.top c.view.inside.frame.top g (near_less c.in-Some.parent 32 c.in_ok-reach-in-Some.reach.top (omega arith) c.in_ok-reach-in-Some.ensures.down)))

pub returns-in_ok-leave_out-in-Some-clause-reach : goal.returns-in_ok-leave_out-in-Some-clause-reach
returns-in_ok-leave_out-in-Some-clause-reach t c =
    let l : SFits w32 c.in_ok-reach-in-Some.reach.left = search rules in
    let m : SFits w32 c.in_ok-reach-in-Some.reach.top = search rules in
    let got = view_read c.args.views.now _ c.index-views-from.result c.from.result c.args.v c.from.ensures c.view.view_is (search rules) c.index-views-from.is in
    let lies = is_in c.args.views.now c.in-Some.parent c.args.v _ c.requires.parents c.requires.there got c.in-Some.is in
    let below = below_in c.args.views.now c.in-Some.parent c.args.v _ lies in
    let there = c.requires.there in
    let few = c.requires.few in
    let f : SFits w16 c.view.inside.frame.left = search rules in
    let g : SFits w16 c.view.inside.frame.top = search rules in
    let a : SFits w32 c.from-in-Some-2.result = search rules in
    let left = simp to_z-of_z at c.from-in-Some-2.ensures in
    let b : SFits w32 c.from-in-Some-3.result = search rules in
    let top = simp to_z-of_z at c.from-in-Some-3.ensures in
    let sl : SFits w32 (c.in_ok-reach-in-Some.reach.left +ℤ c.from-in-Some-2.result) = rw left (near_sum c.in_ok-reach-in-Some.reach.left c.view.inside.frame.left f (near_less c.in-Some.parent 32 c.in_ok-reach-in-Some.reach.left (omega arith) c.in_ok-reach-in-Some.ensures.across)) in
    let st : SFits w32 (c.in_ok-reach-in-Some.reach.top +ℤ c.from-in-Some-3.result) = rw top (near_sum c.in_ok-reach-in-Some.reach.top c.view.inside.frame.top g (near_less c.in-Some.parent 32 c.in_ok-reach-in-Some.reach.top (omega arith) c.in_ok-reach-in-Some.ensures.down)) in
    let pixels = simp to_z-of_z at c.in_ok-frame-in-Some.ensures in
    let both = c.in_ok-intersect-in-Some.ensures.ok in
    let free = rw c.from-in-Some.ensures at (simp to_z-of_z at c.in_ok-leave_out-in-Some.ensures) in
    simp to_z-of_z (rw (left, top) (child_reach c.args.views.now c.in-Some.parent c.args.v _ c.in_ok-reach-in-Some.reach.left c.in_ok-reach-in-Some.reach.top c.in_ok-reach-in-Some.reach.region c.leave_out.new.region lies c.in_ok-reach-in-Some.ensures.reach (cut_is c.args.views.now c.in-Some.parent c.args.v record { parent = c.view.inside.parent; frame = c.view.inside.frame; mode = c.view.inside.mode } c.in_ok-reach-in-Some.reach.left c.in_ok-reach-in-Some.reach.top c.in_ok-reach-in-Some.reach.region c.in_ok-frame-in-Some.frame c.intersect.new.self c.leave_out.new.region c.in_ok-reach-in-Some.ensures.in_range pixels both free)))

pub returns-in_ok-leave_out-in-Some-clause-in_range : goal.returns-in_ok-leave_out-in-Some-clause-in_range
returns-in_ok-leave_out-in-Some-clause-in_range t c =
    let l : SFits w32 c.in_ok-reach-in-Some.reach.left = search rules in
    let m : SFits w32 c.in_ok-reach-in-Some.reach.top = search rules in
    let got = view_read c.args.views.now _ c.index-views-from.result c.from.result c.args.v c.from.ensures c.view.view_is (search rules) c.index-views-from.is in
    let lies = is_in c.args.views.now c.in-Some.parent c.args.v _ c.requires.parents c.requires.there got c.in-Some.is in
    let below = below_in c.args.views.now c.in-Some.parent c.args.v _ lies in
    let there = c.requires.there in
    let few = c.requires.few in
    let pixels = simp to_z-of_z at c.in_ok-frame-in-Some.ensures in
    let both = c.in_ok-intersect-in-Some.ensures.ok in
    let free = rw c.from-in-Some.ensures at (simp to_z-of_z at c.in_ok-leave_out-in-Some.ensures) in
    cut_in_range c.intersect.new.self c.leave_out.new.region (take (length c.args.views.now - (c.args.v + 1)) (drop (c.args.v + 1) c.args.views.now)) c.in-Some.parent c.in_ok-reach-in-Some.reach.left c.in_ok-reach-in-Some.reach.top (both_in_range c.in_ok-reach-in-Some.reach.region c.in_ok-frame-in-Some.frame c.intersect.new.self c.in_ok-reach-in-Some.ensures.in_range both) free

pub returns-in_ok-leave_out-in-Some-clause-across : goal.returns-in_ok-leave_out-in-Some-clause-across
returns-in_ok-leave_out-in-Some-clause-across t c =
    let l : SFits w32 c.in_ok-reach-in-Some.reach.left = search rules in
    let m : SFits w32 c.in_ok-reach-in-Some.reach.top = search rules in
    let got = view_read c.args.views.now _ c.index-views-from.result c.from.result c.args.v c.from.ensures c.view.view_is (search rules) c.index-views-from.is in
    let lies = is_in c.args.views.now c.in-Some.parent c.args.v _ c.requires.parents c.requires.there got c.in-Some.is in
    let below = below_in c.args.views.now c.in-Some.parent c.args.v _ lies in
    let there = c.requires.there in
    let few = c.requires.few in
    let f : SFits w16 c.view.inside.frame.left = search rules in
    let g : SFits w16 c.view.inside.frame.top = search rules in
    let a : SFits w32 c.from-in-Some-2.result = search rules in
    let left = simp to_z-of_z at c.from-in-Some-2.ensures in
    let b : SFits w32 c.from-in-Some-3.result = search rules in
    let top = simp to_z-of_z at c.from-in-Some-3.ensures in
    let sl : SFits w32 (c.in_ok-reach-in-Some.reach.left +ℤ c.from-in-Some-2.result) = rw left (near_sum c.in_ok-reach-in-Some.reach.left c.view.inside.frame.left f (near_less c.in-Some.parent 32 c.in_ok-reach-in-Some.reach.left (omega arith) c.in_ok-reach-in-Some.ensures.across)) in
    let st : SFits w32 (c.in_ok-reach-in-Some.reach.top +ℤ c.from-in-Some-3.result) = rw top (near_sum c.in_ok-reach-in-Some.reach.top c.view.inside.frame.top g (near_less c.in-Some.parent 32 c.in_ok-reach-in-Some.reach.top (omega arith) c.in_ok-reach-in-Some.ensures.down)) in
    simp to_z-of_z (rw left (near_more c.in-Some.parent c.args.v c.in_ok-reach-in-Some.reach.left c.view.inside.frame.left below f c.in_ok-reach-in-Some.ensures.across))

pub returns-in_ok-leave_out-in-Some-clause-down : goal.returns-in_ok-leave_out-in-Some-clause-down
returns-in_ok-leave_out-in-Some-clause-down t c =
    let l : SFits w32 c.in_ok-reach-in-Some.reach.left = search rules in
    let m : SFits w32 c.in_ok-reach-in-Some.reach.top = search rules in
    let got = view_read c.args.views.now _ c.index-views-from.result c.from.result c.args.v c.from.ensures c.view.view_is (search rules) c.index-views-from.is in
    let lies = is_in c.args.views.now c.in-Some.parent c.args.v _ c.requires.parents c.requires.there got c.in-Some.is in
    let below = below_in c.args.views.now c.in-Some.parent c.args.v _ lies in
    let there = c.requires.there in
    let few = c.requires.few in
    let f : SFits w16 c.view.inside.frame.left = search rules in
    let g : SFits w16 c.view.inside.frame.top = search rules in
    let a : SFits w32 c.from-in-Some-2.result = search rules in
    let left = simp to_z-of_z at c.from-in-Some-2.ensures in
    let b : SFits w32 c.from-in-Some-3.result = search rules in
    let top = simp to_z-of_z at c.from-in-Some-3.ensures in
    let sl : SFits w32 (c.in_ok-reach-in-Some.reach.left +ℤ c.from-in-Some-2.result) = rw left (near_sum c.in_ok-reach-in-Some.reach.left c.view.inside.frame.left f (near_less c.in-Some.parent 32 c.in_ok-reach-in-Some.reach.left (omega arith) c.in_ok-reach-in-Some.ensures.across)) in
    let st : SFits w32 (c.in_ok-reach-in-Some.reach.top +ℤ c.from-in-Some-3.result) = rw top (near_sum c.in_ok-reach-in-Some.reach.top c.view.inside.frame.top g (near_less c.in-Some.parent 32 c.in_ok-reach-in-Some.reach.top (omega arith) c.in_ok-reach-in-Some.ensures.down)) in
    simp to_z-of_z (rw top (near_more c.in-Some.parent c.args.v c.in_ok-reach-in-Some.reach.top c.view.inside.frame.top below g c.in_ok-reach-in-Some.ensures.down))

pub returns-in_ok-region_in-in-None-clause-reach : goal.returns-in_ok-region_in-in-None-clause-reach
returns-in_ok-region_in-in-None-clause-reach t c =
    let got = view_read c.args.views.now _ c.index-views-from.result c.from.result c.args.v c.from.ensures c.view.view_is (search rules) c.index-views-from.is in
    root_reach_at c.args.views.now c.args.v _ c.in_ok-region_in-in-None.field-0 c.requires.parents c.requires.there got c.in-None.is c.in_ok-region_in-in-None.ensures.pixels

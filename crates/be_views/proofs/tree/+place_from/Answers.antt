use Rattle.std.proofs.Common.{rules, SFits, w16, w32, arith}
use Rattle.std.proofs.lemmas.Int.{to_z-of_z}
use Rattle.be_views.proofs.PlaceLemmas.{near_fits, view_read, place_below, place_alone}
use Rattle.be_views.proofs.tree.+place_from.Goals as goal

pub overflow_add-result : goal.overflow_add-result
overflow_add-result t c =
    let left : SFits w16 c.view.inside.frame.left = search rules in
    let f : SFits w32 c.view.inside.frame.left = search rules in
    let g : SFits w32 c.in_ok-place-in-Some.place.0 = search rules in
    rw c.from-left.ensures (simp to_z-of_z (near_fits c.args.steps _ _ left (omega arith) c.requires c.in_ok-place-in-Some.ensures.across))

pub overflow_add-result-in-Some : goal.overflow_add-result-in-Some
overflow_add-result-in-Some t c =
    let top : SFits w16 c.view.inside.frame.top = search rules in
    let f : SFits w32 c.view.inside.frame.top = search rules in
    let g : SFits w32 c.in_ok-place-in-Some.place.1 = search rules in
    rw c.from-top.ensures (simp to_z-of_z (near_fits c.args.steps _ _ top (omega arith) c.requires c.in_ok-place-in-Some.ensures.down))

pub returns-in_ok-place-in-Some-clause-place : goal.returns-in_ok-place-in-Some-clause-place
returns-in_ok-place-in-Some-clause-place t c =
    let left : SFits w16 c.view.inside.frame.left = search rules in
    let top : SFits w16 c.view.inside.frame.top = search rules in
    let f : SFits w32 c.view.inside.frame.left = search rules in
    let g : SFits w32 c.view.inside.frame.top = search rules in
    let h : SFits w32 c.in_ok-place-in-Some.place.0 = search rules in
    let i : SFits w32 c.in_ok-place-in-Some.place.1 = search rules in
    let across = near_fits c.args.steps _ _ left (omega arith) c.requires c.in_ok-place-in-Some.ensures.across in
    let down = near_fits c.args.steps _ _ top (omega arith) c.requires c.in_ok-place-in-Some.ensures.down in
    let read = c.in_ok-view.ensures.lookup in
    let got = view_read c.args.views.now _ _ _ _ c.from.ensures c.view.view_is read.3.0 read.1 in
    rw (c.from-left.ensures, c.from-top.ensures) (simp to_z-of_z (place_below c.args.steps c.args.views.now c.args.v c.in-Some.parent _ c.in_ok-place-in-Some.place (omega arith) got (c.in-Some.is) (c.in_ok-place-in-Some.ensures.place)))

pub returns-in-None-clause-place : goal.returns-in-None-clause-place
returns-in-None-clause-place t c =
    let left : SFits w16 c.view.inside.frame.left = search rules in
    let top : SFits w16 c.view.inside.frame.top = search rules in
    let f : SFits w32 c.view.inside.frame.left = search rules in
    let g : SFits w32 c.view.inside.frame.top = search rules in
    let read = c.in_ok-view.ensures.lookup in
    let got = view_read c.args.views.now _ _ _ _ c.from.ensures c.view.view_is read.3.0 read.1 in
    rw (c.from-left.ensures, c.from-top.ensures) (simp to_z-of_z (place_alone c.args.steps c.args.views.now c.args.v _ (omega arith) got c.in-None.is))

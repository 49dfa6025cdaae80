use Rattle.std.specs.Prelude.{slice_get, option_map}
use Rattle.std.proofs.Common.{◌≡◌, ◌+◌, suc, ◌+ℤ◌, ◌∙◌, Some, inl, inr, SFits, w16}
use Rattle.std.proofs.Common.{w32, rules, arith, refl, sym}
use Rattle.std.proofs.lemmas.Int.{to_z-of_z}
use Rattle.be_views.specs.Trees.{View}
use Rattle.be_descent.proofs.CountLemmas.{few_lie, lying_drop, lying_two}
use Rattle.be_descent.proofs.ReachLemmas.{child_outside, child_reached, framed_in, parent_outside}
use Rattle.be_descent.proofs.ReachLemmas.{root_outside, root_reached, way_fits}
use Rattle.be_descent.proofs.fronts.Fronts.+reach.Goals as goal

pub returns-in_err-area-clause-none : goal.returns-in_err-area-clause-none
returns-in_err-area-clause-none t c =
    let tree = c.args.tree.now in
    let frame = c.unwrap-frame.result in
    let got : option_map (λ (v : View). v.frame) (slice_get tree c.args.view) ≡ Some frame =
    sym c.frame_of.ensures.frame ∙ c.unwrap-frame.ensures in
    let end = c.requires.end in
    let there = c.requires.there in
    let zero : c.args.view ≡ 0 =
    elim (c.in_default.ensures.none.0 refl) [ inl e ↦ e | inr past ↦ absurd (omega arith) ] in
    let x : SFits w16 c.args.window.x = search rules in
    let y : SFits w16 c.args.window.y = search rules in
    rw c.from_residual.ensures (root_outside tree c.args.view frame c.args.window c.args.area
    c.to-way.result zero got c.to-way.ensures.across c.to-way.ensures.down
    c.in_err-area.ensures.none)

pub returns-in_default-clause-some : goal.returns-in_default-clause-some
returns-in_default-clause-some t c =
    let tree = c.args.tree.now in
    let frame = c.unwrap-frame.result in
    let got : option_map (λ (v : View). v.frame) (slice_get tree c.args.view) ≡ Some frame =
    sym c.frame_of.ensures.frame ∙ c.unwrap-frame.ensures in
    let end = c.requires.end in
    let there = c.requires.there in
    let zero : c.args.view ≡ 0 =
    elim (c.in_default.ensures.none.0 refl) [ inl e ↦ e | inr past ↦ absurd (omega arith) ] in
    let x : SFits w16 c.args.window.x = search rules in
    let y : SFits w16 c.args.window.y = search rules in
    root_reached tree c.args.view frame c.args.window c.args.area c.in_ok-area.area c.to-way.result
    c.args.self.now zero got x y c.to-way.ensures.across c.to-way.ensures.down
    c.in_ok-area.ensures.some c.requires.none

pub returns-in_err-reached-clause-none : goal.returns-in_err-reached-clause-none
returns-in_err-reached-clause-none t c =
    let tree = c.args.tree.now in
    let frame = c.unwrap-frame.result in
    let got : option_map (λ (v : View). v.frame) (slice_get tree c.args.view) ≡ Some frame =
    sym c.frame_of.ensures.frame ∙ c.unwrap-frame.ensures in
    let end = c.requires.end in
    let there = c.requires.there in
    let view = framed_in tree c.in-Some.parent c.args.view frame c.requires.whole (omega arith) got
    (sym c.parent.ensures.parent ∙ c.in-Some.is) in
    rw c.from_residual-in_err-reached.ensures
    (λ x y has. parent_outside tree c.in-Some.parent c.args.view view.0 _ view.1.0
    (c.in_err-reached.ensures.none x y has))

pub returns-in_err-area-2-clause-none : goal.returns-in_err-area-2-clause-none
returns-in_err-area-2-clause-none t c =
    let tree = c.args.tree.now in
    let frame = c.unwrap-frame.result in
    let got : option_map (λ (v : View). v.frame) (slice_get tree c.args.view) ≡ Some frame =
    sym c.frame_of.ensures.frame ∙ c.unwrap-frame.ensures in
    let end = c.requires.end in
    let there = c.requires.there in
    let view = framed_in tree c.in-Some.parent c.args.view frame c.requires.whole (omega arith) got
    (sym c.parent.ensures.parent ∙ c.in-Some.is) in
    let reached = c.in_ok-reached.reached in
    let reach = c.in_ok-reached.ensures.some in
    rw c.from_residual-in_err-area-2.ensures
    (child_outside tree c.in-Some.parent c.args.view view.0 c.args.window c.args.area frame reached
    c.reach.new.self view.1.0 view.1.1 reach c.in_err-area-2.ensures.none)

pub add-requires-clause-room : goal.add-requires-clause-room
add-requires-clause-room t c =
    let tree = c.args.tree.now in
    let reach = c.in_ok-reached.ensures.some in
    let few = reach.few in
    let two = lying_two c.in-Some.parent tree in
    let most = few_lie tree (suc c.in-Some.parent) c.requires.whole in
    let fewer = lying_drop c.in-Some.parent (c.args.view + 1) tree in
    omega (arith, few, two, most, fewer)

pub overflow_add-way : goal.overflow_add-way
overflow_add-way t c =
    let end = c.requires.end in
    let there = c.requires.there in
    let below = c.in-Some.ensures.below in
    let whole = c.requires.whole in
    let few = whole.few in
    let frame = c.unwrap-frame.result in
    let reach = c.in_ok-reached.ensures.some in
    let l : SFits w32 c.in_ok-reached.reached.way.right = search rules in
    let m : SFits w32 c.in_ok-reached.reached.way.down = search rules in
    let f : SFits w16 frame.left = search rules in
    let g : SFits w16 frame.top = search rules in
    let a : SFits w32 c.from.result = search rules in
    let left = simp to_z-of_z at c.from.ensures in
    let sl : SFits w32 (c.in_ok-reached.reached.way.right +ℤ c.from.result) =
    rw left (way_fits c.in-Some.parent c.in_ok-reached.reached.way.right frame.left (omega arith)
    f reach.across) in
    simp to_z-of_z sl

pub overflow_add-way-2 : goal.overflow_add-way-2
overflow_add-way-2 t c =
    let end = c.requires.end in
    let there = c.requires.there in
    let below = c.in-Some.ensures.below in
    let whole = c.requires.whole in
    let few = whole.few in
    let frame = c.unwrap-frame.result in
    let reach = c.in_ok-reached.ensures.some in
    let l : SFits w32 c.in_ok-reached.reached.way.right = search rules in
    let m : SFits w32 c.in_ok-reached.reached.way.down = search rules in
    let f : SFits w16 frame.left = search rules in
    let g : SFits w16 frame.top = search rules in
    let a : SFits w32 c.from.result = search rules in
    let left = simp to_z-of_z at c.from.ensures in
    let b : SFits w32 c.from-2.result = search rules in
    let top = simp to_z-of_z at c.from-2.ensures in
    let st : SFits w32 (c.in_ok-reached.reached.way.down +ℤ c.from-2.result) =
    rw top (way_fits c.in-Some.parent c.in_ok-reached.reached.way.down frame.top (omega arith)
    g reach.down) in
    simp to_z-of_z st

pub returns-clause-some : goal.returns-clause-some
returns-clause-some t c =
    let tree = c.args.tree.now in
    let frame = c.unwrap-frame.result in
    let got : option_map (λ (v : View). v.frame) (slice_get tree c.args.view) ≡ Some frame =
    sym c.frame_of.ensures.frame ∙ c.unwrap-frame.ensures in
    let end = c.requires.end in
    let there = c.requires.there in
    let below = c.in-Some.ensures.below in
    let whole = c.requires.whole in
    let few = whole.few in
    let reach = c.in_ok-reached.ensures.some in
    let l : SFits w32 c.in_ok-reached.reached.way.right = search rules in
    let m : SFits w32 c.in_ok-reached.reached.way.down = search rules in
    let f : SFits w16 frame.left = search rules in
    let g : SFits w16 frame.top = search rules in
    let a : SFits w32 c.from.result = search rules in
    let left = simp to_z-of_z at c.from.ensures in
    let b : SFits w32 c.from-2.result = search rules in
    let top = simp to_z-of_z at c.from-2.ensures in
    let sl : SFits w32 (c.in_ok-reached.reached.way.right +ℤ c.from.result) =
    rw left (way_fits c.in-Some.parent c.in_ok-reached.reached.way.right frame.left (omega arith)
    f reach.across) in
    let st : SFits w32 (c.in_ok-reached.reached.way.down +ℤ c.from-2.result) =
    rw top (way_fits c.in-Some.parent c.in_ok-reached.reached.way.down frame.top (omega arith)
    g reach.down) in
    let view = framed_in tree c.in-Some.parent c.args.view frame c.requires.whole (omega arith) got
    (sym c.parent.ensures.parent ∙ c.in-Some.is) in
    let reached = c.in_ok-reached.reached in
    let pixels = c.add.ensures.pixels in
    simp to_z-of_z (rw (left, top) (child_reached tree c.in-Some.parent c.args.view view.0 c.args.window
    c.args.area frame c.in_ok-area-2.area reached record
    { right = reached.way.right +ℤ frame.left; down = reached.way.down +ℤ frame.top }
    c.reach.new.self c.add.new.self view.1.0 view.1.1 f g below refl refl reach
    c.in_ok-area-2.ensures.some c.add.ensures.few
    (lying_drop c.in-Some.parent (c.args.view + 1) tree) pixels))

use Rattle.std.proofs.Common.{◌≡◌, ◌-ℤ◌, inl, inr, to_z, of_z, w32, sym, ◌∙◌, arith}
use Rattle.std.proofs.lemmas.Int.{ints}
use Rattle.be_state.proofs.ClipLemmas.{framed_none, framed_some, empty_none, outside_none, shown_at, difference_is, IsOutside}
use Rattle.be_state.proofs.clip.Clip.has.Goals as goal
use Rattle.be_state.proofs.clip.Clip.has.Goals.{then-y-moved-via-then-y-moved, then-y-moved-via-else-y-moved+then-moved-y, then-y-moved-via-else-y-moved+else-moved-y+then-x-moved, then-y-moved-via-else-y-moved+else-moved-y+else-x-moved+then-moved-x}

pub returns-in_default : goal.returns-in_default
returns-in_default c =
    sym (empty_none c.self.inside.region c.args.self.now c.self.inside.place.0 c.self.inside.place.1 c.args.x c.args.y c.self.view_is (framed_none c.self.inside.region c.self.inside.frame c.self.invariant.0 c.in_default.not-Some))

out : (c : goal.Joined-then-y-moved) → IsOutside c.in-Some.frame c.self.inside.place.0 c.self.inside.place.1 c.args.x c.args.y
out c =
    elim c.then-y-moved.branch [ then-y-moved-via-then-y-moved w ↦ inl (inl (omega (arith, ints))) | then-y-moved-via-else-y-moved+then-moved-y w ↦ inl (inr (omega (arith, ints))) | then-y-moved-via-else-y-moved+else-moved-y+then-x-moved w ↦ inr (inl (omega (arith, ints))) | then-y-moved-via-else-y-moved+else-moved-y+else-x-moved+then-moved-x w ↦ inr (inr (omega (arith, ints))) ]

pub returns-then-y-moved : goal.returns-then-y-moved
returns-then-y-moved c =
    sym (outside_none c.self.inside.region c.args.self.now c.in-Some.frame c.self.inside.place.0 c.self.inside.place.1 c.args.x c.args.y c.self.view_is (framed_some c.self.inside.region c.self.inside.frame c.in-Some.frame c.self.invariant.0 c.in-Some.is) (out c))

column : (c : goal.After-contains) → to_z w32 (of_z w32 c.moved_back.result) ≡ c.args.x -ℤ c.self.inside.place.0
column c = difference_is c.moved_back.result c.args.x c.self.inside.place.0 c.moved_back.ensures (omega (arith, ints)) c.ranges.x c.self.invariant.1

row : (c : goal.After-contains) → to_z w32 (of_z w32 c.moved_back-2.result) ≡ c.args.y -ℤ c.self.inside.place.1
row c = difference_is c.moved_back-2.result c.args.y c.self.inside.place.1 c.moved_back-2.ensures (omega (arith, ints)) c.ranges.y c.self.invariant.2

pub returns : goal.returns
returns c =
    c.contains.ensures ∙ shown_at c.self.inside.region c.args.self.now c.self.inside.place.0 c.self.inside.place.1 c.args.x c.args.y _ _ c.self.view_is (column c) (row c)

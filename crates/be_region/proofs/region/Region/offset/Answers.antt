use Rattle.std.proofs.Common.{◌∙◌, sym, refl}
use Rattle.std.proofs.lemmas.Int.{to_z-of_z}
use Rattle.std.proofs.lemmas.Bool.{true≢false}
use Rattle.be_region.proofs.MoveLemmas.{moved_region, moved_bands, some_leaves, leaves_some, moved_back}
use Rattle.be_region.proofs.region.Region.offset.Goals as goal

pub returns-then-not-are_movable-clause-out : goal.returns-then-not-are_movable-clause-out
returns-then-not-are_movable-clause-out c =
    let f = c.ranges.dx in
    let g = c.ranges.dy in
    let stuck = simp to_z-of_z at c.if-not-are_movable.ensures in
    (λ _. rw (← c.self.view_is) (some_leaves c.self.inside.rects.items c.args.dx c.args.dy c.self.invariant.none_empty (sym (rw c.deref.ensures.value at stuck))), λ _. refl)

pub invariant_of-self : goal.invariant_of-self
invariant_of-self c =
    let f = c.ranges.dx in
    let g = c.ranges.dy in
    let moved = simp to_z-of_z at c.move_all.ensures in
    rw (moved_back c.self.inside.rects.len c.move_all.new.rects c.deref_mut.result.now c.self.inside.rects.items c.args.dx c.args.dy moved c.deref_mut.ensures.value c.self.inside.rects.ok.0) (moved_bands c.self.inside.rects.items c.args.dx c.args.dy c.self.invariant)

pub returns-clause-ok : goal.returns-clause-ok
returns-clause-ok c =
    let f = c.ranges.dx in
    let g = c.ranges.dy in
    let moved = simp to_z-of_z at c.move_all.ensures in
    rw (moved_back c.self.inside.rects.len c.move_all.new.rects c.deref_mut.result.now c.self.inside.rects.items c.args.dx c.args.dy moved c.deref_mut.ensures.value c.self.inside.rects.ok.0, ← c.self.view_is) (moved_region c.self.inside.rects.items c.args.dx c.args.dy)

pub returns-clause-out : goal.returns-clause-out
returns-clause-out c =
    let f = c.ranges.dx in
    let g = c.ranges.dy in
    let movable = simp to_z-of_z at c.if-not-are_movable.ensures in
    (λ h. absurd (true≢false (sym h)), λ h. absurd (true≢false ((rw (c.deref.ensures.value, c.self.view_is) at movable) ∙ leaves_some c.args.self.now c.args.dx c.args.dy h.0 h.1.0 h.1.1.0 h.1.1.1)))

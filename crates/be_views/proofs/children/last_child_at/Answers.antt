use Rattle.std.proofs.Common.{SFits, w32, get_or, ◌-◌, ◌≤◌, ◌<◌, length, true, sym, ap, ◌∙◌, arith}
use Rattle.std.proofs.lemmas.Bool.{and_right, and_left}
use Rattle.std.proofs.lemmas.Int.{to_z-of_z}
use Rattle.be_views.proofs.ChildLemmas.{passes_child, meets_child, both_are}
use Rattle.be_views.proofs.children.last_child_at.Goals as goal
use Rattle.be_views.proofs.children.last_child_at.Goals.{else-has_pixel-via-then-has_pixel+else-lies_in, else-has_pixel-via-else-has_pixel}

pub returns-then-lies_in-clause-child : goal.returns-then-lies_in-clause-child
returns-then-lies_in-clause-child c =
    let x : SFits w32 c.args.x = c.ranges.x in
    let y : SFits w32 c.args.y = c.ranges.y in
    let k = c.loop-k.k in
    let read = c.view.view_is ∙ c.index-views-k.is ∙ ap (get_or c.args.views.now (k - 1)) (sym c.view.view_is) in
    let some : 0 < k = omega arith in
    let within : k ≤ length c.args.views.now = c.loop-k.auto.k in
    meets_child c.args.views.now k c.args.v c.args.x c.args.y _ some within read (both_are _ _ true true (sym c.lies_in.ensures ∙ c.if-lies_in.true) (sym (simp to_z-of_z at c.has_pixel.ensures) ∙ c.if-has_pixel.true)) (simp to_z-of_z at c.loop-k.invariant)

pub loop-k-preserved : goal.loop-k-preserved
loop-k-preserved c =
    let x : SFits w32 c.args.x = c.ranges.x in
    let y : SFits w32 c.args.y = c.ranges.y in
    let k = c.loop-k.k in
    let read = c.view.view_is ∙ c.index-views-k.is ∙ ap (get_or c.args.views.now (k - 1)) (sym c.view.view_is) in
    let some : 0 < k = omega arith in
    let within : k ≤ length c.args.views.now = c.loop-k.auto.k in
    let so_far = simp to_z-of_z at c.loop-k.invariant in
    elim c.else-has_pixel.branch [
      | else-has_pixel-via-then-has_pixel+else-lies_in w ↦ simp to_z-of_z (passes_child c.args.views.now k c.args.v c.args.x c.args.y _ some within read (and_left _ _ (sym w.lies_in.ensures ∙ w.if-lies_in.false)) so_far)
      | else-has_pixel-via-else-has_pixel w ↦ simp to_z-of_z (passes_child c.args.views.now k c.args.v c.args.x c.args.y _ some within read (and_right _ _ (sym (simp to_z-of_z at c.has_pixel.ensures) ∙ w.if-has_pixel.false)) so_far)
    ]

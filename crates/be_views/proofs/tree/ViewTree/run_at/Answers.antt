use Rattle.std.proofs.Common.{rules, SFits, w16, w32, sym, ◌∙◌}
use Rattle.std.proofs.lemmas.Int.{to_z-of_z}
use Rattle.be_views.proofs.RunLemmas.{within_right, root_read, root_run, outer_run, root_view_in, root_view_out}
use Rattle.be_views.proofs.tree.ViewTree.run_at.Goals as goal

pub run_below-view-requires-clause-forward : goal.run_below-view-requires-clause-forward
run_below-view-requires-clause-forward c =
    let x = c.ranges.x in
    let y = c.ranges.y in
    let r : SFits w16 c.behind-self.inside.frame.right = search rules in
    let e : SFits w32 c.from-end.result = search rules in
    let right = simp to_z-of_z at c.from-end.ensures in
    let holds = simp to_z-of_z at c.if-has_pixel.ensures in
    simp to_z-of_z (rw right (within_right c.behind-self.inside.frame c.args.x c.args.y (sym holds)))

pub returns-then-has_pixel-clause-answer : goal.returns-then-has_pixel-clause-answer
returns-then-has_pixel-clause-answer c =
    let x = c.ranges.x in
    let y = c.ranges.y in
    let got = root_read c.self.inside.views.items c.deref.result.now _ c.index.result.now (sym c.deref.ensures.value) c.self.invariant c.index.ensures c.behind-self.view_is in
    let holds = simp to_z-of_z at c.if-has_pixel.ensures in
    let view = simp to_z-of_z at c.run_below-view.ensures.view in
    rw (← c.self.view_is, ← c.deref.ensures.value, view, c.len.ensures ∙ sym c.deref.ensures.len) (root_view_in c.deref.result.now _ c.args.x c.args.y got (sym holds))

pub returns-then-has_pixel-clause-run : goal.returns-then-has_pixel-clause-run
returns-then-has_pixel-clause-run c =
    let x = c.ranges.x in
    let y = c.ranges.y in
    let r : SFits w16 c.behind-self.inside.frame.right = search rules in
    let e : SFits w32 c.from-end.result = search rules in
    let l : SFits w32 c.run_below-view.result.1 = search rules in
    let got = root_read c.self.inside.views.items c.deref.result.now _ c.index.result.now (sym c.deref.ensures.value) c.self.invariant c.index.ensures c.behind-self.view_is in
    let holds = simp to_z-of_z at c.if-has_pixel.ensures in
    let right = simp to_z-of_z at c.from-end.ensures in
    let run = rw (c.len.ensures ∙ sym c.deref.ensures.len, right) at (simp to_z-of_z at c.run_below-view.ensures.run) in
    rw (← c.self.view_is, ← c.deref.ensures.value) (simp to_z-of_z (root_run c.deref.result.now _ c.args.x c.args.y c.run_below-view.result.1 got (sym holds) run))

pub returns-else-has_pixel-clause-answer : goal.returns-else-has_pixel-clause-answer
returns-else-has_pixel-clause-answer c =
    let x = c.ranges.x in
    let y = c.ranges.y in
    let got = root_read c.self.inside.views.items c.args.self.now _ c.index.result.now c.self.view_is c.self.invariant c.index.ensures c.behind-self.view_is in
    let none = simp to_z-of_z at c.if-has_pixel.ensures in
    root_view_out c.args.self.now _ c.args.x c.args.y got (sym none)

pub returns-else-has_pixel-clause-run : goal.returns-else-has_pixel-clause-run
returns-else-has_pixel-clause-run c =
    let x = c.ranges.x in
    let y = c.ranges.y in
    let l : SFits w32 c.frame_gap_end.result = search rules in
    let got = root_read c.self.inside.views.items c.args.self.now _ c.index.result.now c.self.view_is c.self.invariant c.index.ensures c.behind-self.view_is in
    let none = simp to_z-of_z at c.if-has_pixel.ensures in
    let run = simp to_z-of_z at c.frame_gap_end.ensures in
    simp to_z-of_z (outer_run c.args.self.now _ c.args.x c.args.y c.frame_gap_end.result got (sym none) run)

use Rattle.std.proofs.Common.{◌≤◌, length, rules, refl}
use Rattle.std.proofs.lemmas.Bool.{false≢true}
use Rattle.std.proofs.lemmas.Int.{to_z-of_z}
use Rattle.be_views.specs.Whole.{IsTree}
use Rattle.be_views.proofs.WayLemmas.{written_back, tree_of_frames, resized_is, resized_none}
use Rattle.be_views.proofs.tree.ViewTree.resize.Goals as goal

pub returns-in_err-frames-clause-out : goal.returns-in_err-frames-clause-out
returns-in_err-frames-clause-out c =
    let f = c.ranges.width in
    let g = c.ranges.height in
    let out = simp to_z-of_z at c.in_err-frames.ensures.out in
    let none = resized_none c.deref.result.now c.args.width c.args.height in
    rw (← c.self.view_is, ← c.deref.ensures.value) (λ _. none.1 (out.0 refl), λ _. c.from_residual.ensures.0)

pub invariant_of-self : goal.invariant_of-self
invariant_of-self c =
    let room : length c.deref_mut.result.now ≤ length c.in_ok-frames.frames = search rules in
    let e = written_back c.self.inside.views.items c.deref_mut.result.now c.set_frames.new.views c.in_ok-frames.frames c.self.inside.views.len c.deref_mut.ensures.value c.deref_mut.ensures.len room c.set_frames.ensures in
    let f = c.ranges.width in
    let g = c.ranges.height in
    let frames = rw c.deref.ensures.value at (simp to_z-of_z at c.in_ok-frames.ensures.frames) in
    let t : IsTree c.self.inside.views.items = c.self.invariant in
    rw e (tree_of_frames c.self.inside.views.items c.args.width c.args.height c.in_ok-frames.frames (search rules) frames t)

pub returns-clause-resized : goal.returns-clause-resized
returns-clause-resized c =
    let f = c.ranges.width in
    let g = c.ranges.height in
    let room : length c.deref_mut.result.now ≤ length c.in_ok-frames.frames = search rules in
    let e = written_back c.self.inside.views.items c.deref_mut.result.now c.set_frames.new.views c.in_ok-frames.frames c.self.inside.views.len c.deref_mut.ensures.value c.deref_mut.ensures.len room c.set_frames.ensures in
    let frames = simp to_z-of_z at c.in_ok-frames.ensures.frames in
    let out = simp to_z-of_z at c.in_ok-frames.ensures.out in
    rw (e, ← c.self.view_is, ← c.deref.ensures.value) (resized_is c.deref.result.now c.args.width c.args.height c.in_ok-frames.frames frames (λ none. false≢true (out.1 none)))

pub returns-clause-out : goal.returns-clause-out
returns-clause-out c =
    let f = c.ranges.width in
    let g = c.ranges.height in
    let out = simp to_z-of_z at c.in_ok-frames.ensures.out in
    let none = resized_none c.deref.result.now c.args.width c.args.height in
    rw (← c.self.view_is, ← c.deref.ensures.value) (λ e. absurd (false≢true e), λ e. out.1 (none.0 e))

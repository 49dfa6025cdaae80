use Rattle.std.proofs.Common.{◌≡◌, SFits, w16, rules, Ok, sym, ap, ◌∙◌, subst}
use Rattle.std.specs.Prelude.{slice_get, option_and_then}
use Rattle.std.proofs.lemmas.Int.{to_z-of_z}
use Rattle.be_geom.specs.declared.change.Change.{Change}
use Rattle.be_stack.specs.Limits.{is_within_limits}
use Rattle.be_views.specs.Resizing.{resized}
use Rattle.be_views.specs.Trees.{Tree}
use Rattle.be_desk.specs.Changes.{desk_with}
use Rattle.be_desk.specs.Desks.{IsTaken}
use Rattle.be_desk.proofs.CarryLemmas.{after_resize, desk_by}
use Rattle.be_desk.proofs.SizeLemmas.{sized}
use Rattle.be_desk.proofs.carrying.point.Goals as goal

pub resize-refused-requires-clause-across : goal.resize-refused-requires-clause-across
resize-refused-requires-clause-across c =
    let x : SFits w16 c.in-ResizeTo.width = search rules in
    simp to_z-of_z (sized c.in-ResizeTo.width c.in-ResizeTo.height (ap is_within_limits (sym c.in-ResizeTo.is) ∙ c.requires.within_limits)).0

pub resize-refused-requires-clause-down : goal.resize-refused-requires-clause-down
resize-refused-requires-clause-down c =
    let x : SFits w16 c.in-ResizeTo.height = search rules in
    simp to_z-of_z (sized c.in-ResizeTo.width c.in-ResizeTo.height (ap is_within_limits (sym c.in-ResizeTo.is) ∙ c.requires.within_limits)).1

pub returns-in-ResizeTo : goal.returns-in-ResizeTo
returns-in-ResizeTo c s t =
    let x : SFits w16 c.in-ResizeTo.width = search rules in
    let y : SFits w16 c.in-ResizeTo.height = search rules in
    let p = c.args.pointing.now in
    let q = c.resize-refused.new.self in
    let width = c.in-ResizeTo.width in
    let height = c.in-ResizeTo.height in
    let o = option_and_then (λ (tree : Tree). resized tree width height) (slice_get p.trees c.args.w) in
    let ok = simp to_z-of_z at c.resize-refused.ensures.resized in
    let out = simp to_z-of_z at c.resize-refused.ensures.out in
    let taken = subst (λ (change : Change). IsTaken (desk_with (desk_by s p) c.args.w s change)) c.in-ResizeTo.is (c.requires.taken s) in
    subst (λ (change : Change). desk_with (desk_by s p) c.args.w t change ≡ Ok (desk_by t q)) (sym c.in-ResizeTo.is)
    (after_resize c.resize-refused.result p q s t c.args.w o ok out.0 taken)

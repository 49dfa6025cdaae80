use Rattle.std.proofs.Common.{◌<◌, ◌+◌, ◌++◌, ◌∷◌, [], length, get_or, sym, ap, ◌∙◌, subst, refl, arith}
use Rattle.be_said.specs.Fits.{Fits}
use Rattle.be_said.specs.Deeds.{adds_view}
use Rattle.be_said.specs.Said.{seen_said}
use Rattle.be_said.proofs.DrawLemmas.{depths_count, view_count}
use Rattle.be_said.proofs.HandlerLemmas.{chain-refuses, on_ok, room_left, taken_ok}
use Rattle.be_said.proofs.GrownInside.{here_at, set_at}
use Rattle.be_said.proofs.ViewLemmas.{depth_is, parent_there, view-deep, view-done, view-many, view_name_fits}
use Rattle.be_said.proofs.WindowKept.{view-kept}
use Rattle.be_said.proofs.said.SoFar.add_view.Goals as goal

pub index-depth-requires : goal.index-depth-requires
index-depth-requires c =
    let fits : Fits (seen_said c.self.inside) (adds_view c.args.line) = subst (λ s. Fits s (adds_view c.args.line)) (sym c.self.view_is) c.requires in
    let is = here_at _ _ _ c.from.result c.index_mut-inside.result.now c.self.invariant c.from.ensures fits.1 c.index_mut-inside.ensures.value in
    let count = depths_count _ _ _ is.1 in
    omega (arith, fits.3, count, view_count (seen_said c.self.inside) c.args.line.window)

pub returns-then-depth-ge-DEPTH : goal.returns-then-depth-ge-DEPTH
returns-then-depth-ge-DEPTH c =
    let fits : Fits (seen_said c.self.inside) (adds_view c.args.line) = subst (λ s. Fits s (adds_view c.args.line)) (sym c.self.view_is) c.requires in
    let is = here_at _ _ _ c.from.result c.index_mut-inside.result.now c.self.invariant c.from.ensures fits.1 c.index_mut-inside.ensures.value in
    let depth = c.index-depth.ensures ∙ ap (λ k. get_or c.index_mut-inside.result.now.depths.items k c.index-depth.result.now) c.from-2.ensures in
    rw (← c.self.view_is) (view-deep _ c.args.line _ _ is.1 fits.3 depth (omega arith))

pub taken-requires : goal.taken-requires
taken-requires c =
    let fits : Fits (seen_said c.self.inside) (adds_view c.args.line) = subst (λ s. Fits s (adds_view c.args.line)) (sym c.self.view_is) c.requires in
    let is = here_at _ _ _ c.from.result c.index_mut-inside.result.now c.self.invariant c.from.ensures fits.1 c.index_mut-inside.ensures.value in
    let there = parent_there _ c.args.line _ is.1 fits.0 fits.3 in
    λ no. let none = c.add_view.ensures.no_target.0 no in (cc)

pub returns-in_err-taken : goal.returns-in_err-taken
returns-in_err-taken c =
    let fits : Fits (seen_said c.self.inside) (adds_view c.args.line) = subst (λ s. Fits s (adds_view c.args.line)) (sym c.self.view_is) c.requires in
    let is = here_at _ _ _ c.from.result c.index_mut-inside.result.now c.self.invariant c.from.ensures fits.1 c.index_mut-inside.ensures.value in
    let there = parent_there _ c.args.line _ is.1 fits.0 fits.3 in
    rw (← c.self.view_is)
    (chain-refuses _ c.add_view.result _ c.from_residual.result (sym c.taken.ensures ∙ c.in_err-taken.was) c.from_residual.ensures.1
    (λ no. let none = c.add_view.ensures.no_target.0 no in (cc))
    (λ many. view-many _ c.args.line _ is.1 fits.0 (c.add_view.ensures.too_many.0 many).1))

pub add_view-requires-2 : goal.add_view-requires-2
add_view-requires-2 c =
    let fits : Fits (seen_said c.self.inside) (adds_view c.args.line) = subst (λ s. Fits s (adds_view c.args.line)) (sym c.self.view_is) c.requires in
    let is = here_at _ _ _ c.from.result c.index_mut-inside.result.now c.self.invariant c.from.ensures fits.1 c.index_mut-inside.ensures.value in
    let there = parent_there _ c.args.line _ is.1 fits.0 fits.3 in
    let was = taken_ok _ _ (sym c.taken.ensures ∙ c.in_ok-taken.was) in
    let few : length c.index_mut-inside.result.now.chain.parents < 32 =
    room_left _ _ _ _ (λ many. c.add_view.ensures.too_many.1 (there, many)) was in
    view_name_fits _ c.args.line _ is.1 fits.0 fits.2 few

pub invariant_of-self : goal.invariant_of-self
invariant_of-self c =
    let fits : Fits (seen_said c.self.inside) (adds_view c.args.line) = subst (λ s. Fits s (adds_view c.args.line)) (sym c.self.view_is) c.requires in
    let is = here_at _ _ _ c.from.result c.index_mut-inside.result.now c.self.invariant c.from.ensures fits.1 c.index_mut-inside.ensures.value in
    let there = parent_there _ c.args.line _ is.1 fits.0 fits.3 in
    let depth = c.index-depth.ensures ∙ ap (λ k. get_or c.index_mut-inside.result.now.depths.items k c.index-depth.result.now) c.from-2.ensures in
    let was = taken_ok _ _ (sym c.taken.ensures ∙ c.in_ok-taken.was) in
    let added = on_ok _ _ _ was c.add_view.ensures.added in
    let deeper = ap (λ d. c.index_mut-inside.result.now.depths.items ++ (d + 1) ∷ []) (depth_is _ c.args.line _ _ is.1 fits.3 depth) in
    rw c.in_ok-push-3.ensures.items
    (set_at _ _ _ _ _ c.from.ensures
    (view-kept _ _ c.args.line _ _ c.self.invariant fits.0 is.0 is.1 c.in_ok-add_view.ensures refl (c.in_ok-push.ensures.items ∙ deeper) added
    c.in_ok-push-2.ensures.items))

pub returns : goal.returns
returns c =
    let fits : Fits (seen_said c.self.inside) (adds_view c.args.line) = subst (λ s. Fits s (adds_view c.args.line)) (sym c.self.view_is) c.requires in
    let is = here_at _ _ _ c.from.result c.index_mut-inside.result.now c.self.invariant c.from.ensures fits.1 c.index_mut-inside.ensures.value in
    let there = parent_there _ c.args.line _ is.1 fits.0 fits.3 in
    let depth = c.index-depth.ensures ∙ ap (λ k. get_or c.index_mut-inside.result.now.depths.items k c.index-depth.result.now) c.from-2.ensures in
    let was = taken_ok _ _ (sym c.taken.ensures ∙ c.in_ok-taken.was) in
    let few : length c.index_mut-inside.result.now.chain.parents < 32 =
    room_left _ _ _ _ (λ many. c.add_view.ensures.too_many.1 (there, many)) was in
    rw (← c.self.view_is, c.in_ok-push-3.ensures.items) (view-done _ c.args.line _ _ is.1 fits.0 fits.3 depth (omega arith) few)

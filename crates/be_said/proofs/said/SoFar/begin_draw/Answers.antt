use Rattle.std.proofs.Common.{◌<◌, ◌+◌, get_or, set, true, length, sym, ap, ◌∙◌, subst, refl, arith}
use Rattle.be_said.specs.Fits.{Fits}
use Rattle.be_said.specs.Deeds.{begins_draw}
use Rattle.be_said.specs.Said.{seen_said}
use Rattle.be_said.specs.SoFar.{views_in}
use Rattle.be_said.proofs.DrawLemmas.{depths_count, draw-done, draw-taken, draw_at, draw_count, view_count}
use Rattle.be_said.proofs.GrownInside.{here_at, set_at}
use Rattle.be_said.proofs.ProgramKept.{draw-kept}
use Rattle.be_said.proofs.said.SoFar.begin_draw.Goals as goal

pub index-requires : goal.index-requires
index-requires c =
    let fits : Fits (seen_said c.self.inside) (begins_draw c.args.window c.args.view) = subst (λ s. Fits s (begins_draw c.args.window c.args.view)) (sym c.self.view_is) c.requires in
    let is = here_at _ _ _ _ _ c.self.invariant c.from.ensures fits.1 c.index_mut-inside.ensures.value in
    let count = draw_count _ _ _ is.1 in
    omega (arith, fits.2, count, view_count (seen_said c.self.inside) c.args.window)

pub returns-then-index : goal.returns-then-index
returns-then-index c =
    let fits : Fits (seen_said c.self.inside) (begins_draw c.args.window c.args.view) = subst (λ s. Fits s (begins_draw c.args.window c.args.view)) (sym c.self.view_is) c.requires in
    let is = here_at _ _ _ _ _ c.self.invariant c.from.ensures fits.1 c.index_mut-inside.ensures.value in
    let drawn = draw_at _ _ _ _ _ is.1 fits.0 fits.2 (c.index.ensures ∙ ap (λ k. get_or c.index_mut-inside.result.now.draws.items k c.index.result.now) c.from-2.ensures) in
    rw (← c.self.view_is) (draw-taken _ _ _ _ drawn c.if-index.true)

pub index_mut-requires : goal.index_mut-requires
index_mut-requires c =
    let fits : Fits (seen_said c.self.inside) (begins_draw c.args.window c.args.view) = subst (λ s. Fits s (begins_draw c.args.window c.args.view)) (sym c.self.view_is) c.requires in
    let is = here_at _ _ _ _ _ c.self.invariant c.from.ensures fits.1 c.index_mut-inside.ensures.value in
    let count = draw_count _ _ _ is.1 in
    omega (arith, fits.2, count, view_count (seen_said c.self.inside) c.args.window)

pub invariant_of-self : goal.invariant_of-self
invariant_of-self c =
    let fits : Fits (seen_said c.self.inside) (begins_draw c.args.window c.args.view) = subst (λ s. Fits s (begins_draw c.args.window c.args.view)) (sym c.self.view_is) c.requires in
    let is = here_at _ _ _ _ _ c.self.invariant c.from.ensures fits.1 c.index_mut-inside.ensures.value in
    let depth : c.args.view < length c.index_mut-inside.result.now.depths.items =
    let count = depths_count _ _ _ is.1 in omega (arith, fits.2, count, view_count (seen_said c.self.inside) c.args.window) in
    let view : c.args.view < length (views_in (seen_said c.self.inside) c.args.window) + 1 = omega (arith, fits.2, view_count (seen_said c.self.inside) c.args.window) in
    rw c.new.ensures.items
    (set_at _ _ _ _ _ c.from.ensures
    (draw-kept _ _ _ _ _ _ c.self.invariant fits.0 is.0 depth view is.1 refl refl refl refl
    (ap (λ k. set c.index_mut-inside.result.now.draws.items k true) c.from-3.ensures)))

pub returns : goal.returns
returns c =
    let fits : Fits (seen_said c.self.inside) (begins_draw c.args.window c.args.view) = subst (λ s. Fits s (begins_draw c.args.window c.args.view)) (sym c.self.view_is) c.requires in
    let is = here_at _ _ _ _ _ c.self.invariant c.from.ensures fits.1 c.index_mut-inside.ensures.value in
    let drawn = draw_at _ _ _ _ _ is.1 fits.0 fits.2 (c.index.ensures ∙ ap (λ k. get_or c.index_mut-inside.result.now.draws.items k c.index.result.now) c.from-2.ensures) in
    rw (← c.self.view_is, c.new.ensures.items) (draw-done _ _ _ _ drawn c.if-index.false)

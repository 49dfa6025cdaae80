use Rattle.std.proofs.Common.{◌≡◌, ℤ, Bool, false, ◌&&◌, List, ap, refl, subst}
use Rattle.be_geom.specs.declared.rect.Rect.{Rect}
use Rattle.be_geom.specs.Rects.{rect_has}
use Rattle.be_region.specs.Frames.{IsFrame}
use Rattle.be_region.specs.Regions.{region_has}
use Rattle.be_descent.specs.Drawing.{may_draw}
use Rattle.be_descent.specs.Places.{has_moved}
use Rattle.be_descent.proofs.RegionLemmas.{none_from, none_in_region, region_painted}
use Rattle.be_descent.proofs.boxed.paint_rect.Goals as goal

pub returns-in_default : goal.returns-in_default
returns-in_default g c =
    let at : ℤ → ℤ → Bool = λ x y. has_moved c.args.rect c.args.way x y
    && (may_draw c.args.reach.now x y && g.L.Lay.at c.args.ink.now x y) in
    none_in_region (g.L.Lay.rule c.args.ink.now) at c.args.spans.now (none_from c.args.spans.now.rects at
    (subst (λ (rs : List Rect). (x y : ℤ) → region_has rs x y ≡ false) c.region.ensures.region
    (c.in_default.ensures.none.0 refl)))

pub returns-in-Some : goal.returns-in-Some
returns-in-Some g c =
    let frame = c.in-Some.frame in
    let whole = subst (IsFrame frame) c.region.ensures.region c.in-Some.ensures.some in
    let at : ℤ → ℤ → Bool = λ x y. has_moved c.args.rect c.args.way x y
    && (may_draw c.args.reach.now x y && g.L.Lay.at c.args.ink.now x y) in
    region_painted (g.L.Lay.rule c.args.ink.now) (λ x y. rect_has frame x y && at x y) at
    c.args.spans.now c.paint_boxed.new.spans (λ x y has. ap (λ b. b && at x y) (whole.holds x y has))
    c.paint_boxed.ensures

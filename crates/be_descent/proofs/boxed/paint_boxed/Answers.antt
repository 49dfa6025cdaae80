use Rattle.std.proofs.Common.{ℤ, Bool, ◌&&◌}
use Rattle.be_geom.specs.Rects.{rect_has}
use Rattle.be_descent.specs.Drawing.{may_draw}
use Rattle.be_descent.specs.Places.{has_moved}
use Rattle.be_descent.proofs.PaintLemmas.{none_painted, same_painted}
use Rattle.be_descent.proofs.RegionLemmas.{boxed, none_boxed}
use Rattle.be_descent.proofs.boxed.paint_boxed.Goals as goal

pub returns-in-Some : goal.returns-in-Some
returns-in-Some g c =
    let area = c.args.area in
    let may : ℤ → ℤ → Bool = λ x y. may_draw c.args.reach.now x y in
    let at : ℤ → ℤ → Bool = g.L.Lay.at c.args.ink.now in
    let box : ℤ → ℤ → Bool = has_moved c.args.rect c.args.way in
    same_painted (g.L.Lay.rule c.args.ink.now)
    (λ x y. rect_has c.in-Some.part x y && (may x y && at x y))
    (λ x y. rect_has area x y && (box x y && (may x y && at x y))) c.args.spans.now
    c.paint_reached.new.spans
    (λ x y. boxed (rect_has c.in-Some.part x y) (rect_has area x y) (box x y) (may x y) (at x y)
    (c.in-Some.ensures.some.both x y)) c.paint_reached.ensures

pub returns-in_default : goal.returns-in_default
returns-in_default g c =
    let area = c.args.area in
    let may : ℤ → ℤ → Bool = λ x y. may_draw c.args.reach.now x y in
    let at : ℤ → ℤ → Bool = g.L.Lay.at c.args.ink.now in
    let box : ℤ → ℤ → Bool = has_moved c.args.rect c.args.way in
    none_painted (g.L.Lay.rule c.args.ink.now)
    (λ x y. rect_has area x y && (box x y && (may x y && at x y))) c.args.spans.now
    (λ x y. none_boxed (rect_has area x y) (box x y) (may x y) (at x y)
    (c.in_default.ensures.none x y))

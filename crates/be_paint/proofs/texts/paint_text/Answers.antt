use Rattle.std.proofs.Common.{◌≡◌, ℤ, pos, ◌+ℤ◌, ◌-ℤ◌, Bool, false, ◌&&◌, List, SFits}
use Rattle.std.proofs.Common.{w32, to_z, refl, sym, ap, ◌∙◌, subst, arith, rules}
use Rattle.std.proofs.lemmas.Int.{to_z-of_z, ints}
use Rattle.be_descent.specs.Drawing.{may_draw}
use Rattle.be_descent.proofs.PaintLemmas.{none_painted}
use Rattle.be_descent.proofs.FitLemmas.{fits_32}
use Rattle.be_descent.proofs.RegionLemmas.{band_painted, fewer_left, no_row_yet, none_from}
use Rattle.be_descent.proofs.RegionLemmas.{none_in_region, region_painted, whole_rows}
use Rattle.be_geom.specs.Points.{between}
use Rattle.be_geom.specs.Rects.{rect_has}
use Rattle.be_geom.specs.declared.rect.Rect.{Rect}
use Rattle.be_geom.proofs.Between.{is_between}
use Rattle.be_region.specs.Frames.{IsFrame}
use Rattle.be_region.specs.Regions.{region_has}
use Rattle.be_span.specs.Slices.{painted}
use Rattle.be_paint.specs.Laying.{text_at}
use Rattle.be_paint.proofs.texts.paint_text.Goals as goal

pub returns-in_default : goal.returns-in_default
returns-in_default c =
    let text = c.args.text.now in
    let at : ℤ → ℤ → Bool = λ x y. text_at text x y && may_draw c.args.reach.now x y in
    none_in_region (λ x y. painted text.brush text.color) at c.args.spans.now
    (none_from c.args.spans.now.rects at
    (subst (λ (rs : List Rect). (x y : ℤ) → region_has rs x y ≡ false) c.region.ensures.region
    (c.in_default.ensures.none.0 refl)))

pub columns-init : goal.columns-init
columns-init c =
    let text = c.args.text.now in
    let first = c.columns_in-first.result.0 in
    let f : SFits w32 first = search rules in
    let at : ℤ → ℤ → Bool = λ x y. text_at text x y && may_draw c.args.reach.now x y in
    simp to_z-of_z record {
      from = omega (arith, ints);
      done = none_painted (λ x y. painted text.brush text.color)
          (λ x y. between first (x -ℤ text.way.right) (first -ℤ pos 1) && at x y) c.args.spans.now
          (λ x y. no_row_yet first first (x -ℤ text.way.right) (at x y) refl);
    }

pub paint_columns-requires-clause-column : goal.paint_columns-requires-clause-column
paint_columns-requires-clause-column c =
    let near = c.columns_in-first.ensures.near in
    let f : SFits w32 c.columns_in-first.result.0 = search rules in
    let l : SFits w32 c.columns_in-first.result.1 = search rules in
    let test = simp to_z-of_z at c.columns-test.true in
    let from = simp to_z-of_z at c.columns.invariant.from in
    (omega (arith, ints, near, from), omega (arith, ints, near, test))

pub columns-smaller : goal.columns-smaller
columns-smaller c =
    let x : ℤ = to_z w32 c.columns.x-bits in
    let near = c.columns_in-first.ensures.near in
    let f : SFits w32 c.columns_in-first.result.0 = search rules in
    let l : SFits w32 c.columns_in-first.result.1 = search rules in
    let test = simp to_z-of_z at c.columns-test.true in
    let from = simp to_z-of_z at c.columns.invariant.from in
    let next : SFits w32 (x +ℤ pos 64) =
    fits_32 (x +ℤ pos 64) (omega (arith, ints, near, from)) (omega (arith, ints, near, test)) in
    simp to_z-of_z (fewer_left x (x +ℤ pos 64) (c.columns_in-first.result.1 +ℤ pos 63)
    (omega (arith, ints)) (omega (arith, ints, test)))

pub columns-preserved : goal.columns-preserved
columns-preserved c =
    let text = c.args.text.now in
    let frame = c.in-Some.frame in
    let x : ℤ = to_z w32 c.columns.x-bits in
    let first = c.columns_in-first.result.0 in
    let near = c.columns_in-first.ensures.near in
    let f : SFits w32 c.columns_in-first.result.0 = search rules in
    let l : SFits w32 c.columns_in-first.result.1 = search rules in
    let test = simp to_z-of_z at c.columns-test.true in
    let from = simp to_z-of_z at c.columns.invariant.from in
    let next : SFits w32 (x +ℤ pos 64) =
    fits_32 (x +ℤ pos 64) (omega (arith, ints, near, from)) (omega (arith, ints, near, test)) in
    let at : ℤ → ℤ → Bool = λ u v. text_at text u v && may_draw c.args.reach.now u v in
    let in_it : ℤ → Bool = λ u. between x (u -ℤ text.way.right) (x +ℤ pos 63) in
    let whole = subst (IsFrame frame) (c.region.ensures.region
    ∙ sym c.columns.invariant.done.region) c.in-Some.ensures.some in
    simp to_z-of_z record {
      from = omega (arith, ints, from);
      done = band_painted (λ u v. painted text.brush text.color) (λ u v. u -ℤ text.way.right)
          first x (x +ℤ pos 63) (x +ℤ pos 64) at c.args.spans.now c.columns.spans
          c.paint_columns.new.spans from (omega (arith, ints)) (omega (arith, ints))
          (simp to_z-of_z at c.columns.invariant.done)
          (region_painted (λ u v. painted text.brush text.color)
          (λ u v. rect_has frame u v && (in_it u && at u v)) (λ u v. in_it u && at u v)
          c.columns.spans c.paint_columns.new.spans
          (λ u v has. ap (λ b. b && (in_it u && at u v)) (whole.holds u v has))
          c.paint_columns.ensures);
    }

pub returns : goal.returns
returns c =
    let text = c.args.text.now in
    let frame = c.in-Some.frame in
    let x : ℤ = to_z w32 c.columns.x-bits in
    let first = c.columns_in-first.result.0 in
    let f : SFits w32 c.columns_in-first.result.0 = search rules in
    let l : SFits w32 c.columns_in-first.result.1 = search rules in
    let test = simp to_z-of_z at c.columns-test.false in
    let may : ℤ → ℤ → Bool = λ u v. may_draw c.args.reach.now u v in
    let before : ℤ → Bool = λ u. between first (u -ℤ text.way.right) (x -ℤ pos 1) in
    let whole = subst (IsFrame frame) c.region.ensures.region c.in-Some.ensures.some in
    region_painted (λ u v. painted text.brush text.color)
    (λ u v. before u && (text_at text u v && may u v)) (λ u v. text_at text u v && may u v)
    c.args.spans.now c.columns.spans
    (λ u v has. whole_rows (before u) (text_at text u v) (may u v)
    (λ is.
    let sides = c.columns_in-first.ensures.within u v (whole.holds u v has) is in
    is_between first (u -ℤ text.way.right) (x -ℤ pos 1) sides.0 (omega (arith, ints, sides, test))))
    (simp to_z-of_z at c.columns.invariant.done)

use Rattle.std.proofs.Common.{◌≡◌, ℤ, pos, ◌+ℤ◌, ◌≤ℤ◌, Bool, ◌&&◌, SFits, w16, w32}
use Rattle.std.proofs.Common.{to_z, refl, ap, arith, rules}
use Rattle.std.proofs.lemmas.Int.{to_z-of_z, ints}
use Rattle.be_shape.specs.declared.Raster.TheVariants.{Line}
use Rattle.be_descent.specs.Drawing.{may_draw}
use Rattle.be_descent.specs.Inks.{shape_has}
use Rattle.be_descent.proofs.FitLemmas.{IsLastFrom, IsRowFrom, last_here, row_here}
use Rattle.be_descent.proofs.RegionLemmas.{fewer_left}
use Rattle.be_descent.proofs.ShapeLemmas.{no_frame, no_shape, rows_begin, rows_end, rows_go_on}
use Rattle.be_descent.proofs.line.paint_line.Given.{Over}
use Rattle.be_descent.proofs.line.paint_line.Goals as goal
use Rattle.be_descent.proofs.line.paint_line.Goals.{After-from-y-in-parts, In-parts}

-- the row is one of those that the shape has
here : (g : Over) (c : In-parts g)
    → IsRowFrom c.in-Some-rows_in.rows.top c.in-Some-rows_in.rows.bottom (to_z w32 c.parts.y-bits)
here g c =
    let rows = c.in-Some-rows_in.rows in
    let y : ℤ = to_z w32 c.parts.y-bits in
    let t : SFits w16 rows.top = search rules in
    let b : SFits w16 rows.bottom = search rules in
    let bb : SFits w32 c.from-bottom.result = search rules in
    let bottom : c.from-bottom.result ≡ rows.bottom = simp to_z-of_z at c.from-bottom.ensures in
    let from = c.parts.invariant.from in
    let test = simp to_z-of_z at c.parts-test.true in
    let up : y ≤ℤ rows.bottom = omega (arith, ints) in
    row_here rows.top rows.bottom y t b (search rules) from up

-- so is the last one that was painted
ended : (g : Over) (c : After-from-y-in-parts g)
    → IsRowFrom c.in-Some-rows_in.rows.top c.in-Some-rows_in.rows.bottom (to_z w32 c.parts.y-bits)
    → IsLastFrom (to_z w32 c.parts.y-bits) c.in-Some-rows_in.rows.bottom
    c.from-y-in-parts.result
ended g c row =
    let rows = c.in-Some-rows_in.rows in
    let b : SFits w16 rows.bottom = search rules in
    let e : SFits w16 c.paint_part-end.result = search rules in
    let end : c.from-y-in-parts.result ≡ c.paint_part-end.result =
    simp to_z-of_z at c.from-y-in-parts.ensures in
    last_here (to_z w32 c.parts.y-bits) rows.bottom c.paint_part-end.result c.from-y-in-parts.result b
    (search rules) end row.fits (rw (to_z-of_z w16 _ row.fits) at c.paint_part-end.ensures.forward)
    (rw (to_z-of_z w16 _ b) at c.paint_part-end.ensures.within)

pub returns-in_default : goal.returns-in_default
returns-in_default g c =
    let raster = Line c.args.from c.args.to c.args.pen in
    let at : ℤ → ℤ → Bool = λ x z. may_draw c.args.reach.now x z && g.P.Paint.at c.args.paint.now x z in
    no_frame (g.P.Paint.rule c.args.paint.now) (λ x z. shape_has raster c.args.way x z && at x z)
    c.args.spans.now c.region.result.now c.region.ensures.region (c.in_default.ensures.none.0 refl)

pub returns-in_default-rows_in : goal.returns-in_default-rows_in
returns-in_default-rows_in g c =
    let raster = Line c.args.from c.args.to c.args.pen in
    let at : ℤ → ℤ → Bool = λ x z. may_draw c.args.reach.now x z && g.P.Paint.at c.args.paint.now x z in
    no_shape (g.P.Paint.rule c.args.paint.now) raster c.args.way at c.args.spans.now
    c.region.result.now c.in-Some.frame c.region.ensures.region c.in-Some.ensures.some
    c.in_default-rows_in.ensures.none

pub parts-init : goal.parts-init
parts-init g c =
    let rows = c.in-Some-rows_in.rows in
    let t : SFits w16 rows.top = search rules in
    let tb : SFits w32 c.from-y.result = search rules in
    let top : c.from-y.result ≡ rows.top = simp to_z-of_z at c.from-y.ensures in
    let raster = Line c.args.from c.args.to c.args.pen in
    let at : ℤ → ℤ → Bool = λ x z. may_draw c.args.reach.now x z && g.P.Paint.at c.args.paint.now x z in
    simp to_z-of_z record {
      from = omega (arith, ints);
      done = rows_begin (g.P.Paint.rule c.args.paint.now) raster c.args.way at c.args.spans.now rows.top
          c.from-y.result top;
    }

pub overflow_cast-area : goal.overflow_cast-area
overflow_cast-area g c = (here g c).fits

pub paint_part-end-requires-clause-down : goal.paint_part-end-requires-clause-down
paint_part-end-requires-clause-down g c =
    let b : SFits w16 c.in-Some-rows_in.rows.bottom = search rules in
    let row = here g (goal.at.paint_part-end-requires-clause-down g c).In-parts in
    rw (to_z-of_z w16 _ row.fits, to_z-of_z w16 _ b) row.within

pub paint_part-end-requires-clause-rows : goal.paint_part-end-requires-clause-rows
paint_part-end-requires-clause-rows g c z =
    let b : SFits w16 c.in-Some-rows_in.rows.bottom = search rules in
    let row = here g (goal.at.paint_part-end-requires-clause-rows g c).In-parts in
    let from = row.forward in
    rw (to_z-of_z w16 _ row.fits, to_z-of_z w16 _ b)
    (λ low high. c.in-Some-rows_in.ensures.some.each z (omega (arith, ints)) high)

pub parts-smaller : goal.parts-smaller
parts-smaller g c =
    let row = here g (goal.at.parts-smaller g c).In-parts in
    let end = ended g c row in
    let b : SFits w16 c.in-Some-rows_in.rows.bottom = search rules in
    let bb : SFits w32 c.from-bottom.result = search rules in
    let bottom : c.from-bottom.result ≡ c.in-Some-rows_in.rows.bottom =
    simp to_z-of_z at c.from-bottom.ensures in
    let forward = end.forward in
    let within = end.within in
    simp (to_z-of_z w32 _ end.bits, to_z-of_z w32 _ end.next, to_z-of_z w32 _ bb)
    (fewer_left (to_z w32 c.parts.y-bits) (c.from-y-in-parts.result +ℤ pos 1)
    c.from-bottom.result (omega (arith, ints)) (omega (arith, ints)))

pub parts-preserved : goal.parts-preserved
parts-preserved g c =
    let rows = c.in-Some-rows_in.rows in
    let y : ℤ = to_z w32 c.parts.y-bits in
    let row = here g (goal.at.parts-preserved g c).In-parts in
    let end = ended g c row in
    let l : SFits w16 rows.left = search rules in
    let r : SFits w16 rows.right = search rules in
    let e : SFits w16 c.paint_part-end.result = search rules in
    let is : c.from-y-in-parts.result ≡ c.paint_part-end.result =
    simp to_z-of_z at c.from-y-in-parts.ensures in
    let from = row.forward in
    let forward = end.forward in
    let raster = Line c.args.from c.args.to c.args.pen in
    let at : ℤ → ℤ → Bool = λ x z. may_draw c.args.reach.now x z && g.P.Paint.at c.args.paint.now x z in
    let done = rw (to_z-of_z w16 _ l, to_z-of_z w16 _ r, to_z-of_z w16 _ row.fits)
    at c.paint_part-end.ensures.painted in
    simp (to_z-of_z w32 _ end.bits, to_z-of_z w32 _ end.next) record {
      from = omega (arith, ints);
      done = rows_go_on (g.P.Paint.rule c.args.paint.now) raster c.args.way at c.args.spans.now
          c.parts.spans c.paint_part-end.new.spans c.region.result.now c.in-Some.frame rows y
          c.paint_part-end.result (c.from-y-in-parts.result +ℤ pos 1) c.region.ensures.region
          c.in-Some.ensures.some c.in-Some-rows_in.ensures.some from (omega (arith, ints))
          (ap (λ (z : ℤ). z +ℤ pos 1) is) c.parts.invariant.done done;
    }

pub returns : goal.returns
returns g c =
    let rows = c.in-Some-rows_in.rows in
    let y : ℤ = to_z w32 c.parts.y-bits in
    let b : SFits w16 rows.bottom = search rules in
    let bb : SFits w32 c.from-bottom.result = search rules in
    let bottom : c.from-bottom.result ≡ rows.bottom = simp to_z-of_z at c.from-bottom.ensures in
    let test = simp to_z-of_z at c.parts-test.false in
    let raster = Line c.args.from c.args.to c.args.pen in
    let at : ℤ → ℤ → Bool = λ x z. may_draw c.args.reach.now x z && g.P.Paint.at c.args.paint.now x z in
    rows_end (g.P.Paint.rule c.args.paint.now) raster c.args.way at c.args.spans.now c.parts.spans
    c.region.result.now c.in-Some.frame rows y c.region.ensures.region c.in-Some.ensures.some
    c.in-Some-rows_in.ensures.some (omega (arith, ints)) c.parts.invariant.done

use Rattle.std.proofs.Common.{◌≡◌, ℤ, ◌+ℤ◌, ◌-ℤ◌, ◌≤ℤ◌, Bool, ◌&&◌, SFits, w16, w32}
use Rattle.std.proofs.Common.{sym, ◌∙◌, rules, arith}
use Rattle.std.specs.Int.{int_min}
use Rattle.std.proofs.lemmas.Int.{to_z-of_z, ints, clamps}
use Rattle.be_facts.proofs.Numbers.{fits_16}
use Rattle.be_geom.specs.Points.{between}
use Rattle.be_shape.specs.Rows.{row_has}
use Rattle.be_shape.proofs.BetweenLemmas.{not_above, not_below}
use Rattle.be_descent.specs.Drawing.{may_draw}
use Rattle.be_descent.specs.Inks.{shape_has}
use Rattle.be_descent.proofs.FitLemmas.{IsRowFrom, fits_32}
use Rattle.be_descent.proofs.PaintLemmas.{same_painted}
use Rattle.be_descent.proofs.RegionLemmas.{in_band}
use Rattle.be_descent.proofs.bands.paint_band.Given.{Over}
use Rattle.be_descent.proofs.bands.paint_band.Goals as goal
use Rattle.be_descent.proofs.bands.paint_band.Goals.{After-down_to-end}

-- the first row as the shape counts
first_fits : (g : Over) (c : After-down_to-end g)
    → SFits w32 (c.from.result -ℤ c.args.way.down)
first_fits g c =
    let t : SFits w16 c.args.area.top = search rules in
    let tb : SFits w32 c.from.result = search rules in
    let top : c.from.result ≡ c.args.area.top = simp to_z-of_z at c.from.ensures in
    let near = c.requires.near.1 in
    fits_32 (c.from.result -ℤ c.args.way.down) (omega (arith, ints)) (omega (arith, ints))

end_is : (g : Over) (c : After-down_to-end g)
    → c.down_to-end.result ≡ int_min (c.alike.result +ℤ c.args.way.down) c.args.area.bottom
end_is g c =
    let b : SFits w16 c.args.area.bottom = search rules in
    let bb : SFits w32 c.from-2.result = search rules in
    let bottom : c.from-2.result ≡ c.args.area.bottom = simp to_z-of_z at c.from-2.ensures in
    let d : SFits w32 c.args.way.down = search rules in
    let a : SFits w32 c.alike.result = search rules in
    let e : SFits w32 c.down_to-end.result = search rules in
    rw bottom at (simp to_z-of_z at c.down_to-end.ensures)

ended : (g : Over) (c : After-down_to-end g)
    → IsRowFrom c.args.area.top c.args.area.bottom c.down_to-end.result
ended g c =
    let area = c.args.area in
    let way = c.args.way in
    let t : SFits w16 area.top = search rules in
    let b : SFits w16 area.bottom = search rules in
    let tb : SFits w32 c.from.result = search rules in
    let top : c.from.result ≡ area.top = simp to_z-of_z at c.from.ensures in
    let order = c.requires.down in
    let d : SFits w32 way.down = search rules in
    let away = first_fits g c in
    let a : SFits w32 c.alike.result = search rules in
    let forward : (c.from.result -ℤ way.down) ≤ℤ c.alike.result =
    simp to_z-of_z at c.alike.ensures.forward in
    let end = end_is g c in
    let more : area.top ≤ℤ c.down_to-end.result = omega (arith, ints, clamps) in
    let most : c.down_to-end.result ≤ℤ area.bottom = omega (arith, ints, clamps) in
    record {
      bits = search rules;
      fits = fits_16 c.down_to-end.result (omega (arith, ints)) (omega (arith, ints));
      forward = more;
      within = most;
    }

pub overflow_cast-end : goal.overflow_cast-end
overflow_cast-end g c =
    let end = ended g c in
    rw (to_z-of_z w32 _ end.bits) end.fits

pub paint_row-requires-clause-down : goal.paint_row-requires-clause-down
paint_row-requires-clause-down g c =
    let t : SFits w16 c.args.area.top = search rules in
    let end = ended g (goal.at.paint_row-requires-clause-down g c).After-down_to-end in
    rw (to_z-of_z w16 _ t, to_z-of_z w32 _ end.bits, to_z-of_z w16 _ end.fits) end.forward

pub returns-clause-forward : goal.returns-clause-forward
returns-clause-forward g c =
    let end = ended g (goal.at.returns-clause-forward g c).After-down_to-end in
    rw (to_z-of_z w32 _ end.bits, to_z-of_z w16 _ end.fits) end.forward

pub returns-clause-within : goal.returns-clause-within
returns-clause-within g c =
    let end = ended g (goal.at.returns-clause-within g c).After-down_to-end in
    rw (to_z-of_z w32 _ end.bits, to_z-of_z w16 _ end.fits) end.within

pub returns-clause-painted : goal.returns-clause-painted
returns-clause-painted g c =
    let area = c.args.area in
    let way = c.args.way in
    let before = (goal.at.returns-clause-painted g c).After-down_to-end in
    let end = ended g before in
    let stop_is = end_is g before in
    let away = first_fits g before in
    let t : SFits w16 area.top = search rules in
    let tb : SFits w32 c.from.result = search rules in
    let top : c.from.result ≡ area.top = simp to_z-of_z at c.from.ensures in
    let d : SFits w32 way.down = search rules in
    let left : SFits w16 area.left = search rules in
    let right : SFits w16 area.right = search rules in
    let across : SFits w32 way.right = search rules in
    let raster = c.args.raster.now in
    let row = c.row.result in
    let stop = c.down_to-end.result in
    let at : ℤ → ℤ → Bool = λ x z. may_draw c.args.reach.now x z && g.L.Lay.at c.args.ink.now x z in
    let pixels = simp (to_z-of_z w32 _ tb, to_z-of_z w32 _ d, to_z-of_z w32 _ away)
    at c.row.ensures.pixels in
    let same = simp (to_z-of_z w32 _ tb, to_z-of_z w32 _ d, to_z-of_z w32 _ away)
    at c.alike.ensures.same in
    let done = rw (
      to_z-of_z w16 _ left,
      to_z-of_z w16 _ right,
      to_z-of_z w16 _ t,
      to_z-of_z w32 _ end.bits,
      to_z-of_z w16 _ end.fits,
      to_z-of_z w32 _ across,
    ) at c.paint_row.ensures in
    rw (to_z-of_z w32 _ end.bits, to_z-of_z w16 _ end.fits)
    (same_painted (g.L.Lay.rule c.args.ink.now)
    (λ x z. (between area.left x area.right && between area.top z stop)
    && (row_has row (x -ℤ way.right) && at x z))
    (λ x z. (between area.left x area.right && between area.top z stop)
    && (shape_has raster way x z && at x z)) c.args.spans.now c.paint_row.new.spans
    (λ x z. in_band (between area.left x area.right) (between area.top z stop)
    (row_has row (x -ℤ way.right)) (shape_has raster way x z) (at x z) (λ is.
    let low = not_below area.top z stop is in
    let high = not_above area.top z stop is in
    pixels (x -ℤ way.right)
    ∙ sym (same (x -ℤ way.right) (z -ℤ way.down) (omega (arith, ints))
    (omega (arith, ints, clamps))))) done)

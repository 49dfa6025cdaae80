use Rattle.std.proofs.Common.{◌≡◌, pos, ◌+ℤ◌, ◌≤ℤ◌, SFits, w16, w32}
use Rattle.std.proofs.Common.{rules, arith}
use Rattle.std.specs.Int.{int_min}
use Rattle.std.proofs.lemmas.Int.{to_z-of_z, ints, clamps}
use Rattle.be_facts.proofs.Numbers.{fits_16}
use Rattle.be_descent.proofs.FitLemmas.{IsRowFrom, fits_32}
use Rattle.be_descent.proofs.line.paint_part.Given.{Over}
use Rattle.be_descent.proofs.line.paint_part.Goals as goal
use Rattle.be_descent.proofs.line.paint_part.Goals.{After-min-end}

ended : (g : Over) (c : After-min-end g)
    → IsRowFrom c.args.area.top c.args.area.bottom c.min-end.result
ended g c =
    let area = c.args.area in
    let t : SFits w16 area.top = search rules in
    let b : SFits w16 area.bottom = search rules in
    let tb : SFits w32 c.from.result = search rules in
    let bb : SFits w32 c.from-2.result = search rules in
    let bottom : c.from.result ≡ area.bottom = simp to_z-of_z at c.from.ensures in
    let top : c.from-2.result ≡ area.top = simp to_z-of_z at c.from-2.ensures in
    let order = c.requires.down in
    let s : SFits w32 (c.from-2.result +ℤ pos 63) = fits_32 (c.from-2.result +ℤ pos 63)
    (omega (arith, ints)) (omega (arith, ints)) in
    let e : SFits w32 c.min-end.result = search rules in
    let end : c.min-end.result ≡ int_min c.from.result (c.from-2.result +ℤ pos 63) =
    simp to_z-of_z at c.min-end.ensures.value in
    let more : area.top ≤ℤ c.min-end.result = omega (arith, ints, clamps) in
    let most : c.min-end.result ≤ℤ area.bottom = omega (arith, ints, clamps) in
    record {
      bits = e;
      fits = fits_16 c.min-end.result (omega (arith, ints)) (omega (arith, ints));
      forward = more;
      within = most;
    }

pub overflow_cast-end : goal.overflow_cast-end
overflow_cast-end g c =
    let end = ended g c in
    rw (to_z-of_z w32 _ end.bits) end.fits

pub paint_cut-requires-clause-down : goal.paint_cut-requires-clause-down
paint_cut-requires-clause-down g c =
    let t : SFits w16 c.args.area.top = search rules in
    let end = ended g (goal.at.paint_cut-requires-clause-down g c).After-min-end in
    rw (to_z-of_z w16 _ t, to_z-of_z w32 _ end.bits, to_z-of_z w16 _ end.fits) end.forward

pub paint_cut-requires-clause-top : goal.paint_cut-requires-clause-top
paint_cut-requires-clause-top g c =
    let area = c.args.area in
    let t : SFits w16 area.top = search rules in
    let order = c.requires.down in
    rw (to_z-of_z w16 _ t) (c.requires.rows area.top (omega (arith, ints)) order)

pub paint_cut-requires-clause-bottom : goal.paint_cut-requires-clause-bottom
paint_cut-requires-clause-bottom g c =
    let end = ended g (goal.at.paint_cut-requires-clause-bottom g c).After-min-end in
    rw (to_z-of_z w32 _ end.bits, to_z-of_z w16 _ end.fits)
    (c.requires.rows c.min-end.result end.forward end.within)

pub returns-clause-forward : goal.returns-clause-forward
returns-clause-forward g c =
    let end = ended g (goal.at.returns-clause-forward g c).After-min-end in
    rw (to_z-of_z w32 _ end.bits, to_z-of_z w16 _ end.fits) end.forward

pub returns-clause-within : goal.returns-clause-within
returns-clause-within g c =
    let end = ended g (goal.at.returns-clause-within g c).After-min-end in
    rw (to_z-of_z w32 _ end.bits, to_z-of_z w16 _ end.fits) end.within

pub returns-clause-painted : goal.returns-clause-painted
returns-clause-painted g c =
    let area = c.args.area in
    let t : SFits w16 area.top = search rules in
    let left : SFits w16 area.left = search rules in
    let right : SFits w16 area.right = search rules in
    let end = ended g (goal.at.returns-clause-painted g c).After-min-end in
    let done = rw (
      to_z-of_z w16 _ left,
      to_z-of_z w16 _ right,
      to_z-of_z w16 _ t,
      to_z-of_z w32 _ end.bits,
      to_z-of_z w16 _ end.fits,
    ) at c.paint_cut.ensures in
    rw (to_z-of_z w32 _ end.bits, to_z-of_z w16 _ end.fits) done

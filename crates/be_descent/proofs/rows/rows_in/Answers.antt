use Rattle.std.proofs.Common.{◌≡◌, ◌+ℤ◌, ◌≤ℤ◌, ◌<ℤ◌, SFits, w16, w32, rules, arith}
use Rattle.std.specs.Int.{int_max, int_min}
use Rattle.std.proofs.lemmas.Int.{to_z-of_z, ints, clamps}
use Rattle.be_facts.proofs.Numbers.{fits_16}
use Rattle.be_descent.proofs.FitLemmas.{fits_32}
use Rattle.be_descent.proofs.RowLemmas.{no_rows, rows_are}
use Rattle.be_descent.proofs.rows.rows_in.Goals as goal
use Rattle.be_descent.proofs.rows.rows_in.Goals.{After-min-bottom}

top_is : (c : After-min-bottom)
    → c.max-top.result ≡ int_max c.args.area.top (c.in_ok-first.first +ℤ c.args.way.down)
top_is c =
    let first = c.in_ok-first.first in
    let range = c.in_ok-first.ensures.range in
    let low = range.0 in
    let order = range.1 in
    let high = range.2 in
    let near = c.requires.near.1 in
    let t : SFits w16 c.args.area.top = search rules in
    let tb : SFits w32 c.from.result = search rules in
    let is : c.from.result ≡ c.args.area.top = simp to_z-of_z at c.from.ensures in
    let f : SFits w32 first = search rules in
    let d : SFits w32 c.args.way.down = search rules in
    let fd : SFits w32 (first +ℤ c.args.way.down) = fits_32 (first +ℤ c.args.way.down)
    (omega (arith, ints)) (omega (arith, ints)) in
    let m : SFits w32 c.max-top.result = search rules in
    rw is at (simp to_z-of_z at c.max-top.ensures.value)

bottom_is : (c : After-min-bottom)
    → c.min-bottom.result ≡ int_min c.args.area.bottom (c.in_ok-first.last +ℤ c.args.way.down)
bottom_is c =
    let last = c.in_ok-first.last in
    let range = c.in_ok-first.ensures.range in
    let low = range.0 in
    let order = range.1 in
    let high = range.2 in
    let near = c.requires.near.1 in
    let b : SFits w16 c.args.area.bottom = search rules in
    let bb : SFits w32 c.from-2.result = search rules in
    let is : c.from-2.result ≡ c.args.area.bottom = simp to_z-of_z at c.from-2.ensures in
    let l : SFits w32 last = search rules in
    let d : SFits w32 c.args.way.down = search rules in
    let ld : SFits w32 (last +ℤ c.args.way.down) = fits_32 (last +ℤ c.args.way.down)
    (omega (arith, ints)) (omega (arith, ints)) in
    let n : SFits w32 c.min-bottom.result = search rules in
    rw is at (simp to_z-of_z at c.min-bottom.ensures.value)

-- where they are in order, both are rows of the area
top_fits : (c : After-min-bottom) → c.max-top.result ≤ℤ c.min-bottom.result
    → SFits w16 c.max-top.result
top_fits c down =
    let t : SFits w16 c.args.area.top = search rules in
    let b : SFits w16 c.args.area.bottom = search rules in
    let top = top_is c in
    let bottom = bottom_is c in
    fits_16 c.max-top.result (omega (arith, ints, clamps)) (omega (arith, ints, clamps))

bottom_fits : (c : After-min-bottom) → c.max-top.result ≤ℤ c.min-bottom.result
    → SFits w16 c.min-bottom.result
bottom_fits c down =
    let t : SFits w16 c.args.area.top = search rules in
    let b : SFits w16 c.args.area.bottom = search rules in
    let top = top_is c in
    let bottom = bottom_is c in
    fits_16 c.min-bottom.result (omega (arith, ints, clamps)) (omega (arith, ints, clamps))

pub returns-then-bottom-top-clause-none : goal.returns-then-bottom-top-clause-none
returns-then-bottom-top-clause-none c =
    let before = (goal.at.returns-then-bottom-top-clause-none c).After-min-bottom in
    let m : SFits w32 c.max-top.result = search rules in
    let n : SFits w32 c.min-bottom.result = search rules in
    let test = simp to_z-of_z at c.if-bottom-top.true in
    let up : c.min-bottom.result <ℤ c.max-top.result = omega (arith, ints) in
    no_rows c.args.raster.now c.args.way c.args.area c.in_ok-first.first c.in_ok-first.last
    c.max-top.result c.min-bottom.result c.in_ok-first.ensures.rows (top_is before)
    (bottom_is before) up

pub overflow_cast-result : goal.overflow_cast-result
overflow_cast-result c =
    let before = (goal.at.overflow_cast-result c).After-min-bottom in
    let m : SFits w32 c.max-top.result = search rules in
    let n : SFits w32 c.min-bottom.result = search rules in
    let test = simp to_z-of_z at c.if-bottom-top.false in
    rw (to_z-of_z w32 _ m) (top_fits before (omega (arith, ints)))

pub overflow_cast-result-2 : goal.overflow_cast-result-2
overflow_cast-result-2 c =
    let before = (goal.at.overflow_cast-result-2 c).After-min-bottom in
    let m : SFits w32 c.max-top.result = search rules in
    let n : SFits w32 c.min-bottom.result = search rules in
    let test = simp to_z-of_z at c.if-bottom-top.false in
    rw (to_z-of_z w32 _ n) (bottom_fits before (omega (arith, ints)))

pub returns-clause-some : goal.returns-clause-some
returns-clause-some c =
    let area = c.args.area in
    let before = (goal.at.returns-clause-some c).After-min-bottom in
    let m : SFits w32 c.max-top.result = search rules in
    let n : SFits w32 c.min-bottom.result = search rules in
    let test = simp to_z-of_z at c.if-bottom-top.false in
    let down : c.max-top.result ≤ℤ c.min-bottom.result = omega (arith, ints) in
    let left : SFits w16 area.left = search rules in
    let right : SFits w16 area.right = search rules in
    rw (
      to_z-of_z w32 _ m,
      to_z-of_z w32 _ n,
      to_z-of_z w16 _ (top_fits before down),
      to_z-of_z w16 _ (bottom_fits before down),
      to_z-of_z w16 _ left,
      to_z-of_z w16 _ right,
    ) (rows_are c.args.raster.now c.args.way area c.in_ok-first.first c.in_ok-first.last
    c.max-top.result c.min-bottom.result c.in_ok-first.ensures.rows (top_is before)
    (bottom_is before) down)

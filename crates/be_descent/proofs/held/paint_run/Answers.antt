use Rattle.std.proofs.Common.{◌≡◌, ◌+◌, ◌<◌, ◌^◌, ℤ, pos, ◌+ℤ◌, ◌-ℤ◌, ◌≤ℤ◌, ◌&&◌}
use Rattle.std.proofs.Common.{length, SFits, w16, w32, refl}
use Rattle.std.proofs.Common.{arith, rules}
use Rattle.std.proofs.lemmas.Bool.Decides.{nat_tests}
use Rattle.std.proofs.lemmas.Int.{ints, to_z-of_z, to_z_pos}
use Rattle.be_geom.specs.Points.{between}
use Rattle.be_span.specs.Painting.{AreInRange}
use Rattle.be_descent.proofs.CellLemmas.{first_from, last_to, none_of, run_changed}
use Rattle.be_descent.proofs.held.paint_run.Given.{Over}
use Rattle.be_descent.proofs.held.paint_run.Goals as goal
use Rattle.be_descent.proofs.held.paint_run.Goals.{After-far_from-count, After-from-last}

-- the last of the cells' columns
abbrev end_of : (g : Over) (c : After-from-last g) → ℤ
end_of g c = c.args.x +ℤ (pos (length c.args.cells.now) -ℤ pos 1)

-- the columns that the cells and the run have in common
common_is : (g : Over) (c : After-from-last g) (z : ℤ)
    → between c.in-Some.first z c.in-Some.last
    ≡ (between c.args.x z (end_of g c)
    && between c.args.run.first (z -ℤ c.args.by) c.args.run.last)
common_is g c =
    let n = length c.args.cells.now in
    let left = c.requires.range.left in
    let right = c.requires.range.right in
    let some : 0 < n = grind (arith, nat_tests) in
    let few : n < 2 ^ 31 = omega (arith, ints) in
    let x16 : SFits w16 c.args.x = search rules in
    let m32 : SFits w32 (pos n -ℤ pos 1) = search rules in
    let e32 : SFits w32 (c.args.x +ℤ (pos n -ℤ pos 1)) = search rules in
    let e16 : SFits w16 (c.args.x +ℤ (pos n -ℤ pos 1)) = search rules in
    let f32 : SFits w32 c.args.run.first = search rules in
    let l32 : SFits w32 c.args.run.last = search rules in
    rw (
      to_z-of_z w32 _ c.ranges.x,
      to_z-of_z w16 _ x16,
      to_z_pos w32 n few,
      to_z-of_z w32 _ m32,
      to_z-of_z w32 _ e32,
      to_z-of_z w16 _ e16,
      to_z-of_z w32 _ c.ranges.by,
      to_z-of_z w32 _ f32,
      to_z-of_z w32 _ l32,
    ) at c.in-Some.ensures.both

first_is : (g : Over) (c : After-from-last g) → c.from-first.result ≡ c.in-Some.first
first_is g c =
    let fits : SFits w16 c.in-Some.first = search rules in
    simp to_z-of_z at c.from-first.ensures

last_is : (g : Over) (c : After-from-last g) → c.from-last.result ≡ c.in-Some.last
last_is g c =
    let fits : SFits w16 c.in-Some.last = search rules in
    simp to_z-of_z at c.from-last.ensures

-- they begin at one of the cells
begins : (g : Over) (c : After-from-last g) → c.args.x ≤ℤ c.in-Some.first
begins g c =
    first_from c.in-Some.first c.in-Some.last c.args.x (end_of g c) c.args.run c.args.by
    c.in-Some.ensures.order (common_is g c)

-- and end at one
ends : (g : Over) (c : After-from-last g) → c.in-Some.last ≤ℤ end_of g c
ends g c =
    last_to c.in-Some.first c.in-Some.last c.args.x (end_of g c) c.args.run c.args.by
    c.in-Some.ensures.order (common_is g c)

start_is : (g : Over) (c : After-far_from-count g) → c.from-first.result ≡ c.in-Some.first
    → pos c.far_from-start.result ≡ c.in-Some.first -ℤ c.args.x
start_is g c first =
    let f32 : SFits w32 c.from-first.result = search rules in
    rw first at (simp (to_z-of_z, c.ranges.x, f32) at c.far_from-start.ensures)

count_is : (g : Over) (c : After-far_from-count g) → c.from-first.result ≡ c.in-Some.first
    → c.from-last.result ≡ c.in-Some.last
    → pos c.far_from-count.result ≡ c.in-Some.last -ℤ c.in-Some.first
count_is g c first last =
    let f32 : SFits w32 c.from-first.result = search rules in
    let l32 : SFits w32 c.from-last.result = search rules in
    rw (first, last) at (simp (to_z-of_z, l32, f32) at c.far_from-count.ensures)

pub returns-in_default-clause-cells : goal.returns-in_default-clause-cells
returns-in_default-clause-cells g c k =
    let n = length c.args.cells.now in
    let left = c.requires.range.left in
    let right = c.requires.range.right in
    let some : 0 < n = grind (arith, nat_tests) in
    let few : n < 2 ^ 31 = omega (arith, ints) in
    let x16 : SFits w16 c.args.x = search rules in
    let m32 : SFits w32 (pos n -ℤ pos 1) = search rules in
    let e32 : SFits w32 (c.args.x +ℤ (pos n -ℤ pos 1)) = search rules in
    let e16 : SFits w16 (c.args.x +ℤ (pos n -ℤ pos 1)) = search rules in
    let f32 : SFits w32 c.args.run.first = search rules in
    let l32 : SFits w32 c.args.run.last = search rules in
    let none = rw (
      to_z-of_z w32 _ c.ranges.x,
      to_z-of_z w16 _ x16,
      to_z_pos w32 n few,
      to_z-of_z w32 _ m32,
      to_z-of_z w32 _ e32,
      to_z-of_z w16 _ e16,
      to_z-of_z w32 _ c.ranges.by,
      to_z-of_z w32 _ f32,
      to_z-of_z w32 _ l32,
    ) at c.in_default.ensures.none in
    none_of (g.P.Paint.rule c.args.paint.now) (g.P.Paint.at c.args.paint.now) c.args.run
    c.args.cells.now c.args.x (c.args.x +ℤ (pos n -ℤ pos 1)) c.args.y c.args.by k refl none

pub far_from-start-requires : goal.far_from-start-requires
far_from-start-requires g c =
    let f32 : SFits w32 c.from-first.result = search rules in
    let first = first_is g c in
    let from = begins g c in
    simp (to_z-of_z, c.ranges.x, f32) (omega (arith, ints))

pub paint_part-requires-clause-fits : goal.paint_part-requires-clause-fits
paint_part-requires-clause-fits g c =
    let after = (goal.at.paint_part-requires-clause-fits g c).After-far_from-count in
    let before = (goal.at.paint_part-requires-clause-fits g c).After-from-last in
    let from = begins g before in
    let to = ends g before in
    let order = c.in-Some.ensures.order in
    let start = start_is g after (first_is g before) in
    let count = count_is g after (first_is g before) (last_is g before) in
    omega (arith, ints)

pub paint_part-requires-clause-range : goal.paint_part-requires-clause-range
paint_part-requires-clause-range g c =
    let before = (goal.at.paint_part-requires-clause-range g c).After-from-last in
    let from = begins g before in
    let to = ends g before in
    let first = first_is g before in
    let count = count_is g (goal.at.paint_part-requires-clause-range g c).After-far_from-count first
    (last_is g before) in
    let order = c.in-Some.ensures.order in
    let range = c.requires.range in
    let left = range.left in
    let right = range.right in
    let f32 : SFits w32 c.from-first.result = search rules in
    let here : AreInRange c.from-first.result c.args.y (c.far_from-count.result + 1) = record {
      left = omega (arith, ints);
      right = omega (arith, ints);
      top = range.top;
      bottom = range.bottom;
    } in
    simp (to_z-of_z, f32, c.ranges.y) here

pub returns-clause-cells : goal.returns-clause-cells
returns-clause-cells g c k =
    let before = (goal.at.returns-clause-cells g c).After-from-last in
    let after = (goal.at.returns-clause-cells g c).After-far_from-count in
    let f32 : SFits w32 c.from-first.result = search rules in
    let first = first_is g before in
    let start = start_is g after first in
    let count = count_is g after first (last_is g before) in
    let inside = rw first at (simp (to_z-of_z, f32, c.ranges.y) at c.paint_part.ensures.part.inside) in
    run_changed (g.P.Paint.rule c.args.paint.now) (g.P.Paint.at c.args.paint.now) c.args.run
    c.args.cells.now c.paint_part.new.cells c.in-Some.first c.in-Some.last c.args.x
    (end_of g before) c.args.y c.args.by c.far_from-start.result (c.far_from-count.result + 1) k
    refl c.in-Some.ensures.order start (omega (arith, ints)) (common_is g before) inside
    c.paint_part.ensures.part.others

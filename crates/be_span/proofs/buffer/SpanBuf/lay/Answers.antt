-- Regions that don't meet.
use Rattle.std.proofs.Common.{◌-ℤ◌, ap, sym, ◌∙◌, refl, arith}
use Rattle.std.proofs.lemmas.Bool.{true≢false}
use Rattle.std.proofs.lemmas.Int.{ints, to_z-of_z}
use Rattle.be_region.specs.Regions.{region_has}
use Rattle.be_span.proofs.LaidLemmas.{far_stays, too_far}
use Rattle.be_span.proofs.buffer.SpanBuf.lay.Goals as goal

pub returns-in_default-clause-cells : goal.returns-in_default-clause-cells
returns-in_default-clause-cells c x y =
    far_stays c.args.from.now c.args.self.now x y (x -ℤ c.args.dx) (y -ℤ c.args.dy)
    (λ e f. true≢false (sym e ∙ ap (λ l. region_has l (x -ℤ c.args.dx) (y -ℤ c.args.dy)) (sym c.region.ensures.region) ∙ c.in_default.ensures.none.0 refl (x -ℤ c.args.dx) (y -ℤ c.args.dy)))

pub returns-in_default-frame-clause-cells : goal.returns-in_default-frame-clause-cells
returns-in_default-frame-clause-cells c x y =
    far_stays c.args.from.now c.args.self.now x y (x -ℤ c.args.dx) (y -ℤ c.args.dy)
    (λ e f. true≢false (sym f ∙ ap (λ l. region_has l x y) (sym c.region-2.ensures.region) ∙ c.in_default-frame.ensures.none.0 refl x y))

pub returns-then-is_far-clause-cells : goal.returns-then-is_far-clause-cells
returns-then-is_far-clause-cells c x y =
    let fx = c.ranges.dx in
    let fy = c.ranges.dy in
    let far = simp to_z-of_z at (c.is_far.ensures.far c.if-is_far.true) in
    far_stays c.args.from.now c.args.self.now x y (x -ℤ c.args.dx) (y -ℤ c.args.dy)
    (λ e f. too_far c.in-Some.old c.in-Some-frame.new c.least_way.result.x c.most_way.result.x c.args.dx c.args.dy x y c.least_way.result.y c.most_way.result.y c.least_way.ensures.across c.least_way.ensures.down c.most_way.ensures.across c.most_way.ensures.down far
    (c.in-Some.ensures.some.holds (x -ℤ c.args.dx) (y -ℤ c.args.dy) (ap (λ l. region_has l (x -ℤ c.args.dx) (y -ℤ c.args.dy)) c.region.ensures.region ∙ e))
    (c.in-Some-frame.ensures.some.holds x y (ap (λ l. region_has l x y) c.region-2.ensures.region ∙ f)))

pub lay_near-requires-clause-across : goal.lay_near-requires-clause-across
lay_near-requires-clause-across c =
    let least = c.least_way.ensures.near_across in
    let most = c.most_way.ensures.near_across in
    let a = c.is_far.ensures.left c.if-is_far.false in
    let b = c.is_far.ensures.right c.if-is_far.false in
    (omega (arith, ints), omega (arith, ints))

pub lay_near-requires-clause-down : goal.lay_near-requires-clause-down
lay_near-requires-clause-down c =
    let least = c.least_way.ensures.near_down in
    let most = c.most_way.ensures.near_down in
    let a = c.is_far.ensures.up c.if-is_far.false in
    let b = c.is_far.ensures.down c.if-is_far.false in
    (omega (arith, ints), omega (arith, ints))

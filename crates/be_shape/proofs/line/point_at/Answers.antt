use Rattle.std.proofs.Common.{◌≡◌, ◌≤◌, ◌-ℤ◌, unsigned_abs, ◌∙◌, w16, w32, to_z, arith}
use Rattle.be_shape.specs.Rasters.{share}
use Rattle.std.proofs.lemmas.Int.{ints, to_z-of_z}
use Rattle.be_shape.proofs.WayLemmas.{fits_up, fits_down, point_up, point_down}
use Rattle.be_shape.proofs.line.point_at.Goals as goal
use Rattle.be_shape.proofs.line.point_at.Goals.{then-from-to, else-from-to}

pub overflow_cast-result : goal.overflow_cast-result
overflow_cast-result c =
    let f = c.ranges.from in
    let g = c.ranges.to in
    let diff = simp to_z-of_z at c.abs_diff.ensures in
    let near : c.share-far.result ≤ unsigned_abs (c.args.to -ℤ c.args.from) = omega arith in
    elim c.if-from-to.branch [
      | then-from-to w ↦ fits_up c.args.from c.args.to _ c.share-far.result f g (omega (arith, ints)) near (omega (arith, ints))
      | else-from-to w ↦ fits_down c.args.from c.args.to _ c.share-far.result f g (omega (arith, ints)) near (omega (arith, ints))
    ]

pub returns : goal.returns
returns c =
    let f = c.ranges.from in
    let g = c.ranges.to in
    let diff = simp to_z-of_z at c.abs_diff.ensures in
    let far : c.share-far.result ≡ share c.args.i c.args.steps (unsigned_abs (c.args.to -ℤ c.args.from)) = cc in
    to_z-of_z w16 (to_z w32 c.if-from-to.at-bits) (overflow_cast-result c)
    ∙ elim c.if-from-to.branch [
      | then-from-to w ↦ point_up c.args.i c.args.steps c.args.from c.args.to (to_z w32 c.if-from-to.at-bits) c.share-far.result (omega (arith, ints)) c.requires.of_steps c.requires.near far (omega (arith, ints))
      | else-from-to w ↦ point_down c.args.i c.args.steps c.args.from c.args.to (to_z w32 c.if-from-to.at-bits) c.share-far.result (omega (arith, ints)) far (omega (arith, ints))
    ]

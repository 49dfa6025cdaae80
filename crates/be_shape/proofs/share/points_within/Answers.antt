use Rattle.std.proofs.Common.{arith, SFits, w64}
use Rattle.std.proofs.lemmas.Int.{ints, to_z-of_z}
use Rattle.be_shape.proofs.PointLemmas.{points_from_to, none_before, none_behind}
use Rattle.be_shape.proofs.share.points_within.Goals as goal
use Rattle.be_shape.proofs.share.points_within.Goals.{then-farthest-lt0-via-then-farthest-lt0, then-farthest-lt0-via-else-farthest-lt0+then-distance-nearest}

pub returns-then-farthest-lt0 : goal.returns-then-farthest-lt0
returns-then-farthest-lt0 c =
    elim c.then-farthest-lt0.branch [
      | then-farthest-lt0-via-then-farthest-lt0 w ↦ none_before _ _ _ _ (grind (arith, ints))
      | then-farthest-lt0-via-else-farthest-lt0+then-distance-nearest w ↦ none_behind _ _ _ _ c.requires.near (grind (arith, ints))
    ]

pub returns : goal.returns
returns c =
    let near : SFits w64 c.args.nearest = c.ranges.nearest in
    let far : SFits w64 c.args.farthest = c.ranges.farthest in
    points_from_to _ _ _ _ _ _ c.requires.near c.requires.in_order (grind (arith, ints)) (grind (arith, ints)) (simp to_z-of_z at c.first_from-first.ensures.first) (simp to_z-of_z at c.last_to-last.ensures.last) c.first_from-first.ensures.of_steps c.last_to-last.ensures.of_steps

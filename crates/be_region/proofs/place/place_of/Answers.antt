use Rattle.std.proofs.Common.{rules}
use Rattle.std.proofs.lemmas.List.Sorted.{IsPartitionPoint-from_clause}
use Rattle.be_region.specs.Places.{is_passed}
use Rattle.be_region.proofs.PlaceLemmas.{partitioned}
use Rattle.be_region.proofs.place.place_of.Goals as goal

pub returns-clause-passed : goal.returns-clause-passed
returns-clause-passed c =
    let x = c.ranges.x in
    let y = c.ranges.y in
    (IsPartitionPoint-from_clause (λ r. is_passed r c.args.x c.args.y) c.args.rects.now c.partition_point.result c.partition_point.ensures.partitioned (partitioned c.args.rects.now c.args.x c.args.y c.requires) (λ a r f called. search rules)).0

pub returns-clause-ahead : goal.returns-clause-ahead
returns-clause-ahead c =
    let x = c.ranges.x in
    let y = c.ranges.y in
    (IsPartitionPoint-from_clause (λ r. is_passed r c.args.x c.args.y) c.args.rects.now c.partition_point.result c.partition_point.ensures.partitioned (partitioned c.args.rects.now c.args.x c.args.y c.requires) (λ a r f called. search rules)).1

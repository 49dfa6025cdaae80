use Rattle.std.proofs.Common.{rules}
use Rattle.std.specs.Prelude.{int_lt}
use Rattle.std.proofs.lemmas.List.Sorted.{IsPartitionPoint-from_clause}
use Rattle.be_region.proofs.PartLemmas.{ends_partitioned}
use Rattle.be_region.proofs.parts.ending_above.Goals as goal

pub returns-clause-above : goal.returns-clause-above
returns-clause-above c =
    let y = c.ranges.y in
    (IsPartitionPoint-from_clause (λ r. int_lt r.bottom c.args.y) c.args.rects.now c.partition_point.result c.partition_point.ensures.partitioned (ends_partitioned c.args.rects.now c.args.y c.requires.none_empty c.requires.in_order) (λ a r f called. search rules)).0

pub returns-clause-rest : goal.returns-clause-rest
returns-clause-rest c =
    let y = c.ranges.y in
    (IsPartitionPoint-from_clause (λ r. int_lt r.bottom c.args.y) c.args.rects.now c.partition_point.result c.partition_point.ensures.partitioned (ends_partitioned c.args.rects.now c.args.y c.requires.none_empty c.requires.in_order) (λ a r f called. search rules)).1

use Rattle.std.proofs.Common.{rules}
use Rattle.std.specs.Prelude.{int_le}
use Rattle.std.proofs.lemmas.List.Sorted.{IsPartitionPoint-from_clause}
use Rattle.be_region.proofs.PartLemmas.{begins_partitioned}
use Rattle.be_region.proofs.parts.beginning_until.Goals as goal

pub returns-clause-until : goal.returns-clause-until
returns-clause-until c =
    let y = c.ranges.y in
    (IsPartitionPoint-from_clause (λ r. int_le r.top c.args.y) c.args.rects.now c.partition_point.result c.partition_point.ensures.partitioned (begins_partitioned c.args.rects.now c.args.y c.requires.full c.requires.order) (λ a r f called. search rules)).0

pub returns-clause-below : goal.returns-clause-below
returns-clause-below c =
    let y = c.ranges.y in
    (IsPartitionPoint-from_clause (λ r. int_le r.top c.args.y) c.args.rects.now c.partition_point.result c.partition_point.ensures.partitioned (begins_partitioned c.args.rects.now c.args.y c.requires.full c.requires.order) (λ a r f called. search rules)).1

use Rattle.std.proofs.Common.{get_or, ap, arith}
use Rattle.be_said.specs.Everywhere.{with_bitmap}
use Rattle.be_said.proofs.EverywhereLemmas.{all_had, not_yet, one_more}
use Rattle.be_said.proofs.said.everywhere.add_bitmap.Goals as goal

pub add_bitmap-requires : goal.add_bitmap-requires
add_bitmap-requires c =
    c.requires c.loop-inside.inside-index (get_or c.loop-inside.insides c.loop-inside.inside-index c.inside-item.result)
    (not_yet (with_bitmap c.args.name.now) _ _ _ c.inside-item.result c.loop-inside-test.true c.loop-inside.invariant)

pub loop-inside-preserved : goal.loop-inside-preserved
loop-inside-preserved c =
    one_more (with_bitmap c.args.name.now) _ _ _ c.inside-item.result _ c.loop-inside-test.true c.loop-inside.invariant
    (ap (λ names. record (get_or c.loop-inside.insides c.loop-inside.inside-index c.inside-item.result) { names = names }) c.in_ok-add_bitmap.ensures)

pub returns : goal.returns
returns c = all_had (with_bitmap c.args.name.now) _ _ _ (omega arith) c.loop-inside.invariant

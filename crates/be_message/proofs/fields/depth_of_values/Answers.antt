use Rattle.std.proofs.Common.{arith}
use Rattle.std.proofs.lemmas.Grind.{common_steps}
use Rattle.be_message.proofs.DepthLemmas.{values_more}
use Rattle.be_message.proofs.fields.depth_of_values.Goals as goal

pub loop-value-preserved : goal.loop-value-preserved
loop-value-preserved c =
    let more = values_more c.args.values.now c.loop-value.value-index c.value-item.result c.loop-value-test.true c.value-item.is in
    grind (arith, common_steps)

use Rattle.std.proofs.Common.{◌≡◌, ◌≤◌, take}
use Rattle.be_message.specs.Depths.{values_depth}
use Rattle.be_message.specs.Messages.{all_values}
use Rattle.be_message.specs.Views.{seen_values}
use Rattle.be_message.proofs.fields.depth_of_values.Given as goal

abbrev pub invariant-loop-value : goal.invariant-loop-value
invariant-loop-value l =
    record { depth : l.depth ≡ values_depth (all_values (seen_values (take l.value-index l.values))); most : l.depth ≤ 16 }

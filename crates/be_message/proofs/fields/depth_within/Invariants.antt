use Rattle.std.proofs.Common.{◌≡◌, ◌≤◌, take}
use Rattle.be_message.specs.Depths.{fields_depth}
use Rattle.be_message.specs.Messages.{all_fields}
use Rattle.be_message.specs.Views.{seen_fields}
use Rattle.be_message.proofs.fields.depth_within.Given as goal

abbrev pub invariant-loop-field : goal.invariant-loop-field
invariant-loop-field l =
    record { depth : l.depth ≡ fields_depth (all_fields (seen_fields (take l.field-index l.fields))); most : l.depth ≤ 16 }

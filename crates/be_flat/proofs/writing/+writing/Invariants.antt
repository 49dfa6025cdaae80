use Rattle.std.proofs.Common.{◌+◌, ◌*◌, drop}
use Rattle.be_message.specs.Depths.{datum_depth, values_depth, fields_depth, depth_of}
use Rattle.be_message.specs.Messages.{all_values, all_fields}
use Rattle.be_message.specs.Views.{seen_value, seen_values, seen_field, seen_fields}
use Rattle.be_flat.proofs.Spelling.{WritesFields, WritesValues}
use Rattle.be_flat.proofs.writing.+writing.Given as goal

-- a message is deeper than its fields; among one depth, fields come before a field, its values and a value

abbrev pub decreases-append_message : goal.decreases-append_message
decreases-append_message l = 5 * depth_of l.message.now

abbrev pub decreases-append_fields : goal.decreases-append_fields
decreases-append_fields l = 5 * fields_depth (all_fields (seen_fields l.fields.now)) + 4

abbrev pub decreases-append_field : goal.decreases-append_field
decreases-append_field l = 5 * values_depth (all_values (seen_field l.field.now).values) + 3

abbrev pub decreases-append_values : goal.decreases-append_values
decreases-append_values l = 5 * values_depth (all_values (seen_field l.field.now).values) + 2

abbrev pub decreases-append_value : goal.decreases-append_value
decreases-append_value l = 5 * datum_depth (seen_value l.value.now) + 1

abbrev pub invariant-append_fields-loop-field : goal.invariant-append_fields-loop-field
invariant-append_fields-loop-field l =
    WritesFields (seen_fields l.fields) (seen_fields (drop l.field-index l.fields)) l.fn.out.items l.out.items

abbrev pub invariant-append_values-loop-value : goal.invariant-append_values-loop-value
invariant-append_values-loop-value l =
    WritesValues l.field.kind (seen_values l.value-items) (seen_values (drop l.value-index l.value-items)) l.fn.out.items l.out.items

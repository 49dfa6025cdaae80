use Rattle.std.proofs.Common.{◌≡◌, ◌+◌, ◌*◌, ◌++◌, drop}
use Rattle.be_message.specs.Depths.{datum_depth, values_depth, fields_depth, depth_of}
use Rattle.be_message.specs.Messages.{all_values, all_fields}
use Rattle.be_message.specs.Views.{seen_value, seen_values, seen_field, seen_fields}
use Rattle.be_written.specs.MessageText.{fields_text, more_text}
use Rattle.be_written.proofs.message.+message.Given as goal

-- a message is deeper than its fields; among one depth, fields come before a field, its values, those
-- behind the first and a value

abbrev pub decreases-write_message : goal.decreases-write_message
decreases-write_message l = 6 * depth_of l.message.now

abbrev pub decreases-write_fields : goal.decreases-write_fields
decreases-write_fields l = 6 * fields_depth (all_fields (seen_fields l.fields.now)) + 5

abbrev pub decreases-write_field : goal.decreases-write_field
decreases-write_field l = 6 * values_depth (all_values (seen_field l.field.now).values) + 4

abbrev pub decreases-write_values : goal.decreases-write_values
decreases-write_values l = 6 * values_depth (all_values (seen_values l.values.now)) + 3

abbrev pub decreases-write_more : goal.decreases-write_more
decreases-write_more l = 6 * values_depth (all_values (seen_values l.values.now)) + 2

abbrev pub decreases-write_value : goal.decreases-write_value
decreases-write_value l = 6 * datum_depth (seen_value l.value.now) + 1

-- what is written and what is left to write are the whole

abbrev pub invariant-write_fields-loop-field : goal.invariant-write_fields-loop-field
invariant-write_fields-loop-field l =
    l.page ++ fields_text (all_fields (seen_fields (drop l.field-index l.fields))) ≡ l.fn.page ++ fields_text (all_fields (seen_fields l.fields))

abbrev pub invariant-write_more-loop-value : goal.invariant-write_more-loop-value
invariant-write_more-loop-value l =
    l.page ++ more_text (all_values (seen_values (drop l.value-index l.values))) ≡ l.fn.page ++ more_text (all_values (seen_values l.values))

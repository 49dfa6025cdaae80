use Rattle.std.proofs.Common.{◌≡◌, take}
use Rattle.be_message.specs.Views.{seen_values, seen_fields}
use Rattle.be_message.proofs.+copy.Given as goal

abbrev pub invariant-field::Field::copy-loop-value : goal.invariant-field::Field::copy-loop-value
invariant-field::Field::copy-loop-value l = seen_values l.values.items ≡ seen_values (take l.value-index l.value-items)

abbrev pub invariant-message::Message::copy-loop-field : goal.invariant-message::Message::copy-loop-field
invariant-message::Message::copy-loop-field l = seen_fields l.fields.items ≡ seen_fields (take l.field-index l.field-items)

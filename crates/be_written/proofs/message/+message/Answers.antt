use Rattle.std.proofs.Common.{◌≡◌, ap, ◌∙◌, arith}
use Rattle.be_flat.specs.Codes.{code_of}
use Rattle.be_message.specs.Messages.{packed}
use Rattle.be_message.specs.Views.{seen_value, seen_values, seen_field}
use Rattle.be_written.proofs.MessageLemmas.{value_inside, more_goes_on, all_more, field_inside, fields_go_on, all_fields_written, field_written, bracketed}
use Rattle.be_written.proofs.message.+message.Goals as goal

-- ---- the fields of a message

pub write_fields-write_field-requires : goal.write_fields-write_field-requires
write_fields-write_field-requires t c =
    (omega (arith, c.decreases, field_inside c.args.fields.now c.loop-field.field-index c.field-item.result c.loop-field-test.true c.field-item.is), tt)

pub write_fields-loop-field-preserved : goal.write_fields-loop-field-preserved
write_fields-loop-field-preserved t c =
    fields_go_on c.args.fields.now c.loop-field.field-index c.field-item.result c.loop-field.page c.write_field.new.page
    c.loop-field-test.true c.field-item.is c.in_ok-write_field.ensures
    ∙ c.loop-field.invariant

pub write_fields-returns : goal.write_fields-returns
write_fields-returns t c =
    all_fields_written c.args.fields.now c.loop-field.field-index c.loop-field.page _ c.loop-field.invariant c.loop-field-test.false

-- ---- a field

pub write_field-returns : goal.write_field-returns
write_field-returns t c =
    field_written c.write_values.result (seen_field c.args.field.now) c.as_bytes.result.now c.type_letters.result.now (seen_values c.values.result.now) c.args.page.now c.word.new.self c.text.new.self c.text-2.new.self c.text-3.new.self c.write_values.new.page
    (c.as_bytes.ensures.value ∙ c.name.ensures) (c.type_letters.ensures ∙ ap code_of c.kind.ensures) c.values.ensures
    c.in_ok-word.ensures c.in_ok-text.ensures c.in_ok-text-2.ensures c.in_ok-text-3.ensures c.write_values.ensures

-- ---- the values of a field

pub write_more-write_value-requires : goal.write_more-write_value-requires
write_more-write_value-requires t c =
    (omega (arith, c.decreases, value_inside c.args.values.now c.loop-value.value-index c.value-item.result c.loop-value-test.true c.value-item.is), tt)

pub write_more-loop-value-preserved : goal.write_more-loop-value-preserved
write_more-loop-value-preserved t c =
    more_goes_on c.args.values.now c.loop-value.value-index c.value-item.result c.loop-value.page c.text.new.self c.write_value.new.page
    c.loop-value-test.true c.value-item.is c.in_ok-text.ensures c.in_ok-write_value.ensures
    ∙ c.loop-value.invariant

pub write_more-returns : goal.write_more-returns
write_more-returns t c =
    all_more c.args.values.now c.loop-value.value-index c.loop-value.page _ c.loop-value.invariant c.loop-value-test.false

-- ---- a value

pub write_value-returns-in_ok-write_message-in-Message : goal.write_value-returns-in_ok-write_message-in-Message
write_value-returns-in_ok-write_message-in-Message t c =
    let is : seen_value c.args.value.now ≡ packed c.deref.result.now = cc in
    bracketed c.text-in-Message-2.result c.args.value.now c.deref.result.now c.args.page.now c.text-in-Message.new.self c.write_message.new.page c.text-in-Message-2.new.self
    is c.in_ok-text-in-Message.ensures c.in_ok-write_message-in-Message.ensures c.text-in-Message-2.ensures

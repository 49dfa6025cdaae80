use Rattle.std.proofs.Common.{◌≡◌, ap, subst, length, List, arith}
use Rattle.std.proofs.lemmas.List.{length-map}
use Rattle.std.proofs.lemmas.Result.{on_ok_weaker}
use Rattle.be_message.specs.Depths.{values_depth}
use Rattle.be_message.specs.Messages as messages
use Rattle.be_message.specs.Messages.{all_values}
use Rattle.be_message.specs.Views.{seen_value, seen_field}
use Rattle.be_message.proofs.SoundLemmas.{count_is, values_are}
use Rattle.be_flat.specs.Codes.{code_of}
use Rattle.be_flat.specs.Grammar.{SpellsValues}
use Rattle.be_flat.specs.Writing.{Appends}
use Rattle.be_flat.proofs.Spelling.{value_left, next_value, every_value, field_left, alone, next_field, every_field, whole_field, whole_message}
use Rattle.be_flat.proofs.writing.+writing.Goals as goal

-- ---- a message

pub append_message-overflow_cast-field_count : goal.append_message-overflow_cast-field_count
append_message-overflow_cast-field_count t c =
    let m = c.args.message.now in
    omega (arith, c.what.ensures.limits.sound.1, count_is m.fields, c.field_count.ensures)

pub append_message-returns : goal.append_message-returns
append_message-returns t c =
    on_ok_weaker c.append_fields.result
    (whole_message c.args.message.now c.args.out.now.items _ _ _ _ _ _ c.what.ensures.limits c.what.ensures.what c.field_count.ensures c.fields.ensures c.in_ok-append_what.ensures c.in_ok-push.ensures.items)
    c.append_fields.ensures

-- ---- the fields of a message

pub append_fields-append_field-requires : goal.append_fields-append_field-requires
append_fields-append_field-requires t c =
    let h = field_left seen_field c.args.fields.now _ c.field-item.result _ _ c.loop-field-test.true c.field-item.is c.loop-field.invariant in
    (omega (arith, h.depth, c.decreases), alone (seen_field c.field-item.result) _ h.sound)

pub append_fields-loop-field-preserved : goal.append_fields-loop-field-preserved
append_fields-loop-field-preserved t c =
    let h = field_left seen_field c.args.fields.now _ c.field-item.result _ _ c.loop-field-test.true c.field-item.is c.loop-field.invariant in
    next_field _ (seen_field c.field-item.result) _ _ _ _ h c.in_ok-append_field.ensures

pub append_fields-returns : goal.append_fields-returns
append_fields-returns t c =
    every_field seen_field c.args.fields.now _ _ _ c.loop-field-test.false c.loop-field.invariant

-- ---- a field

pub append_field-overflow_cast-values : goal.append_field-overflow_cast-values
append_field-overflow_cast-values t c =
    let f = seen_field c.args.field.now in
    omega (arith, c.requires.3, values_are f.values, ap length c.values.ensures, length-map c.values.result.now seen_value)

pub append_field-returns : goal.append_field-returns
append_field-returns t c =
    let f = seen_field c.args.field.now in
    let letters : c.code_of.result.now ≡ code_of f.kind = cc in
    let count : length c.values.result.now ≡ length f.values = omega (arith, ap length c.values.ensures, length-map c.values.result.now seen_value) in
    on_ok_weaker c.append_values.result
    (whole_field f c.args.out.now.items _ _ _ _ _ _ _ c.requires letters c.name.ensures count c.in_ok-extend_from_slice.ensures.items c.in_ok-append_name.ensures c.in_ok-push.ensures.items)
    c.append_values.ensures

-- ---- the values of a field

pub append_values-append_value-requires : goal.append_values-append_value-requires
append_values-append_value-requires t c =
    let h = value_left seen_value _ c.values-value-items.result.now _ c.value-item.result _ _ c.loop-value-test.true c.value-item.is c.loop-value.invariant in
    (omega (arith, h.depth, c.decreases, ap (λ (all : List messages.Datum). values_depth (all_values all)) c.values-value-items.ensures), h.sound.1)

pub append_values-loop-value-preserved : goal.append_values-loop-value-preserved
append_values-loop-value-preserved t c =
    let h = value_left seen_value _ c.values-value-items.result.now _ c.value-item.result _ _ c.loop-value-test.true c.value-item.is c.loop-value.invariant in
    next_value _ _ (seen_value c.value-item.result) _ _ _ _ h c.in_ok-append_value.ensures

pub append_values-returns : goal.append_values-returns
append_values-returns t c =
    let kind = c.args.field.now.kind in
    let P : List messages.Datum → Type 0 = λ all. Appends (λ bytes. SpellsValues kind bytes (all_values all)) c.args.out.now.items c.loop-value.out.items in
    subst P c.values-value-items.ensures (every_value seen_value kind c.values-value-items.result.now _ _ _ c.loop-value-test.false c.loop-value.invariant)

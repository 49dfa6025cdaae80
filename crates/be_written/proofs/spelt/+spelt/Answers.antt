use Rattle.std.proofs.Common.{ℕ, ◌+◌, ◌-◌, ◌∷◌, [], ◌++◌, List, length, refl, sym, ap, subst, ◌∙◌, arith, append_assoc}
use Rattle.std.specs.Prelude.{IfOk}
use Rattle.std.specs.Int.{w32, to_le_bytes}
use Rattle.be_flat.specs.Codes.{code_of}
use Rattle.be_flat.specs.Grammar.{SpellsValues}
use Rattle.be_message.specs.declared.kind.Kind.{Kind}
use Rattle.be_message.specs.Messages.{Datum, Values}
use Rattle.be_message.specs.Sound.{field_count, value_count}
use Rattle.be_written.specs.MessageText.{datum_text, fields_text, values_text, more_text}
use Rattle.be_written.specs.Spelt.{Leaves}
use Rattle.be_written.proofs.SpeltLemmas.{field_gone, no_field_left, value_gone, no_value_left, told_on, length_code, told_field, told_inner, told_values}
use Rattle.be_written.proofs.SpeltValues.{first_value, no_values_started, bool_started, int_started, text_started, point_started, rect_started, inner_started}
use Rattle.be_written.proofs.spelt.+spelt.Goals as goal

-- ---- fields

pub write_spelt_fields-loop-field-preserved : goal.write_spelt_fields-loop-field-preserved
write_spelt_fields-loop-field-preserved t c = λ fs behind starts.
    let left = c.loop-field.invariant fs behind starts in
    field_gone left.fields c.loop-field.rest.now c.in_ok-rest.rest.now c.args.levels (c.args.count - c.loop-field._field) (c.args.count - (c.loop-field._field + 1)) behind c.loop-field.page c.write_spelt_field.new.page
    (c.args.page.now ++ fields_text fs) left.starts left.text (omega arith) c.in_ok-rest.ensures

pub write_spelt_fields-returns : goal.write_spelt_fields-returns
write_spelt_fields-returns t c = λ fs behind starts.
    let left = c.loop-field.invariant fs behind starts in
    no_field_left left.fields c.loop-field.rest.now c.args.levels (c.args.count - c.loop-field._field) behind c.loop-field.page (c.args.page.now ++ fields_text fs) left.starts left.text (omega arith)

pub write_spelt_field-returns : goal.write_spelt_field-returns
write_spelt_field-returns t c = λ name kind vs behind starts.
    let values = starts.values ++ behind in
    let counted = value_count vs ∷ values in
    let first = c.cut.ensures (code_of kind) (length name ∷ (name ++ counted)) starts.parts (length_code kind) in
    let second = c.cut-2.ensures (length name ∷ []) (name ++ counted) first.1 refl in
    let long = c.from.ensures ∙ c.byte_of.ensures (length name) second.0 in
    let third = c.cut-3.ensures name counted second.1 (sym long) in
    let fourth = c.cut-4.ensures (value_count vs ∷ []) values third.1 refl in
    let many = c.byte_of-2.ensures (value_count vs) fourth.0 in
    let same = c.kind_of.ensures kind first.0 in
    let spells = subst (λ (k : Kind). SpellsValues k starts.values vs) (sym same) starts.spells in
    let told = c.write_spelt_values.ensures vs behind (record { front = starts.values; parts = fourth.1; spells = spells; many = sym many; deep = starts.deep }) in
    told_on c.write_spelt_values.result _ _ told
    (λ rest leaves. (
      told_field name kind vs c.cut-3.result.0.now c.cut.result.0.now c.args.page.now c.word.new.self c.text.new.self c.text-2.new.self c.text-3.new.self c.write_spelt_values.new.page
          third.0 first.0 c.in_ok-word.ensures c.in_ok-text.ensures c.in_ok-text-2.ensures c.in_ok-text-3.ensures leaves.0,
      leaves.1,
    ))

-- ---- values

pub write_spelt_values-returns-then-count-eq0 : goal.write_spelt_values-returns-then-count-eq0
write_spelt_values-returns-then-count-eq0 t c = λ vs behind starts.
    no_values_started vs c.args.bytes.now c.args.levels c.args.kind c.args.count behind c.args.page.now starts c.if-count-eq0.true

pub write_spelt_values-returns : goal.write_spelt_values-returns
write_spelt_values-returns t c = λ vs behind starts.
    let head = first_value vs c.args.bytes.now c.args.levels c.args.kind c.args.count behind starts c.if-count-eq0.false in
    let one = c.in_ok-rest.ensures head.first (head.left ++ behind) head.starts in
    let two = c.write_spelt_more.ensures head.others behind (head.goes_on c.in_ok-rest.rest.now one.1) in
    told_on c.write_spelt_more.result _ _ two
    (λ rest leaves. (
      told_values head.first head.others c.args.page.now c.write_spelt_value.new.page c.write_spelt_more.new.page one.0 leaves.0
          ∙ ap (λ (all : Values). c.args.page.now ++ values_text all) (sym head.is),
      leaves.1,
    ))

pub write_spelt_more-loop-value-preserved : goal.write_spelt_more-loop-value-preserved
write_spelt_more-loop-value-preserved t c = λ vs behind starts.
    let left = c.loop-value.invariant vs behind starts in
    value_gone left.values c.loop-value.rest.now c.in_ok-rest.rest.now c.args.levels c.args.kind (c.args.count - c.loop-value._value) (c.args.count - (c.loop-value._value + 1)) behind c.loop-value.page c.text.new.self c.write_spelt_value.new.page
    (c.args.page.now ++ more_text vs) left.starts left.text (omega arith) c.in_ok-text.ensures c.in_ok-rest.ensures

pub write_spelt_more-returns : goal.write_spelt_more-returns
write_spelt_more-returns t c = λ vs behind starts.
    let left = c.loop-value.invariant vs behind starts in
    no_value_left left.values c.loop-value.rest.now c.args.levels c.args.kind (c.args.count - c.loop-value._value) behind c.loop-value.page (c.args.page.now ++ more_text vs) left.starts left.text (omega arith)

-- ---- a message

pub write_spelt_inner-returns : goal.write_spelt_inner-returns
write_spelt_inner-returns t c = λ what fs front behind parts spells deep.
    let (small, few, rest, is, fields) = spells in
    let whole = parts ∙ ap (λ (bytes : List ℕ). bytes ++ behind) is ∙ append_assoc (to_le_bytes w32 what) (field_count fs ∷ rest) behind in
    let first = c.cut.ensures (to_le_bytes w32 what) (field_count fs ∷ (rest ++ behind)) whole refl in
    let word = c.word_of.ensures what small first.0 in
    let second = c.cut-2.ensures (field_count fs ∷ []) (rest ++ behind) first.1 refl in
    let many = c.byte_of.ensures (field_count fs) second.0 in
    let leaves = c.in_ok-rest.ensures fs behind (record { front = rest; parts = second.1; spells = fields; many = sym many; deep = omega arith }) in
    (told_inner what fs c.word_of.result c.args.page.now c.text.new.self c.code.new.self c.write_spelt_fields.new.page c.text-2.new.self word c.in_ok-text.ensures c.in_ok-code.ensures leaves.0 c.in_ok-text-2.ensures, leaves.1)

pub write_spelt_value-returns-in-Bool : goal.write_spelt_value-returns-in-Bool
unfolding datum_text
write_spelt_value-returns-in-Bool t c = λ d behind starts.
    let found = bool_started d c.args.bytes.now c.args.levels c.args.kind behind starts c.in-Bool.is in
    subst (λ (x : Datum). IfOk c.write_spelt_bool.result (λ rest. Leaves c.args.page.now (datum_text x) behind c.write_spelt_bool.new.page rest.now)) (sym found.1.0)
    (c.write_spelt_bool.ensures found.0 behind found.1.1)

pub write_spelt_value-returns-in-Int : goal.write_spelt_value-returns-in-Int
unfolding datum_text
write_spelt_value-returns-in-Int t c = λ d behind starts.
    let found = int_started d c.args.bytes.now c.args.levels c.args.kind behind starts c.in-Int.is in
    subst (λ (x : Datum). IfOk c.write_spelt_int.result (λ rest. Leaves c.args.page.now (datum_text x) behind c.write_spelt_int.new.page rest.now)) (sym found.1.0)
    (c.write_spelt_int.ensures found.0 starts.front behind starts.parts found.1.1)

pub write_spelt_value-returns-in-Text : goal.write_spelt_value-returns-in-Text
unfolding datum_text
write_spelt_value-returns-in-Text t c = λ d behind starts.
    let found = text_started d c.args.bytes.now c.args.levels c.args.kind behind starts c.in-Text.is in
    subst (λ (x : Datum). IfOk c.write_spelt_text.result (λ rest. Leaves c.args.page.now (datum_text x) behind c.write_spelt_text.new.page rest.now)) (sym found.1.0)
    (c.write_spelt_text.ensures found.0 starts.front behind starts.parts found.1.1)

pub write_spelt_value-returns-in-Point : goal.write_spelt_value-returns-in-Point
unfolding datum_text
write_spelt_value-returns-in-Point t c = λ d behind starts.
    let found = point_started d c.args.bytes.now c.args.levels c.args.kind behind starts c.in-Point.is in
    subst (λ (x : Datum). IfOk c.write_spelt_point.result (λ rest. Leaves c.args.page.now (datum_text x) behind c.write_spelt_point.new.page rest.now)) (sym found.1.0)
    (c.write_spelt_point.ensures found.0.x found.0.y starts.front behind starts.parts found.1.1)

pub write_spelt_value-returns-in-Rect : goal.write_spelt_value-returns-in-Rect
unfolding datum_text
write_spelt_value-returns-in-Rect t c = λ d behind starts.
    let found = rect_started d c.args.bytes.now c.args.levels c.args.kind behind starts c.in-Rect.is in
    subst (λ (x : Datum). IfOk c.write_spelt_rect.result (λ rest. Leaves c.args.page.now (datum_text x) behind c.write_spelt_rect.new.page rest.now)) (sym found.1.0)
    (c.write_spelt_rect.ensures found.0 starts.front behind starts.parts found.1.1)

pub write_spelt_value-returns-in-Message : goal.write_spelt_value-returns-in-Message
unfolding datum_text
write_spelt_value-returns-in-Message t c = λ d behind starts.
    let found = inner_started d c.args.bytes.now c.args.levels c.args.kind behind starts c.in-Message.is in
    subst (λ (x : Datum). IfOk c.write_spelt_inner.result (λ rest. Leaves c.args.page.now (datum_text x) behind c.write_spelt_inner.new.page rest.now)) (sym found.is)
    (c.write_spelt_inner.ensures found.what found.fields starts.front behind starts.parts found.spells found.deep)

use Rattle.std.proofs.Common.{◌≡◌, Some, refl}
use Rattle.std.proofs.lemmas.Result.{on_ok_weaker}
use Rattle.be_message.specs.Fields.{with_other, field_named}
use Rattle.be_message.specs.Views.{seen_value, seen_field, seen_fields}
use Rattle.be_message.proofs.PlaceLemmas.{is_found, found_field, found_changed, missing_field}
use Rattle.be_message.proofs.fields.replace_value.Goals as goal

pub returns-in-Some-clause-ok : goal.returns-in-Some-clause-ok
returns-in-Some-clause-ok c =
    let there = is_found _ c.args.fields.now.items c.deref.result.now c.in-Some.place c.index_mut.result.now c.requires c.deref.ensures.value c.in-Some.ensures c.index_mut.ensures.value in
    let named : field_named c.args.name.now (seen_fields c.args.fields.now.items) ≡ Some (seen_field c.index_mut.result.now) = found_field _ _ _ _ there in
    rw named c.replace.ensures.ok

pub returns-in-Some-clause-old : goal.returns-in-Some-clause-old
returns-in-Some-clause-old c =
    let there = is_found _ c.args.fields.now.items c.deref.result.now c.in-Some.place c.index_mut.result.now c.requires c.deref.ensures.value c.in-Some.ensures c.index_mut.ensures.value in
    let named : field_named c.args.name.now (seen_fields c.args.fields.now.items) ≡ Some (seen_field c.index_mut.result.now) = found_field _ _ _ _ there in
    rw named c.replace.ensures.old

pub returns-in-Some-clause-replaced : goal.returns-in-Some-clause-replaced
returns-in-Some-clause-replaced c =
    let there = is_found _ c.args.fields.now.items c.deref.result.now c.in-Some.place c.index_mut.result.now c.requires c.deref.ensures.value c.in-Some.ensures c.index_mut.ensures.value in
    on_ok_weaker c.replace.result (found_changed c.args.name.now (with_other c.args.index (seen_value c.args.value)) c.args.fields.now.items c.in-Some.place c.index_mut.result.now c.replace.new.self there) c.replace.ensures.replaced

pub returns-in-Some-clause-err : goal.returns-in-Some-clause-err
returns-in-Some-clause-err c =
    let there = is_found _ c.args.fields.now.items c.deref.result.now c.in-Some.place c.index_mut.result.now c.requires c.deref.ensures.value c.in-Some.ensures c.index_mut.ensures.value in
    let named : field_named c.args.name.now (seen_fields c.args.fields.now.items) ≡ Some (seen_field c.index_mut.result.now) = found_field _ _ _ _ there in
    rw named c.replace.ensures.err

pub returns-in-None-clause-err : goal.returns-in-None-clause-err
returns-in-None-clause-err c =
    rw (missing_field c.args.name.now c.args.fields.now.items c.deref.result.now c.deref.ensures.value c.in-None.ensures) (refl, refl)

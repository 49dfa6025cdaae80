use Rattle.std.proofs.Common.{◌≡◌, Some}
use Rattle.std.proofs.lemmas.Result.{on_ok_weaker, on_err_weaker}
use Rattle.be_message.specs.Fields.{with_one_more, field_named}
use Rattle.be_message.specs.Views.{seen_value, seen_field, seen_fields}
use Rattle.be_message.proofs.PlaceLemmas.{is_found, found_field, found_any, found_changed, found_stays, missing_field}
use Rattle.be_message.proofs.fields.add_value.Goals as goal

pub returns-in-Some-clause-ok : goal.returns-in-Some-clause-ok
returns-in-Some-clause-ok c =
    let there = is_found _ c.args.fields.now.items c.deref.result.now c.in-Some.place c.index_mut.result.now c.requires c.deref.ensures.value c.in-Some.ensures c.index_mut.ensures.value in
    let named : field_named c.args.name.now (seen_fields c.args.fields.now.items) ≡ Some (seen_field c.index_mut.result.now) = found_field _ _ _ _ there in
    rw named c.add.ensures.ok

pub returns-in-Some-clause-added : goal.returns-in-Some-clause-added
returns-in-Some-clause-added c =
    let there = is_found _ c.args.fields.now.items c.deref.result.now c.in-Some.place c.index_mut.result.now c.requires c.deref.ensures.value c.in-Some.ensures c.index_mut.ensures.value in
    rw (found_any _ _ _ _ there) (on_ok_weaker c.add.result (found_changed c.args.name.now (with_one_more (seen_value c.args.value)) c.args.fields.now.items c.in-Some.place c.index_mut.result.now c.add.new.self there) c.add.ensures.added)

pub returns-in-Some-clause-err : goal.returns-in-Some-clause-err
returns-in-Some-clause-err c =
    let there = is_found _ c.args.fields.now.items c.deref.result.now c.in-Some.place c.index_mut.result.now c.requires c.deref.ensures.value c.in-Some.ensures c.index_mut.ensures.value in
    let named : field_named c.args.name.now (seen_fields c.args.fields.now.items) ≡ Some (seen_field c.index_mut.result.now) = found_field _ _ _ _ there in
    rw named c.add.ensures.err

pub returns-in-Some-clause-stays : goal.returns-in-Some-clause-stays
returns-in-Some-clause-stays c =
    let there = is_found _ c.args.fields.now.items c.deref.result.now c.in-Some.place c.index_mut.result.now c.requires c.deref.ensures.value c.in-Some.ensures c.index_mut.ensures.value in
    on_err_weaker c.add.result (found_stays c.args.name.now c.args.fields.now.items c.in-Some.place c.index_mut.result.now c.add.new.self there) c.add.ensures.stays

pub returns-in-None-clause-ok : goal.returns-in-None-clause-ok
returns-in-None-clause-ok c =
    rw (missing_field c.args.name.now c.args.fields.now.items c.deref.result.now c.deref.ensures.value c.in-None.ensures) c.add_field.ensures.ok

pub returns-in-None-clause-err : goal.returns-in-None-clause-err
returns-in-None-clause-err c =
    rw (missing_field c.args.name.now c.args.fields.now.items c.deref.result.now c.deref.ensures.value c.in-None.ensures) c.add_field.ensures.err

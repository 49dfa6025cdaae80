use Rattle.std.proofs.Common.{◌≡◌, Some, None, sym}
use Rattle.be_message.specs.Fields.{field_named}
use Rattle.be_message.specs.Views.{seen_field, seen_fields}
use Rattle.be_message.proofs.PlaceLemmas.{is_found, found_field, missing_field}
use Rattle.be_message.proofs.message.Message.field.Goals as goal

pub returns-in-Some-clause-field : goal.returns-in-Some-clause-field
returns-in-Some-clause-field c =
    let there = is_found c.args.name.now c.self.inside.fields.items c.deref.result.now c.in-Some.place c.index.result.now c.self.invariant.1.sound.2 c.deref.ensures.value c.in-Some.ensures c.index.ensures in
    let named : field_named c.args.name.now (seen_fields c.self.inside.fields.items) ≡ Some (seen_field c.index.result.now) = found_field _ _ _ _ there in
    rw (← c.self.view_is) (sym named)

pub returns-in-None-clause-field : goal.returns-in-None-clause-field
returns-in-None-clause-field c =
    let none : field_named c.args.name.now (seen_fields c.self.inside.fields.items) ≡ None = missing_field c.args.name.now c.self.inside.fields.items c.deref.result.now c.deref.ensures.value c.in-None.ensures in
    rw (← c.self.view_is) (sym none)

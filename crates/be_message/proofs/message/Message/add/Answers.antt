use Rattle.std.proofs.Common.{◌≡◌, true, length, None, refl, sym, ◌∙◌, arith}
use Rattle.std.proofs.lemmas.Grind.{common_steps}
use Rattle.std.proofs.lemmas.List.{length-map}
use Rattle.be_message.specs.Fields.{is_allowed, refused_by, field_named}
use Rattle.be_message.specs.Names.{is_name}
use Rattle.be_message.specs.Views.{seen, seen_value, seen_field, seen_fields}
use Rattle.be_message.proofs.PlaceLemmas.{are_apart}
use Rattle.be_message.proofs.DepthLemmas.{depth_added}
use Rattle.be_message.proofs.KeptLemmas.{added_is_message}
use Rattle.be_message.proofs.message.Message.add.Goals as goal

pub invariant_of-self-2 : goal.invariant_of-self-2
invariant_of-self-2 c =
    let deep = depth_added (seen_fields c.self.inside.fields.items) c.args.name.now (seen_value c.args.value) (are_apart _ c.self.invariant.1.sound.2) in
    let was = c.self.invariant.0 in
    let named : is_name c.args.name.now ≡ true = rw (← c.as_bytes.ensures.value) (sym c.is_name.ensures ∙ c.if-not-is_name.false) in
    let allowed : is_allowed (seen_value c.args.value) ≡ true = sym c.is_allowed.ensures.allowed ∙ c.if-not-is_allowed.false in
    let free : refused_by (length (seen_fields c.self.inside.fields.items)) (field_named c.args.name.now (seen_fields c.self.inside.fields.items)) (seen_value c.args.value) ≡ None = rw (length-map c.self.inside.fields.items seen_field) c.in_ok-add_value.ensures.ok in
    let is = added_is_message (seen c.self.inside) c.args.name.now (seen_value c.args.value) c.self.invariant.1 named allowed (c.if-not-is_allowed.ensures.sound refl) free in
    rw c.in_ok-add_value.ensures.added (grind (arith, common_steps), is)

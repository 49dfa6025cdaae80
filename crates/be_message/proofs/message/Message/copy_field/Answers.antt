use Rattle.std.proofs.Common.{◌≡◌, ◌<◌, ◌∷◌, [], ◌++◌, length, false, Some, None, sym, ap, ◌∙◌, arith}
use Rattle.std.specs.List.{list_any}
use Rattle.std.proofs.lemmas.Grind.{common_steps}
use Rattle.std.proofs.lemmas.List.{append-nil, map-append}
use Rattle.be_message.specs.Depths.{values_depth}
use Rattle.be_message.specs.Fields.{field_named, has_name}
use Rattle.be_message.specs.Messages.{all_values}
use Rattle.be_message.specs.Views.{seen, seen_field, seen_fields}
use Rattle.be_message.proofs.DepthLemmas.{fields_push}
use Rattle.be_message.proofs.KeptLemmas.{copied_is_message}
use Rattle.be_message.proofs.message.Message.copy_field.Goals as goal

pub returns-in_default-clause-copied : goal.returns-in_default-clause-copied
returns-in_default-clause-copied c =
    let none : field_named c.args.name.now c.args.from.now.fields ≡ None = sym c.in_default.ensures.field in
    rw none (sym (ap (λ fs. record c.args.self.now { fields = fs }) (append-nil c.args.self.now.fields)))

pub invariant_of-self-2 : goal.invariant_of-self-2
invariant_of-self-2 c =
    let from = c.args.from.now in
    let own = c.self.inside.fields.items in
    let copied = seen_field c.in_ok-field.field in
    let named : field_named c.args.name.now from.fields ≡ Some copied = sym c.in-Some.ensures.field ∙ ap Some (sym c.in_ok-field.ensures) in
    let all : seen_fields c.push.new.self.items ≡ seen_fields own ++ copied ∷ [] = ap seen_fields c.in_ok-push.ensures.items ∙ map-append seen_field own (c.in_ok-field.field ∷ []) in
    let new : list_any (has_name c.args.name.now) (seen_fields own) ≡ false = rw (← c.self.view_is) at c.requires.new in
    let room : length (seen_fields own) < 255 = rw (← c.self.view_is) at c.requires.room in
    let is = copied_is_message (seen c.self.inside) from c.args.name.now copied c.self.invariant.1 c.in-Some.ensures.limits new room named in
    let deep = fields_push (seen_fields own) copied in
    let was = c.self.invariant.0 in
    let values : c.depth_of_values.result ≡ values_depth (all_values copied.values) = c.depth_of_values.ensures.depth ∙ ap (λ ds. values_depth (all_values ds)) c.values.ensures in
    rw all (grind (arith, common_steps), is)

pub returns-clause-copied : goal.returns-clause-copied
returns-clause-copied c =
    let from = c.args.from.now in
    let own = c.self.inside.fields.items in
    let copied = seen_field c.in_ok-field.field in
    let named : field_named c.args.name.now from.fields ≡ Some copied = sym c.in-Some.ensures.field ∙ ap Some (sym c.in_ok-field.ensures) in
    let all : seen_fields c.push.new.self.items ≡ seen_fields own ++ copied ∷ [] = ap seen_fields c.in_ok-push.ensures.items ∙ map-append seen_field own (c.in_ok-field.field ∷ []) in
    rw (named, ← c.self.view_is, all)

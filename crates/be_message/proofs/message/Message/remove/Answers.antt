use Rattle.std.proofs.Common.{◌≡◌, not, refl, ap, ◌∙◌, arith}
use Rattle.std.specs.List.{filter}
use Rattle.be_message.specs.Depths.{fields_depth}
use Rattle.be_message.specs.Fields.{has_name}
use Rattle.be_message.specs.Messages.{all_fields}
use Rattle.be_message.specs.Views.{seen, seen_fields}
use Rattle.be_message.proofs.PlaceLemmas.{is_found, found_any, found_removed}
use Rattle.be_message.proofs.KeptLemmas.{removed_is_message, removed_is_flat}
use Rattle.be_message.proofs.message.Message.remove.Goals as goal

pub invariant_of-self : goal.invariant_of-self
invariant_of-self c =
    let there = is_found c.args.name.now c.self.inside.fields.items c.deref.result.now c.in-Some.place c.remove.result c.self.invariant.1.sound.2 c.deref.ensures.value c.in-Some.ensures c.remove.ensures.value in
    let left : seen_fields c.remove.new.self.items ≡ filter (λ f. not (has_name c.args.name.now f)) (seen_fields c.self.inside.fields.items) = ap seen_fields c.remove.ensures.items ∙ found_removed _ _ _ _ there in
    let deep : c.depth_within.result ≡ fields_depth (all_fields (seen_fields c.remove.new.self.items)) = c.depth_within.ensures.depth ∙ rw c.deref-then-self-gt1.ensures.value refl in
    (omega arith, rw left (removed_is_message (seen c.self.inside) c.args.name.now c.self.invariant.1))

pub invariant_of-self-else-self-gt1 : goal.invariant_of-self-else-self-gt1
invariant_of-self-else-self-gt1 c =
    let there = is_found c.args.name.now c.self.inside.fields.items c.deref.result.now c.in-Some.place c.remove.result c.self.invariant.1.sound.2 c.deref.ensures.value c.in-Some.ensures c.remove.ensures.value in
    let left : seen_fields c.remove.new.self.items ≡ filter (λ f. not (has_name c.args.name.now f)) (seen_fields c.self.inside.fields.items) = ap seen_fields c.remove.ensures.items ∙ found_removed _ _ _ _ there in
    let was = c.self.invariant.0 in
    let flat = removed_is_flat (seen c.self.inside) c.args.name.now (omega arith) in
    rw left (omega arith, removed_is_message (seen c.self.inside) c.args.name.now c.self.invariant.1)

pub returns-then-self-gt1-clause-ok : goal.returns-then-self-gt1-clause-ok
returns-then-self-gt1-clause-ok c =
    let there = is_found c.args.name.now c.self.inside.fields.items c.deref.result.now c.in-Some.place c.remove.result c.self.invariant.1.sound.2 c.deref.ensures.value c.in-Some.ensures c.remove.ensures.value in
    (λ _. rw (← c.self.view_is) (found_any _ _ _ _ there), λ _. refl)

pub returns-then-self-gt1-clause-removed : goal.returns-then-self-gt1-clause-removed
returns-then-self-gt1-clause-removed c =
    let there = is_found c.args.name.now c.self.inside.fields.items c.deref.result.now c.in-Some.place c.remove.result c.self.invariant.1.sound.2 c.deref.ensures.value c.in-Some.ensures c.remove.ensures.value in
    let left : seen_fields c.remove.new.self.items ≡ filter (λ f. not (has_name c.args.name.now f)) (seen_fields c.self.inside.fields.items) = ap seen_fields c.remove.ensures.items ∙ found_removed _ _ _ _ there in
    rw (← c.self.view_is, left)

pub returns-else-self-gt1-clause-ok : goal.returns-else-self-gt1-clause-ok
returns-else-self-gt1-clause-ok c =
    let there = is_found c.args.name.now c.self.inside.fields.items c.deref.result.now c.in-Some.place c.remove.result c.self.invariant.1.sound.2 c.deref.ensures.value c.in-Some.ensures c.remove.ensures.value in
    (λ _. rw (← c.self.view_is) (found_any _ _ _ _ there), λ _. refl)

pub returns-else-self-gt1-clause-removed : goal.returns-else-self-gt1-clause-removed
returns-else-self-gt1-clause-removed c =
    let there = is_found c.args.name.now c.self.inside.fields.items c.deref.result.now c.in-Some.place c.remove.result c.self.invariant.1.sound.2 c.deref.ensures.value c.in-Some.ensures c.remove.ensures.value in
    let left : seen_fields c.remove.new.self.items ≡ filter (λ f. not (has_name c.args.name.now f)) (seen_fields c.self.inside.fields.items) = ap seen_fields c.remove.ensures.items ∙ found_removed _ _ _ _ there in
    rw (← c.self.view_is, left)

use Rattle.std.proofs.Common.{◌≡◌, refl, ◌∙◌, arith}
use Rattle.std.proofs.lemmas.Grind.{common_steps}
use Rattle.be_message.specs.Depths.{fields_depth}
use Rattle.be_message.specs.Messages.{all_fields}
use Rattle.be_message.specs.Views.{seen, seen_value, seen_fields}
use Rattle.be_message.proofs.KeptLemmas.{replaced_is_message, replaced_is_flat}
use Rattle.be_message.proofs.message.Message.replace.Goals as goal

pub invariant_of-self-then-deepest-gt1 : goal.invariant_of-self-then-deepest-gt1
invariant_of-self-then-deepest-gt1 c =
    let deep : c.depth_within.result ≡ fields_depth (all_fields (seen_fields c.replace_value.new.fields.items)) = c.depth_within.ensures.depth ∙ rw c.deref.ensures.value refl in
    let is = replaced_is_message (seen c.self.inside) c.args.name.now c.args.index (seen_value c.args.value) c.self.invariant.1 c.in_ok-old.ensures.sound c.in_ok-old.ensures.ok in
    (omega arith, rw c.in_ok-old.ensures.replaced is)

pub invariant_of-self-else-deepest-gt1 : goal.invariant_of-self-else-deepest-gt1
invariant_of-self-else-deepest-gt1 c =
    let was = c.self.invariant.0 in
    let flat = replaced_is_flat (seen c.self.inside) c.args.name.now c.args.index (seen_value c.args.value) (grind (arith, common_steps)) (grind (arith, common_steps)) in
    let is = replaced_is_message (seen c.self.inside) c.args.name.now c.args.index (seen_value c.args.value) c.self.invariant.1 c.in_ok-old.ensures.sound c.in_ok-old.ensures.ok in
    rw c.in_ok-old.ensures.replaced (omega arith, is)

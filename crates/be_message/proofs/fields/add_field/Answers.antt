use Rattle.std.proofs.Common.{◌≡◌, ◌-◌, ◌++◌, ◌∷◌, [], length, ◌∙◌, ap, arith}
use Rattle.std.proofs.lemmas.Bool.{cond-true}
use Rattle.std.proofs.lemmas.List.{length_push}
use Rattle.be_message.specs.Views.{seen_value}
use Rattle.be_message.proofs.PlaceLemmas.{first_value}
use Rattle.be_message.proofs.fields.add_field.Goals as goal

pub returns-in-Ok-add-clause-added : goal.returns-in-Ok-add-clause-added
returns-in-Ok-add-clause-added c =
    let went = c.if-is_err.ensures.negation in
    let all : c.push.new.self.items ≡ c.args.fields.now.items ++ c.in-Ok.field ∷ [] = c.push.ensures.items ∙ cond-true _ _ _ went in
    let more = length_push c.args.fields.now.items c.in-Ok.field in
    let len : length c.args.fields.now.items ≡ c.len-last.result - 1 = omega (arith, ap length all, c.push.new.self.ok.0) in
    first_value _ (seen_value c.args.value) c.args.fields.now.items c.push.new.self.items (c.len-last.result - 1) c.kind.result c.in-Ok.field c.index_mut.result.now c.add.new.self all len c.in-Ok.ensures c.kind.ensures c.index_mut.ensures.value c.in-Ok-add.ensures.added

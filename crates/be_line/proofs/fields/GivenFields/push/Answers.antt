use Rattle.std.proofs.Common.{ap, sym, ◌∙◌, refl, Option}
use Rattle.std.specs.Prelude.{option_map}
use Rattle.be_actor.specs.declared.FieldWord.{FieldWord}
use Rattle.be_actor.specs.DraftViews as views
use Rattle.be_line.specs.Shaped.{seen_word}
use Rattle.be_line.proofs.FieldLemmas.{pushed_none, pushed_some}
use Rattle.be_line.proofs.fields.GivenFields.push.Goals as goal

pub returns-in_ok-push-in-Some : goal.returns-in_ok-push-in-Some
returns-in_ok-push-in-Some c =
    pushed_some (seen_word c.args.word) c.args.self.now _ c.in-Some.field refl refl refl c.in_ok-push-in-Some.ensures.items
    (sym (ap (λ (f : Option FieldWord). option_map views.seen_word f) c.in-Some.is) ∙ c.in_ok-field.ensures)

pub returns-in-None : goal.returns-in-None
returns-in-None c =
    pushed_none (seen_word c.args.word) c.args.self.now _ refl refl refl refl
    (sym (ap (λ (f : Option FieldWord). option_map views.seen_word f) c.in-None.is) ∙ c.in_ok-field.ensures)

use Rattle.std.proofs.Common.{ℕ, [], List, Some, ap, sym, refl, ◌∙◌, map}
use Rattle.std.specs.Prelude.{fold}
use Rattle.be_lex.specs.Words.{words_of}
use Rattle.be_line.specs.Fields.{field_of, fields_said}
use Rattle.be_line.specs.Words.{ended, next}
use Rattle.be_line.proofs.FieldLemmas.{fields_are_told}
use Rattle.be_line.proofs.fields.read_fields.Goals as goal

pub loop-word-init : goal.loop-word-init
loop-word-init c = (Some [], c.nothing-given.ensures, refl)

pub returns-clause-said : goal.returns-clause-said
unfolding fields_said
returns-clause-said c =
    let k = c.loop-word.invariant in
    let all = map (field_of c.args.has_message) (words_of c.args.words.now) in
    c.finish.ensures k.0 k.1
    ∙ ap ended (sym (ap (λ (ws : List (List ℕ)). fold next k.0 (map (field_of c.args.has_message) ws)) c.in_default.ensures.words) ∙ k.2)
    ∙ fields_are_told all

use Rattle.std.proofs.Common.{ℕ, List, ap, sym, ◌∙◌, map}
use Rattle.be_lex.specs.Words.{words_of}
use Rattle.be_line.specs.declared.options.Given.{Given}
use Rattle.be_line.specs.GivenOptions.{told}
use Rattle.be_line.specs.Options.{option_of, options_said}
use Rattle.be_line.proofs.OptionLemmas.{options_are_told}
use Rattle.be_line.proofs.options.read_options.Goals as goal

pub returns-clause-said : goal.returns-clause-said
unfolding options_said
returns-clause-said c =
    c.finish.ensures
    ∙ sym (ap (λ (ws : List (List ℕ)). told c.loop-word.given (map option_of ws)) c.in_default.ensures.words)
    ∙ c.loop-word.invariant
    ∙ ap (λ (g : Given). told g (map option_of (words_of c.args.words.now))) c.nothing-given.ensures
    ∙ options_are_told (map option_of (words_of c.args.words.now))

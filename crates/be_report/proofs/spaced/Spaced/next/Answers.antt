use Rattle.std.proofs.Common.{ap, sym, ◌∙◌}
use Rattle.std.specs.Option.{option_copied}
use Rattle.be_report.specs.Lines.{words_left}
use Rattle.be_report.proofs.CodeLemmas.{words_cut, words_uncut}
use Rattle.be_report.proofs.spaced.Spaced.next.Goals as goal

pub returns-in-Some : goal.returns-in-Some
returns-in-Some c = sym c.self.view_is ∙ ap (λ t. words_left (option_copied t)) c.in_ok-text.was ∙ words_cut c.in_ok-text.text.now c.in-Some.word.now c.in-Some.behind.now c.in-Some.ensures

pub returns-in-None : goal.returns-in-None
returns-in-None c = sym c.self.view_is ∙ ap (λ t. words_left (option_copied t)) c.in_ok-text.was ∙ words_uncut c.in_ok-text.text.now c.in-None.ensures

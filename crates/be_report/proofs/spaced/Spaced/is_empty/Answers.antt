use Rattle.std.proofs.Common.{ap, sym, ◌∙◌}
use Rattle.std.specs.Option.{option_copied}
use Rattle.be_report.specs.Lines.{words_left}
use Rattle.be_report.proofs.CodeLemmas.{words_are_some}
use Rattle.be_report.proofs.spaced.Spaced.is_empty.Goals as goal

pub returns-in-Some : goal.returns-in-Some
returns-in-Some c = (λ no. (cc), λ none. absurd (words_are_some c.in-Some.field-0.now (sym (ap (λ t. words_left (option_copied t)) c.in-Some.is) ∙ c.self.view_is ∙ none)))

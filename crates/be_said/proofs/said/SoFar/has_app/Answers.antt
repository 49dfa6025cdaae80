use Rattle.std.proofs.Common.{ap, sym, ◌∙◌}
use Rattle.std.specs.Prelude.{is_some}
use Rattle.be_said.specs.SoFar.{app_names}
use Rattle.be_said.proofs.NameLemmas.{is_found}
use Rattle.be_said.proofs.said.SoFar.has_app.Goals as goal

pub returns : goal.returns
returns c =
    c.is_some.ensures ∙ ap is_some c.app_named.ensures ∙ sym (is_found c.args.word.now (app_names c.args.self.now))

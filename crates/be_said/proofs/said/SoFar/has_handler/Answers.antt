use Rattle.std.proofs.Common.{◌≡◌, Bool, true, false, ◌||◌, ap, sym, ◌∙◌}
use Rattle.std.specs.Prelude.{is_some}
use Rattle.be_command.specs.Names.{number_in}
use Rattle.be_said.specs.SoFar.{plain_names, view_names}
use Rattle.be_said.proofs.NameLemmas.{either_found}
use Rattle.be_said.proofs.said.SoFar.has_handler.Goals as goal

pub returns-then-is_some : goal.returns-then-is_some
returns-then-is_some c =
    let views = view_names c.args.self.now c.args.window in
    let plain = plain_names c.args.self.now c.args.window in
    let word = c.args.word.now in
    let first : is_some (number_in views word) ≡ true = sym (ap is_some c.view_named.ensures) ∙ sym c.if-is_some.ensures in
    c.if-is_some.true
    ∙ sym (ap (λ (b : Bool). b || is_some (number_in plain word)) first)
    ∙ sym (either_found word views plain)

pub returns-else-is_some : goal.returns-else-is_some
returns-else-is_some c =
    let views = view_names c.args.self.now c.args.window in
    let plain = plain_names c.args.self.now c.args.window in
    let word = c.args.word.now in
    let first : is_some (number_in views word) ≡ false = sym (ap is_some c.view_named.ensures) ∙ sym c.if-is_some.ensures in
    c.is_some-else-is_some.ensures
    ∙ ap is_some c.plain_named.ensures
    ∙ sym (ap (λ (b : Bool). b || is_some (number_in plain word)) first)
    ∙ sym (either_found word views plain)

use Rattle.std.proofs.Common.{◌∷◌, [], ◌++◌, List, ℕ, refl, ap, ◌∙◌}
use Rattle.std.specs.Prelude.{if◌then◌else◌}
use Rattle.be_written.proofs.SpeltLemmas.{told_bool}
use Rattle.be_written.proofs.spelt.write_spelt_bool.Goals as goal

pub returns : goal.returns
returns c = λ b behind parts.
    let first = c.cut.ensures ((if b then 1 else 0) ∷ []) behind parts refl in
    let byte = c.byte_of.ensures (if b then 1 else 0) first.0 in
    (c.in_ok-text.ensures ∙ ap (λ (t : List ℕ). c.args.page.now ++ t) (c.bool_text.ensures ∙ told_bool b c.byte_of.result byte), first.1)

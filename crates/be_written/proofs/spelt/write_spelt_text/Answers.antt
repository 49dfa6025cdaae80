use Rattle.std.proofs.Common.{ℕ, List, ◌++◌, length, flat_map, refl, sym, ap, ◌∙◌, arith, append_assoc}
use Rattle.std.specs.Int.{w16, to_le_bytes}
use Rattle.be_flat.proofs.Spelling.{length-text}
use Rattle.be_written.specs.MessageText.{escaped}
use Rattle.be_written.proofs.spelt.write_spelt_text.Goals as goal

pub returns : goal.returns
returns c = λ t front behind parts spells.
    let small = length-text t spells.0 in
    let whole = parts ∙ ap (λ (bytes : List ℕ). bytes ++ behind) spells.1 ∙ append_assoc (to_le_bytes w16 (length t)) t behind in
    let first = c.cut.ensures (to_le_bytes w16 (length t)) (t ++ behind) whole refl in
    let count = c.length_of.ensures (length t) (omega (arith, small)) first.0 in
    let second = c.cut-2.ensures t behind first.1 (sym (c.from.ensures ∙ count)) in
    (c.in_ok-write_text.ensures ∙ ap (λ (text : List ℕ). c.args.page.now ++ flat_map escaped text) second.0, second.1)

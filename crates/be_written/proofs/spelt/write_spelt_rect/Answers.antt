use Rattle.std.proofs.Common.{ℕ, List, ◌++◌, ap, ◌∙◌, append_assoc}
use Rattle.be_written.proofs.SpeltLemmas.{told_on, told_rect}
use Rattle.be_written.proofs.spelt.write_spelt_rect.Goals as goal

pub returns : goal.returns
returns c = λ r front behind parts spells.
    let (a, b, is, first, second) = spells in
    let whole = parts ∙ ap (λ (bytes : List ℕ). bytes ++ behind) is ∙ append_assoc a b behind in
    let one = c.in_ok-rest.ensures r.left r.top a (b ++ behind) whole first in
    let two = c.write_spelt_point-2.ensures r.right r.bottom b behind one.1 second in
    told_on c.write_spelt_point-2.result _ _ two
    (λ rest leaves. (told_rect r c.args.page.now c.write_spelt_point.new.page c.text.new.self c.write_spelt_point-2.new.page one.0 c.in_ok-text.ensures leaves.0, leaves.1))

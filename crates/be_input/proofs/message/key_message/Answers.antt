use Rattle.std.proofs.Common.{◌≡◌, ◌∙◌, ap, codes}
use Rattle.std.proofs.lemmas.Int.{to_z-of_z}
use Rattle.be_message.specs.Fields.{with_value}
use Rattle.be_message.specs.Messages.{int}
use Rattle.be_input.proofs.message.key_message.Goals as goal

pub returns : goal.returns
returns c =
    let key = c.ranges.key in
    let added = simp to_z-of_z at c.in_ok-add.ensures in
    added ∙ ap (λ m. with_value m (codes "key") (int c.args.key)) c.new-message.ensures

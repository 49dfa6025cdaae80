use Rattle.std.proofs.Common.{List, sym, ap, ◌∙◌}
use Rattle.std.specs.Prelude.{codes}
use Rattle.be_archive.specs.Archives.{size_value, view_word}
use Rattle.be_archive.proofs.Written.{on_ok, sized}
use Rattle.be_message.specs.Fields.{with_value}
use Rattle.be_message.specs.Messages.{Field, Message}
use Rattle.be_archive.proofs.writing.add_size.Goals as goal

pub returns : goal.returns
returns c =
    let is = sized c.args.tree.now c.unwrap-root.result
    (sym c.frame_of.ensures.frame ∙ c.unwrap-root.ensures) in
    on_ok c.put.result _ _
    (λ put. put ∙ (ap (λ d. with_value c.args.message.now (codes "size") d) c.size_of.ensures
    ∙ (ap (λ (m : Message). with_value m (codes "size") (size_value c.unwrap-root.result))
    c.requires.empty
    ∙ ap (λ (l : List Field). record { what = view_word; fields = l }) is))) c.put.ensures

use Rattle.std.proofs.Common.{◌++◌, ap, ◌∙◌}
use Rattle.be_archive.specs.Archives.{archived, further}
use Rattle.be_archive.specs.Columns.{column_of}
use Rattle.be_archive.specs.declared.columns.Column.TheVariants as columns
use Rattle.be_archive.proofs.Written.{filled}
use Rattle.be_message.specs.Messages.{Message}
use Rattle.be_archive.proofs.writing.archive.Goals as goal

pub returns : goal.returns
unfolding archived
returns c =
    let vs = further c.args.tree.now in
    filled vs c.add_size.new.message c.add_column.new.message c.add_column-2.new.message
    c.add_column-3.new.message c.add_column-4.new.message c.in_ok-add_column.ensures
    c.in_ok-add_column-2.ensures c.in_ok-add_column-3.ensures c.in_ok-add_column-4.ensures
    ∙ ap (λ (m : Message). record m {
      fields =
          (((m.fields ++ column_of columns.Parent vs) ++ column_of columns.Frame vs)
          ++ column_of columns.Across vs) ++ column_of columns.Down vs;
    }) c.in_ok-add_size.ensures

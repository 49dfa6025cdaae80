use Rattle.std.proofs.Common.{◌≡◌, ◌-◌, ◌++◌, take}
use Rattle.be_archive.specs.Archives.{further}
use Rattle.be_archive.specs.Columns.{column_of}
use Rattle.be_archive.proofs.writing.add_column.Given as goal

abbrev pub invariant-loop-number : goal.invariant-loop-number
invariant-loop-number l =
    (l.message.what ≡ l.initial.message.what)
    × (l.message.fields
    ≡ l.initial.message.fields ++ column_of l.column (take (l.number - 1) (further l.tree)))

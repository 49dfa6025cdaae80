use Rattle.std.proofs.Common.{◌≡◌, ◌+◌, ◌-◌, length}
use Rattle.be_archive.specs.Reading.{view_count, views_from, views_in}
use Rattle.be_message.specs.Views.{seen_fields}
use Rattle.be_archive.proofs.reading.build.Given as goal

abbrev pub invariant-loop-number : goal.invariant-loop-number
invariant-loop-number l =
    (views_in (seen_fields l.fields) l.fn.size
    ≡ views_from (seen_fields l.fields) (l.count - l.number) l.number l.tree)
    × (length l.tree ≡ l.number + 1)
    × (l.count ≡ view_count (seen_fields l.fields))

use Rattle.std.proofs.Common.{◌≡◌, ◌+◌, ◌-◌, length}
use Rattle.be_archive.specs.Reading.{view_count, views_from, views_in}
use Rattle.be_archive.specs.Rows.{DepthsAre}
use Rattle.be_message.specs.Views.{seen_fields}
use Rattle.be_views.specs.Trees.{Tree}
use Rattle.be_views.specs.Whole.{IsTree}
use Rattle.be_archive.proofs.reading.check_views.Given as goal

abbrev pub invariant-loop-number : goal.invariant-loop-number
invariant-loop-number l =
    (tree : Tree)
    × (views_in (seen_fields l.fields) l.fn.size
    ≡ views_from (seen_fields l.fields) (l.count - l.number) l.number tree)
    × (l.count ≡ view_count (seen_fields l.fields)) × IsTree tree × (length tree ≡ l.number + 1) × DepthsAre l.depths tree
    × (length l.depths ≡ 32)

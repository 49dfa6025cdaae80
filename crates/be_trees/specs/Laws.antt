-- What is proved of the lines of archives beside the calls that write and read them.
use Rattle.std.specs.Prelude.{◌≡◌, ℕ, List, Ok}
use Rattle.be_archive.specs.Laws.{IsWindowTree}
use Rattle.be_views.specs.Trees.{Tree}
use Rattle.be_trees.specs.ArchiveLine.{IsArchiveLine}
use Rattle.be_trees.specs.Reading.{tree_of_line}

-- only the line of a tree's archive is read as that tree
abbrev pub OnlyItsLine : Type 0
OnlyItsLine = (tree : Tree) (line : List ℕ) → tree_of_line line ≡ Ok tree → IsArchiveLine tree line

-- and it is read so
abbrev pub ComesBack : Type 0
ComesBack =
    (tree : Tree) (line : List ℕ) → IsWindowTree tree → IsArchiveLine tree line
    → tree_of_line line ≡ Ok tree

-- What is proved of archives beside the calls that write and read them.
use Rattle.std.specs.Prelude.{◌≡◌, pos, ◌≤ℤ◌, Some, Ok, slice_get}
use Rattle.be_message.specs.Messages.{Message}
use Rattle.be_views.specs.Trees.{View, Tree}
use Rattle.be_views.specs.Whole.{IsTree, root_view}
use Rattle.be_archive.specs.Archives.{archived}
use Rattle.be_archive.specs.Reading.{tree_in}

-- only the archive of a tree is read as that tree
abbrev pub OnlyItsArchive : Type 0
OnlyItsArchive = (m : Message) (tree : Tree) → tree_in m ≡ Ok tree → m ≡ archived tree

-- a tree whose root is one of a window: it begins at (0, 0), isn't of negative size and follows
-- nothing
pub record IsWindowTree (tree : Tree) : Type 0 where
  pub whole : IsTree tree
  pub rooted : (root : View) → slice_get tree 0 ≡ Some root
      → root ≡ root_view root.frame.right root.frame.bottom
  pub wide : (root : View) → slice_get tree 0 ≡ Some root → pos 0 ≤ℤ root.frame.right
  pub high : (root : View) → slice_get tree 0 ≡ Some root → pos 0 ≤ℤ root.frame.bottom

-- and it comes back from its archive as it was
abbrev pub ComesBack : Type 0
ComesBack = (tree : Tree) → IsWindowTree tree → tree_in (archived tree) ≡ Ok tree

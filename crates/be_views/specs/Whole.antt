-- What holds of every tree, and the tree with one more view.
use Rattle.std.specs.Prelude.{◌≡◌, ◌+◌, ◌<◌, ◌≤◌, ℕ, zero, suc, ℤ, pos, [], ◌∷◌, ◌++◌, length}
use Rattle.std.specs.Prelude.{Option, Some, None, slice_get}
use Rattle.be_geom.specs.Places.{at_pixel}
use Rattle.be_geom.specs.declared.rect.Rect.{Rect}
use Rattle.be_follow.specs.declared.mode.Follow.{Follow}
use Rattle.be_follow.specs.declared.mode.Across.TheVariants as across
use Rattle.be_follow.specs.declared.mode.Down.TheVariants as down
use Rattle.be_views.specs.Trees.{View, Tree, left_top, parent_of}
use Rattle.be_views.specs.Resizing.{root_frame}

-- the root of a window whose last edges are so far from its first; it follows nothing
abbrev pub root_view : ℤ → ℤ → View
root_view width height =
    record {
      parent = None;
      frame = root_frame width height;
      mode = record { across = across.Left; down = down.Top };
    }

-- one more view, in front of its siblings
abbrev pub with_view : Tree → ℕ → Rect → Follow → Tree
with_view tree parent frame mode =
    tree ++ record { parent = Some parent; frame = frame; mode = mode } ∷ []

-- one more than the depth of the parent, if there is one
abbrev pub depth_above : (ℕ → ℕ) → Option ℕ → ℕ
depth_above depth (Some parent) = depth parent
depth_above depth None = 0

abbrev pub depth_in : (ℕ → ℕ) → Option View → ℕ
depth_in depth (Some view) = depth_above depth view.parent + 1
depth_in depth None = 0

-- climbs so many steps at most: as many as there are views are enough
abbrev pub depth_from : ℕ → Tree → ℕ → ℕ
depth_from zero tree v = 0
depth_from (suc steps) tree v = depth_in (depth_from steps tree) (slice_get tree v)

-- how deep a view is: the root is at depth 1 (the limit of 8 is this project's own)
unfoldable pub depth_of : Tree → ℕ → ℕ
depth_of tree v = depth_from (length tree) tree v

-- the root alone lies in no view, and each other view in one with a lower number
pub record AreParentsFirst (tree : Tree) : Type 0 where
  pub rooted : (v : ℕ) → v < length tree → parent_of tree v ≡ None → v ≡ 0
  pub below : (v parent : ℕ) → parent_of tree v ≡ Some parent → parent < v

-- the root's left top is the window's
pub record BeginsAtZero (tree : Tree) : Type 0 where
  pub corner : (root : View) → slice_get tree 0 ≡ Some root
      → left_top root.frame ≡ at_pixel (pos 0) (pos 0)

-- there are at most 32 views, a root among them that begins at (0, 0), parents stand before their
-- children, and none is deeper than 8 (the limits are this project's own)
pub record IsTree (tree : Tree) : Type 0 where
  pub some : 0 < length tree
  pub begins : BeginsAtZero tree
  pub few : length tree ≤ 32
  pub parents : AreParentsFirst tree
  pub depths : (v : ℕ) → depth_of tree v ≤ 8

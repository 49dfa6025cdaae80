-- The lines that say a view tree (this project's own).
use Rattle.std.specs.Prelude.{ℕ, ◌+◌, List, [], ◌∷◌, ◌++◌, codes, unwrap_or}
use Rattle.std.specs.Fmt.{decimal, signed_decimal}
use Rattle.be_follow.specs.declared.mode.Across.{Across}
use Rattle.be_follow.specs.declared.mode.Across.TheVariants as across
use Rattle.be_follow.specs.declared.mode.Down.{Down}
use Rattle.be_follow.specs.declared.mode.Down.TheVariants as down
use Rattle.be_geom.specs.declared.rect.Rect.{Rect}
use Rattle.be_views.specs.Trees.{View, Tree}
use Rattle.be_written.specs.Lines.{line_of}
use Rattle.be_written.specs.TraceText.{edge_words}

abbrev pub across_word : Across → List ℕ
across_word across.Left = codes "left"
across_word across.Right = codes "right"
across_word across.LeftRight = codes "leftright"
across_word across.Center = codes "hcenter"

abbrev pub down_word : Down → List ℕ
down_word down.Top = codes "top"
down_word down.Bottom = codes "bottom"
down_word down.TopBottom = codes "topbottom"
down_word down.Center = codes "vcenter"

-- a further view, by its number, its parent's, its frame and how this follows the parent's size
abbrev pub view_words : ℕ → View → List (List ℕ)
view_words k view =
    codes "view"
    ∷ decimal k
    ∷ decimal (unwrap_or view.parent 0)
    ∷ edge_words view.frame ++ across_word view.mode.across ∷ down_word view.mode.down ∷ []

-- further views, of which the first has the number k
unfoldable pub views_text : ℕ → List View → List ℕ
views_text k [] = []
views_text k (view ∷ views) = line_of (view_words k view) ++ views_text (k + 1) views

-- how far the root's last edges lie from its first
abbrev pub size_words : Rect → List (List ℕ)
size_words frame =
    codes "size" ∷ signed_decimal frame.right ∷ signed_decimal frame.bottom ∷ []

-- the root's size, and each further view
unfoldable pub tree_text : Tree → List ℕ
tree_text [] = []
tree_text (root ∷ views) = line_of (size_words root.frame) ++ views_text 1 views

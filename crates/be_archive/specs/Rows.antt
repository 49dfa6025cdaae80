-- What the code reads of a view, and how deep it would lie.
use Rattle.std.specs.Prelude.{◌≡◌, ℕ, ◌+◌, ◌<◌, List, length, Option, Some, None}
use Rattle.std.specs.Prelude.{slice_index_or, unwrap_or, if◌then◌else◌}
use Rattle.be_views.specs.Trees.{View, Tree}
use Rattle.be_views.specs.Whole.{depth_of}
use Rattle.be_archive.specs.Reading.{can_follow}
use Rattle.be_archive.specs.declared.rows.Row.{Row}

abbrev pub seen_row : Row → View
seen_row row = record { parent = Some row.parent; frame = row.frame; mode = row.mode }

-- the views of the tree are so deep
abbrev pub DepthsAre : List ℕ → Tree → Type 0
DepthsAre depths tree =
    (v : ℕ) → v < length tree → slice_index_or depths v 0 ≡ depth_of tree v

-- how deep a view lies behind these, if it can follow them
abbrev pub depth_behind : Tree → Option View → Option ℕ
depth_behind tree (Some view) =
    if can_follow tree view then Some (depth_of tree (unwrap_or view.parent 0) + 1) else None
depth_behind tree None = None

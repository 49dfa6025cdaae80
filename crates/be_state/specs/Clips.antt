-- What is kept of a clip beside its region (this project's own).
use Rattle.std.specs.Prelude.{List, Option, Some, None, map}
use Rattle.be_geom.specs.declared.rect.Rect.{Rect}
use Rattle.be_region.specs.Regions.{HasNone}
use Rattle.be_region.specs.Frames.{IsFrame}
use Rattle.be_geom.specs.Rects.{moved_rect}
use Rattle.be_state.specs.declared.clip.Placed.{Placed}

-- the smallest rectangle round the region, which an empty one doesn't have
abbrev pub IsFramed : List Rect → Option Rect → Type 0
IsFramed rects (Some frame) = IsFrame frame rects
IsFramed rects None = HasNone rects

-- a clip's region where it lies
abbrev pub shown_clip : Placed → List Rect
shown_clip clip = map (λ r. moved_rect r clip.right clip.down) clip.region.now

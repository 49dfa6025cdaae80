-- The pixels of rectangles that stand one after another.
use Rattle.std.proofs.Common.{◌≡◌, ℕ, ◌+◌, ◌<◌, ℤ, pos, ◌||◌, List, ◌++◌, length, get_or, take}
use Rattle.std.proofs.lemmas.List.Folds.{list_any-append, list_any_more}
use Rattle.be_geom.specs.declared.rect.Rect.{Rect}
use Rattle.be_geom.specs.Rects.{rect_has}
use Rattle.be_region.specs.Regions.{region_has}

-- what stands past the end of a list
abbrev pub no_rect : Rect
no_rect = record { left = pos 0; top = pos 0; right = pos 0; bottom = pos 0 }

pub has-append : (as' bs : List Rect) (x y : ℤ) → region_has (as' ++ bs) x y ≡ (region_has as' x y || region_has bs x y)
has-append as' bs x y = list_any-append (λ r. rect_has r x y) as' bs

pub has_more : (rs : List Rect) (i : ℕ) (d : Rect) (x y : ℤ) → i < length rs → region_has (take (i + 1) rs) x y ≡ (region_has (take i rs) x y || rect_has (get_or rs i d) x y)
has_more rs i d x y h = list_any_more (λ r. rect_has r x y) rs i d h

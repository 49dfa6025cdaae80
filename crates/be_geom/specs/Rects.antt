-- Rectangles as sets of pixels (The Be Book: BRect, whose right and bottom edges belong to it;
-- whole numbers and their range are this project's own).
use Rattle.std.specs.Prelude.{◌≡◌, ℤ, Bool, false, ◌+ℤ◌, ◌&&◌}
use Rattle.be_geom.specs.declared.rect.Rect.{Rect}
use Rattle.be_geom.specs.Points.{in_range, between}

-- the pixel (x, y) is in the rectangle, whose edges belong to it
abbrev pub rect_has : Rect → ℤ → ℤ → Bool
rect_has r x y = between r.left x r.right && between r.top y r.bottom

-- no pixel is in the rectangle
abbrev pub HasNoPixel : Rect → Type 0
HasNoPixel r = (x y : ℤ) → rect_has r x y ≡ false

-- the pixels of the first are those that the two others have in common
abbrev pub HasPixelsOfBoth : Rect → Rect → Rect → Type 0
HasPixelsOfBoth r a b = (x y : ℤ) → rect_has r x y ≡ (rect_has a x y && rect_has b x y)

-- no pixel is in both rectangles
abbrev pub AreDisjoint : Rect → Rect → Type 0
AreDisjoint a b = (x y : ℤ) → (rect_has a x y && rect_has b x y) ≡ false

-- the same pixels, each dx further right and dy further down
abbrev pub moved_rect : Rect → ℤ → ℤ → Rect
moved_rect r dx dy =
    record {
      left = r.left +ℤ dx;
      top = r.top +ℤ dy;
      right = r.right +ℤ dx;
      bottom = r.bottom +ℤ dy;
    }

-- each coordinate of the rectangle lies in its range
abbrev pub rect_fits : Rect → Bool
rect_fits r = in_range r.left && in_range r.top && in_range r.right && in_range r.bottom

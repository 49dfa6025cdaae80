-- Where inks are, and which colours they have (this project's own).
use Rattle.std.specs.Prelude.{◌≡◌, ℕ, ℤ, pos, negsuc, ◌-ℤ◌, ◌≤ℤ◌, Bool, true, false, ◌&&◌, nat_lt}
use Rattle.std.specs.Prelude.{List, slice_index}
use Rattle.be_geom.specs.declared.rect.Rect.{Rect}
use Rattle.be_geom.specs.Rects.{rect_has}
use Rattle.be_bitmap.specs.Pictures.{Picture, bitmap_pixel}
use Rattle.be_color.specs.declared.colors.Color.{Color}
use Rattle.be_shape.specs.Rasters.{raster_has}
use Rattle.be_shape.specs.Runs.{HasPixelOfRow}
use Rattle.be_shape.specs.declared.Raster.{Raster}
use Rattle.be_shape.specs.declared.Raster.TheVariants.{Fill, Frame, Line}
use Rattle.be_span.specs.Slices.{color_or_clear, mask_bit}
use Rattle.be_descent.specs.declared.way.Way.{Way}

-- ---- pictures

-- the rectangle of a picture whose left top is at (0, 0)
abbrev pub frame_of : Picture → Rect
frame_of p = record {
  left = pos 0;
  top = pos 0;
  right = pos p.width -ℤ pos 1;
  bottom = pos p.height -ℤ pos 1;
}

-- the colour of a pixel in a picture whose left top lies that way; outside it is transparent
abbrev pub picture_color : Picture → Way → ℤ → ℤ → Color
picture_color p way x y = color_or_clear (bitmap_pixel p (x -ℤ way.right) (y -ℤ way.down))

-- ---- masks

-- in seven rows of 64 bits, a mask a row, the bit of a column and a row is set
abbrev pub masks_bit : List ℕ → ℤ → ℤ → Bool
masks_bit masks (pos column) (pos row) = nat_lt row 7 && mask_bit (slice_index masks row) column
masks_bit masks (pos column) (negsuc row) = false
masks_bit masks (negsuc column) row = false

-- the bit of a pixel of the screen is set, where the masks begin that way
abbrev pub masks_have : List ℕ → Way → ℤ → ℤ → Bool
masks_have masks way x y = masks_bit masks (x -ℤ way.right) (y -ℤ way.down)

-- ---- shapes

-- the shape, which lies that way, has a pixel of the screen
abbrev pub shape_has : Raster → Way → ℤ → ℤ → Bool
shape_has raster way x y = raster_has raster (x -ℤ way.right) (y -ℤ way.down)

-- of the area these are the rows that the shape has; it has pixels in each of them
pub record AreRowsIn (raster : Raster) (way : Way) (area rows : Rect) : Type 0 where
  pub left : rows.left ≡ area.left
  pub right : rows.right ≡ area.right
  pub top : area.top ≤ℤ rows.top
  pub down : rows.top ≤ℤ rows.bottom
  pub bottom : rows.bottom ≤ℤ area.bottom
  pub each : (y : ℤ) → rows.top ≤ℤ y → y ≤ℤ rows.bottom → HasPixelOfRow raster (y -ℤ way.down)
  pub within : (x y : ℤ) → rect_has area x y ≡ true → shape_has raster way x y ≡ true
      → (rows.top ≤ℤ y) × (y ≤ℤ rows.bottom)

-- the shape is a line
abbrev pub IsLine : Raster → Type 0
IsLine (Fill r) = ⊥
IsLine (Frame r size) = ⊥
IsLine (Line from to size) = Unit {0}

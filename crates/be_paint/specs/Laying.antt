-- What an ink of the code stands for, and where a text is on the screen (this project's own).
use Rattle.std.specs.Prelude.{◌≡◌, ◌<◌, ℕ, ℤ, pos, ◌+ℤ◌, ◌-ℤ◌, Bool, List, Option, length}
use Rattle.std.specs.Prelude.{slice_index}
use Rattle.be_color.specs.declared.colors.Color.{Color}
use Rattle.be_span.specs.Painting.{Rule}
use Rattle.be_descent.specs.declared.reach.Reach as descents
use Rattle.be_descent.specs.declared.way.Way.{Way}
use Rattle.be_geom.specs.declared.point.Point.{Point}
use Rattle.be_geom.specs.Places.{at_pixel}
use Rattle.be_span.specs.declared.brush.Brush.{Brush}
use Rattle.be_span.specs.Slices as slices
use Rattle.be_state.specs.declared.State.{State}
use Rattle.be_paint.specs.Inks as inks
use Rattle.be_paint.specs.declared.ink.Ink.{Ink}
use Rattle.be_paint.specs.declared.ink.Ink.TheVariants.{Shape, Text, Image}
use Rattle.be_paint.specs.declared.reach.Reach.{Reach}
use Rattle.be_paint.specs.declared.reach.Site.{Site}
use Rattle.be_paint.specs.declared.texts.Text as texts

-- what an ink of the code stands for
abbrev pub ink_of : Ink → inks.Ink
ink_of (Shape raster pattern) = inks.shape raster pattern
ink_of (Text codes) = inks.text codes.now
ink_of (Image picture corner) = inks.image picture.now corner

-- with what a state paints
abbrev pub brush_of : State → Brush
brush_of s = record { mode = s.mode; high = s.high; low = s.low }

-- where a view may draw, as a descent asks for it
abbrev pub descent_of : Reach → Site → descents.Reach
descent_of g site = record {
  window = g.window;
  tree = g.tree;
  view = g.view;
  states = g.states;
  corner = record { right = g.window.x +ℤ site.view.right; down = g.window.y +ℤ site.view.down };
  session = g.session;
}

-- ---- what is laid

-- what an ink lays on a pixel of the screen, where drawing counts from a way on
abbrev pub source_on : inks.Ink → State → Point → Way → ℤ → ℤ → Option Color
source_on ink s window way x y =
    inks.source_at ink s (at_pixel (x -ℤ window.x) (y -ℤ window.y))
    (at_pixel (x -ℤ way.right) (y -ℤ way.down))

-- what becomes of the pixel
abbrev pub laid : inks.Ink → State → Point → Way → Rule
laid ink s window way x y c = inks.laid_on_cell s c (source_on ink s window way x y)

-- ---- texts

-- a glyph of the text has a pixel of the screen
abbrev pub text_at : texts.Text → ℤ → ℤ → Bool
text_at text x y =
    inks.text_has text.codes.now text.pen.x text.pen.y (x -ℤ text.way.right) (y -ℤ text.way.down)

-- each of seven masks has the bits of 64 pixels of its row of a text, from a column of drawing on
pub record AreMasksOf (codes : List ℕ) (pen_x pen_y x : ℤ) (masks : List ℕ) : Type 0 where
  pub seven : length masks ≡ 7
  pub each : (k row : ℕ) → k < 64 → row < 7 → slices.mask_bit (slice_index masks row) k
      ≡ inks.text_has codes pen_x pen_y (x +ℤ pos k) (pen_y -ℤ pos 6 +ℤ pos row)

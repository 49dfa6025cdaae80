-- What a picture draws (The Be Book: BPicture, and drawing into a BBitmap).
use Rattle.std.specs.Prelude.{ℕ, ℤ, pos, ◌*◌, ◌-ℤ◌, false, List, [], ◌∷◌, ◌++◌, fold, map}
use Rattle.std.specs.Prelude.{replicate, Option, None}
use Rattle.std.specs.Option.{option_map}
use Rattle.be_bitmap.specs.Pictures.{Picture}
use Rattle.be_color.specs.declared.colors.Color.TheVariants.{Solid}
use Rattle.be_color.specs.declared.colors.Rgb.{Rgb}
use Rattle.be_command.specs.declared.Command.{Command}
use Rattle.be_command.specs.declared.Command.TheVariants.{Push, Pop}
use Rattle.be_command.specs.Effects.{Deed, Effect, at_view, changes, ends_update, effect_of}
use Rattle.be_follow.specs.declared.mode.Across.TheVariants.{Left}
use Rattle.be_follow.specs.declared.mode.Down.TheVariants.{Top}
use Rattle.be_geom.specs.declared.rect.Rect.{Rect}
use Rattle.be_geom.specs.Rects.{rect_has}
use Rattle.be_pane.specs.Panes.{Pane, first_pane}
use Rattle.be_span.specs.declared.Cell.{Cell}
use Rattle.be_span.specs.Screen.{cell_at, each_cell}
use Rattle.be_state.specs.Stacks.{origin_point}
use Rattle.be_twin.specs.Executed.{executed_cell, pane_after, sight_of}
use Rattle.be_views.specs.Trees.{Tree}
use Rattle.be_picture.specs.Recording.{open_pushes}

-- ---- a bitmap off the screen

-- its size, what is kept of its one view, and its pixels in row order
pub record OffScreen : Type 0 where
  pub width : ℕ
  pub height : ℕ
  pub pane : Pane
  pub cells : List Cell

abbrev pub white : Rgb
white = record { red = 255; green = 255; blue = 255 }

-- all white, with one view that draws as every view does at first
abbrev pub blank : ℕ → ℕ → OffScreen
blank width height = record {
  width = width;
  height = height;
  pane = first_pane (Solid white ∷ []);
  cells = replicate (width * height) (record { rgb = white; dirty = false });
}

abbrev pub bounds : OffScreen → Rect
bounds off = record {
  left = pos 0;
  top = pos 0;
  right = pos off.width -ℤ pos 1;
  bottom = pos off.height -ℤ pos 1;
}

-- the one view covers it
abbrev pub tree_of : OffScreen → Tree
tree_of off =
    record { parent = None; frame = bounds off; mode = record { across = Left; down = Top } } ∷ []

-- the colour of a pixel; none outside
abbrev pub pixel_at : OffScreen → ℤ → ℤ → Option Rgb
pixel_at off x y = option_map (λ c. c.rgb) (cell_at off.width off.cells x y)

-- its pixels as a bitmap
abbrev pub bitmap_of : OffScreen → Picture
bitmap_of off = record {
  width = off.width;
  height = off.height;
  colors = map (λ c. Solid c.rgb) off.cells;
}

-- ---- commands

-- what a deed at a view makes of it, as in a window that owns every pixel
abbrev pub done_at : List Picture → OffScreen → ℕ → Deed → OffScreen
done_at bitmaps off v deed =
    let sight = sight_of origin_point (tree_of off) off.pane v in
    record off {
      pane = pane_after bitmaps deed v sight off.pane;
      cells = each_cell off.width
          (executed_cell bitmaps (rect_has (bounds off)) off.pane.colors deed sight) off.cells;
    }

-- a picture has no other commands
abbrev pub done_by : List Picture → OffScreen → Effect → OffScreen
done_by bitmaps off (at_view v deed) = done_at bitmaps off v deed
done_by bitmaps off (changes change) = off
done_by bitmaps off ends_update = off

-- after these commands, one after the other
unfoldable pub after_commands : List Picture → OffScreen → List Command → OffScreen
after_commands bitmaps off commands = fold (λ now c. done_by bitmaps now (effect_of c)) off commands

-- ---- pictures

-- the state is saved, and what the picture saved and left is restored, and then that state
abbrev pub played : List Command → List Command
played picture =
    (Push 0 ∷ picture) ++ (replicate (open_pushes picture) (Pop 0) ++ Pop 0 ∷ [])

-- what a picture makes of a bitmap off the screen
abbrev pub played_on : List Picture → OffScreen → List Command → OffScreen
played_on bitmaps off picture = after_commands bitmaps off (played picture)

-- the cells that it draws on a new one
abbrev pub drawn : List Command → ℕ → ℕ → List Picture → List Cell
drawn picture width height bitmaps = (played_on bitmaps (blank width height) picture).cells

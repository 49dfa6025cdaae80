-- Who owns a pixel of the screen (The Be Book: a window covers those behind it).
use Rattle.std.specs.Prelude.{ℕ, ℤ, pos, Bool, ◌&&◌, List, Option, None, slice_get, find, int_le}
use Rattle.std.specs.Prelude.{int_lt, if◌then◌else◌}
use Rattle.be_geom.specs.Rects.{rect_has}
use Rattle.be_stack.specs.declared.window.Window.{Window}
use Rattle.be_stack.specs.Windows.{Windows, passes, is_shown_window}

-- a column or a row is on a screen with so many of them
abbrev pub is_on_screen : ℕ → ℤ → Bool
is_on_screen size z = int_le (pos 0) z && int_lt z (pos size)

-- a window covers the pixels of its frame while it is shown
abbrev pub covers_pixel : ℤ → ℤ → Window → Bool
covers_pixel x y window = is_shown_window window && rect_has window.frame x y

-- the same of a window by its number
abbrev pub covers : List Window → ℤ → ℤ → ℕ → Bool
covers windows x y w = passes (covers_pixel x y) (slice_get windows w)

-- the owner of a pixel of the screen: the first window of the order that covers it, or nobody,
-- where the desktop shows
unfoldable pub owner_at : Windows → ℤ → ℤ → Option ℕ
owner_at s x y =
    if is_on_screen s.width x && is_on_screen s.height y then find (covers s.windows x y) s.order
    else None

-- The windows of a screen, and what is kept of each (The Be Book: BWindow).
use Rattle.std.specs.Prelude.{ℕ, ℤ, pos, Bool, false, ◌==◌, ◌&&◌, ◌-ℤ◌, not, List, [], ◌∷◌, ◌++◌}
use Rattle.std.specs.Prelude.{Option, Some, None, slice_get, slice_set}
use Rattle.be_geom.specs.declared.rect.Rect.{Rect}
use Rattle.be_geom.specs.Points.{between}
use Rattle.be_stack.specs.declared.flags.WindowFlags.{WindowFlags}
use Rattle.be_stack.specs.declared.window.Window.{Window}

pub record Windows : Type 0 where
  -- the screen's size
  pub width : ℕ
  pub height : ℕ
  -- the windows that aren't closed, from front to back
  pub order : List ℕ
  -- each window by its number, closed ones among them
  pub windows : List Window
  -- the window that is active, if one is
  pub active : Option ℕ

-- a screen without windows
abbrev pub empty_windows : ℕ → ℕ → Windows
empty_windows width height =
    record { width = width; height = height; order = []; windows = []; active = None }

-- there is a window, and it passes the test
abbrev pub passes : (Window → Bool) → Option Window → Bool
passes test (Some window) = test window
passes test None = false

-- there is a window of this number, and it isn't closed
abbrev pub is_open : List Window → ℕ → Bool
is_open windows w = passes (λ window. not window.closed) (slice_get windows w)

-- a window is shown where it isn't closed and its hide count is 0
abbrev pub is_shown_window : Window → Bool
is_shown_window window = not window.closed && window.hides == 0

-- there is a window of this number, and it is shown
abbrev pub is_shown : List Window → ℕ → Bool
is_shown windows w = passes is_shown_window (slice_get windows w)

-- a width or a height, as the last edge less the first
abbrev pub is_size : ℤ → Bool
is_size size = between (pos 0) size (pos 32767)

-- a window may be made with a frame that isn't empty and whose width and height are at most 32767
abbrev pub is_window_frame : Rect → Bool
is_window_frame frame = is_size (frame.right -ℤ frame.left) && is_size (frame.bottom -ℤ frame.top)

-- a new window is in front of the others, hidden once
abbrev pub with_new_window : Windows → ℕ → Rect → WindowFlags → Windows
with_new_window s w frame flags =
    record s {
      order = w ∷ s.order;
      windows =
          s.windows ++ record { frame = frame; hides = 1; flags = flags; closed = false } ∷ [];
    }

-- something else is kept of a window
abbrev pub with_window : Windows → ℕ → Window → Windows
with_window s w window = record s { windows = slice_set s.windows w window }

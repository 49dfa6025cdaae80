-- What a change makes of the windows (The Be Book: the calls of BWindow; that Show and Hide neither
-- change the order nor activate, and that a window which is hidden or closed isn't active any more,
-- is this project's own).
use Rattle.std.specs.Prelude.{ℕ, ℤ, Bool, true, ◌==◌, ◌&&◌, ◌||◌, ◌+◌, ◌-◌, ◌+ℤ◌, ◌-ℤ◌, not, min}
use Rattle.std.specs.Prelude.{List, ◌∷◌, Option, Some, None, Result, Ok, Err, slice_get}
use Rattle.std.specs.Prelude.{if◌then◌else◌}
use Rattle.std.specs.Int.RustNames.{bit_and}
use Rattle.be_geom.specs.declared.change.Change.{Change}
use Rattle.be_geom.specs.declared.change.Change.TheVariants.{Show, Hide, MoveTo, MoveBy, ResizeTo}
use Rattle.be_geom.specs.declared.change.Change.TheVariants.{Activate, Behind, Focus, Close}
use Rattle.be_geom.specs.declared.rect.Rect.{Rect}
use Rattle.be_geom.specs.Rects.{rect_fits, moved_rect}
use Rattle.be_stack.specs.declared.fault.ChangeFault.{ChangeFault}
use Rattle.be_stack.specs.declared.fault.ChangeFault.TheVariants.{Gone, OffRange}
use Rattle.be_stack.specs.declared.window.Window.{Window}
use Rattle.be_stack.specs.Order.{others, put_behind}
use Rattle.be_stack.specs.Windows.{Windows, is_open, is_shown_window, with_window}

-- ---- frames

-- a rectangle with the same left top corner, whose last edges are so far from the first
abbrev pub resized_rect : Rect → ℤ → ℤ → Rect
resized_rect frame width height =
    record frame { right = frame.left +ℤ width; bottom = frame.top +ℤ height }

-- a frame, where each of its coordinates lies in -32768 to 32767
abbrev pub within_range : Rect → Result Rect ChangeFault
within_range frame = if rect_fits frame then Ok frame else Err OffRange

-- the window with another frame, which has to stay in the range
abbrev pub framed : Windows → ℕ → Window → Result Rect ChangeFault → Result Windows ChangeFault
framed s w window (Ok frame) = Ok (with_window s w (record window { frame = frame }))
framed s w window (Err fault) = Err fault

-- ---- the order and the active window

-- the active window, or none where it was window w
abbrev pub active_without : ℕ → Option ℕ → Option ℕ
active_without w (Some a) = if a == w then None else Some a
active_without w None = None

-- hidden once more, where a count at its last number stays; a window that is hidden isn't active
abbrev pub hidden : Windows → ℕ → Window → Windows
hidden s w window =
    record (with_window s w (record window { hides = min (window.hides + 1) 4294967295 })) {
      active = active_without w s.active;
    }

-- a window that is activated becomes the active one where it is shown and doesn't avoid the focus,
-- by the flag of worth 2 (its worth is this project's own)
abbrev pub takes_focus : Window → Bool
takes_focus window = is_shown_window window && not (bit_and window.flags.0 2 == 2)

-- in front of the others, and active where it takes the focus; else the active window stays
abbrev pub activated : Windows → ℕ → Window → Windows
activated s w window =
    record s {
      order = w ∷ others w s.order;
      active = if takes_focus window then Some w
          else s.active;
    }

-- directly behind another; behind itself changes nothing
abbrev pub sent_behind : Windows → ℕ → ℕ → Windows
sent_behind s w front =
    if w == front then s else record s { order = put_behind front w (others w s.order) }

-- out of the order for good, and not active
abbrev pub closed : Windows → ℕ → Window → Windows
closed s w window =
    record (with_window s w (record window { closed = true })) {
      order = others w s.order;
      active = active_without w s.active;
    }

-- ---- changes

-- a change is asked of a window that is closed or isn't there, or asks it to go behind such a one
abbrev pub is_gone : List Window → ℕ → Change → Bool
is_gone windows w Show = not (is_open windows w)
is_gone windows w Hide = not (is_open windows w)
is_gone windows w (MoveTo corner) = not (is_open windows w)
is_gone windows w (MoveBy dx dy) = not (is_open windows w)
is_gone windows w (ResizeTo width height) = not (is_open windows w)
is_gone windows w Activate = not (is_open windows w)
is_gone windows w (Behind front) = not (is_open windows w) || not (is_open windows front)
is_gone windows w (Focus view) = not (is_open windows w)
is_gone windows w Close = not (is_open windows w)

-- the windows after a change of window w, which isn't gone
abbrev pub changed : Windows → ℕ → Window → Change → Result Windows ChangeFault
changed s w window Show = Ok (with_window s w (record window { hides = window.hides - 1 }))
changed s w window Hide = Ok (hidden s w window)
changed s w window (MoveTo corner) =
    framed s w window (within_range
    (moved_rect window.frame (corner.x -ℤ window.frame.left) (corner.y -ℤ window.frame.top)))
changed s w window (MoveBy dx dy) = framed s w window (within_range (moved_rect window.frame dx dy))
changed s w window (ResizeTo width height) =
    framed s w window (within_range (resized_rect window.frame width height))
changed s w window Activate = Ok (activated s w window)
changed s w window (Behind front) = Ok (sent_behind s w front)
changed s w window (Focus view) = Ok s
changed s w window Close = Ok (closed s w window)

abbrev pub changed_at : Windows → ℕ → Option Window → Change → Result Windows ChangeFault
changed_at s w (Some window) change = changed s w window change
changed_at s w None change = Err Gone

-- the windows after a change of window w, or why it is refused: Gone is tested before OffRange
unfoldable pub windows_after : Windows → ℕ → Change → Result Windows ChangeFault
windows_after s w change =
    if is_gone s.windows w change then Err Gone else changed_at s w (slice_get s.windows w) change

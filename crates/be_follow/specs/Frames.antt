-- The frame of a view after its parent's size has changed (The Be Book: the following modes of
-- BView; that a resize makes no stop on its way is this project's own).
use Rattle.std.specs.Prelude.{◌≡◌, ℤ, ◌+ℤ◌}
use Rattle.be_geom.specs.declared.rect.Rect.{Rect}
use Rattle.be_follow.specs.declared.mode.Follow.{Follow}
use Rattle.be_follow.specs.Shifts.{left_shift, right_shift, top_shift, bottom_shift}

-- the frame with each edge moved by so much
abbrev pub shifted_frame : Rect → (left top right bottom : ℤ) → Rect
shifted_frame frame left top right bottom = record {
  left = frame.left +ℤ left;
  top = frame.top +ℤ top;
  right = frame.right +ℤ right;
  bottom = frame.bottom +ℤ bottom;
}

-- the frame that a view has after its parent goes from old_w by old_h pixels to new_w by new_h
abbrev pub followed_frame : Rect → Follow → (old_w old_h new_w new_h : ℤ) → Rect
followed_frame frame mode old_w old_h new_w new_h =
    shifted_frame frame (left_shift mode.across old_w new_w) (top_shift mode.down old_h new_h)
    (right_shift mode.across old_w new_w) (bottom_shift mode.down old_h new_h)

-- from size a to size b and on to size c a frame goes where it goes from a to c at once
abbrev pub AnyWayIsTheSame : Type 0
AnyWayIsTheSame =
    (frame : Rect) (mode : Follow) (a_w a_h b_w b_h c_w c_h : ℤ)
    → followed_frame (followed_frame frame mode a_w a_h b_w b_h) mode b_w b_h c_w c_h
    ≡ followed_frame frame mode a_w a_h c_w c_h

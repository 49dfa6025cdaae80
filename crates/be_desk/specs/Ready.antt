-- What is made ready of a window's pixels (this project's own).
use Rattle.std.specs.Prelude.{◌≡◌, ℤ, List}
use Rattle.be_geom.specs.declared.rect.Rect.{Rect}
use Rattle.be_span.specs.Spans.{Spans}
use Rattle.be_desk.specs.declared.shift.Shift.{Shift}

-- it goes that way, from these pixels to those, with these newly exposed
pub record IsShiftBy (dx dy : ℤ) (from next : List Rect) (fresh : List Spans) (shift : Shift)
    : Type 0 where
  pub right : shift.dx ≡ dx
  pub down : shift.dy ≡ dy
  pub before : shift.from ≡ from
  pub after : shift.next ≡ next
  pub exposed : shift.fresh.items ≡ fresh

-- Which letters invoke a button (The Be Book: BControl, Invoke; the rule is this project's own).
use Rattle.std.specs.Prelude.{◌≡◌, pos, negsuc, ◌==◌, ◌&&◌, ◌||◌, Bool, false, not, List, [], ◌∷◌}
use Rattle.std.specs.Prelude.{if◌then◌else◌, codes, Result, Ok, Err}
use Rattle.std.specs.List.{list_any}
use Rattle.be_geom.specs.declared.rect.Rect.{Rect}
use Rattle.be_geom.specs.Rects.{rect_has}
use Rattle.be_message.specs.declared.fault.FindFault.{FindFault}
use Rattle.be_message.specs.declared.kind.Kind.TheVariants as kind
use Rattle.be_message.specs.Fields.{found}
use Rattle.be_message.specs.Messages.{Datum, bool, int, text, point, rect, message, Message}
use Rattle.be_message.specs.Words.{mouse_down, mouse_up, mouse_moved}
use Rattle.be_control.specs.declared.button.Pressed.{Pressed}
use Rattle.be_control.specs.declared.button.Pressed.TheVariants.{Idle, Armed, Invoked}

-- a letter that a window takes
pub record Heard : Type 0 where
  -- its target is the button's view
  pub own : Bool
  pub message : Message

-- ---- one letter

abbrev pub is_within : Rect → Datum → Bool
is_within bounds (point p) = rect_has bounds p.x p.y
is_within bounds (bool b) = false
is_within bounds (int z) = false
is_within bounds (text t) = false
is_within bounds (rect r) = false
is_within bounds (message what fs) = false

abbrev pub is_two : Datum → Bool
is_two (int (pos n)) = n == 2
is_two (int (negsuc n)) = false
is_two (bool b) = false
is_two (text t) = false
is_two (point p) = false
is_two (rect r) = false
is_two (message what fs) = false

-- what was found passes the test
abbrev pub passes : (Datum → Bool) → Result Datum FindFault → Bool
passes test (Ok d) = test d
passes test (Err why) = false

-- its first point under `where` is one of the bounds
abbrev pub is_at : Rect → Message → Bool
is_at bounds m = passes (is_within bounds) (found m (codes "where") kind.Point 0)

-- its first number under `transit` is that of a pointer that left
abbrev pub tells_exit : Message → Bool
tells_exit m = passes is_two (found m (codes "transit") kind.Int 0)

-- for the button, and where its bounds are
abbrev pub is_inside : Rect → Heard → Bool
is_inside bounds h = h.own && is_at bounds h.message

abbrev pub is_press : Rect → Heard → Bool
is_press bounds h = h.message.what == mouse_down && is_inside bounds h

abbrev pub is_release : Rect → Heard → Bool
is_release bounds h = h.message.what == mouse_up && is_inside bounds h

-- the pointer left the button
abbrev pub is_exit : Heard → Bool
is_exit h = h.own && (h.message.what == mouse_moved) && tells_exit h.message

-- it ends a press, whatever its target: a button down or up, or the pointer's leaving
abbrev pub breaks : Heard → Bool
breaks h = h.message.what == mouse_down || h.message.what == mouse_up || is_exit h

-- ---- all letters

-- of these letters, in order, one is a press with none behind it that breaks it
unfoldable pub is_armed : Rect → List Heard → Bool
is_armed bounds [] = false
is_armed bounds (h ∷ hs) = (is_press bounds h && not (list_any breaks hs)) || is_armed bounds hs

-- a letter invokes the button behind these: it is a release of a press that none of them broke
unfoldable pub invokes : Rect → List Heard → Heard → Bool
invokes bounds before h = is_release bounds h && is_armed bounds before

-- what a letter behind these is to the button: a press arms it, whatever was before
abbrev pub pressed_by : Rect → List Heard → Heard → Pressed
pressed_by bounds before h =
    if is_press bounds h then Armed
    else if invokes bounds before h then Invoked
    else Idle

-- ---- a button

pub record Button : Type 0 where
  pub bounds : Rect
  pub armed : Bool

-- the button has heard these letters, in order
abbrev pub HasHeard : Button → List Heard → Type 0
HasHeard button heard = button.armed ≡ is_armed button.bounds heard

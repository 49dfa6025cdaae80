-- The kinds of what a line says behind its first word, and how each is read (the language is this
-- project's own).
use Rattle.std.specs.Prelude.{ℕ, ℤ, pos, negsuc, zero, suc, Bool, false, if◌then◌else◌, List, []}
use Rattle.std.specs.Prelude.{◌∷◌, Option, Some, None, Result, Ok, Err, codes, is_some}
use Rattle.std.specs.Prelude.{unsigned_abs}
use Rattle.std.specs.Option.{ok_or}
use Rattle.std.specs.Str.{bytes_eq}
use Rattle.be_geom.specs.declared.point.Point.{Point}
use Rattle.be_geom.specs.declared.rect.Rect.{Rect}
use Rattle.be_geom.specs.Points.{between}
use Rattle.be_color.specs.declared.colors.Color.{Color}
use Rattle.be_color.specs.declared.modes.Mode as modes
use Rattle.be_color.specs.declared.patterns.Pattern.{Pattern}
use Rattle.be_lex.specs.Numbers.{is_number, number_of}
use Rattle.be_lex.specs.Names.{is_name}
use Rattle.be_lex.specs.Colors.{color_of}
use Rattle.be_lex.specs.Patterns.{pattern_of}
use Rattle.be_lex.specs.Modes.{mode_of}
use Rattle.be_command.specs.declared.fault.Fault.{Fault}
use Rattle.be_command.specs.declared.fault.Reason.{Reason}
use Rattle.be_command.specs.declared.fault.Reason.TheVariants.{Shape, Range, UnknownName}
use Rattle.be_command.specs.Names.{Known, number_in}
use Rattle.be_command.specs.Limits.{is_written_text}
use Rattle.be_command.specs.Faults.{both, said_as}
use Rattle.be_command.specs.Places.{At, word_at, after_word, said_at, next_said}

pub data Kind : Type 0 where
  -- names of what is there; the focus may also be `none`
  a_view : Kind
  a_window : Kind
  a_bitmap : Kind
  a_focus : Kind
  -- x and y, each -32768 to 32767
  a_point : Kind
  -- left, top, right and bottom, likewise
  a_rect : Kind
  -- right and down, each -65535 to 65535
  a_distance : Kind
  -- width and height, each 0 to 32767
  a_size : Kind
  -- 1 to 32
  a_pen_size : Kind
  a_pattern : Kind
  a_color : Kind
  a_mode : Kind
  -- the rest of the line
  a_text : Kind
  -- `none`, or 1 to 16 rectangles
  a_clip : Kind

-- what each kind says
abbrev pub Said : Kind → Type 0
Said a_view = ℕ
Said a_window = ℕ
Said a_bitmap = ℕ
Said a_focus = Option ℕ
Said a_point = Point
Said a_rect = Rect
Said a_distance = ℤ × ℤ
Said a_size = ℤ × ℤ
Said a_pen_size = ℕ
Said a_pattern = Pattern
Said a_color = Color
Said a_mode = modes.Mode
Said a_text = List ℕ
Said a_clip = Option (List Rect)

-- ---- one word

-- a name, and the number that it has
abbrev pub numbered_name : Option ℕ → List ℕ → Result ℕ Reason
numbered_name number word = if is_name word then ok_or number UnknownName else Err Shape

abbrev pub named : List (List ℕ) → List ℕ → Result ℕ Reason
named names word = numbered_name (number_in names word) word

-- a focus: a view, or `none`
abbrev pub as_focus : Result ℕ Reason → Result (Option ℕ) Reason
as_focus (Ok view) = Ok (Some view)
as_focus (Err reason) = Err reason

abbrev pub focus_named : List (List ℕ) → List ℕ → Result (Option ℕ) Reason
focus_named names word =
    if bytes_eq word (codes "none") then Ok None else as_focus (named names word)

-- a number from low to high
abbrev pub numbered : ℤ → ℤ → List ℕ → Result ℤ Reason
numbered low high word =
    if is_number word then (if between low (number_of word) high then Ok (number_of word)
    else Err Range) else Err Shape

abbrev pub coordinate : List ℕ → Result ℤ Reason
coordinate word = numbered (negsuc 32767) (pos 32767) word

-- a word that has one of so many forms
abbrev pub formed : {A : Type 0} → Option A → Result A Reason
formed read = ok_or read Shape

-- ---- several words

abbrev pub pair_at : (List ℕ → Result ℤ Reason) → At → Result (ℤ × ℤ) Fault
pair_at read at = both (next_said read at) (next_said read (after_word at))

abbrev pub after_pair : At → At
after_pair at = after_word (after_word at)

abbrev pub point_at : At → Result Point Fault
point_at at = said_as (λ p. record { x = p.0; y = p.1 }) (pair_at coordinate at)

abbrev pub rect_at : At → Result Rect Fault
rect_at at =
    said_as (λ r. record { left = r.0.0; top = r.0.1; right = r.1.0; bottom = r.1.1 })
    (both (pair_at coordinate at) (pair_at coordinate (after_pair at)))

abbrev pub after_rect : At → At
after_rect at = after_pair (after_pair at)

-- the rest of the line behind a space, at most 256 bytes, each 32 to 126; without that space it is
-- missing
abbrev pub rest_said : List ℕ → Result (List ℕ) Reason
rest_said [] = Err Shape
rest_said (space ∷ text) = if is_written_text text then Ok text else Err Shape

-- a rectangle, and one more as long as a word is left, but at most so many
abbrev pub rects_at : ℕ → At → Result (List Rect) Fault
rects_at zero at = Ok []
rects_at (suc most) at =
    said_as (λ rects. rects.0 ∷ rects.1)
    (both (rect_at at) (if is_some (word_at (after_rect at)) then rects_at most (after_rect at)
    else Ok []))

abbrev pub after_rects : ℕ → At → At
after_rects zero at = at
after_rects (suc most) at =
    if is_some (word_at (after_rect at)) then after_rects most (after_rect at) else after_rect at

-- the word is there, and is `none`
abbrev pub is_none_word : Option (List ℕ) → Bool
is_none_word (Some word) = bytes_eq word (codes "none")
is_none_word None = false

abbrev pub clip_at : At → Result (Option (List Rect)) Fault
clip_at at = if is_none_word (word_at at) then Ok None else said_as Some (rects_at 16 at)

abbrev pub after_clip : At → At
after_clip at = if is_none_word (word_at at) then after_word at else after_rects 16 at

-- ---- by kind

-- what stands here, read as of this kind
abbrev pub said : Known → (kind : Kind) → At → Result (Said kind) Fault
said known a_view at = next_said (named known.views) at
said known a_window at = next_said (named known.windows) at
said known a_bitmap at = next_said (named known.bitmaps) at
said known a_focus at = next_said (focus_named known.views) at
said known a_point at = point_at at
said known a_rect at = rect_at at
said known a_distance at = pair_at (numbered (negsuc 65534) (pos 65535)) at
said known a_size at = pair_at (numbered (pos 0) (pos 32767)) at
said known a_pen_size at = said_as unsigned_abs (next_said (numbered (pos 1) (pos 32)) at)
said known a_pattern at = next_said (λ word. formed (pattern_of word)) at
said known a_color at = next_said (λ word. formed (color_of word)) at
said known a_mode at = next_said (λ word. formed (mode_of word)) at
said known a_text at = said_at at.place (rest_said at.text)
said known a_clip at = clip_at at

-- and what is left behind it
abbrev pub after : Kind → At → At
after a_view at = after_word at
after a_window at = after_word at
after a_bitmap at = after_word at
after a_focus at = after_word at
after a_point at = after_pair at
after a_rect at = after_rect at
after a_distance at = after_pair at
after a_size at = after_pair at
after a_pen_size at = after_word at
after a_pattern at = after_word at
after a_color at = after_word at
after a_mode at = after_word at
after a_text at = record at { text = [] }
after a_clip at = after_clip at

-- ---- several kinds

abbrev pub SaidAll : List Kind → Type 0
SaidAll [] = Unit {0}
SaidAll (kind ∷ kinds) = Said kind × SaidAll kinds

abbrev pub said_all : Known → (kinds : List Kind) → At → Result (SaidAll kinds) Fault
said_all known [] at = Ok tt
said_all known (kind ∷ kinds) at = both (said known kind at) (said_all known kinds (after kind at))

abbrev pub after_all : List Kind → At → At
after_all [] at = at
after_all (kind ∷ kinds) at = after_all kinds (after kind at)

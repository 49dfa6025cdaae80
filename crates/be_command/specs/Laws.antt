-- What is written is read, and what is read is written once (this project's own).
use Rattle.std.specs.Prelude.{◌≡◌, ℕ, ◌<◌, ◌≤◌, pos, negsuc, true, List, [], ◌∷◌, length, Option}
use Rattle.std.specs.Prelude.{Some, None, Ok, codes}
use Rattle.be_geom.specs.declared.point.Point.{Point}
use Rattle.be_geom.specs.declared.rect.Rect.{Rect}
use Rattle.be_geom.specs.Points.{between, in_range}
use Rattle.be_lex.specs.Colors.{is_color}
use Rattle.be_lex.specs.Patterns.{is_pattern}
use Rattle.be_command.specs.declared.Command.{Command}
use Rattle.be_command.specs.declared.first_word.FirstWord.{FirstWord}
use Rattle.be_command.specs.Names.{Known, AreNames}
use Rattle.be_command.specs.Limits.{is_written_text}
use Rattle.be_command.specs.Kinds.{Kind, a_view, a_window, a_bitmap, a_focus, a_point, a_rect}
use Rattle.be_command.specs.Kinds.{a_distance, a_size, a_pen_size, a_pattern, a_color, a_mode}
use Rattle.be_command.specs.Kinds.{a_text, a_clip, Said, SaidAll}
use Rattle.be_command.specs.Forms.{form_of}
use Rattle.be_command.specs.Reading.{command_of}
use Rattle.be_command.specs.Spelling.{spelling}

-- names that may stand together: the root view and others that were added
pub record AreKnown (known : Known) : Type 0 where
  pub windows : AreNames known.windows
  pub beside_root : List (List ℕ)
  pub root_first : known.views ≡ codes "root" ∷ beside_root
  pub views : AreNames beside_root
  pub bitmaps : AreNames known.bitmaps

-- ---- what can be written: numbers within their limits, and what has a name

abbrev pub IsPoint : Point → Type 0
IsPoint p = (in_range p.x ≡ true) × (in_range p.y ≡ true)

abbrev pub IsRect : Rect → Type 0
IsRect r =
    ((in_range r.left ≡ true) × (in_range r.top ≡ true))
    × ((in_range r.right ≡ true) × (in_range r.bottom ≡ true))

abbrev pub AreRects : List Rect → Type 0
AreRects [] = Unit {0}
AreRects (r ∷ rects) = IsRect r × AreRects rects

abbrev pub IsClip : Option (List Rect) → Type 0
IsClip None = Unit {0}
IsClip (Some rects) = (1 ≤ length rects) × ((length rects ≤ 16) × AreRects rects)

abbrev pub IsFocus : List (List ℕ) → Option ℕ → Type 0
IsFocus views None = Unit {0}
IsFocus views (Some v) = v < length views

abbrev pub IsWithin : Known → (kind : Kind) → Said kind → Type 0
IsWithin known a_view v = v < length known.views
IsWithin known a_window w = w < length known.windows
IsWithin known a_bitmap b = b < length known.bitmaps
IsWithin known a_focus v = IsFocus known.views v
IsWithin known a_point p = IsPoint p
IsWithin known a_rect r = IsRect r
IsWithin known a_distance d =
    (between (negsuc 65534) d.0 (pos 65535) ≡ true)
    × (between (negsuc 65534) d.1 (pos 65535) ≡ true)
IsWithin known a_size s =
    (between (pos 0) s.0 (pos 32767) ≡ true) × (between (pos 0) s.1 (pos 32767) ≡ true)
IsWithin known a_pen_size n = (1 ≤ n) × (n ≤ 32)
IsWithin known a_pattern p = is_pattern p ≡ true
IsWithin known a_color c = is_color c ≡ true
IsWithin known a_mode m = Unit {0}
IsWithin known a_text text = is_written_text text ≡ true
IsWithin known a_clip clip = IsClip clip

abbrev pub AreWithin : Known → (kinds : List Kind) → SaidAll kinds → Type 0
AreWithin known [] x = Unit {0}
AreWithin known (kind ∷ kinds) x = IsWithin known kind x.0 × AreWithin known kinds x.1

-- a command that a line can be: what its form makes of values within their limits. No form makes
-- the end of an update
pub record IsSpoken (known : Known) (c : Command) : Type 0 where
  pub word : FirstWord
  pub said : SaidAll (form_of word).kinds
  pub within : AreWithin known (form_of word).kinds said
  pub made : (form_of word).makes said ≡ c

-- a line that is written as itself again
pub record IsCanonical (known : Known) (line : List ℕ) : Type 0 where
  pub command : Command
  pub read : command_of known line ≡ Ok command
  pub written : spelling known command ≡ line

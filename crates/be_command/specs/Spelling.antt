-- The one spelling of a command (this project's own).
use Rattle.std.specs.Prelude.{ℕ, ℤ, pos, List, [], ◌∷◌, ◌++◌, slice_index_or, Option, Some, None}
use Rattle.std.specs.Prelude.{codes}
use Rattle.std.specs.Fmt.{signed_decimal}
use Rattle.be_geom.specs.declared.change.Change.{Change}
use Rattle.be_geom.specs.declared.change.Change.TheVariants as change
use Rattle.be_geom.specs.declared.point.Point.{Point}
use Rattle.be_geom.specs.declared.rect.Rect.{Rect}
use Rattle.be_lex.specs.Colors.{color_text}
use Rattle.be_lex.specs.Patterns.{pattern_text}
use Rattle.be_lex.specs.Modes.{mode_text}
use Rattle.be_command.specs.declared.Command.{Command}
use Rattle.be_command.specs.declared.Command.TheVariants as command
use Rattle.be_command.specs.Names.{Known}

-- ---- words, each behind a space

abbrev pub spaced : List ℕ → List ℕ
spaced text = 32 ∷ text

-- the name with this number
abbrev pub name_word : List (List ℕ) → ℕ → List ℕ
name_word names n = spaced (slice_index_or names n [])

abbrev pub number_word : ℤ → List ℕ
number_word z = spaced (signed_decimal z)

abbrev pub pair_words : ℤ → ℤ → List ℕ
pair_words x y = number_word x ++ number_word y

abbrev pub point_words : Point → List ℕ
point_words p = pair_words p.x p.y

abbrev pub rect_words : Rect → List ℕ
rect_words r = pair_words r.left r.top ++ pair_words r.right r.bottom

abbrev pub rects_words : List Rect → List ℕ
rects_words [] = []
rects_words (r ∷ rects) = rect_words r ++ rects_words rects

abbrev pub clip_words : Option (List Rect) → List ℕ
clip_words None = spaced (codes "none")
clip_words (Some rects) = rects_words rects

abbrev pub focus_word : List (List ℕ) → Option ℕ → List ℕ
focus_word views None = spaced (codes "none")
focus_word views (Some v) = name_word views v

-- ---- lines

abbrev pub change_line : Known → Change → List ℕ
change_line known change.Show = codes "show"
change_line known change.Hide = codes "hide"
change_line known (change.MoveTo p) = codes "moveto" ++ point_words p
change_line known (change.MoveBy dx dy) = codes "moveby" ++ pair_words dx dy
change_line known (change.ResizeTo w h) = codes "resizeto" ++ pair_words w h
change_line known change.Activate = codes "activate"
change_line known (change.Behind w) = codes "behind" ++ name_word known.windows w
change_line known (change.Focus v) = codes "focus" ++ focus_word known.views v
change_line known change.Close = codes "close"

-- the end of an update has no line
unfoldable pub spelling : Known → Command → List ℕ
spelling known (command.Fill v r p) =
    codes "fill" ++ name_word known.views v ++ rect_words r ++ spaced (pattern_text p)
spelling known (command.Frame v r p) =
    codes "frame" ++ name_word known.views v ++ rect_words r ++ spaced (pattern_text p)
spelling known (command.Line v from to p) =
    codes "line" ++ name_word known.views v ++ point_words from ++ point_words to
    ++ spaced (pattern_text p)
spelling known (command.Text v text) = codes "text" ++ name_word known.views v ++ spaced text
spelling known (command.Bitmap v b at) =
    codes "bitmap" ++ name_word known.views v ++ name_word known.bitmaps b ++ point_words at
spelling known (command.High v c) = codes "high" ++ name_word known.views v ++ spaced (color_text c)
spelling known (command.Low v c) = codes "low" ++ name_word known.views v ++ spaced (color_text c)
spelling known (command.ViewColor v c) =
    codes "viewcolor" ++ name_word known.views v ++ spaced (color_text c)
spelling known (command.Mode v m) = codes "mode" ++ name_word known.views v ++ spaced (mode_text m)
spelling known (command.PenSize v n) =
    codes "pensize" ++ name_word known.views v ++ number_word (pos n)
spelling known (command.Pen v at) = codes "pen" ++ name_word known.views v ++ point_words at
spelling known (command.Origin v at) = codes "origin" ++ name_word known.views v ++ point_words at
spelling known (command.Clip v rects) = codes "clip" ++ name_word known.views v ++ clip_words rects
spelling known (command.Push v) = codes "push" ++ name_word known.views v
spelling known (command.Pop v) = codes "pop" ++ name_word known.views v
spelling known (command.CopyBits v r at) =
    codes "copybits" ++ name_word known.views v ++ rect_words r ++ point_words at
spelling known (command.Invalidate v r) =
    codes "invalidate" ++ name_word known.views v ++ rect_words r
spelling known (command.Change change) = change_line known change
spelling known command.EndUpdate = []

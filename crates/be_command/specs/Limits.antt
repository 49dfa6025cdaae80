-- Which commands can be written in a script (limits are this project's own).
use Rattle.std.specs.Prelude.{ℕ, pos, negsuc, Bool, true, false, ◌&&◌, nat_le, nat_lt, List, length}
use Rattle.std.specs.Prelude.{Option, Some, None}
use Rattle.std.specs.List.{list_all}
use Rattle.be_geom.specs.Points.{between}
use Rattle.be_geom.specs.declared.change.Change.{Change}
use Rattle.be_geom.specs.declared.change.Change.TheVariants.{Show, Hide, MoveTo, MoveBy, ResizeTo}
use Rattle.be_geom.specs.declared.change.Change.TheVariants.{Activate, Behind, Focus, Close}
use Rattle.be_geom.specs.declared.rect.Rect.{Rect}
use Rattle.be_command.specs.declared.Command.{Command}
use Rattle.be_command.specs.Effects.{Figure, filled, framed, lined, written, pictured, Setting}
use Rattle.be_command.specs.Effects.{high_color, low_color, drawing_mode, pen_size, pen_place}
use Rattle.be_command.specs.Effects.{origin, clipping, Deed, draws, sets, colors, saves, restores}
use Rattle.be_command.specs.Effects.{copies, invalidates, Effect, at_view, changes, ends_update}
use Rattle.be_command.specs.Effects.{effect_of}

-- ---- numbers

-- a text has at most 256 bytes, each 32 to 126
abbrev pub is_written_text : List ℕ → Bool
is_written_text bytes =
    nat_le (length bytes) 256 && list_all (λ b. nat_le 32 b && nat_le b 126) bytes

-- a figure's numbers
abbrev pub is_figure : Figure → Bool
is_figure (written bytes) = is_written_text bytes
is_figure (filled r pattern) = true
is_figure (framed r pattern) = true
is_figure (lined from to pattern) = true
is_figure (pictured b at) = true

-- a clip has 1 to 16 rectangles, or there is none
abbrev pub is_clip : Option (List Rect) → Bool
is_clip (Some rects) = nat_le 1 (length rects) && nat_le (length rects) 16
is_clip None = true

-- a pen has a size of 1 to 32
abbrev pub is_setting : Setting → Bool
is_setting (pen_size size) = nat_le 1 size && nat_le size 32
is_setting (clipping rects) = is_clip rects
is_setting (high_color color) = true
is_setting (low_color color) = true
is_setting (drawing_mode mode) = true
is_setting (pen_place at) = true
is_setting (origin at) = true

abbrev pub is_deed : Deed → Bool
is_deed (draws figure) = is_figure figure
is_deed (sets setting) = is_setting setting
is_deed (colors color) = true
is_deed saves = true
is_deed restores = true
is_deed (copies source target) = true
is_deed (invalidates r) = true

-- a move goes by at most 65535 in each direction, and a width and a height are 0 to 32767
abbrev pub is_change : Change → Bool
is_change (MoveBy dx dy) =
    between (negsuc 65534) dx (pos 65535) && between (negsuc 65534) dy (pos 65535)
is_change (ResizeTo width height) =
    between (pos 0) width (pos 32767) && between (pos 0) height (pos 32767)
is_change Show = true
is_change Hide = true
is_change (MoveTo corner) = true
is_change Activate = true
is_change (Behind front) = true
is_change (Focus view) = true
is_change Close = true

-- the end of an update is no command of a script
abbrev pub is_effect : Effect → Bool
is_effect (at_view v deed) = is_deed deed
is_effect (changes change) = is_change change
is_effect ends_update = false

-- the command's numbers and its text are within their limits
unfoldable pub is_command : Command → Bool
is_command c = is_effect (effect_of c)

-- ---- what an update may draw

-- the first group of commands: what draws and what is set for drawing, and nothing that may bring
-- an update
abbrev pub is_drawing_deed : Deed → Bool
is_drawing_deed (draws figure) = true
is_drawing_deed (sets setting) = true
is_drawing_deed (colors color) = true
is_drawing_deed saves = true
is_drawing_deed restores = true
is_drawing_deed (copies source target) = false
is_drawing_deed (invalidates r) = false

abbrev pub is_drawing_effect : Effect → Bool
is_drawing_effect (at_view v deed) = is_drawing_deed deed
is_drawing_effect (changes change) = false
is_drawing_effect ends_update = false

unfoldable pub is_drawing : Command → Bool
is_drawing c = is_drawing_effect (effect_of c)

-- ---- names

-- the bitmap of a figure is one of so many
abbrev pub names_bitmap : ℕ → Figure → Bool
names_bitmap bitmaps (pictured b at) = nat_lt b bitmaps
names_bitmap bitmaps (filled r pattern) = true
names_bitmap bitmaps (framed r pattern) = true
names_bitmap bitmaps (lined from to pattern) = true
names_bitmap bitmaps (written bytes) = true

abbrev pub deed_names : ℕ → Deed → Bool
deed_names bitmaps (draws figure) = names_bitmap bitmaps figure
deed_names bitmaps (sets setting) = true
deed_names bitmaps (colors color) = true
deed_names bitmaps saves = true
deed_names bitmaps restores = true
deed_names bitmaps (copies source target) = true
deed_names bitmaps (invalidates r) = true

-- a view that gets the focus is one of so many
abbrev pub is_view_or_none : ℕ → Option ℕ → Bool
is_view_or_none views (Some v) = nat_lt v views
is_view_or_none views None = true

-- the window in front and the focus view are there
abbrev pub change_names : ℕ → ℕ → Change → Bool
change_names windows views (Behind front) = nat_lt front windows
change_names windows views (Focus view) = is_view_or_none views view
change_names windows views Show = true
change_names windows views Hide = true
change_names windows views (MoveTo corner) = true
change_names windows views (MoveBy dx dy) = true
change_names windows views (ResizeTo width height) = true
change_names windows views Activate = true
change_names windows views Close = true

abbrev pub effect_names : ℕ → ℕ → ℕ → Effect → Bool
effect_names windows views bitmaps (at_view v deed) = nat_lt v views && deed_names bitmaps deed
effect_names windows views bitmaps (changes change) = change_names windows views change
effect_names windows views bitmaps ends_update = true

-- what the command names is there: of so many windows, views of its window and bitmaps
unfoldable pub names_what_is : ℕ → ℕ → ℕ → Command → Bool
names_what_is windows views bitmaps c = effect_names windows views bitmaps (effect_of c)

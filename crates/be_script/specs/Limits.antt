-- What every script keeps that is read (limits are this project's own). The ranges of coordinates,
-- numbers and colours are those of a script's types, and what only its text has isn't asked here:
-- the lengths of lines.
use Rattle.std.specs.Prelude.{◌≡◌, ℕ, ◌+◌, ◌*◌, ◌≤◌, ◌==◌, pos, ℤ, Bool, true, false, not, ◌&&◌}
use Rattle.std.specs.Prelude.{◌-ℤ◌, nat_le, nat_lt, List, [], ◌∷◌, ◌++◌, map, filter, length}
use Rattle.std.specs.Prelude.{Option, Some, None, slice_get}
use Rattle.std.specs.List.{list_all, range_with_len}
use Rattle.be_actor.specs.Limits.{is_reserved, is_what}
use Rattle.be_bitmap.specs.Pictures.{Picture}
use Rattle.be_geom.specs.declared.point.Point.{Point}
use Rattle.be_geom.specs.declared.rect.Rect.{Rect}
use Rattle.be_geom.specs.Points.{between}
use Rattle.be_handler.specs.declared.Rule.{Rule}
use Rattle.be_handler.specs.declared.Rule.TheVariants.{Skip, Pass, Redirect}
use Rattle.be_handler.specs.Routes.{same_target}
use Rattle.be_message.specs.declared.target.Target.{Target}
use Rattle.be_message.specs.declared.target.Target.TheVariants as target
use Rattle.be_script.specs.declared.BodyLine.{BodyLine}
use Rattle.be_script.specs.declared.DrawLine.{DrawLine}
use Rattle.be_script.specs.declared.FilterLine.{FilterLine}
use Rattle.be_script.specs.declared.HandlerLine.{HandlerLine}
use Rattle.be_script.specs.declared.InputLine.{InputLine}
use Rattle.be_script.specs.declared.InputLine.TheVariants as input
use Rattle.be_script.specs.declared.ViewLine.{ViewLine}
use Rattle.be_script.specs.declared.WindowLine.{WindowLine}
use Rattle.be_script.specs.Names.{are_names}
use Rattle.be_script.specs.Programs.{view_count, plain_count, is_handler_of, is_app_program}
use Rattle.be_script.specs.Programs.{is_body_program, is_draw_program}
use Rattle.be_script.specs.Script.{Declared}
use Rattle.be_script.specs.Windows.{view_lines, body_lines}
use Rattle.be_script.specs.Work.{work_of}

-- there are so many at most
abbrev pub is_at_most : {X : Type 0} → ℕ → List X → Bool
is_at_most count xs = nat_le (length xs) count

-- the window of a line is there
abbrev pub is_window : Declared → ℕ → Bool
is_window d w = nat_lt w (length d.windows)

-- ---- pictures and windows

-- a side is 1 to 256 pixels
abbrev pub is_side : ℕ → Bool
is_side side = nat_le 1 side && nat_le side 256

abbrev pub is_picture : Picture → Bool
is_picture p = is_side p.width && is_side p.height && length p.colors == p.width * p.height

-- a frame has a pixel, and its edges are at most 32767 apart
abbrev pub is_frame : Rect → Bool
is_frame r =
    between (pos 0) (r.right -ℤ r.left) (pos 32767)
    && between (pos 0) (r.bottom -ℤ r.top) (pos 32767)

-- a port holds 1 to 100 letters
abbrev pub is_window_line : WindowLine → Bool
is_window_line line = is_frame line.frame && nat_le 1 line.port && nat_le line.port 100

-- ---- views and handlers

-- where a view's parent lies: each lies one deeper than its parent, 8 deep at most, and the parent
-- is there before it
abbrev pub lies_below : List ℕ → Option ℕ → (List ℕ → Bool) → Bool
lies_below depths (Some depth) rest = nat_lt depth 8 && rest (depths ++ (depth + 1) ∷ [])
lies_below depths None rest = false

-- the views behind those that lie so deep
abbrev pub are_views_below : List ViewLine → List ℕ → Bool
are_views_below [] depths = true
are_views_below (line ∷ lines) depths =
    lies_below depths (slice_get depths line.parent) (are_views_below lines)

-- the views of a window: 32 at most with the root, which lies 1 deep
abbrev pub are_views : List ViewLine → Bool
are_views lines = is_at_most 31 lines && are_views_below lines (1 ∷ [])

-- the next handler of plain handler k of a window: it is there, and before it where it is a plain
-- one
abbrev pub is_next : Declared → ℕ → ℕ → Target → Bool
is_next d w k target.Window = true
is_next d w k (target.View v) = nat_lt v (view_count d w)
is_next d w k (target.Plain h) = nat_lt h k

-- the plain handlers of a window, from number k on
abbrev pub are_plain_from : Declared → ℕ → ℕ → List HandlerLine → Bool
are_plain_from d w k [] = true
are_plain_from d w k (line ∷ lines) = is_next d w k line.next && are_plain_from d w (k + 1) lines

abbrev pub plain_lines : Declared → ℕ → List HandlerLine
plain_lines d w = filter (λ line. line.window == w) d.handlers

-- views and plain handlers of a window, 16 of these at most; all have different names
abbrev pub are_handlers : Declared → ℕ → Bool
are_handlers d w =
    are_views (view_lines d w)
    && is_at_most 16 (plain_lines d w)
    && are_plain_from d w 0 (plain_lines d w)
    && are_names (map (λ line. line.name) (view_lines d w)
    ++ map (λ line. line.name) (plain_lines d w))

-- ---- filters

-- a rule redirects to a handler of the window
abbrev pub is_rule : Declared → ℕ → Rule → Bool
is_rule d w (Redirect target) = is_handler_of d w target
is_rule d w Skip = true
is_rule d w Pass = true

-- whose list it is: the common one's, or a handler's of the window
abbrev pub is_list : Declared → ℕ → Option Target → Bool
is_list d w (Some target) = is_handler_of d w target
is_list d w None = true

abbrev pub same_list : Option Target → Option Target → Bool
same_list (Some a) (Some b) = same_target a b
same_list None None = true
same_list (Some a) None = false
same_list None (Some b) = false

-- the one word of a filter, or every word
abbrev pub is_filter_word : Option ℕ → Bool
is_filter_word (Some what) = is_what what
is_filter_word None = true

-- at most 32 filters are in its list
abbrev pub is_filter_line : Declared → FilterLine → Bool
is_filter_line d line =
    is_window d line.window
    && is_list d line.window line.list
    && is_filter_word line.what
    && is_rule d line.window line.rule
    && is_at_most 32 (filter
    (λ other. other.window == line.window && same_list other.list line.list) d.filters)

-- ---- bodies

-- the body of a handler of the window, for a word that isn't reserved, and the only one for the two
abbrev pub is_body_line : Declared → BodyLine → Bool
is_body_line d line =
    is_window d line.window
    && is_handler_of d line.window line.target
    && is_what line.what
    && not (is_reserved line.what)
    && is_body_program d line.window line.program
    && is_at_most 1 (filter
    (λ other. same_target other.target line.target && other.what == line.what)
    (body_lines d line.window))

-- the only Draw body of a view of the window
abbrev pub is_draw_line : Declared → DrawLine → Bool
is_draw_line d line =
    is_window d line.window
    && nat_lt line.view (view_count d line.window)
    && is_draw_program d line.window line.program
    && is_at_most 1 (filter (λ other. other.window == line.window && other.view == line.view)
    d.draws)

-- all that is declared in window w
abbrev pub is_window_declared : Declared → ℕ → Bool
is_window_declared d w = are_handlers d w && is_at_most 512 (body_lines d w)

-- ---- input

-- a pixel of the screen
abbrev pub is_place : Declared → Point → Bool
is_place d p =
    between (pos 0) p.x (pos d.width -ℤ pos 1) && between (pos 0) p.y (pos d.height -ℤ pos 1)

-- a place is on the screen, a key is 0 to 255, an application is there
abbrev pub is_event : Declared → InputLine → Bool
is_event d (input.Press p) = is_place d p
is_event d (input.Release p) = is_place d p
is_event d (input.Move p) = is_place d p
is_event d (input.Key key) = between (pos 0) key (pos 255)
is_event d (input.After m) = nat_lt m (length d.apps)

-- ---- all of a script

-- how much there is at most
pub record IsWithinCounts (d : Declared) : Type 0 where
  pub width : (1 ≤ d.width) × (d.width ≤ 1024)
  pub height : (1 ≤ d.height) × (d.height ≤ 768)
  pub windows : length d.windows ≤ 32
  pub apps : length d.apps ≤ 16
  pub pictures : length d.pictures ≤ 64
  pub input : length d.input ≤ 4096
  pub work : work_of d ≤ 262144

-- each thing that is declared keeps its limits, and names what is there
pub record IsWithinLimits (d : Declared) : Type 0 where
  pub counts : IsWithinCounts d
  pub pictures : list_all is_picture d.pictures ≡ true
  pub windows : list_all is_window_line d.windows ≡ true
  pub names : are_names (map (λ line. line.name) d.windows) ≡ true
  pub views : list_all (λ line. is_window d line.window) d.views ≡ true
  pub handlers : list_all (λ line. is_window d line.window) d.handlers ≡ true
  pub filters : list_all (is_filter_line d) d.filters ≡ true
  pub bodies : list_all (is_body_line d) d.bodies ≡ true
  pub draws : list_all (is_draw_line d) d.draws ≡ true
  pub declared : list_all (is_window_declared d) (range_with_len 0 (length d.windows)) ≡ true
  pub apps : list_all (λ line. is_app_program d line.program) d.apps ≡ true
  pub app_names : are_names (map (λ line. line.name) d.apps) ≡ true
  pub input : list_all (is_event d) d.input ≡ true

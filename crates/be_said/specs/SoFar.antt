-- What the lines of a script said so far (the language is this project's own).
use Rattle.std.specs.Prelude.{ℕ, ◌==◌, Bool, true, false, List, [], ◌∷◌, map, filter, Option, Some}
use Rattle.std.specs.Prelude.{None, codes}
use Rattle.be_actor.specs.declared.Instruction.{Instruction}
use Rattle.be_color.specs.declared.colors.Color.{Color}
use Rattle.be_command.specs.Names.{Known}
use Rattle.be_message.specs.declared.target.Target.{Target}
use Rattle.be_script.specs.declared.AppLine.{AppLine}
use Rattle.be_script.specs.declared.BitmapLine.{BitmapLine}
use Rattle.be_script.specs.declared.BodyLine.{BodyLine}
use Rattle.be_script.specs.declared.DrawLine.{DrawLine}
use Rattle.be_script.specs.declared.FilterLine.{FilterLine}
use Rattle.be_script.specs.declared.HandlerLine.{HandlerLine}
use Rattle.be_script.specs.declared.InputLine.{InputLine}
use Rattle.be_script.specs.declared.ViewLine.{ViewLine}
use Rattle.be_script.specs.declared.WindowLine.{WindowLine}
use Rattle.be_line.specs.declared.site.Site.{Site}
use Rattle.be_line.specs.declared.site.Site.TheVariants as site
use Rattle.be_script.specs.Script.{Declared}

-- what was begun, and isn't closed
pub data Begun : Type 0 where
  nothing : Begun
  -- a bitmap of this name, width and height, and the colours of the rows that are there
  bitmap : List ℕ → ℕ → ℕ → List Color → Begun
  -- the body of a handler of a window for a word, and its instructions so far
  handler_body : ℕ → Target → ℕ → List Instruction → Begun
  -- the Draw body of a view of a window
  draw_body : ℕ → ℕ → List Instruction → Begun
  -- an application's program, and the window that it has locked
  program : List ℕ → Option ℕ → List Instruction → Begun

pub record SoFar : Type 0 where
  -- how wide and high the screen is
  pub screen : Option (ℕ × ℕ)
  pub bitmaps : List BitmapLine
  pub windows : List WindowLine
  pub views : List ViewLine
  pub handlers : List HandlerLine
  pub filters : List FilterLine
  pub bodies : List BodyLine
  pub draws : List DrawLine
  pub apps : List AppLine
  pub input : List InputLine
  pub begun : Begun

-- before the first line
abbrev pub nothing_said : SoFar
nothing_said = record {
  screen = None;
  bitmaps = [];
  windows = [];
  views = [];
  handlers = [];
  filters = [];
  bodies = [];
  draws = [];
  apps = [];
  input = [];
  begun = nothing;
}

-- what is declared, on a screen so wide and high
abbrev pub declared_in : SoFar → ℕ × ℕ → Declared
declared_in said size = record {
  width = size.0;
  height = size.1;
  pictures = map (λ line. line.bitmap) said.bitmaps;
  windows = said.windows;
  views = said.views;
  handlers = said.handlers;
  filters = said.filters;
  bodies = said.bodies;
  draws = said.draws;
  apps = said.apps;
  input = said.input;
}

-- ---- where the next line stands

abbrev by_lock : Option ℕ → Site
by_lock None = site.InProgram
by_lock (Some w) = site.UnderLock

abbrev behind_screen : Begun → Site
behind_screen nothing = site.Outside
behind_screen (bitmap name width height colors) = site.AmongRows
behind_screen (handler_body w target what steps) = site.InHandler
behind_screen (draw_body w v steps) = site.InDraw
behind_screen (program name lock steps) = by_lock lock

abbrev by_screen : Option (ℕ × ℕ) → Begun → Site
by_screen None begun = site.AtStart
by_screen (Some size) begun = behind_screen begun

abbrev pub site_of : SoFar → Site
site_of said = by_screen said.screen said.begun

-- the window for which a command is: that of the body, or the one that is locked
abbrev pub window_of : Begun → Option ℕ
window_of nothing = None
window_of (bitmap name width height colors) = None
window_of (handler_body w target what steps) = Some w
window_of (draw_body w v steps) = Some w
window_of (program name lock steps) = lock

-- the instructions that were begun
abbrev pub steps_begun : Begun → List Instruction
steps_begun nothing = []
steps_begun (bitmap name width height colors) = []
steps_begun (handler_body w target what steps) = steps
steps_begun (draw_body w v steps) = steps
steps_begun (program name lock steps) = steps

-- how many pixels a row has that comes next
abbrev pub row_width : Begun → ℕ
row_width nothing = 0
row_width (bitmap name width height colors) = width
row_width (handler_body w target what steps) = 0
row_width (draw_body w v steps) = 0
row_width (program name lock steps) = 0

-- a current message is there: in the body of a handler alone
abbrev pub has_message : Begun → Bool
has_message nothing = false
has_message (bitmap name width height colors) = false
has_message (handler_body w target what steps) = true
has_message (draw_body w v steps) = false
has_message (program name lock steps) = false

-- ---- names

abbrev pub bitmap_names : SoFar → List (List ℕ)
bitmap_names said = map (λ line. line.name) said.bitmaps

abbrev pub window_names : SoFar → List (List ℕ)
window_names said = map (λ line. line.name) said.windows

abbrev pub app_names : SoFar → List (List ℕ)
app_names said = map (λ line. line.name) said.apps

-- the views that were declared in a window, and its plain handlers
abbrev pub views_in : SoFar → ℕ → List ViewLine
views_in said w = filter (λ line. line.window == w) said.views

abbrev pub plain_in : SoFar → ℕ → List HandlerLine
plain_in said w = filter (λ line. line.window == w) said.handlers

-- the names of a window's views, the root's first; without a window there are none
abbrev pub view_names : SoFar → Option ℕ → List (List ℕ)
view_names said (Some w) = codes "root" ∷ map (λ line. line.name) (views_in said w)
view_names said None = []

abbrev pub plain_names : SoFar → Option ℕ → List (List ℕ)
plain_names said (Some w) = map (λ line. line.name) (plain_in said w)
plain_names said None = []

-- the names that a command may use, in a window
abbrev pub known_in : SoFar → Option ℕ → Known
known_in said w =
    record { windows = window_names said; views = view_names said w; bitmaps = bitmap_names said }

-- all that was begun is closed
abbrev pub is_closed : Begun → Bool
is_closed nothing = true
is_closed (bitmap name width height colors) = false
is_closed (handler_body w target what steps) = false
is_closed (draw_body w v steps) = false
is_closed (program name lock steps) = false

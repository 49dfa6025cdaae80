-- What holds of all that was said so far, line by line, and of what was begun; only the work is of
-- the whole script (limits are this project's own).
use Rattle.std.specs.Prelude.{◌≡◌, ℕ, ◌+◌, ◌*◌, ◌<◌, ◌≤◌, ◌==◌, ◌&&◌, Bool, true, false, List, []}
use Rattle.std.specs.Prelude.{◌∷◌, ◌++◌, map, length, Option, Some, None}
use Rattle.std.specs.List.{list_all, list_any}
use Rattle.be_actor.specs.declared.Instruction.{Instruction}
use Rattle.be_actor.specs.Limits.{is_reserved, is_what}
use Rattle.be_color.specs.declared.colors.Color.{Color}
use Rattle.be_handler.specs.Routes.{same_target}
use Rattle.be_message.specs.declared.target.Target.{Target}
use Rattle.be_said.specs.Deeds.{Deed, sizes_screen, begins_bitmap, adds_row, adds_window, adds_view}
use Rattle.be_said.specs.Deeds.{adds_handler, adds_filter, begins_body, begins_draw, begins_program}
use Rattle.be_said.specs.Deeds.{adds_input, adds_step, closes}
use Rattle.be_said.specs.Judging.{is_too_many}
use Rattle.be_said.specs.SoFar.{SoFar, Begun, nothing, bitmap, handler_body, draw_body, program}
use Rattle.be_said.specs.SoFar.{declared_in}
use Rattle.be_script.specs.Limits.{is_body_line, is_draw_line, is_event, is_filter_line}
use Rattle.be_script.specs.Limits.{is_filter_word, is_picture, is_side, is_window}
use Rattle.be_script.specs.Limits.{is_window_declared, is_window_line}
use Rattle.be_script.specs.Names.{are_names}
use Rattle.be_script.specs.Programs.{is_app_program, is_app_step, is_body_step, is_draw_step}
use Rattle.be_script.specs.Programs.{is_handler_of, lock_behind, view_count}
use Rattle.be_script.specs.Script.{Declared}
use Rattle.be_script.specs.Windows.{body_lines}

-- ---- what is declared

-- the screen is 0 by 0 before its line
abbrev pub size_of : Option (ℕ × ℕ) → ℕ × ℕ
size_of None = (0, 0)
size_of (Some size) = size

abbrev pub declared_so_far : SoFar → Declared
declared_so_far said = declared_in said (size_of said.screen)

abbrev pub IsScreen : Option (ℕ × ℕ) → Type 0
IsScreen None = Unit {0}
IsScreen (Some size) = ((1 ≤ size.0) × (size.0 ≤ 1024)) × ((1 ≤ size.1) × (size.1 ≤ 768))

-- what is declared keeps its limits, but for the screen's and the work's
pub record AreKept (d : Declared) : Type 0 where
  pub few_windows : length d.windows ≤ 32
  pub few_apps : length d.apps ≤ 16
  pub few_pictures : length d.pictures ≤ 64
  pub few_input : length d.input ≤ 4096
  pub pictures : list_all is_picture d.pictures ≡ true
  pub windows : list_all is_window_line d.windows ≡ true
  pub names : are_names (map (λ line. line.name) d.windows) ≡ true
  pub views : list_all (λ line. is_window d line.window) d.views ≡ true
  pub handlers : list_all (λ line. is_window d line.window) d.handlers ≡ true
  pub filters : list_all (is_filter_line d) d.filters ≡ true
  pub bodies : list_all (is_body_line d) d.bodies ≡ true
  pub draws : list_all (is_draw_line d) d.draws ≡ true
  pub each_window : (w : ℕ) → w < length d.windows → is_window_declared d w ≡ true
  pub apps : list_all (λ line. is_app_program d line.program) d.apps ≡ true
  pub app_names : are_names (map (λ line. line.name) d.apps) ≡ true
  pub input : list_all (is_event d) d.input ≡ true

-- ---- what was begun

-- a bitmap has rows to come
pub record IsBitmapBegun (d : Declared) (width height : ℕ) (colors : List Color) : Type 0 where
  pub few : length d.pictures < 64
  pub wide : is_side width ≡ true
  pub high : is_side height ≡ true
  pub rows : ℕ
  pub some : 1 ≤ rows
  pub rest : length colors + rows * width ≡ width * height

-- a body for the two isn't there, and its instructions may be
pub record IsBodyBegun (d : Declared) (w : ℕ) (target : Target) (what : ℕ)
    (steps : List Instruction) : Type 0 where
  pub window : is_window d w ≡ true
  pub handler : is_handler_of d w target ≡ true
  pub word : is_what what ≡ true
  pub free : is_reserved what ≡ false
  pub few : length (body_lines d w) < 512
  pub new : list_any (λ line. line.window == w && same_target line.target target
      && line.what == what) d.bodies ≡ false
  pub short : length steps ≤ 1024
  pub each : list_all (is_body_step d w) steps ≡ true

pub record IsDrawBegun (d : Declared) (w v : ℕ) (steps : List Instruction) : Type 0 where
  pub window : is_window d w ≡ true
  pub view : v < view_count d w
  pub new : list_any (λ line. line.window == w && line.view == v) d.draws ≡ false
  pub short : length steps ≤ 1024
  pub each : list_all (is_draw_step d w) steps ≡ true

-- the first instructions of a program
abbrev pub are_app_steps : Declared → Option ℕ → List Instruction → Bool
are_app_steps d lock [] = true
are_app_steps d lock (step ∷ rest) =
    is_app_step d lock step && are_app_steps d (lock_behind lock step) rest

-- the window that is locked behind them
abbrev pub lock_after : Option ℕ → List Instruction → Option ℕ
lock_after lock [] = lock
lock_after lock (step ∷ rest) = lock_after (lock_behind lock step) rest

pub record IsProgramBegun (d : Declared) (name : List ℕ) (lock : Option ℕ)
    (steps : List Instruction) : Type 0 where
  pub few : length d.apps < 16
  pub names : are_names (map (λ line. line.name) d.apps ++ name ∷ []) ≡ true
  pub short : length steps ≤ 1024
  pub each : are_app_steps d None steps ≡ true
  pub locks : lock_after None steps ≡ lock

abbrev pub IsBegun : Declared → Begun → Type 0
IsBegun d nothing = Unit {0}
IsBegun d (bitmap name width height colors) = IsBitmapBegun d width height colors
IsBegun d (handler_body w target what steps) = IsBodyBegun d w target what steps
IsBegun d (draw_body w v steps) = IsDrawBegun d w v steps
IsBegun d (program name lock steps) = IsProgramBegun d name lock steps

-- ---- all that was said

pub record Keeps (said : SoFar) : Type 0 where
  pub screen : IsScreen said.screen
  pub declared : AreKept (declared_so_far said)
  pub begun : IsBegun (declared_so_far said) said.begun

-- ---- what a line says by itself

-- an instruction may stand in what was begun
abbrev pub is_step_in : Declared → Begun → Instruction → Bool
is_step_in d nothing step = true
is_step_in d (bitmap name width height colors) step = true
is_step_in d (handler_body w target what steps) step = is_body_step d w step
is_step_in d (draw_body w v steps) step = is_draw_step d w step
is_step_in d (program name lock steps) step = is_app_step d lock step

-- a program ends without a lock
abbrev pub IsUnlocked : Begun → Type 0
IsUnlocked nothing = Unit {0}
IsUnlocked (bitmap name width height colors) = Unit {0}
IsUnlocked (handler_body w target what steps) = Unit {0}
IsUnlocked (draw_body w v steps) = Unit {0}
IsUnlocked (program name lock steps) = lock ≡ None

-- numbers, words and instructions keep their limits; an instruction that is too long is refused by
-- `done`
abbrev pub IsFormed : SoFar → Deed → Type 0
IsFormed said (sizes_screen width height) = (said.screen ≡ None) × (1 ≤ width) × (1 ≤ height)
IsFormed said (begins_bitmap name width height) = Unit {0}
IsFormed said (adds_row colors) = Unit {0}
IsFormed said (adds_window line) = is_window_line line ≡ true
IsFormed said (adds_view line) = Unit {0}
IsFormed said (adds_handler line) = Unit {0}
IsFormed said (adds_filter line) = is_filter_word line.what ≡ true
IsFormed said (begins_body w target what) = (is_what what ≡ true) × (is_reserved what ≡ false)
IsFormed said (begins_draw w v) = Unit {0}
IsFormed said (begins_program name) = Unit {0}
IsFormed said (adds_input event) = is_event (declared_so_far said) event ≡ true
IsFormed said (adds_step step) =
    is_too_many said (adds_step step) ≡ false
    → is_step_in (declared_so_far said) said.begun step ≡ true
IsFormed said closes = IsUnlocked said.begun

-- What a line's deed may not do any more, and what it leaves (the language is this project's own).
use Rattle.std.specs.Prelude.{ℕ, ◌+◌, ◌*◌, ◌==◌, ◌&&◌, ◌||◌, Bool, false, nat_le, nat_lt}
use Rattle.std.specs.Prelude.{if◌then◌else◌, List, [], ◌∷◌, ◌++◌, fold, filter, length, Some, None}
use Rattle.std.specs.Prelude.{Result, Ok, Err, slice_index_or}
use Rattle.std.specs.List.{list_any}
use Rattle.be_actor.specs.Drafts.{DraftWords}
use Rattle.be_actor.specs.declared.Instruction.{Instruction}
use Rattle.be_actor.specs.declared.Instruction.TheVariants as instruction
use Rattle.be_color.specs.declared.colors.Color.{Color}
use Rattle.be_command.specs.declared.fault.Reason.{Reason}
use Rattle.be_command.specs.declared.fault.Reason.TheVariants.{NameTaken, TooMany}
use Rattle.be_handler.specs.Routes.{same_target}
use Rattle.be_script.specs.declared.FilterLine.{FilterLine}
use Rattle.be_script.specs.declared.ViewLine.{ViewLine}
use Rattle.be_said.specs.Deeds.{Deed, sizes_screen, begins_bitmap, adds_row, adds_window, adds_view}
use Rattle.be_said.specs.Deeds.{adds_handler, adds_filter, begins_body, begins_draw, begins_program}
use Rattle.be_said.specs.Deeds.{adds_input, adds_step, closes}
use Rattle.be_script.specs.Limits.{same_list}
use Rattle.be_script.specs.Programs.{lock_behind}
use Rattle.be_said.specs.SoFar.{SoFar, Begun, nothing, bitmap, handler_body, draw_body, program}
use Rattle.be_said.specs.SoFar.{views_in, plain_in, steps_begun}

-- ---- what is there already

-- two bodies of a handler for one word, or two Draw bodies of a view
abbrev pub is_taken : SoFar → Deed → Bool
is_taken said (begins_body w target what) =
    list_any (λ line. line.window == w && same_target line.target target && line.what == what)
    said.bodies
is_taken said (begins_draw w v) = list_any (λ line. line.window == w && line.view == v) said.draws
is_taken said (sizes_screen width height) = false
is_taken said (begins_bitmap name width height) = false
is_taken said (adds_row colors) = false
is_taken said (adds_window line) = false
is_taken said (adds_view line) = false
is_taken said (adds_handler line) = false
is_taken said (adds_filter line) = false
is_taken said (begins_program name) = false
is_taken said (adds_input event) = false
is_taken said (adds_step step) = false
is_taken said closes = false

-- ---- limits on counts and depth

-- so many are there, and no more may be
abbrev pub are_all : {X : Type 0} → ℕ → List X → Bool
are_all most xs = nat_le most (length xs)

-- how deep the views of a window lie: the root 1 deep, each other one deeper than its parent
abbrev pub with_depth : List ℕ → ViewLine → List ℕ
with_depth depths line = depths ++ (slice_index_or depths line.parent 0 + 1) ∷ []

abbrev pub depths_of : List ViewLine → List ℕ
depths_of lines = fold with_depth (1 ∷ []) lines

-- the filters of one list of a window
abbrev pub filters_beside : SoFar → FilterLine → List FilterLine
filters_beside said line =
    filter (λ other. other.window == line.window && same_list other.list line.list) said.filters

-- a message is made by at most 255 words
abbrev pub is_long_draft : DraftWords → Bool
is_long_draft draft = nat_lt 255 (length draft.words)

abbrev pub is_long_step : Instruction → Bool
is_long_step (instruction.Note text) = false
is_long_step (instruction.Post w target draft) = is_long_draft draft
is_long_step (instruction.Send w target draft) = is_long_draft draft
is_long_step (instruction.Reply draft) = is_long_draft draft
is_long_step (instruction.Forward w target) = false
is_long_step (instruction.Lock w) = false
is_long_step instruction.Unlock = false
is_long_step instruction.Flush = false
is_long_step instruction.Sync = false
is_long_step (instruction.Draw command) = false

-- 64 bitmaps, 32 windows, 32 views of a window with its root and none deeper than 8, 16 plain
-- handlers, 32 filters in a list, 512 bodies of a window, 16 applications, 4,096 events of input,
-- and 1,024 instructions
abbrev pub is_too_many : SoFar → Deed → Bool
is_too_many said (begins_bitmap name width height) = are_all 64 said.bitmaps
is_too_many said (adds_window line) = are_all 32 said.windows
is_too_many said (adds_view line) =
    are_all 31 (views_in said line.window)
    || nat_le 8 (slice_index_or (depths_of (views_in said line.window)) line.parent 0)
is_too_many said (adds_handler line) = are_all 16 (plain_in said line.window)
is_too_many said (adds_filter line) = are_all 32 (filters_beside said line)
is_too_many said (begins_body w target what) =
    are_all 512 (filter (λ line. line.window == w) said.bodies)
is_too_many said (begins_program name) = are_all 16 said.apps
is_too_many said (adds_input event) = are_all 4096 said.input
is_too_many said (adds_step step) = are_all 1024 (steps_begun said.begun) || is_long_step step
is_too_many said (begins_draw w v) = false
is_too_many said (sizes_screen width height) = false
is_too_many said (adds_row colors) = false
is_too_many said closes = false

-- ---- what is said then

-- a row behind the others; the last one ends the bitmap
abbrev pub with_colors : SoFar → List ℕ → ℕ → ℕ → List Color → SoFar
with_colors said name width height colors =
    if nat_lt (length colors) (width * height)
    then record said { begun = bitmap name width height colors }
    else record said {
      bitmaps =
          said.bitmaps ++ record {
            name = name;
            bitmap = record { width = width; height = height; colors = colors };
          } ∷ [];
      begun = nothing;
    }

abbrev pub with_row : SoFar → List Color → Begun → SoFar
with_row said row (bitmap name width height colors) =
    with_colors said name width height (colors ++ row)
with_row said row nothing = said
with_row said row (handler_body w target what steps) = said
with_row said row (draw_body w v steps) = said
with_row said row (program name lock steps) = said

-- an instruction behind the others
abbrev pub with_step : Instruction → Begun → Begun
with_step step (handler_body w target what steps) = handler_body w target what (steps ++ step ∷ [])
with_step step (draw_body w v steps) = draw_body w v (steps ++ step ∷ [])
with_step step (program name lock steps) = program name (lock_behind lock step) (steps ++ step ∷ [])
with_step step nothing = nothing
with_step step (bitmap name width height colors) = bitmap name width height colors

-- what was begun stands behind the others of its sort
abbrev pub closed : SoFar → Begun → SoFar
closed said (handler_body w target what steps) =
    record said {
      bodies = said.bodies
          ++ record { window = w; target = target; what = what; program = steps } ∷ [];
      begun = nothing;
    }
closed said (draw_body w v steps) =
    record said {
      draws = said.draws ++ record { window = w; view = v; program = steps } ∷ [];
      begun = nothing;
    }
closed said (program name lock steps) =
    record said {
      apps = said.apps ++ record { name = name; program = steps } ∷ [];
      begun = nothing;
    }
closed said nothing = said
closed said (bitmap name width height colors) = said

abbrev pub said_then : SoFar → Deed → SoFar
said_then said (sizes_screen width height) = record said { screen = Some (width, height) }
said_then said (begins_bitmap name width height) =
    record said { begun = bitmap name width height [] }
said_then said (adds_row row) = with_row said row said.begun
said_then said (adds_window line) = record said { windows = said.windows ++ line ∷ [] }
said_then said (adds_view line) = record said { views = said.views ++ line ∷ [] }
said_then said (adds_handler line) = record said { handlers = said.handlers ++ line ∷ [] }
said_then said (adds_filter line) = record said { filters = said.filters ++ line ∷ [] }
said_then said (begins_body w target what) = record said { begun = handler_body w target what [] }
said_then said (begins_draw w v) = record said { begun = draw_body w v [] }
said_then said (begins_program name) = record said { begun = program name None [] }
said_then said (adds_input event) = record said { input = said.input ++ event ∷ [] }
said_then said (adds_step step) = record said { begun = with_step step said.begun }
said_then said closes = closed said said.begun

-- a deed that may be done, or the reason why not
unfoldable pub done : SoFar → Deed → Result SoFar Reason
done said deed =
    if is_taken said deed then Err NameTaken else if is_too_many said deed then Err TooMany
    else Ok (said_then said deed)

-- Which deeds a line makes that is read beside what was said: what they name is there, and they
-- stand where they may (this project's own).
use Rattle.std.specs.Prelude.{◌≡◌, ℕ, ◌<◌, ◌≤◌, List, length, Option, Some, None, Ok}
use Rattle.be_actor.specs.declared.Instruction.{Instruction}
use Rattle.be_actor.specs.declared.Instruction.TheVariants as instruction
use Rattle.be_handler.specs.declared.Rule.{Rule}
use Rattle.be_handler.specs.declared.Rule.TheVariants.{Skip, Pass, Redirect}
use Rattle.be_message.specs.declared.target.Target.{Target}
use Rattle.be_message.specs.declared.target.Target.TheVariants as target
use Rattle.be_said.specs.Deeds.{Deed, sizes_screen, begins_bitmap, adds_row, adds_window, adds_view}
use Rattle.be_said.specs.Deeds.{adds_handler, adds_filter, begins_body, begins_draw, begins_program}
use Rattle.be_said.specs.Deeds.{adds_input, adds_step, closes}
use Rattle.be_said.specs.Names.{handler_names, new_name}
use Rattle.be_said.specs.SoFar.{SoFar, Begun, nothing, bitmap, handler_body, draw_body, program}
use Rattle.be_said.specs.SoFar.{app_names, bitmap_names, plain_names, view_names, window_names}

-- a name that none of these has, and that may be declared
abbrev pub IsNew : List (List ℕ) → List ℕ → Type 0
IsNew names name = new_name names name ≡ Ok name

-- a handler of a window
abbrev pub IsTarget : SoFar → ℕ → Target → Type 0
IsTarget said w target.Window = Unit {0}
IsTarget said w (target.View v) = v < length (view_names said (Some w))
IsTarget said w (target.Plain p) = p < length (plain_names said (Some w))

abbrev pub IsList : SoFar → ℕ → Option Target → Type 0
IsList said w None = Unit {0}
IsList said w (Some handler) = IsTarget said w handler

abbrev pub IsRule : SoFar → ℕ → Rule → Type 0
IsRule said w Skip = Unit {0}
IsRule said w Pass = Unit {0}
IsRule said w (Redirect handler) = IsTarget said w handler

-- a window that is locked is there
abbrev pub IsStep : SoFar → Instruction → Type 0
IsStep said (instruction.Lock w) = w < length said.windows
IsStep said (instruction.Note text) = Unit {0}
IsStep said (instruction.Post w handler draft) = Unit {0}
IsStep said (instruction.Send w handler draft) = Unit {0}
IsStep said (instruction.Reply draft) = Unit {0}
IsStep said (instruction.Forward w handler) = Unit {0}
IsStep said instruction.Unlock = Unit {0}
IsStep said instruction.Flush = Unit {0}
IsStep said instruction.Sync = Unit {0}
IsStep said (instruction.Draw command) = Unit {0}

-- a row is for a bitmap, and as long as it is wide
abbrev pub IsRow : Begun → ℕ → Type 0
IsRow (bitmap name width height colors) count = count ≡ width
IsRow nothing count = ⊥
IsRow (handler_body w target what steps) count = ⊥
IsRow (draw_body w v steps) count = ⊥
IsRow (program name lock steps) count = ⊥

-- an instruction is for a body or a program
abbrev pub HasSteps : Begun → Type 0
HasSteps nothing = ⊥
HasSteps (bitmap name width height colors) = ⊥
HasSteps (handler_body w target what steps) = Unit {0}
HasSteps (draw_body w v steps) = Unit {0}
HasSteps (program name lock steps) = Unit {0}

abbrev pub Fits : SoFar → Deed → Type 0
Fits said (sizes_screen width height) = (width ≤ 1024) × (height ≤ 768)
Fits said (begins_bitmap name width height) =
    (said.begun ≡ nothing) × IsNew (bitmap_names said) name × (1 ≤ width) × (width ≤ 256)
    × (1 ≤ height) × (height ≤ 256)
Fits said (adds_row colors) = IsRow said.begun (length colors)
Fits said (adds_window line) = (said.begun ≡ nothing) × IsNew (window_names said) line.name
Fits said (adds_view line) =
    (said.begun ≡ nothing) × (line.window < length said.windows)
    × IsNew (handler_names said (Some line.window)) line.name
    × (line.parent < length (view_names said (Some line.window)))
Fits said (adds_handler line) =
    (said.begun ≡ nothing) × (line.window < length said.windows)
    × IsNew (handler_names said (Some line.window)) line.name
    × IsTarget said line.window line.next
Fits said (adds_filter line) =
    (said.begun ≡ nothing) × (line.window < length said.windows) × IsList said line.window line.list
    × IsRule said line.window line.rule
Fits said (begins_body w handler what) =
    (said.begun ≡ nothing) × (w < length said.windows) × IsTarget said w handler
Fits said (begins_draw w v) =
    (said.begun ≡ nothing) × (w < length said.windows) × (v < length (view_names said (Some w)))
Fits said (begins_program name) = (said.begun ≡ nothing) × IsNew (app_names said) name
Fits said (adds_input event) = said.begun ≡ nothing
Fits said (adds_step step) = HasSteps said.begun × IsStep said step
Fits said closes = HasSteps said.begun

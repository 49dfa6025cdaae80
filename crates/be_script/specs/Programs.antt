-- Which instructions can be written where, and what they may name (this project's own).
use Rattle.std.specs.Prelude.{ℕ, ◌+◌, ◌==◌, Bool, true, false, ◌&&◌, nat_le, nat_lt, List, [], ◌∷◌}
use Rattle.std.specs.Prelude.{filter, length, Option, Some, None}
use Rattle.std.specs.List.{list_all}
use Rattle.be_actor.specs.declared.Instruction.{Instruction}
use Rattle.be_actor.specs.declared.Instruction.TheVariants.{Note, Post, Send, Reply, Forward, Lock}
use Rattle.be_actor.specs.declared.Instruction.TheVariants.{Unlock, Flush, Sync, Draw}
use Rattle.be_actor.specs.Limits.{is_draft}
use Rattle.be_command.specs.declared.Command.{Command}
use Rattle.be_command.specs.Limits.{is_command, is_drawing, names_what_is}
use Rattle.be_message.specs.declared.target.Target.{Target}
use Rattle.be_message.specs.declared.target.Target.TheVariants as target
use Rattle.be_script.specs.Script.{Declared}
use Rattle.be_script.specs.Windows.{view_lines}

-- ---- what is named

-- how many views a window has, with its root
abbrev pub view_count : Declared → ℕ → ℕ
view_count d w = length (view_lines d w) + 1

-- how many plain handlers it has
abbrev pub plain_count : Declared → ℕ → ℕ
plain_count d w = length (filter (λ line. line.window == w) d.handlers)

-- the window has the handler
abbrev pub is_handler_of : Declared → ℕ → Target → Bool
is_handler_of d w target.Window = true
is_handler_of d w (target.View v) = nat_lt v (view_count d w)
is_handler_of d w (target.Plain h) = nat_lt h (plain_count d w)

-- there is such a window, and it has the handler
abbrev pub is_address : Declared → ℕ → Target → Bool
is_address d w target = nat_lt w (length d.windows) && is_handler_of d w target

-- a command for window w
abbrev pub is_command_for : Declared → ℕ → Command → Bool
is_command_for d w c =
    is_command c && names_what_is (length d.windows) (view_count d w) (length d.pictures) c

-- a note is 1 to 32 bytes, each 33 to 126
abbrev pub is_note : List ℕ → Bool
is_note word =
    nat_le 1 (length word) && nat_le (length word) 32
    && list_all (λ b. nat_le 33 b && nat_le b 126) word

-- a body or a program has at most 1024 instructions
abbrev pub is_short : List Instruction → Bool
is_short steps = nat_le (length steps) 1024

-- ---- bodies

-- in the body of a handler of window w
abbrev pub is_body_step : Declared → ℕ → Instruction → Bool
is_body_step d w (Note word) = is_note word
is_body_step d w (Post v target draft) = is_address d v target && is_draft true draft
is_body_step d w (Send v target draft) = false
is_body_step d w (Reply draft) = is_draft true draft
is_body_step d w (Forward v target) = is_address d v target
is_body_step d w (Lock v) = false
is_body_step d w Unlock = false
is_body_step d w Flush = true
is_body_step d w Sync = true
is_body_step d w (Draw c) = is_command_for d w c

-- in a Draw body of window w: only what draws
abbrev pub is_draw_step : Declared → ℕ → Instruction → Bool
is_draw_step d w (Note word) = is_note word
is_draw_step d w (Post v target draft) = false
is_draw_step d w (Send v target draft) = false
is_draw_step d w (Reply draft) = false
is_draw_step d w (Forward v target) = false
is_draw_step d w (Lock v) = false
is_draw_step d w Unlock = false
is_draw_step d w Flush = true
is_draw_step d w Sync = true
is_draw_step d w (Draw c) = is_command_for d w c && is_drawing c

-- ---- applications

-- without a lock: messages, and a lock
abbrev pub is_free_step : Declared → Instruction → Bool
is_free_step d (Note word) = is_note word
is_free_step d (Post v target draft) = is_address d v target && is_draft false draft
is_free_step d (Send v target draft) = is_address d v target && is_draft false draft
is_free_step d (Reply draft) = false
is_free_step d (Forward v target) = false
is_free_step d (Lock v) = nat_lt v (length d.windows)
is_free_step d Unlock = false
is_free_step d Flush = false
is_free_step d Sync = false
is_free_step d (Draw c) = false

-- under the lock of window w: its commands too, and no wait for a reply
abbrev pub is_locked_step : Declared → ℕ → Instruction → Bool
is_locked_step d w (Note word) = is_note word
is_locked_step d w (Post v target draft) = is_address d v target && is_draft false draft
is_locked_step d w (Send v target draft) = false
is_locked_step d w (Reply draft) = false
is_locked_step d w (Forward v target) = false
is_locked_step d w (Lock v) = false
is_locked_step d w Unlock = true
is_locked_step d w Flush = true
is_locked_step d w Sync = true
is_locked_step d w (Draw c) = is_command_for d w c

-- where this window is locked, if one is
abbrev pub is_app_step : Declared → Option ℕ → Instruction → Bool
is_app_step d None step = is_free_step d step
is_app_step d (Some w) step = is_locked_step d w step

-- the window that is locked behind an instruction
abbrev pub lock_behind : Option ℕ → Instruction → Option ℕ
lock_behind lock (Lock w) = Some w
lock_behind lock Unlock = None
lock_behind lock (Note word) = lock
lock_behind lock (Post v target draft) = lock
lock_behind lock (Send v target draft) = lock
lock_behind lock (Reply draft) = lock
lock_behind lock (Forward v target) = lock
lock_behind lock Flush = lock
lock_behind lock Sync = lock
lock_behind lock (Draw c) = lock

-- what is left of an application's program, where this window is locked, if one is; it ends without
-- a lock
abbrev pub is_rest_of_app : Declared → Option ℕ → List Instruction → Bool
is_rest_of_app d None [] = true
is_rest_of_app d (Some w) [] = false
is_rest_of_app d lock (step ∷ rest) =
    is_app_step d lock step && is_rest_of_app d (lock_behind lock step) rest

-- all of its program
unfoldable pub is_app_program : Declared → List Instruction → Bool
is_app_program d steps = is_short steps && is_rest_of_app d None steps

-- the program of a handler's body, and of a Draw body
unfoldable pub is_body_program : Declared → ℕ → List Instruction → Bool
is_body_program d w steps = is_short steps && list_all (is_body_step d w) steps

unfoldable pub is_draw_program : Declared → ℕ → List Instruction → Bool
is_draw_program d w steps = is_short steps && list_all (is_draw_step d w) steps

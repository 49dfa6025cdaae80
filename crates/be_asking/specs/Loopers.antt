-- What a looper wants, by itself and by how full its buffer is.
use Rattle.std.specs.Prelude.{◌≡◌, ℕ, ◌==◌, List, Option, Some, None, option_map, if◌then◌else◌}
use Rattle.be_actor.specs.declared.Instruction.{Instruction}
use Rattle.be_actor.specs.declared.Place.{Place}
use Rattle.be_actor.specs.Wishes.{has_no_room, wish_of}
use Rattle.be_looper.specs.Duties.{Hand}
use Rattle.be_message.specs.Messages.{Message}
use Rattle.be_script.specs.Script.{Declared}
use Rattle.be_machine.specs.Activities as by
use Rattle.be_machine.specs.Program.{hand_in, letter_program, update_program}
use Rattle.be_machine.specs.State.{Looper, free, locked, handling, Stage, in_body, beginning}
use Rattle.be_machine.specs.State.{in_update, ending}
use Rattle.be_machine.specs.Wants.{Want, asks_or, takes, begins, flushes, draws_end, ends}
use Rattle.be_asking.specs.Wants.{want_in}
use Rattle.be_asking.specs.declared.want.Want as told

-- what comes at the end of a message
abbrev pub end_by : ℕ → ℕ → Want
end_by w n = if n == 0 then ends w else flushes w

-- and at the end of an update
abbrev pub draw_end_by : ℕ → ℕ → Want
draw_end_by w n = if has_no_room n then flushes w else draws_end w

-- at a place of these instructions, beside the message in hand
abbrev pub steps_by : ℕ → ℕ → Hand Message → List Instruction → Place → Want → Want
steps_by w n hand program place last =
    asks_or (by.looper w) (wish_of program place (Some hand.letter.body) n) last

abbrev pub stage_by : Declared → ℕ → ℕ → Hand Message → Stage → Want
stage_by d w n hand (in_body place) = steps_by w n hand (letter_program d w hand) place (end_by w n)
stage_by d w n hand beginning = begins w
stage_by d w n hand (in_update views place) =
    steps_by w n hand (update_program d w views) place (draw_end_by w n)
stage_by d w n hand ending = end_by w n

abbrev pub looper_by : Declared → ℕ → ℕ → Looper → Want
looper_by d w n (handling hand stage) = stage_by d w n hand stage
looper_by d w n (locked m) = takes w
looper_by d w n free = takes w

-- with this looper, and so many commands in its buffer, it wants just this
abbrev pub IsTold : Declared → ℕ → Option Looper → ℕ → told.Want → Type 0
IsTold d w (Some l) n want =
    want_in (option_map (λ hand. hand.letter.body) (hand_in l)) want ≡ looper_by d w n l
IsTold d w None n want = Unit {0}

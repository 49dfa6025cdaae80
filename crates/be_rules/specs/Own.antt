-- What an activity's want is determined by.
use Rattle.std.specs.Prelude.{◌≡◌, ℕ, Bool, true, false, Option, Some, None, slice_get}
use Rattle.be_actor.specs.declared.Instruction.{Instruction}
use Rattle.be_actor.specs.declared.Instruction.TheVariants.{Note, Post, Send, Reply, Forward, Lock}
use Rattle.be_actor.specs.declared.Instruction.TheVariants.{Unlock, Flush, Sync, Draw}
use Rattle.be_script.specs.Script.{Declared}
use Rattle.be_machine.specs.Activities.{Activity, runner, app, looper, twin, input, closing}
use Rattle.be_machine.specs.Program.{app_program, lock_of}
use Rattle.be_machine.specs.State.{State, App}
use Rattle.be_machine.specs.Touched.{SamePart}
use Rattle.be_machine.specs.Touched as part

-- how full the buffer is decides what the instruction asks for
abbrev pub reads_buffer : Option Instruction → Bool
reads_buffer (Some Unlock) = true
reads_buffer (Some (Draw command)) = true
reads_buffer (Some (Note word)) = false
reads_buffer (Some (Post w target draft)) = false
reads_buffer (Some (Send w target draft)) = false
reads_buffer (Some (Reply draft)) = false
reads_buffer (Some (Forward w target)) = false
reads_buffer (Some (Lock w)) = false
reads_buffer (Some Flush) = false
reads_buffer (Some Sync) = false
reads_buffer None = false

-- the instruction at which an application is
abbrev pub step_of : Declared → ℕ → App → Option Instruction
step_of d m a = slice_get (app_program d m) a.place.step

-- what the activity's want reads is the same in both states
abbrev pub SameOwn : Declared → State → State → Activity → Type 0
SameOwn d s r (runner (app m)) =
    SamePart s r (part.cell m)
    × ((a : App) (w : ℕ) → slice_get s.apps m ≡ Some a → reads_buffer (step_of d m a) ≡ true
    → lock_of d m a ≡ Some w → SamePart s r (part.looper w))
SameOwn d s r (runner (looper w)) = SamePart s r (part.looper w)
SameOwn d s r (twin w) = SamePart s r (part.pane w)
SameOwn d s r input = SamePart s r part.input
SameOwn d s r closing = SamePart s r part.input

-- A letter that is read before the entry that takes it (this project's own).
use Rattle.std.specs.Prelude.{◌≡◌, ℕ, List, ◌++◌, Option, Some, None, slice_get}
use Rattle.be_machine.specs.Activities.{Activity, app, closing, input, looper, runner, twin}
use Rattle.be_machine.specs.Legal.{IsLegal}
use Rattle.be_machine.specs.State.{State}
use Rattle.be_machine.specs.declared.Entry.{Entry}
use Rattle.be_message.specs.Messages.{Message}
use Rattle.be_port.specs.Ports as ports
use Rattle.be_port.specs.Queues.{Queue}
use Rattle.be_port.specs.StandsFor.{PortStandsFor}
use Rattle.be_port.specs.declared.letter.Letter as held
use Rattle.be_pressed.specs.Taken.{entry_takes}
use Rattle.be_pressed.specs.declared.letter.TakenLetter.{TakenLetter}
use Rattle.be_script.specs.Script.{Declared}

-- the window whose looper an activity is
abbrev pub looper_in : Activity → Option ℕ
looper_in (runner (looper w)) = Some w
looper_in (runner (app m)) = None
looper_in (twin w) = None
looper_in input = None
looper_in closing = None

-- behind the letters stand those that a legal entry of this activity takes
abbrev pub TakesNow
    : Declared → State → ℕ → List TakenLetter → List TakenLetter → Type 0
TakesNow d s actor old new =
    (e : Entry) → e.actor ≡ actor → IsLegal d s e → new ≡ old ++ entry_takes d s e

-- the code's port of a window stands for the machine's, and this is its first letter
pub record IsFrontPort (s : State) (w : ℕ) (first : Option held.Letter) : Type 0 where
  pub queue : Queue
  pub port : ports.Port Message
  pub there : slice_get s.ports w ≡ Some port
  pub stands : PortStandsFor queue port
  pub front : slice_get queue.letters 0 ≡ first

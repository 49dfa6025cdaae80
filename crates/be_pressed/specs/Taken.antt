-- The letters that the loopers take, in the order of a history (this project's own).
use Rattle.std.specs.Prelude.{ℕ, ◌+◌, List, [], ◌∷◌, ◌++◌, slice_get}
use Rattle.std.specs.Prelude.{option_and_then, option_map, option_to_list}
use Rattle.std.specs.Option.{option_map_or}
use Rattle.be_machine.specs.Activities.{activity_of}
use Rattle.be_machine.specs.State.{State, opening_state}
use Rattle.be_machine.specs.Step.{step}
use Rattle.be_machine.specs.Wants.{Want, asks, takes, begins, flushes, draws_end, ends, notifies}
use Rattle.be_machine.specs.Wants.{executes, uses, stops, want_of}
use Rattle.be_machine.specs.declared.Entry.{Entry}
use Rattle.be_message.specs.Messages.{Message}
use Rattle.be_port.specs.Ports.{Letter, Port, front}
use Rattle.be_script.specs.Script.{Declared}
use Rattle.be_pressed.specs.declared.letter.TakenLetter.{TakenLetter}

-- ---- one entry

-- a letter of a window's port behind those that were taken
abbrev pub as_taken : ℕ → Port Message → Letter Message → TakenLetter
as_taken w p letter = record {
  window = w;
  number = p.taken + 1;
  target = letter.target;
  message = letter.body;
}

abbrev pub taken_from : ℕ → Port Message → List TakenLetter
taken_from w p = option_to_list (option_map (as_taken w p) (front p))

-- only who wants to take a letter takes one
abbrev pub taken_by : State → Want → List TakenLetter
taken_by s (takes w) = option_map_or (taken_from w) (slice_get s.ports w) []
taken_by s (asks who wish) = []
taken_by s (begins w) = []
taken_by s (flushes w) = []
taken_by s (draws_end w) = []
taken_by s (ends w) = []
taken_by s (notifies w) = []
taken_by s (executes w) = []
taken_by s (uses line) = []
taken_by s stops = []

-- what the entry's activity wants in the state before it
abbrev pub entry_takes : Declared → State → Entry → List TakenLetter
entry_takes d s e =
    option_map_or (taken_by s) (option_and_then (want_of d s) (activity_of d e.actor)) []

-- ---- a history

-- from a state on
unfoldable pub letters_from : Declared → State → List Entry → List TakenLetter
letters_from d s [] = []
letters_from d s (e ∷ es) = entry_takes d s e ++ letters_from d (step d s e) es

abbrev pub letters_taken : Declared → List Entry → List TakenLetter
letters_taken d h = letters_from d (opening_state d) h

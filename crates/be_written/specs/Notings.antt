-- What is noted of an entry, as the code has it, and the texts of what runners note (this project's
-- own).
use Rattle.std.specs.Prelude.{◌≡◌, ℕ, Bool, false, List, [], ◌∷◌, ◌++◌, map, Option, Some, None}
use Rattle.std.specs.Prelude.{if◌then◌else◌}
use Rattle.std.specs.Option.{option_map_or}
use Rattle.be_looper.specs.Duties.{Hand}
use Rattle.be_message.specs.Messages.{Message}
use Rattle.be_script.specs.Script.{Declared}
use Rattle.be_machine.specs.Activities.{Runner}
use Rattle.be_machine.specs.declared.Entry.{Entry}
use Rattle.be_machine.specs.State.{State, opening_state}
use Rattle.be_machine.specs.Step.{step}
use Rattle.be_machine.specs.Traces.{Trace, noted, got, took, listed, replied, entry_trace}
use Rattle.be_machine.specs.Traces.{same_runner, traces_of}
use Rattle.be_written.specs.declared.note.Note.{Note}
use Rattle.be_written.specs.declared.note.Note.TheVariants as note
use Rattle.be_written.specs.Runners.{IsRunner, runner_at}
use Rattle.be_written.specs.Spelt.{IsSaid}
use Rattle.be_written.specs.Takings.{Tells}
use Rattle.be_written.specs.TraceText.{noted_text}

-- ---- one entry

abbrev pub noted_by : Declared → State → Entry → Option Runner → List Trace
noted_by d s e (Some who) = entry_trace d s who e
noted_by d s e None = []

-- what the maker of an entry notes of it, in the state before it
abbrev pub maker_trace : Declared → State → Entry → List Trace
maker_trace d s e = noted_by d s e (runner_at d e.actor)

-- a note of the code says this and nothing more
abbrev pub Says : Note → List Trace → Type 0
Says note.Nothing traces = traces ≡ []
Says (note.Word word) traces = traces ≡ noted word.now ∷ []
Says (note.Got said) traces = (m : Message) × (IsSaid said m × (traces ≡ got m ∷ []))
Says (note.Took n taken) traces =
    (hand : Hand Message) × (Tells taken hand × (traces ≡ took n hand ∷ []))
Says (note.Listed views) traces = traces ≡ map (λ p. listed p.0 p.1) views.now
Says (note.Replied said) traces = (m : Message) × (IsSaid said m × (traces ≡ replied m ∷ []))

-- ---- its text

abbrev pub text_by : Declared → Option Runner → List Trace → List ℕ
text_by d (Some who) traces = noted_text d who traces
text_by d None traces = []

-- the lines of what the maker of an entry notes of it, in the state before it; other activities
-- note nothing
abbrev pub entry_text : Declared → State → Entry → List ℕ
entry_text d s e = text_by d (runner_at d e.actor) (maker_trace d s e)

-- the runner makes the entry
abbrev pub is_made_by : Declared → Runner → Entry → Bool
is_made_by d who e = option_map_or (same_runner who) (runner_at d e.actor) false

-- the texts of the runner's own entries, one behind the other, from the state s on
unfoldable pub own_texts_from : Declared → Runner → State → List Entry → List ℕ
own_texts_from d who s [] = []
own_texts_from d who s (e ∷ es) =
    (if is_made_by d who e then entry_text d s e else []) ++ own_texts_from d who (step d s e) es

-- ---- a history

-- the text of a runner's whole trace is that of its own entries
abbrev pub TracesAreOwnTexts : Type 0
TracesAreOwnTexts =
    (d : Declared) (who : Runner) (h : List Entry)
    → noted_text d who (traces_of d who h) ≡ own_texts_from d who (opening_state d) h

-- each runner's text has the lines of what it notes of the whole history
abbrev pub AreTold : Declared → List Entry → (Runner → List ℕ) → Type 0
AreTold d h told = (who : Runner) → IsRunner d who → told who ≡ noted_text d who (traces_of d who h)

-- A runner notes nothing of the entries of others.
use Rattle.std.proofs.Common.{◌≡◌, ℕ, Bool, true, false, List, [], Option, Some, None, option_map, refl, sym, ap, subst}
use Rattle.std.specs.Prelude.{option_and_then, slice_get, if◌then◌else◌}
use Rattle.std.specs.Option.{option_map_or}
use Rattle.std.proofs.lemmas.Bool.{false≢true, eqb-true}
use Rattle.be_actor.specs.declared.Wish.{Wish}
use Rattle.be_looper.specs.Duties.{Hand}
use Rattle.be_message.specs.Messages.{Message}
use Rattle.be_script.specs.declared.InputLine.{InputLine}
use Rattle.be_script.specs.Script.{Declared}
use Rattle.be_machine.specs.Activities.{Runner, app, looper, Activity, runner, twin, input, closing, activity_of}
use Rattle.be_machine.specs.declared.Entry.{Entry}
use Rattle.be_machine.specs.Program.{app_wish, body_wish, letter_program, update_program}
use Rattle.be_machine.specs.State.{State, Looper, free, locked, handling, Stage, in_body, beginning, in_update, ending}
use Rattle.be_machine.specs.Traces.{Trace, same_runner, trace_of, entry_trace}
use Rattle.be_machine.specs.Wants.{Want, asks, flushes, draws_end, ends, notifies, executes, uses, want_of, asks_or, end_want, draw_end_want, stage_want, looper_want}
use Rattle.be_written.specs.Runners.{runner_in, runner_at}

-- ---- two runners

pub same_is : (who other : Runner) → same_runner who other ≡ true → who ≡ other
same_is (app m) (app n) e = ap app (eqb-true m n e)
same_is (looper w) (looper v) e = ap looper (eqb-true w v e)
same_is (app m) (looper w) e = absurd (false≢true e)
same_is (looper w) (app m) e = absurd (false≢true e)

-- ---- wants of one activity

-- what a runner notes of a want that another has, or nobody
abbrev IsQuiet : Declared → State → Runner → Option Want → Type 0
IsQuiet d s who want = option_map_or (trace_of d s who) want [] ≡ []

other_notes : (b : Bool) (traces : List Trace) → b ≡ false → (if b then traces else []) ≡ []
other_notes false traces e = refl
other_notes true traces e = absurd (false≢true (sym e))

quiet_end : (d : Declared) (s : State) (who : Runner) (w : ℕ) (b : Bool) → IsQuiet d s who (Some (if b then ends w else flushes w))
quiet_end d s who w true = refl
quiet_end d s who w false = refl

quiet_draw_end : (d : Declared) (s : State) (who : Runner) (w : ℕ) (b : Bool) → IsQuiet d s who (Some (if b then flushes w else draws_end w))
quiet_draw_end d s who w true = refl
quiet_draw_end d s who w false = refl

quiet_asks : (d : Declared) (s : State) (who other : Runner) (wish : Option Wish) (last : Want) → same_runner who other ≡ false → IsQuiet d s who (Some last) → IsQuiet d s who (Some (asks_or other wish last))
quiet_asks d s who other (Some wish) last differs quiet = other_notes (same_runner who other) _ differs
quiet_asks d s who other None last differs quiet = quiet

quiet_stage : (d : Declared) (s : State) (who : Runner) (w : ℕ) (hand : Hand Message) (stage : Stage) → same_runner who (looper w) ≡ false → IsQuiet d s who (Some (stage_want d s w hand stage))
quiet_stage d s who w hand (in_body place) differs =
    quiet_asks d s who (looper w) (body_wish s w hand (letter_program d w hand) place) (end_want s w) differs (quiet_end d s who w _)
quiet_stage d s who w hand beginning differs = other_notes (same_runner who (looper w)) _ differs
quiet_stage d s who w hand (in_update views place) differs =
    quiet_asks d s who (looper w) (body_wish s w hand (update_program d w views) place) (draw_end_want s w) differs (quiet_draw_end d s who w _)
quiet_stage d s who w hand ending differs = quiet_end d s who w _

quiet_looper : (d : Declared) (s : State) (who : Runner) (w : ℕ) (l : Option Looper) → same_runner who (looper w) ≡ false → IsQuiet d s who (option_map (looper_want d s w) l)
quiet_looper d s who w None differs = refl
quiet_looper d s who w (Some (handling hand stage)) differs = quiet_stage d s who w hand stage differs
quiet_looper d s who w (Some (locked m)) differs = other_notes (same_runner who (looper w)) _ differs
quiet_looper d s who w (Some free) differs = other_notes (same_runner who (looper w)) _ differs

quiet_app : (d : Declared) (s : State) (who : Runner) (m : ℕ) (wish : Option Wish) → same_runner who (app m) ≡ false → IsQuiet d s who (option_map (asks (app m)) wish)
quiet_app d s who m None differs = refl
quiet_app d s who m (Some wish) differs = other_notes (same_runner who (app m)) _ differs

quiet_twin : (d : Declared) (s : State) (who : Runner) (w : ℕ) (b : Bool) → IsQuiet d s who (Some (if b then notifies w else executes w))
quiet_twin d s who w true = refl
quiet_twin d s who w false = refl

quiet_input : (d : Declared) (s : State) (who : Runner) (line : Option InputLine) → IsQuiet d s who (option_map uses line)
quiet_input d s who None = refl
quiet_input d s who (Some line) = refl

-- ---- entries

-- it is another runner than this, or none
abbrev pub IsOther : Runner → Option Runner → Type 0
IsOther who (Some other) = same_runner who other ≡ false
IsOther who None = Unit {0}

quiet_activity : (d : Declared) (s : State) (who : Runner) (a : Option Activity) → IsOther who (runner_in a) → IsQuiet d s who (option_and_then (want_of d s) a)
unfolding want_of
quiet_activity d s who (Some (runner (app m))) differs = quiet_app d s who m (app_wish d s m) differs
quiet_activity d s who (Some (runner (looper w))) differs = quiet_looper d s who w (slice_get s.loopers w) differs
quiet_activity d s who (Some (twin w)) differs = quiet_twin d s who w _
quiet_activity d s who (Some input) differs = quiet_input d s who (slice_get d.input s.events)
quiet_activity d s who (Some closing) differs = refl
quiet_activity d s who None differs = refl

-- of an entry that another makes
pub notes_nothing : (d : Declared) (s : State) (who : Runner) (e : Entry) (maker : Option Runner) → runner_at d e.actor ≡ maker → IsOther who maker → entry_trace d s who e ≡ []
notes_nothing d s who e maker is other = quiet_activity d s who (activity_of d e.actor) (subst (IsOther who) (sym is) other)

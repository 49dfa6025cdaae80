-- Each legal entry lowers the potential.
use Rattle.std.proofs.Common.{◌≡◌, ℕ, ◌<◌, Bool, true, false, List, length, Option, Some, None, refl, sym, ap, subst, arith}
use Rattle.std.specs.Prelude.{slice_get, option_map, option_and_then, not, ◌&&◌, if◌then◌else◌}
use Rattle.std.proofs.lemmas.Option.{same_Some}
use Rattle.be_facts.proofs.Lists.{all_at}
use Rattle.be_actor.specs.declared.Instruction.{Instruction}
use Rattle.be_actor.specs.declared.Place.{Place}
use Rattle.be_actor.specs.Wishes.{wish_at, wish_of}
use Rattle.be_looper.specs.Duties.{Hand}
use Rattle.be_message.specs.Messages.{Message}
use Rattle.be_script.specs.declared.InputLine.{InputLine}
use Rattle.be_script.specs.Limits.{IsWithinLimits}
use Rattle.be_script.specs.Programs.{is_body_step, is_draw_step}
use Rattle.be_script.specs.Script.{Declared}
use Rattle.be_machine.specs.Activities.{app, looper, Activity, runner, twin, input, closing}
use Rattle.be_machine.specs.Closing.{all_done, all_quiet}
use Rattle.be_machine.specs.declared.Act.{Act}
use Rattle.be_machine.specs.declared.Act.TheVariants as acts
use Rattle.be_machine.specs.declared.Entry.{Entry}
use Rattle.be_machine.specs.Legal.{want_act, IsLegal}
use Rattle.be_machine.specs.Program.{app_program, app_wish, letter_program, update_program, buffered}
use Rattle.be_machine.specs.State.{State, App, Looper, free, locked, handling, Stage, in_body, beginning, in_update, ending}
use Rattle.be_machine.specs.Step.{met, step}
use Rattle.be_machine.specs.Wants.{Want, asks, uses, stops, asks_or, end_want, draw_end_want, stage_want, looper_want, twin_want, want_of}
use Rattle.be_machine.proofs.LegalEntries.{IsMet, met_by}
use Rattle.be_machine.proofs.NumbersGrow.{AreRooted}
use Rattle.be_machine.proofs.WorkActors.{app_instruction}
use Rattle.be_machine.proofs.WorkInput.{uses_falls}
use Rattle.be_machine.proofs.WorkInstructions.{Falls}
use Rattle.be_machine.proofs.WorkLoopers.{body_instruction, draw_instruction}
use Rattle.be_machine.proofs.Programs.{body_steps, update_steps}
use Rattle.be_machine.specs.Shares.{going, potential}
use Rattle.be_machine.proofs.WorkStages.{end_falls, draw_end_falls, begins_falls, takes_falls}
use Rattle.be_machine.proofs.WorkTwins.{twin_falls}

-- a part for each window, and roots without parents
pub record HasShape (d : Declared) (s : State) : Type 0 where
  pub panes : length s.panes ≡ length d.windows
  pub ports : length s.ports ≡ length d.windows
  pub rooted : AreRooted s.desk.pointing.trees

-- ---- applications

app_at : (d : Declared) (s : State) (m : ℕ) (a : App) (o : Option Instruction) (want : Want) → slice_get s.apps m ≡ Some a → slice_get (app_program d m) a.place.step ≡ o → option_map (asks (app m)) (option_map (wish_at a.place.part None (buffered s (app m))) o) ≡ Some want → Falls d s want
app_at d s m a (Some i) want read at_i e = subst (Falls d s) (same_Some (asks (app m) (wish_at a.place.part None (buffered s (app m)) i)) want e) (app_instruction d s m a i read at_i)
app_at d s m a None want read at_i e = cc

app_by : (d : Declared) (s : State) (m : ℕ) (o : Option App) (want : Want) → slice_get s.apps m ≡ o → option_map (asks (app m)) (option_and_then (λ a. wish_of (app_program d m) a.place None (buffered s (app m))) o) ≡ Some want → Falls d s want
unfolding wish_of
app_by d s m (Some a) want read e = app_at d s m a (slice_get (app_program d m) a.place.step) want read refl e
app_by d s m None want read e = cc

app_falls : (d : Declared) (s : State) (m : ℕ) (want : Want) → want_of d s (runner (app m)) ≡ Some want → Falls d s want
unfolding want_of app_wish
app_falls d s m want e = app_by d s m (slice_get s.apps m) want refl e

-- ---- loopers

body_at : (d : Declared) (s : State) (w : ℕ) (hand : Hand Message) (place : Place) (o : Option Instruction) → IsWithinLimits d → slice_get s.loopers w ≡ Some (handling hand (in_body place)) → slice_get (letter_program d w hand) place.step ≡ o → Falls d s (asks_or (looper w) (option_map (wish_at place.part (Some hand.letter.body) (buffered s (looper w))) o) (end_want s w))
body_at d s w hand place (Some i) limits read at_i =
    body_instruction d s w hand place i read at_i (all_at (is_body_step d w) (letter_program d w hand) place.step i (body_steps d w hand.letter.body.what hand.route limits) at_i)
body_at d s w hand place None limits read at_i = end_falls d s w hand (in_body place) read (omega arith)

update_at : (d : Declared) (s : State) (w : ℕ) (hand : Hand Message) (views : List ℕ) (place : Place) (o : Option Instruction) → IsWithinLimits d → slice_get s.loopers w ≡ Some (handling hand (in_update views place)) → slice_get (update_program d w views) place.step ≡ o → Falls d s (asks_or (looper w) (option_map (wish_at place.part (Some hand.letter.body) (buffered s (looper w))) o) (draw_end_want s w))
update_at d s w hand views place (Some i) limits read at_i =
    draw_instruction d s w hand views place i read at_i (all_at (is_draw_step d w) (update_program d w views) place.step i (update_steps d w views limits) at_i)
update_at d s w hand views place None limits read at_i = draw_end_falls d s w hand (in_update views place) read (omega arith)

stage_falls : (d : Declared) (s : State) (w : ℕ) (hand : Hand Message) (stage : Stage) → IsWithinLimits d → HasShape d s → slice_get s.loopers w ≡ Some (handling hand stage) → Falls d s (stage_want d s w hand stage)
unfolding wish_of
stage_falls d s w hand (in_body place) limits shape read = body_at d s w hand place (slice_get (letter_program d w hand) place.step) limits read refl
stage_falls d s w hand beginning limits shape read = begins_falls d s w hand shape.rooted read
stage_falls d s w hand (in_update views place) limits shape read = update_at d s w hand views place (slice_get (update_program d w views) place.step) limits read refl
stage_falls d s w hand ending limits shape read = end_falls d s w hand ending read (omega arith)

looper_at : (d : Declared) (s : State) (w : ℕ) (l : Looper) (act : Act) → IsWithinLimits d → HasShape d s → slice_get s.loopers w ≡ Some l → want_act d s (looper_want d s w l) ≡ Some act → Falls d s (looper_want d s w l)
looper_at d s w (handling hand stage) act limits shape read legal = stage_falls d s w hand stage limits shape read
looper_at d s w (locked m) act limits shape read legal = takes_falls d s w act legal
looper_at d s w free act limits shape read legal = takes_falls d s w act legal

looper_by : (d : Declared) (s : State) (w : ℕ) (o : Option Looper) (want : Want) (act : Act) → IsWithinLimits d → HasShape d s → slice_get s.loopers w ≡ o → option_map (looper_want d s w) o ≡ Some want → want_act d s want ≡ Some act → Falls d s want
looper_by d s w (Some l) want act limits shape read e legal =
    let same : looper_want d s w l ≡ want = same_Some (looper_want d s w l) want e in
    subst (Falls d s) same (looper_at d s w l act limits shape read (subst (λ x. want_act d s x ≡ Some act) (sym same) legal))
looper_by d s w None want act limits shape read e legal = cc

looper_falls : (d : Declared) (s : State) (w : ℕ) (want : Want) (act : Act) → IsWithinLimits d → HasShape d s → want_of d s (runner (looper w)) ≡ Some want → want_act d s want ≡ Some act → Falls d s want
unfolding want_of
looper_falls d s w want act limits shape e legal = looper_by d s w (slice_get s.loopers w) want act limits shape refl e legal

-- ---- twins, input and the end

twin_want_falls : (d : Declared) (s : State) (w : ℕ) (want : Want) (act : Act) → HasShape d s → want_of d s (twin w) ≡ Some want → want_act d s want ≡ Some act → Falls d s want
unfolding want_of
twin_want_falls d s w want act shape e legal =
    let same : twin_want s w ≡ want = same_Some (twin_want s w) want e in
    subst (Falls d s) same (twin_falls d s w act shape.panes (subst (λ x. want_act d s x ≡ Some act) (sym same) legal))

input_by : (d : Declared) (s : State) (o : Option InputLine) (want : Want) → IsWithinLimits d → HasShape d s → slice_get d.input s.events ≡ o → option_map uses o ≡ Some want → Falls d s want
input_by d s (Some l) want limits shape read e = subst (Falls d s) (same_Some (uses l) want e) (uses_falls d s l limits shape.panes shape.ports read)
input_by d s None want limits shape read e = cc

input_falls : (d : Declared) (s : State) (want : Want) → IsWithinLimits d → HasShape d s → want_of d s input ≡ Some want → Falls d s want
unfolding want_of
input_falls d s want limits shape e = input_by d s (slice_get d.input s.events) want limits shape refl e

stopped_falls : (d : Declared) (s : State) → s.stopped ≡ false → potential d (record s { stopped = true }) < potential d s
unfolding potential
stopped_falls d s running = let one : going s.stopped ≡ 1 = ap going running in omega (arith, one)

not_stopped : (a b c : Bool) (act : Act) → (if not a && b && c then Some acts.Stop else None) ≡ Some act → a ≡ false
not_stopped false b c act e = refl
not_stopped true b c act e = cc

stops_falls : (d : Declared) (s : State) (act : Act) → want_act d s stops ≡ Some act → Falls d s stops
unfolding met want_act
stops_falls d s act legal = stopped_falls d s (not_stopped s.stopped (all_done d s) (all_quiet s) act legal)

closing_falls : (d : Declared) (s : State) (want : Want) (act : Act) → want_of d s closing ≡ Some want → want_act d s want ≡ Some act → Falls d s want
unfolding want_of
closing_falls d s want act e legal =
    let same : stops ≡ want = same_Some stops want e in
    subst (Falls d s) same (stops_falls d s act (subst (λ x. want_act d s x ≡ Some act) (sym same) legal))

-- ---- all

want_falls : (d : Declared) (s : State) (who : Activity) (want : Want) (act : Act) → IsWithinLimits d → HasShape d s → want_of d s who ≡ Some want → want_act d s want ≡ Some act → Falls d s want
want_falls d s (runner (app m)) want act limits shape e legal = app_falls d s m want e
want_falls d s (runner (looper w)) want act limits shape e legal = looper_falls d s w want act limits shape e legal
want_falls d s (twin w) want act limits shape e legal = twin_want_falls d s w want act shape e legal
want_falls d s input want act limits shape e legal = input_falls d s want limits shape e
want_falls d s closing want act limits shape e legal = closing_falls d s want act e legal

pub potential_falls : (d : Declared) (s : State) (e : Entry) → IsWithinLimits d → HasShape d s → IsLegal d s e → potential d (step d s e) < potential d s
potential_falls d s e limits shape legal =
    let is : IsMet d s e = met_by d s e legal in
    subst (λ t. potential d t < potential d s) (sym is.stepped) (want_falls d s is.who is.want e.act limits shape is.wanted is.granted)

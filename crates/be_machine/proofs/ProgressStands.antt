-- At which instruction somebody stands who asks for something, and what a looper is at that wants something else.
use Rattle.std.proofs.Common.{◌≡◌, ℕ, Bool, true, false, List, Option, Some, None, refl, sym}
use Rattle.std.specs.Prelude.{◌==◌, slice_get, option_map, option_and_then, if◌then◌else◌}
use Rattle.std.proofs.lemmas.Option.{same_Some}
use Rattle.be_facts.proofs.Truths.{and_first}
use Rattle.be_facts.proofs.Lists.{all_at}
use Rattle.be_actor.specs.declared.Instruction.{Instruction}
use Rattle.be_actor.specs.declared.Instruction.TheVariants.{Note, Post, Send, Reply, Forward, Lock, Unlock, Flush, Sync, Draw}
use Rattle.be_actor.specs.declared.Place.{Place}
use Rattle.be_actor.specs.declared.Wish.{Wish}
use Rattle.be_actor.specs.Wishes.{wish_at, wish_of, has_no_room}
use Rattle.be_looper.specs.Duties.{Hand}
use Rattle.be_message.specs.Messages.{Message}
use Rattle.be_script.specs.Limits.{IsWithinLimits}
use Rattle.be_script.specs.Programs.{is_body_step, is_draw_step, is_command_for}
use Rattle.be_script.specs.Script.{Declared}
use Rattle.be_machine.specs.Activities.{app, looper, runner}
use Rattle.be_machine.specs.Program.{app_wish, body_wish, app_program, letter_program, update_program, buffered}
use Rattle.be_machine.specs.State.{State, App, Looper, free, locked, handling, Stage, in_body, beginning, in_update, ending}
use Rattle.be_machine.specs.Wants.{Want, asks, takes, flushes, draws_end, ends, asks_or, end_want, draw_end_want, stage_want, looper_want, want_of}
use Rattle.be_machine.proofs.ProgressCases.{neither}
use Rattle.be_machine.proofs.Programs.{body_steps, update_steps}

-- ---- applications

-- the application and its instruction
pub record AppStands (d : Declared) (s : State) (m : ℕ) (wish : Wish) : Type 0 where
  pub it : App
  pub read : slice_get s.apps m ≡ Some it
  pub step : Instruction
  pub next : slice_get (app_program d m) it.place.step ≡ Some step
  pub asked : wish_at it.place.part None (buffered s (app m)) step ≡ wish

app_at : (d : Declared) (s : State) (m : ℕ) (wish : Wish) (a : App) (o : Option Instruction) → slice_get s.apps m ≡ Some a → slice_get (app_program d m) a.place.step ≡ o → option_map (asks (app m)) (option_map (wish_at a.place.part None (buffered s (app m))) o) ≡ Some (asks (app m) wish) → AppStands d s m wish
app_at d s m wish a (Some i) read next e =
    let same : wish_at a.place.part None (buffered s (app m)) i ≡ wish = cc in
    record { it = a; read = read; step = i; next = next; asked = same }
app_at d s m wish a None read next e = cc

app_there : (d : Declared) (s : State) (m : ℕ) (wish : Wish) (o : Option App) → slice_get s.apps m ≡ o → option_map (asks (app m)) (option_and_then (λ a. wish_of (app_program d m) a.place None (buffered s (app m))) o) ≡ Some (asks (app m) wish) → AppStands d s m wish
unfolding wish_of
app_there d s m wish (Some a) read e = app_at d s m wish a (slice_get (app_program d m) a.place.step) read refl e
app_there d s m wish None read e = cc

pub app_stands : (d : Declared) (s : State) (m : ℕ) (wish : Wish) → want_of d s (runner (app m)) ≡ Some (asks (app m) wish) → AppStands d s m wish
unfolding want_of app_wish
app_stands d s m wish e = app_there d s m wish (slice_get s.apps m) refl e

-- ---- bodies

-- what may stand in a Draw body may stand in a body
pub draw_step_is : (d : Declared) (w : ℕ) (i : Instruction) → is_draw_step d w i ≡ true → is_body_step d w i ≡ true
draw_step_is d w (Note word) h = h
draw_step_is d w (Post v target draft) h = cc
draw_step_is d w (Send v target draft) h = cc
draw_step_is d w (Reply draft) h = cc
draw_step_is d w (Forward v target) h = cc
draw_step_is d w (Lock v) h = cc
draw_step_is d w Unlock h = cc
draw_step_is d w Flush h = refl
draw_step_is d w Sync h = refl
draw_step_is d w (Draw c) h = and_first (is_command_for d w c) _ h

-- the letter in the looper's hand, and the instruction
pub record LooperStands (d : Declared) (s : State) (w : ℕ) (wish : Wish) : Type 0 where
  pub hand : Hand Message
  pub stage : Stage
  pub read : slice_get s.loopers w ≡ Some (handling hand stage)
  pub place : Place
  pub step : Instruction
  pub allowed : is_body_step d w step ≡ true
  pub asked : wish_at place.part (Some hand.letter.body) (buffered s (looper w)) step ≡ wish

body_at : (d : Declared) (s : State) (w : ℕ) (wish : Wish) (hand : Hand Message) (stage : Stage) (place : Place) (program : List Instruction) (last : Want) (o : Option Instruction) → slice_get s.loopers w ≡ Some (handling hand stage) → slice_get program place.step ≡ o → ((i : Instruction) → slice_get program place.step ≡ Some i → is_body_step d w i ≡ true) → (last ≡ asks (looper w) wish → ⊥) → asks_or (looper w) (option_map (wish_at place.part (Some hand.letter.body) (buffered s (looper w))) o) last ≡ asks (looper w) wish → LooperStands d s w wish
body_at d s w wish hand stage place program last (Some i) read next allowed other e =
    let same : wish_at place.part (Some hand.letter.body) (buffered s (looper w)) i ≡ wish = cc in
    record { hand = hand; stage = stage; read = read; place = place; step = i; allowed = allowed i next; asked = same }
body_at d s w wish hand stage place program last None read next allowed other e = absurd (other e)

end_asks : (s : State) (w : ℕ) (wish : Wish) → end_want s w ≡ asks (looper w) wish → ⊥
end_asks s w wish e = neither (buffered s (looper w) == 0) (ends w) (flushes w) (asks (looper w) wish) _ (λ h. cc) (λ h. cc) e

draw_end_asks : (s : State) (w : ℕ) (wish : Wish) → draw_end_want s w ≡ asks (looper w) wish → ⊥
draw_end_asks s w wish e = neither (has_no_room (buffered s (looper w))) (flushes w) (draws_end w) (asks (looper w) wish) _ (λ h. cc) (λ h. cc) e

stage_stands : (d : Declared) (s : State) (w : ℕ) (wish : Wish) (hand : Hand Message) (stage : Stage) → IsWithinLimits d → slice_get s.loopers w ≡ Some (handling hand stage) → stage_want d s w hand stage ≡ asks (looper w) wish → LooperStands d s w wish
unfolding wish_of
stage_stands d s w wish hand (in_body place) limits read e =
    let program = letter_program d w hand in
    body_at d s w wish hand (in_body place) place program (end_want s w) (slice_get program place.step) read refl (λ i next. all_at (is_body_step d w) program place.step i (body_steps d w hand.letter.body.what hand.route limits) next) (end_asks s w wish) e
stage_stands d s w wish hand beginning limits read e = cc
stage_stands d s w wish hand (in_update views place) limits read e =
    let program = update_program d w views in
    body_at d s w wish hand (in_update views place) place program (draw_end_want s w) (slice_get program place.step) read refl (λ i next. draw_step_is d w i (all_at (is_draw_step d w) program place.step i (update_steps d w views limits) next)) (draw_end_asks s w wish) e
stage_stands d s w wish hand ending limits read e = absurd (end_asks s w wish e)

looper_by : (d : Declared) (s : State) (w : ℕ) (wish : Wish) (l : Looper) → IsWithinLimits d → slice_get s.loopers w ≡ Some l → looper_want d s w l ≡ asks (looper w) wish → LooperStands d s w wish
looper_by d s w wish (handling hand stage) limits read e = stage_stands d s w wish hand stage limits read e
looper_by d s w wish (locked m) limits read e = cc
looper_by d s w wish free limits read e = cc

looper_there : (d : Declared) (s : State) (w : ℕ) (want : Want) (P : Type 0) (o : Option Looper) → slice_get s.loopers w ≡ o → ((l : Looper) → slice_get s.loopers w ≡ Some l → looper_want d s w l ≡ want → P) → option_map (looper_want d s w) o ≡ Some want → P
looper_there d s w want P (Some l) read by e = by l read (same_Some _ want e)
looper_there d s w want P None read by e = cc

pub looper_stands : (d : Declared) (s : State) (w : ℕ) (wish : Wish) → IsWithinLimits d → want_of d s (runner (looper w)) ≡ Some (asks (looper w) wish) → LooperStands d s w wish
unfolding want_of
looper_stands d s w wish limits e = looper_there d s w (asks (looper w) wish) (LooperStands d s w wish) (slice_get s.loopers w) refl (λ l read h. looper_by d s w wish l limits read h) e

-- ---- other wants of a looper

-- the looper has a letter in its hand
pub record Handles (s : State) (w : ℕ) : Type 0 where
  pub hand : Hand Message
  pub stage : Stage
  pub read : slice_get s.loopers w ≡ Some (handling hand stage)

handles_by : (d : Declared) (s : State) (w : ℕ) (want : Want) (l : Looper) → (want ≡ takes w → ⊥) → slice_get s.loopers w ≡ Some l → looper_want d s w l ≡ want → Handles s w
handles_by d s w want (handling hand stage) other read e = record { hand = hand; stage = stage; read = read }
handles_by d s w want (locked m) other read e = absurd (other (sym e))
handles_by d s w want free other read e = absurd (other (sym e))

-- but where it wants a letter
pub handles : (d : Declared) (s : State) (w : ℕ) (want : Want) → (want ≡ takes w → ⊥) → want_of d s (runner (looper w)) ≡ Some want → Handles s w
unfolding want_of
handles d s w want other e = looper_there d s w want (Handles s w) (slice_get s.loopers w) refl (λ l read h. handles_by d s w want l other read h) e

ends_if : (w : ℕ) (b : Bool) → (if b then ends w else flushes w) ≡ ends w → b ≡ true
ends_if w true e = refl
ends_if w false e = cc

ends_asks : (w : ℕ) (o : Option Wish) (b : Bool) → asks_or (looper w) o (if b then ends w else flushes w) ≡ ends w → b ≡ true
ends_asks w (Some wish) b e = cc
ends_asks w None b e = ends_if w b e

ends_draw : (w : ℕ) (o : Option Wish) (b : Bool) (P : Type 0) → asks_or (looper w) o (if b then flushes w else draws_end w) ≡ ends w → P
ends_draw w (Some wish) b P e = cc
ends_draw w None true P e = cc
ends_draw w None false P e = cc

ends_by : (d : Declared) (s : State) (w : ℕ) (l : Looper) → looper_want d s w l ≡ ends w → (buffered s (looper w) == 0) ≡ true
ends_by d s w (handling hand (in_body place)) e = ends_asks w (body_wish s w hand (letter_program d w hand) place) (buffered s (looper w) == 0) e
ends_by d s w (handling hand beginning) e = cc
ends_by d s w (handling hand (in_update views place)) e = ends_draw w (body_wish s w hand (update_program d w views) place) (has_no_room (buffered s (looper w))) _ e
ends_by d s w (handling hand ending) e = ends_if w (buffered s (looper w) == 0) e
ends_by d s w (locked m) e = cc
ends_by d s w free e = cc

-- a message ends with an empty buffer
pub ends_empty : (d : Declared) (s : State) (w : ℕ) → want_of d s (runner (looper w)) ≡ Some (ends w) → (buffered s (looper w) == 0) ≡ true
unfolding want_of
ends_empty d s w e = looper_there d s w (ends w) ((buffered s (looper w) == 0) ≡ true) (slice_get s.loopers w) refl (λ l read h. ends_by d s w l h) e

-- What a looper that has a letter in its hand may ask for.
use Rattle.std.proofs.Common.{◌≡◌, ℕ, Bool, true, false, List, Option, Some, None, refl, subst}
use Rattle.std.specs.Prelude.{[], ◌∷◌, not, slice_get, ◌==◌, if◌then◌else◌}
use Rattle.std.specs.List.{list_all}
use Rattle.std.proofs.lemmas.Bool.{and_from}
use Rattle.be_facts.proofs.Truths.{and_first, and_second}
use Rattle.be_facts.proofs.Lists.{all_at}
use Rattle.be_actor.specs.declared.Instruction.{Instruction}
use Rattle.be_actor.specs.declared.Instruction.TheVariants as instruction
use Rattle.be_actor.specs.declared.Place.{Place}
use Rattle.be_actor.specs.declared.Wish.{Wish}
use Rattle.be_actor.specs.declared.Wish.TheVariants.{Note, Post, Send, Forward, Reply, Claim, Lock, Unlock, Flush, SyncDone, Draw}
use Rattle.be_actor.specs.Wishes.{wish_at, wish_of, has_no_room}
use Rattle.be_looper.specs.Duties.{Hand}
use Rattle.be_message.specs.Messages.{Message}
use Rattle.be_script.specs.Limits.{IsWithinLimits}
use Rattle.be_actor.specs.Drafts.{filled}
use Rattle.be_script.specs.Programs.{is_body_step, is_draw_step, is_app_step, is_rest_of_app, lock_behind}
use Rattle.be_script.specs.Script.{Declared}
use Rattle.be_machine.specs.Activities.{Runner, app, looper, runner}
use Rattle.be_machine.specs.Program.{app_program, app_wish, body_wish, letter_program, update_program, buffered}
use Rattle.be_machine.specs.State.{State, App, Looper, free, locked, handling, Stage, in_body, beginning, in_update, ending}
use Rattle.be_machine.specs.Wants.{Want, asks, flushes, draws_end, ends, asks_or, end_want, draw_end_want, stage_want, looper_want, want_of}
use Rattle.be_machine.proofs.Found.{IsMapped, mapped, IsChained, chained}
use Rattle.be_machine.proofs.Programs.{body_steps, update_steps, app_rest}

-- neither locks nor waits are asked for in a body
abbrev pub is_body_wish : Wish → Bool
is_body_wish (Note word) = true
is_body_wish (Post w target message) = true
is_body_wish (Forward w target) = true
is_body_wish (Reply message) = true
is_body_wish Flush = true
is_body_wish SyncDone = true
is_body_wish (Draw command) = true
is_body_wish (Send w target message) = false
is_body_wish Claim = false
is_body_wish (Lock w) = false
is_body_wish Unlock = false

-- ---- instructions

either_wish : (b : Bool) (x y : Wish) → is_body_wish x ≡ true → is_body_wish y ≡ true → is_body_wish (if b then x else y) ≡ true
either_wish true x y h k = h
either_wish false x y h k = k

body_step_wish : (d : Declared) (w part buffered : ℕ) (now : Option Message) (i : Instruction) → is_body_step d w i ≡ true → is_body_wish (wish_at part now buffered i) ≡ true
body_step_wish d w part buffered now (instruction.Note word) h = refl
body_step_wish d w part buffered now (instruction.Post v target draft) h = refl
body_step_wish d w part buffered now (instruction.Send v target draft) h = cc
body_step_wish d w part buffered now (instruction.Reply draft) h = refl
body_step_wish d w part buffered now (instruction.Forward v target) h = refl
body_step_wish d w part buffered now (instruction.Lock v) h = cc
body_step_wish d w part buffered now instruction.Unlock h = cc
body_step_wish d w part buffered now instruction.Flush h = refl
body_step_wish d w part buffered now instruction.Sync h = either_wish (part == 0) Flush SyncDone refl refl
body_step_wish d w part buffered now (instruction.Draw c) h = either_wish (has_no_room buffered) Flush (Draw c) refl refl

draw_step_wish : (d : Declared) (w part buffered : ℕ) (now : Option Message) (i : Instruction) → is_draw_step d w i ≡ true → is_body_wish (wish_at part now buffered i) ≡ true
draw_step_wish d w part buffered now (instruction.Note word) h = refl
draw_step_wish d w part buffered now (instruction.Post v target draft) h = cc
draw_step_wish d w part buffered now (instruction.Send v target draft) h = cc
draw_step_wish d w part buffered now (instruction.Reply draft) h = cc
draw_step_wish d w part buffered now (instruction.Forward v target) h = cc
draw_step_wish d w part buffered now (instruction.Lock v) h = cc
draw_step_wish d w part buffered now instruction.Unlock h = cc
draw_step_wish d w part buffered now instruction.Flush h = refl
draw_step_wish d w part buffered now instruction.Sync h = either_wish (part == 0) Flush SyncDone refl refl
draw_step_wish d w part buffered now (instruction.Draw c) h = either_wish (has_no_room buffered) Flush (Draw c) refl refl

program_wish : (p : Instruction → Bool) (steps : List Instruction) (place : Place) (now : Option Message) (buffered : ℕ) (wish : Wish) → ((i : Instruction) → p i ≡ true → is_body_wish (wish_at place.part now buffered i) ≡ true) → list_all p steps ≡ true → wish_of steps place now buffered ≡ Some wish → is_body_wish wish ≡ true
unfolding wish_of
program_wish p steps place now buffered wish each all e =
    let at : IsMapped (wish_at place.part now buffered) (slice_get steps place.step) wish = mapped (wish_at place.part now buffered) (slice_get steps place.step) wish e in
    subst (λ x. is_body_wish x ≡ true) at.is (each at.from (all_at p steps place.step at.from all at.read))

-- ---- loopers

-- the looper has a letter in its hand
pub record IsHandling (s : State) (w : ℕ) : Type 0 where
  pub hand : Hand Message
  pub stage : Stage
  pub read : slice_get s.loopers w ≡ Some (handling hand stage)

pub asked : (who : Runner) (o : Option Wish) (last : Want) (wish : Wish) → ((other : Runner) (x : Wish) → last ≡ asks other x → ⊥) → asks_or who o last ≡ asks who wish → o ≡ Some wish
asked who (Some x) last wish not e = cc
asked who None last wish not e = absurd (not who wish e)

end_asks : (s : State) (w : ℕ) (b : Bool) (other : Runner) (x : Wish) → (if b then ends w else flushes w) ≡ asks other x → ⊥
end_asks s w true other x e = cc
end_asks s w false other x e = cc

draw_end_asks : (s : State) (w : ℕ) (b : Bool) (other : Runner) (x : Wish) → (if b then flushes w else draws_end w) ≡ asks other x → ⊥
draw_end_asks s w true other x e = cc
draw_end_asks s w false other x e = cc

stage_asks : (d : Declared) (s : State) (w : ℕ) (hand : Hand Message) (g : Stage) (wish : Wish) → IsWithinLimits d → stage_want d s w hand g ≡ asks (looper w) wish → is_body_wish wish ≡ true
stage_asks d s w hand (in_body place) wish limits e =
    program_wish (is_body_step d w) (letter_program d w hand) place (Some hand.letter.body) (buffered s (looper w)) wish (body_step_wish d w place.part (buffered s (looper w)) (Some hand.letter.body))
    (body_steps d w hand.letter.body.what hand.route limits)
    (asked (looper w) (body_wish s w hand (letter_program d w hand) place) (end_want s w) wish (end_asks s w (buffered s (looper w) == 0)) e)
stage_asks d s w hand beginning wish limits e = cc
stage_asks d s w hand (in_update views place) wish limits e =
    program_wish (is_draw_step d w) (update_program d w views) place (Some hand.letter.body) (buffered s (looper w)) wish (draw_step_wish d w place.part (buffered s (looper w)) (Some hand.letter.body))
    (update_steps d w views limits)
    (asked (looper w) (body_wish s w hand (update_program d w views) place) (draw_end_want s w) wish (draw_end_asks s w (has_no_room (buffered s (looper w)))) e)
stage_asks d s w hand ending wish limits e = absurd (end_asks s w (buffered s (looper w) == 0) (looper w) wish e)

looper_asks : (d : Declared) (s : State) (w : ℕ) (l : Looper) (wish : Wish) → IsWithinLimits d → looper_want d s w l ≡ asks (looper w) wish → is_body_wish wish ≡ true
looper_asks d s w (handling hand g) wish limits e = stage_asks d s w hand g wish limits e
looper_asks d s w (locked m) wish limits e = cc
looper_asks d s w free wish limits e = cc

-- a looper asks only for what a body may ask for
pub body_asks : (d : Declared) (s : State) (w : ℕ) (wish : Wish) → IsWithinLimits d → want_of d s (runner (looper w)) ≡ Some (asks (looper w) wish) → is_body_wish wish ≡ true
unfolding want_of
body_asks d s w wish limits e =
    let at : IsMapped (looper_want d s w) (slice_get s.loopers w) (asks (looper w) wish) = mapped (looper_want d s w) (slice_get s.loopers w) (asks (looper w) wish) e in
    looper_asks d s w at.from wish limits at.is

looper_holds : (d : Declared) (s : State) (w : ℕ) (l : Looper) (x : Wish) → looper_want d s w l ≡ asks (looper w) x → slice_get s.loopers w ≡ Some l → IsHandling s w
looper_holds d s w (handling hand g) x e read = record { hand = hand; stage = g; read = read }
looper_holds d s w (locked m) x e read = cc
looper_holds d s w free x e read = cc

-- only a looper with a letter in its hand asks for something
pub hand_asks : (d : Declared) (s : State) (w : ℕ) (wish : Wish) → want_of d s (runner (looper w)) ≡ Some (asks (looper w) wish) → IsHandling s w
unfolding want_of
hand_asks d s w wish e =
    let at : IsMapped (looper_want d s w) (slice_get s.loopers w) (asks (looper w) wish) = mapped (looper_want d s w) (slice_get s.loopers w) (asks (looper w) wish) e in
    looper_holds d s w at.from wish at.is at.read

-- ---- applications

-- an application forwards nothing
abbrev pub is_app_wish : Wish → Bool
is_app_wish (Forward w target) = false
is_app_wish (Note word) = true
is_app_wish (Post w target message) = true
is_app_wish (Reply message) = true
is_app_wish Flush = true
is_app_wish SyncDone = true
is_app_wish (Draw command) = true
is_app_wish (Send w target message) = true
is_app_wish Claim = true
is_app_wish (Lock w) = true
is_app_wish Unlock = true

abbrev forwards : Instruction → Bool
forwards (instruction.Forward v target) = true
forwards (instruction.Note word) = false
forwards (instruction.Post v target draft) = false
forwards (instruction.Send v target draft) = false
forwards (instruction.Reply draft) = false
forwards (instruction.Lock v) = false
forwards instruction.Unlock = false
forwards instruction.Flush = false
forwards instruction.Sync = false
forwards (instruction.Draw c) = false

app_step_forwards : (d : Declared) (lock : Option ℕ) (i : Instruction) → is_app_step d lock i ≡ true → not (forwards i) ≡ true
app_step_forwards d None (instruction.Forward v target) h = cc
app_step_forwards d (Some w) (instruction.Forward v target) h = cc
app_step_forwards d lock (instruction.Note word) h = refl
app_step_forwards d lock (instruction.Post v target draft) h = refl
app_step_forwards d lock (instruction.Send v target draft) h = refl
app_step_forwards d lock (instruction.Reply draft) h = refl
app_step_forwards d lock (instruction.Lock v) h = refl
app_step_forwards d lock instruction.Unlock h = refl
app_step_forwards d lock instruction.Flush h = refl
app_step_forwards d lock instruction.Sync h = refl
app_step_forwards d lock (instruction.Draw c) h = refl

rest_forwards : (d : Declared) (lock : Option ℕ) (steps : List Instruction) → is_rest_of_app d lock steps ≡ true → list_all (λ i. not (forwards i)) steps ≡ true
rest_forwards d lock [] h = refl
rest_forwards d None (i ∷ rest) h = and_from (not (forwards i)) _ (app_step_forwards d None i (and_first (is_app_step d None i) _ h)) (rest_forwards d (lock_behind None i) rest (and_second (is_app_step d None i) _ h))
rest_forwards d (Some w) (i ∷ rest) h = and_from (not (forwards i)) _ (app_step_forwards d (Some w) i (and_first (is_app_step d (Some w) i) _ h)) (rest_forwards d (lock_behind (Some w) i) rest (and_second (is_app_step d (Some w) i) _ h))

either_app_wish : (b : Bool) (x y : Wish) → is_app_wish x ≡ true → is_app_wish y ≡ true → is_app_wish (if b then x else y) ≡ true
either_app_wish true x y h k = h
either_app_wish false x y h k = k

app_step_wish : (part buffered : ℕ) (now : Option Message) (i : Instruction) → not (forwards i) ≡ true → is_app_wish (wish_at part now buffered i) ≡ true
app_step_wish part buffered now (instruction.Note word) h = refl
app_step_wish part buffered now (instruction.Post v target draft) h = refl
app_step_wish part buffered now (instruction.Send v target draft) h = either_app_wish (part == 0) (Send v target (filled draft now)) Claim refl refl
app_step_wish part buffered now (instruction.Reply draft) h = refl
app_step_wish part buffered now (instruction.Forward v target) h = cc
app_step_wish part buffered now (instruction.Lock v) h = refl
app_step_wish part buffered now instruction.Unlock h = either_app_wish (buffered == 0) Unlock Flush refl refl
app_step_wish part buffered now instruction.Flush h = refl
app_step_wish part buffered now instruction.Sync h = either_app_wish (part == 0) Flush SyncDone refl refl
app_step_wish part buffered now (instruction.Draw c) h = either_app_wish (has_no_room buffered) Flush (Draw c) refl refl

app_program_wish : (steps : List Instruction) (place : Place) (buffered : ℕ) (wish : Wish) → list_all (λ i. not (forwards i)) steps ≡ true → wish_of steps place None buffered ≡ Some wish → is_app_wish wish ≡ true
unfolding wish_of
app_program_wish steps place buffered wish all e =
    let at : IsMapped (wish_at place.part None buffered) (slice_get steps place.step) wish = mapped (wish_at place.part None buffered) (slice_get steps place.step) wish e in
    subst (λ x. is_app_wish x ≡ true) at.is (app_step_wish place.part buffered None at.from (all_at (λ i. not (forwards i)) steps place.step at.from all at.read))

pub same_wish : (who : Runner) (x y : Wish) → asks who x ≡ asks who y → x ≡ y
same_wish who x y e = cc

-- an application asks for no forward
pub app_asks : (d : Declared) (s : State) (m : ℕ) (wish : Wish) → IsWithinLimits d → want_of d s (runner (app m)) ≡ Some (asks (app m) wish) → is_app_wish wish ≡ true
unfolding want_of app_wish
app_asks d s m wish limits e =
    let at : IsMapped (asks (app m)) (app_wish d s m) (asks (app m) wish) = mapped (asks (app m)) (app_wish d s m) (asks (app m) wish) e in
    let is : at.from ≡ wish = same_wish (app m) at.from wish at.is in
    let of_app : IsChained (λ a. wish_of (app_program d m) a.place None (buffered s (app m))) (slice_get s.apps m) at.from = chained (λ (a : App). wish_of (app_program d m) a.place None (buffered s (app m))) (slice_get s.apps m) at.from at.read in
    subst (λ x. is_app_wish x ≡ true) is
    (app_program_wish (app_program d m) of_app.from.place (buffered s (app m)) at.from (rest_forwards d None (app_program d m) (app_rest d m limits)) of_app.is)

-- The word of a note is one that a script may have.
use Rattle.std.proofs.Common.{◌≡◌, ℕ, Bool, true, false, List, [], ◌∷◌, Option, Some, None, refl, subst}
use Rattle.std.specs.Prelude.{slice_get, ◌==◌, if◌then◌else◌}
use Rattle.std.specs.List.{list_all}
use Rattle.std.proofs.lemmas.Bool.{and_from}
use Rattle.be_facts.proofs.Truths.{and_first, and_second}
use Rattle.be_facts.proofs.Lists.{all_at}
use Rattle.be_actor.specs.declared.Instruction.{Instruction}
use Rattle.be_actor.specs.declared.Instruction.TheVariants as instruction
use Rattle.be_actor.specs.declared.Place.{Place}
use Rattle.be_actor.specs.declared.Wish.{Wish}
use Rattle.be_actor.specs.declared.Wish.TheVariants.{Note, Post, Send, Forward, Reply, Claim, Lock, Unlock, Flush, SyncDone, Draw}
use Rattle.be_actor.specs.Drafts.{filled}
use Rattle.be_actor.specs.Wishes.{wish_at, wish_of, has_no_room}
use Rattle.be_looper.specs.Duties.{Hand}
use Rattle.be_message.specs.Messages.{Message}
use Rattle.be_script.specs.Limits.{IsWithinLimits}
use Rattle.be_script.specs.Programs.{is_note, is_body_step, is_draw_step, is_app_step, is_rest_of_app, lock_behind}
use Rattle.be_script.specs.Script.{Declared}
use Rattle.be_machine.specs.Activities.{Runner, app, looper, runner}
use Rattle.be_machine.specs.Program.{app_program, app_wish, body_wish, letter_program, update_program, buffered}
use Rattle.be_machine.specs.State.{State, App, Looper, free, locked, handling, Stage, in_body, beginning, in_update, ending}
use Rattle.be_machine.specs.Wants.{asks, flushes, draws_end, ends, end_want, draw_end_want, stage_want, looper_want, want_of}
use Rattle.be_machine.proofs.Found.{IsMapped, mapped, IsChained, chained}
use Rattle.be_machine.proofs.Programs.{body_steps, update_steps, app_rest}
use Rattle.be_machine.proofs.BodyWishes.{same_wish, asked}

-- ---- instructions

abbrev pub is_noted : Wish → Bool
is_noted (Note word) = is_note word
is_noted (Post w target message) = true
is_noted (Send w target message) = true
is_noted (Forward w target) = true
is_noted (Reply message) = true
is_noted Claim = true
is_noted (Lock w) = true
is_noted Unlock = true
is_noted Flush = true
is_noted SyncDone = true
is_noted (Draw command) = true

abbrev notes_well : Instruction → Bool
notes_well (instruction.Note word) = is_note word
notes_well (instruction.Post v target draft) = true
notes_well (instruction.Send v target draft) = true
notes_well (instruction.Reply draft) = true
notes_well (instruction.Forward v target) = true
notes_well (instruction.Lock v) = true
notes_well instruction.Unlock = true
notes_well instruction.Flush = true
notes_well instruction.Sync = true
notes_well (instruction.Draw c) = true

either_noted : (b : Bool) (x y : Wish) → is_noted x ≡ true → is_noted y ≡ true → is_noted (if b then x else y) ≡ true
either_noted true x y h k = h
either_noted false x y h k = k

step_noted : (part buffered : ℕ) (now : Option Message) (i : Instruction) → notes_well i ≡ true → is_noted (wish_at part now buffered i) ≡ true
step_noted part buffered now (instruction.Note word) h = h
step_noted part buffered now (instruction.Post v target draft) h = refl
step_noted part buffered now (instruction.Send v target draft) h = either_noted (part == 0) (Send v target (filled draft now)) Claim refl refl
step_noted part buffered now (instruction.Reply draft) h = refl
step_noted part buffered now (instruction.Forward v target) h = refl
step_noted part buffered now (instruction.Lock v) h = refl
step_noted part buffered now instruction.Unlock h = either_noted (buffered == 0) Unlock Flush refl refl
step_noted part buffered now instruction.Flush h = refl
step_noted part buffered now instruction.Sync h = either_noted (part == 0) Flush SyncDone refl refl
step_noted part buffered now (instruction.Draw c) h = either_noted (has_no_room buffered) Flush (Draw c) refl refl

body_step_noted : (d : Declared) (w : ℕ) (i : Instruction) → is_body_step d w i ≡ true → notes_well i ≡ true
body_step_noted d w (instruction.Note word) h = h
body_step_noted d w (instruction.Post v target draft) h = refl
body_step_noted d w (instruction.Send v target draft) h = refl
body_step_noted d w (instruction.Reply draft) h = refl
body_step_noted d w (instruction.Forward v target) h = refl
body_step_noted d w (instruction.Lock v) h = refl
body_step_noted d w instruction.Unlock h = refl
body_step_noted d w instruction.Flush h = refl
body_step_noted d w instruction.Sync h = refl
body_step_noted d w (instruction.Draw c) h = refl

draw_step_noted : (d : Declared) (w : ℕ) (i : Instruction) → is_draw_step d w i ≡ true → notes_well i ≡ true
draw_step_noted d w (instruction.Note word) h = h
draw_step_noted d w (instruction.Post v target draft) h = refl
draw_step_noted d w (instruction.Send v target draft) h = refl
draw_step_noted d w (instruction.Reply draft) h = refl
draw_step_noted d w (instruction.Forward v target) h = refl
draw_step_noted d w (instruction.Lock v) h = refl
draw_step_noted d w instruction.Unlock h = refl
draw_step_noted d w instruction.Flush h = refl
draw_step_noted d w instruction.Sync h = refl
draw_step_noted d w (instruction.Draw c) h = refl

app_step_noted : (d : Declared) (lock : Option ℕ) (i : Instruction) → is_app_step d lock i ≡ true → notes_well i ≡ true
app_step_noted d None (instruction.Note word) h = h
app_step_noted d (Some w) (instruction.Note word) h = h
app_step_noted d lock (instruction.Post v target draft) h = refl
app_step_noted d lock (instruction.Send v target draft) h = refl
app_step_noted d lock (instruction.Reply draft) h = refl
app_step_noted d lock (instruction.Forward v target) h = refl
app_step_noted d lock (instruction.Lock v) h = refl
app_step_noted d lock instruction.Unlock h = refl
app_step_noted d lock instruction.Flush h = refl
app_step_noted d lock instruction.Sync h = refl
app_step_noted d lock (instruction.Draw c) h = refl

-- ---- programs

all_noted : (p : Instruction → Bool) (steps : List Instruction) → ((i : Instruction) → p i ≡ true → notes_well i ≡ true) → list_all p steps ≡ true → list_all notes_well steps ≡ true
all_noted p [] each all = refl
all_noted p (i ∷ steps) each all = and_from (notes_well i) (list_all notes_well steps) (each i (and_first (p i) (list_all p steps) all)) (all_noted p steps each (and_second (p i) (list_all p steps) all))

rest_noted : (d : Declared) (lock : Option ℕ) (steps : List Instruction) → is_rest_of_app d lock steps ≡ true → list_all notes_well steps ≡ true
rest_noted d lock [] h = refl
rest_noted d None (i ∷ rest) h =
    and_from (notes_well i) (list_all notes_well rest) (app_step_noted d None i (and_first (is_app_step d None i) _ h)) (rest_noted d (lock_behind None i) rest (and_second (is_app_step d None i) _ h))
rest_noted d (Some w) (i ∷ rest) h =
    and_from (notes_well i) (list_all notes_well rest) (app_step_noted d (Some w) i (and_first (is_app_step d (Some w) i) _ h)) (rest_noted d (lock_behind (Some w) i) rest (and_second (is_app_step d (Some w) i) _ h))

program_noted : (steps : List Instruction) (place : Place) (now : Option Message) (buffered : ℕ) (wish : Wish) → list_all notes_well steps ≡ true → wish_of steps place now buffered ≡ Some wish → is_noted wish ≡ true
unfolding wish_of
program_noted steps place now buffered wish all e =
    let at : IsMapped (wish_at place.part now buffered) (slice_get steps place.step) wish = mapped (wish_at place.part now buffered) (slice_get steps place.step) wish e in
    subst (λ (x : Wish). is_noted x ≡ true) at.is (step_noted place.part buffered now at.from (all_at notes_well steps place.step at.from all at.read))

-- ---- loopers

end_asks : (w : ℕ) (b : Bool) (other : Runner) (x : Wish) → (if b then ends w else flushes w) ≡ asks other x → ⊥
end_asks w true other x e = cc
end_asks w false other x e = cc

draw_end_asks : (w : ℕ) (b : Bool) (other : Runner) (x : Wish) → (if b then flushes w else draws_end w) ≡ asks other x → ⊥
draw_end_asks w true other x e = cc
draw_end_asks w false other x e = cc

stage_noted : (d : Declared) (s : State) (w : ℕ) (hand : Hand Message) (g : Stage) (wish : Wish) → IsWithinLimits d → stage_want d s w hand g ≡ asks (looper w) wish → is_noted wish ≡ true
stage_noted d s w hand (in_body place) wish limits e =
    program_noted (letter_program d w hand) place (Some hand.letter.body) (buffered s (looper w)) wish
    (all_noted (is_body_step d w) (letter_program d w hand) (body_step_noted d w) (body_steps d w hand.letter.body.what hand.route limits))
    (asked (looper w) (body_wish s w hand (letter_program d w hand) place) (end_want s w) wish (end_asks w (buffered s (looper w) == 0)) e)
stage_noted d s w hand beginning wish limits e = cc
stage_noted d s w hand (in_update views place) wish limits e =
    program_noted (update_program d w views) place (Some hand.letter.body) (buffered s (looper w)) wish
    (all_noted (is_draw_step d w) (update_program d w views) (draw_step_noted d w) (update_steps d w views limits))
    (asked (looper w) (body_wish s w hand (update_program d w views) place) (draw_end_want s w) wish (draw_end_asks w (has_no_room (buffered s (looper w)))) e)
stage_noted d s w hand ending wish limits e = absurd (end_asks w (buffered s (looper w) == 0) (looper w) wish e)

looper_noted : (d : Declared) (s : State) (w : ℕ) (l : Looper) (wish : Wish) → IsWithinLimits d → looper_want d s w l ≡ asks (looper w) wish → is_noted wish ≡ true
looper_noted d s w (handling hand g) wish limits e = stage_noted d s w hand g wish limits e
looper_noted d s w (locked m) wish limits e = cc
looper_noted d s w free wish limits e = cc

-- whoever asks for a note
pub asked_note : (d : Declared) (s : State) (who : Runner) (wish : Wish) → IsWithinLimits d → want_of d s (runner who) ≡ Some (asks who wish) → is_noted wish ≡ true
unfolding want_of app_wish
asked_note d s (looper w) wish limits e =
    let at : IsMapped (looper_want d s w) (slice_get s.loopers w) (asks (looper w) wish) = mapped (looper_want d s w) (slice_get s.loopers w) (asks (looper w) wish) e in
    looper_noted d s w at.from wish limits at.is
asked_note d s (app m) wish limits e =
    let at : IsMapped (asks (app m)) (app_wish d s m) (asks (app m) wish) = mapped (asks (app m)) (app_wish d s m) (asks (app m) wish) e in
    let is : at.from ≡ wish = same_wish (app m) at.from wish at.is in
    let of_app : IsChained (λ a. wish_of (app_program d m) a.place None (buffered s (app m))) (slice_get s.apps m) at.from =
    chained (λ (a : App). wish_of (app_program d m) a.place None (buffered s (app m))) (slice_get s.apps m) at.from at.read in
    subst (λ (x : Wish). is_noted x ≡ true) is
    (program_noted (app_program d m) of_app.from.place None (buffered s (app m)) at.from (rest_noted d None (app_program d m) (app_rest d m limits)) of_app.is)

-- An instruction that gets what it asks for lowers the potential, whoever runs it.
use Rattle.std.proofs.Common.{◌≡◌, ℕ, ◌+◌, ◌<◌, ◌≤◌, Bool, true, false, List, [], ◌∷◌, Option, Some, None, refl, ap, ◌∙◌, arith}
use Rattle.std.specs.Prelude.{fold, slice_get, ◌==◌, nat_le, if◌then◌else◌}
use Rattle.std.proofs.lemmas.Bool.Decides.{nat_tests}
use Rattle.be_actor.specs.declared.Instruction.{Instruction}
use Rattle.be_actor.specs.declared.Instruction.TheVariants as instruction
use Rattle.be_actor.specs.declared.Place.{Place}
use Rattle.be_actor.specs.declared.Wish.TheVariants as wish
use Rattle.be_actor.specs.Drafts.{DraftWords, Word, value, current, copied, with_word, filled}
use Rattle.be_actor.specs.Wishes.{place_after, by_part, has_no_room, with_room}
use Rattle.be_command.specs.declared.Command.{Command}
use Rattle.be_command.specs.Effects.{effect_of}
use Rattle.be_message.specs.declared.target.Target.{Target}
use Rattle.be_message.specs.Messages.{Message}
use Rattle.be_port.specs.declared.Duty.TheVariants.{Free}
use Rattle.be_script.specs.Script.{Declared}
use Rattle.be_script.specs.Work.{updates_cost}
use Rattle.be_machine.specs.Activities.{Runner, sender_of}
use Rattle.be_machine.specs.Commands.{drawn, flushed}
use Rattle.be_machine.specs.Port.{letter, with_post}
use Rattle.be_machine.specs.Program.{hop_of, buffered}
use Rattle.be_machine.specs.State.{State}
use Rattle.be_machine.specs.Step.{in_own, granted, is_accepted_wish, met}
use Rattle.be_machine.specs.Wants.{Want, asks}
use Rattle.be_machine.proofs.WorkGranted.{Keeps, keeps_own, flush_keeps, post_pays, own_flush, own_draw}
use Rattle.be_machine.proofs.WorkMoves.{Moves, next_falls, second_falls, here_falls}
use Rattle.be_machine.specs.Shares.{exposure, here, post_at, potential}

abbrev pub Falls : Declared → State → Want → Type 0
Falls d s want = potential d (met d s want) < potential d s

pub by_test : {X : Type 0} (P : X → Type 0) (b : Bool) (x y : X) → (b ≡ true → P x) → (b ≡ false → P y) → P (if b then x else y)
by_test P true x y f g = f refl
by_test P false x y f g = g refl

pub stays_kept : (s : State) → Keeps s s
stays_kept s = record { apps = refl; loopers = refl }

-- ---- the word of a draft's message

word_kept : (now : Option Message) (m : Message) (w : Word) → (with_word now m w).what ≡ m.what
word_kept now m (value name datum) = refl
word_kept (Some message) m (current name) = refl
word_kept None m (current name) = refl
word_kept (Some message) m (copied name) = refl
word_kept None m (copied name) = refl

words_kept : (now : Option Message) (m : Message) (ws : List Word) → (fold (with_word now) m ws).what ≡ m.what
words_kept now m [] = refl
words_kept now m (w ∷ ws) = words_kept now (with_word now m w) ws ∙ word_kept now m w

pub filled_what : (draft : DraftWords) (now : Option Message) → (filled draft now).what ≡ draft.what
unfolding filled
filled_what draft now = words_kept now (record { what = draft.what; fields = [] }) draft.words

-- ---- instructions

-- whoever runs the program is at this instruction in each state that leaves applications and loopers
abbrev pub Runs : Declared → State → Runner → (Instruction → ℕ) → List Instruction → Place → Type 0
Runs d s who cost program place = (t : State) → Keeps s t → Moves d who cost program place t

pub note_falls : (d : Declared) (s : State) (who : Runner) (cost : Instruction → ℕ) (program : List Instruction) (place : Place) (text : List ℕ) → slice_get program place.step ≡ Some (instruction.Note text) → Runs d s who cost program place → cost (instruction.Note text) ≡ 1 → Falls d s (asks who (wish.Note text))
unfolding met granted place_after
note_falls d s who cost program place text read runs pays = next_falls d s s who cost program place (instruction.Note text) false (wish.Note text) read (runs s (stays_kept s)) refl (omega (arith, pays))

pub post_falls : (d : Declared) (s : State) (who : Runner) (cost : Instruction → ℕ) (program : List Instruction) (place : Place) (w : ℕ) (target : Target) (draft : DraftWords) (now : Option Message) → slice_get program place.step ≡ Some (instruction.Post w target draft) → Runs d s who cost program place → cost (instruction.Post w target draft) ≡ post_at d (hop_of s who) w target draft.what → Falls d s (asks who (wish.Post w target (filled draft now)))
unfolding met granted place_after
post_falls d s who cost program place w target draft now read runs pays =
    let m : Message = filled draft now in
    let t : State = with_post s w (letter (sender_of who) target (hop_of s who) Free m) in
    let word : post_at d (hop_of s who) w target m.what ≡ post_at d (hop_of s who) w target draft.what = ap (post_at d (hop_of s who) w target) (filled_what draft now) in
    next_falls d s t who cost program place (instruction.Post w target draft) (is_accepted_wish s who (wish.Post w target m)) (wish.Post w target m) read (runs t (record { apps = refl; loopers = refl })) refl
    (omega (arith, pays, word, post_pays d s w (letter (sender_of who) target (hop_of s who) Free m) refl))

pub flush_falls : (d : Declared) (s : State) (who : Runner) (cost : Instruction → ℕ) (program : List Instruction) (place : Place) → slice_get program place.step ≡ Some instruction.Flush → Runs d s who cost program place → cost instruction.Flush ≡ 1 → Falls d s (asks who wish.Flush)
unfolding met granted place_after
flush_falls d s who cost program place read runs pays =
    let t : State = in_own s who (flushed s) in
    next_falls d s t who cost program place instruction.Flush false wish.Flush read (runs t (keeps_own s who (flushed s) (flush_keeps s))) refl (omega (arith, pays, own_flush d s who))

sync_first : (d : Declared) (s : State) (who : Runner) (cost : Instruction → ℕ) (program : List Instruction) (place : Place) → slice_get program place.step ≡ Some instruction.Sync → Runs d s who cost program place → cost instruction.Sync ≡ 2 → (place.part == 0) ≡ true → Falls d s (asks who wish.Flush)
unfolding met granted place_after
sync_first d s who cost program place read runs pays e =
    let t : State = in_own s who (flushed s) in
    let now : here cost place.part instruction.Sync ≡ 2 = rw e pays in
    second_falls d s t who cost program place instruction.Sync false wish.Flush read (runs t (keeps_own s who (flushed s) (flush_keeps s))) refl (omega (arith, now, own_flush d s who))

sync_second : (d : Declared) (s : State) (who : Runner) (cost : Instruction → ℕ) (program : List Instruction) (place : Place) → slice_get program place.step ≡ Some instruction.Sync → Runs d s who cost program place → (place.part == 0) ≡ false → Falls d s (asks who wish.SyncDone)
unfolding met granted place_after
sync_second d s who cost program place read runs e =
    let now : here cost place.part instruction.Sync ≡ 1 = rw e refl in
    next_falls d s s who cost program place instruction.Sync false wish.SyncDone read (runs s (stays_kept s)) refl (omega (arith, now))

pub sync_falls : (d : Declared) (s : State) (who : Runner) (cost : Instruction → ℕ) (program : List Instruction) (place : Place) → slice_get program place.step ≡ Some instruction.Sync → Runs d s who cost program place → cost instruction.Sync ≡ 2 → Falls d s (asks who (by_part place.part wish.Flush wish.SyncDone))
sync_falls d s who cost program place read runs pays =
    by_test (λ x. Falls d s (asks who x)) (place.part == 0) wish.Flush wish.SyncDone
    (sync_first d s who cost program place read runs pays)
    (sync_second d s who cost program place read runs)

pub no_room : (n : ℕ) → nat_le 32 n ≡ true → 32 ≤ n
no_room n e = grind (arith, nat_tests)

-- a flush that makes room
room_falls : (d : Declared) (s : State) (who : Runner) (cost : Instruction → ℕ) (program : List Instruction) (place : Place) (c : Command) → slice_get program place.step ≡ Some (instruction.Draw c) → Runs d s who cost program place → has_no_room (buffered s who) ≡ true → Falls d s (asks who wish.Flush)
unfolding met granted place_after
room_falls d s who cost program place c read runs e =
    let t : State = in_own s who (flushed s) in
    here_falls d s t who cost program place (instruction.Draw c) false wish.Flush read (runs t (keeps_own s who (flushed s) (flush_keeps s))) refl (omega (arith, own_flush d s who, no_room (buffered s who) e))

drawn_falls : (d : Declared) (s : State) (who : Runner) (cost : Instruction → ℕ) (program : List Instruction) (place : Place) (c : Command) → slice_get program place.step ≡ Some (instruction.Draw c) → Runs d s who cost program place → 3 + exposure (updates_cost d) (effect_of c) ≤ cost (instruction.Draw c) → Falls d s (asks who (wish.Draw c))
unfolding met granted place_after
drawn_falls d s who cost program place c read runs pays =
    let t : State = in_own s who (λ w. drawn s w c) in
    next_falls d s t who cost program place (instruction.Draw c) false (wish.Draw c) read (runs t (keeps_own s who (λ w. drawn s w c) (λ w. record { apps = refl; loopers = refl }))) refl (omega (arith, pays, own_draw d s who c))

pub draw_falls : (d : Declared) (s : State) (who : Runner) (cost : Instruction → ℕ) (program : List Instruction) (place : Place) (c : Command) → slice_get program place.step ≡ Some (instruction.Draw c) → Runs d s who cost program place → 3 + exposure (updates_cost d) (effect_of c) ≤ cost (instruction.Draw c) → Falls d s (asks who (with_room (buffered s who) (wish.Draw c)))
draw_falls d s who cost program place c read runs pays =
    by_test (λ x. Falls d s (asks who x)) (has_no_room (buffered s who)) wish.Flush (wish.Draw c)
    (room_falls d s who cost program place c read runs)
    (λ _. drawn_falls d s who cost program place c read runs pays)

-- Each instruction of an application, of a body and of a Draw body lowers the potential.
use Rattle.std.proofs.Common.{◌≡◌, ℕ, ◌+◌, ◌≤◌, Bool, true, false, Option, Some, None, refl, ap, ◌∙◌, arith}
use Rattle.std.specs.Prelude.{slice_get, ◌==◌}
use Rattle.std.specs.Option.{option_map_or}
use Rattle.std.proofs.lemmas.Bool.Decides.{nat_tests}
use Rattle.be_actor.specs.declared.Instruction.{Instruction}
use Rattle.be_actor.specs.declared.Instruction.TheVariants as instruction
use Rattle.be_actor.specs.declared.Wish.TheVariants as wish
use Rattle.be_actor.specs.Drafts.{DraftWords, filled}
use Rattle.be_actor.specs.Wishes.{wish_at, place_after}
use Rattle.be_command.specs.Effects.{effect_of}
use Rattle.be_message.specs.declared.target.Target.{Target}
use Rattle.be_message.specs.Messages.{Message}
use Rattle.be_reply.specs.Cells as reply
use Rattle.be_script.specs.Script.{Declared}
use Rattle.be_script.specs.Work.{updates_cost, message_cost}
use Rattle.be_machine.specs.Activities.{app, sender_of}
use Rattle.be_machine.specs.Commands.{flushed}
use Rattle.be_machine.specs.Looper.{with_looper, locked_for, freed, with_cell, sent_duty}
use Rattle.be_machine.specs.Port.{letter, with_post, is_accepted_at}
use Rattle.be_machine.specs.Program.{window_of, app_program, buffered}
use Rattle.be_machine.specs.State.{State, App, free}
use Rattle.be_machine.specs.Step.{in_own, granted, met}
use Rattle.be_machine.specs.Wants.{asks}
use Rattle.be_machine.proofs.Lists.{at_here}
use Rattle.be_machine.proofs.WorkGranted.{keeps_own, flush_keeps, post_adds, cell_keeps, looper_keeps, own_flush}
use Rattle.be_machine.proofs.WorkInstructions.{Falls, by_test, filled_what, Runs, note_falls, post_falls, flush_falls, sync_falls, draw_falls}
use Rattle.be_machine.proofs.WorkMoves.{Moves, next_falls, second_falls, here_falls, app_moves}
use Rattle.be_machine.proofs.WorkParts.{post_at_one}
use Rattle.be_machine.specs.Shares.{here, app_cost, message_share, potential}
use Rattle.be_machine.proofs.WorkShares.{effect_costs}

-- ---- applications

app_runs : (d : Declared) (s : State) (m : ℕ) (a : App) → slice_get s.apps m ≡ Some a → Runs d s (app m) (app_cost d) (app_program d m) a.place
app_runs d s m a read t keeps = app_moves d t m a (ap (λ apps. slice_get apps m) keeps.apps ∙ read)

cell_moves : (d : Declared) (t : State) (m : ℕ) (a : App) (f : reply.Cell → reply.Cell) → slice_get t.apps m ≡ Some a → Moves d (app m) (app_cost d) (app_program d m) a.place (with_cell t m f)
cell_moves d t m a f read = app_moves d (with_cell t m f) m (record a { cell = f a.cell }) (at_here t.apps m (λ x. record x { cell = f x.cell }) a read)

sent_share : (d : Declared) (w : ℕ) (target : Target) (what : ℕ) → message_share d 0 w target what ≡ message_cost d (updates_cost d) w target what
unfolding message_cost
sent_share d w target what = refl

app_send : (d : Declared) (s : State) (m : ℕ) (a : App) (w : ℕ) (target : Target) (draft : DraftWords) → slice_get s.apps m ≡ Some a → slice_get (app_program d m) a.place.step ≡ Some (instruction.Send w target draft) → (a.place.part == 0) ≡ true → (accepted : Bool) → is_accepted_at s w 0 ≡ accepted → Falls d s (asks (app m) (wish.Send w target (filled draft None)))
unfolding met granted place_after
app_send d s m a w target draft read at_i first true e =
    let message : Message = filled draft None in
    let post : State = with_post s w (letter (sender_of (app m)) target 0 (sent_duty (app m)) message) in
    let now : here (app_cost d) a.place.part (instruction.Send w target draft) ≡ 2 + message_cost d (updates_cost d) w target draft.what = rw first refl in
    let word : message_cost d (updates_cost d) w target message.what ≡ message_cost d (updates_cost d) w target draft.what = ap (message_cost d (updates_cost d) w target) (filled_what draft None) in
    rw e (second_falls d s (with_cell post m (λ _. reply.waiting)) (app m) (app_cost d) (app_program d m) a.place (instruction.Send w target draft) true (wish.Send w target message) at_i
    (cell_moves d post m a (λ _. reply.waiting) read) refl
    (omega (arith, now, word, cell_keeps d post m (λ _. reply.waiting), post_adds d s w (letter (sender_of (app m)) target 0 (sent_duty (app m)) message), sent_share d w target message.what)))
app_send d s m a w target draft read at_i first false e =
    let message : Message = filled draft None in
    let post : State = with_post s w (letter (sender_of (app m)) target 0 (sent_duty (app m)) message) in
    let now : here (app_cost d) a.place.part (instruction.Send w target draft) ≡ 2 + message_cost d (updates_cost d) w target draft.what = rw first refl in
    let word : message_cost d (updates_cost d) w target message.what ≡ message_cost d (updates_cost d) w target draft.what = ap (message_cost d (updates_cost d) w target) (filled_what draft None) in
    rw e (next_falls d s post (app m) (app_cost d) (app_program d m) a.place (instruction.Send w target draft) false (wish.Send w target message) at_i
    (app_moves d post m a read) refl
    (omega (arith, now, word, post_adds d s w (letter (sender_of (app m)) target 0 (sent_duty (app m)) message), sent_share d w target message.what)))

app_claim : (d : Declared) (s : State) (m : ℕ) (a : App) (w : ℕ) (target : Target) (draft : DraftWords) → slice_get s.apps m ≡ Some a → slice_get (app_program d m) a.place.step ≡ Some (instruction.Send w target draft) → (a.place.part == 0) ≡ false → Falls d s (asks (app m) wish.Claim)
unfolding met granted place_after
app_claim d s m a w target draft read at_i second =
    let now : here (app_cost d) a.place.part (instruction.Send w target draft) ≡ 1 = rw second refl in
    next_falls d s (with_cell s m (λ _. reply.idle)) (app m) (app_cost d) (app_program d m) a.place (instruction.Send w target draft) false wish.Claim at_i
    (cell_moves d s m a (λ _. reply.idle) read) refl
    (omega (arith, now, cell_keeps d s m (λ _. reply.idle)))

app_reply : (d : Declared) (s : State) (m : ℕ) (a : App) (draft : DraftWords) → slice_get s.apps m ≡ Some a → slice_get (app_program d m) a.place.step ≡ Some (instruction.Reply draft) → Falls d s (asks (app m) (wish.Reply (filled draft None)))
unfolding met granted place_after
app_reply d s m a draft read at_i = next_falls d s s (app m) (app_cost d) (app_program d m) a.place (instruction.Reply draft) false (wish.Reply (filled draft None)) at_i (app_moves d s m a read) refl (omega arith)

app_forward : (d : Declared) (s : State) (m : ℕ) (a : App) (w : ℕ) (target : Target) → slice_get s.apps m ≡ Some a → slice_get (app_program d m) a.place.step ≡ Some (instruction.Forward w target) → Falls d s (asks (app m) (wish.Forward w target))
unfolding met granted place_after
app_forward d s m a w target read at_i = next_falls d s s (app m) (app_cost d) (app_program d m) a.place (instruction.Forward w target) (is_accepted_at s w 0) (wish.Forward w target) at_i (app_moves d s m a read) refl (omega (arith, post_at_one d 0 w target 0))

app_lock : (d : Declared) (s : State) (m : ℕ) (a : App) (w : ℕ) → slice_get s.apps m ≡ Some a → slice_get (app_program d m) a.place.step ≡ Some (instruction.Lock w) → Falls d s (asks (app m) (wish.Lock w))
unfolding met granted place_after
app_lock d s m a w read at_i =
    let t : State = with_looper s w (locked_for (app m)) in
    next_falls d s t (app m) (app_cost d) (app_program d m) a.place (instruction.Lock w) false (wish.Lock w) at_i (app_moves d t m a read) refl (omega (arith, looper_keeps d s w (locked_for (app m)) (λ l. omega arith)))

freed_own : (d : Declared) (s : State) (o : Option ℕ) → potential d (option_map_or (freed s) o s) ≤ potential d s
freed_own d s (Some w) = looper_keeps d s w (λ _. free) (λ l. omega arith)
freed_own d s None = omega arith

freed_apps : (s : State) (o : Option ℕ) → (option_map_or (freed s) o s).apps ≡ s.apps
freed_apps s (Some w) = refl
freed_apps s None = refl

app_unlock : (d : Declared) (s : State) (m : ℕ) (a : App) → slice_get s.apps m ≡ Some a → slice_get (app_program d m) a.place.step ≡ Some instruction.Unlock → Falls d s (asks (app m) wish.Unlock)
unfolding met granted place_after
app_unlock d s m a read at_i =
    let t : State = in_own s (app m) (freed s) in
    next_falls d s t (app m) (app_cost d) (app_program d m) a.place instruction.Unlock false wish.Unlock at_i
    (app_moves d t m a (ap (λ apps. slice_get apps m) (freed_apps s (window_of s (app m))) ∙ read)) refl (omega (arith, freed_own d s (window_of s (app m))))

pub not_none : (n : ℕ) → (n == 0) ≡ false → 1 ≤ n
not_none n e = grind (arith, nat_tests)

app_flush : (d : Declared) (s : State) (m : ℕ) (a : App) → slice_get s.apps m ≡ Some a → slice_get (app_program d m) a.place.step ≡ Some instruction.Unlock → (buffered s (app m) == 0) ≡ false → Falls d s (asks (app m) wish.Flush)
unfolding met granted place_after
app_flush d s m a read at_i e =
    let t : State = in_own s (app m) (flushed s) in
    here_falls d s t (app m) (app_cost d) (app_program d m) a.place instruction.Unlock false wish.Flush at_i (app_runs d s m a read t (keeps_own s (app m) (flushed s) (flush_keeps s))) refl
    (omega (arith, own_flush d s (app m), not_none (buffered s (app m)) e))

pub app_instruction : (d : Declared) (s : State) (m : ℕ) (a : App) (i : Instruction) → slice_get s.apps m ≡ Some a → slice_get (app_program d m) a.place.step ≡ Some i → Falls d s (asks (app m) (wish_at a.place.part None (buffered s (app m)) i))
app_instruction d s m a (instruction.Note text) read at_i = note_falls d s (app m) (app_cost d) (app_program d m) a.place text at_i (app_runs d s m a read) refl
app_instruction d s m a (instruction.Post w target draft) read at_i = post_falls d s (app m) (app_cost d) (app_program d m) a.place w target draft None at_i (app_runs d s m a read) refl
app_instruction d s m a (instruction.Send w target draft) read at_i =
    by_test (λ x. Falls d s (asks (app m) x)) (a.place.part == 0) (wish.Send w target (filled draft None)) wish.Claim
    (λ first. app_send d s m a w target draft read at_i first (is_accepted_at s w 0) refl)
    (app_claim d s m a w target draft read at_i)
app_instruction d s m a (instruction.Reply draft) read at_i = app_reply d s m a draft read at_i
app_instruction d s m a (instruction.Forward w target) read at_i = app_forward d s m a w target read at_i
app_instruction d s m a (instruction.Lock w) read at_i = app_lock d s m a w read at_i
app_instruction d s m a instruction.Unlock read at_i =
    by_test (λ x. Falls d s (asks (app m) x)) (buffered s (app m) == 0) wish.Unlock wish.Flush
    (λ _. app_unlock d s m a read at_i)
    (app_flush d s m a read at_i)
app_instruction d s m a instruction.Flush read at_i = flush_falls d s (app m) (app_cost d) (app_program d m) a.place at_i (app_runs d s m a read) refl
app_instruction d s m a instruction.Sync read at_i = sync_falls d s (app m) (app_cost d) (app_program d m) a.place at_i (app_runs d s m a read) refl
app_instruction d s m a (instruction.Draw c) read at_i = draw_falls d s (app m) (app_cost d) (app_program d m) a.place c at_i (app_runs d s m a read) (omega (arith, effect_costs (updates_cost d) (effect_of c)))

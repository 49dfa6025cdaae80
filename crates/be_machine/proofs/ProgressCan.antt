-- Where the link of its window is empty, who has a looper can go on.
use Rattle.std.proofs.Common.{◌≡◌, ℕ, ◌+◌, ◌<◌, ◌≤◌, true, false, List, length, Option, Some, None, refl, sym, ap, ◌∙◌, arith}
use Rattle.std.specs.Prelude.{slice_get, nat_le, nat_lt, ◌==◌, option_map, option_and_then, if◌then◌else◌}
use Rattle.std.specs.Option.{option_map_or}
use Rattle.std.proofs.lemmas.Bool.Decides.{nat_tests}
use Rattle.be_facts.proofs.Numbers.{nat_lt_tells}
use Rattle.be_facts.proofs.Truths.{and_first}
use Rattle.be_facts.proofs.Lists.{all_at}
use Rattle.be_actor.specs.declared.Instruction.{Instruction}
use Rattle.be_actor.specs.declared.Instruction.TheVariants.{Note, Post, Send, Reply, Forward, Lock, Unlock, Flush, Sync, Draw}
use Rattle.be_actor.specs.declared.Place.{Place}
use Rattle.be_actor.specs.declared.Wish.TheVariants as wish
use Rattle.be_actor.specs.Wishes.{wish_at, wish_of, has_no_room}
use Rattle.be_link.specs.Queues.{Buffer, Numbered, is_full, fits}
use Rattle.be_looper.specs.Duties.{Hand, reply_answer}
use Rattle.be_message.specs.declared.target.Target.{Target}
use Rattle.be_message.specs.Messages.{Message}
use Rattle.be_port.specs.Ports.{judged}
use Rattle.be_script.specs.Limits.{IsWithinLimits}
use Rattle.be_script.specs.Programs.{is_address, is_body_step, is_draw_step, is_locked_step}
use Rattle.be_script.specs.Script.{Declared}
use Rattle.be_update.specs.Sessions.{is_any}
use Rattle.be_machine.specs.Activities.{Runner, app, looper}
use Rattle.be_machine.specs.Windows.{dirty_of}
use Rattle.be_machine.specs.Commands.{draw_act, flush_act, sync_act}
use Rattle.be_machine.specs.declared.Act.{Act}
use Rattle.be_machine.specs.declared.Act.TheVariants as act
use Rattle.be_machine.specs.Legal.{in_own, wish_act, want_act}
use Rattle.be_machine.specs.Lists.{with_both}
use Rattle.be_machine.specs.Looper.{answer_of, end_act}
use Rattle.be_machine.specs.Port.{post_act}
use Rattle.be_machine.specs.Program.{window_of, hop_of, hand_of, buffered, letter_program, update_program}
use Rattle.be_machine.specs.State.{State, Stage, in_body, beginning, in_update, ending}
use Rattle.be_machine.specs.Update.{owes_notice}
use Rattle.be_machine.specs.Wants.{Want, begins, flushes, draws_end, ends, asks_or, end_want, draw_end_want, stage_want}
use Rattle.be_machine.proofs.ProgressCases.{by_outcome}
use Rattle.be_machine.proofs.Lists.{IsThere, there}
use Rattle.be_machine.proofs.Programs.{body_steps, update_steps}
use Rattle.be_machine.proofs.HasParts.{HasParts}
use Rattle.be_machine.proofs.ProgressStands.{draw_step_is}

-- there is an act
abbrev pub Can : Option Act → Type 0
Can o = o ≡ None → ⊥

pub can_some : (o : Option Act) (a : Act) → o ≡ Some a → Can o
can_some o a e none = cc

-- ---- a window

-- no notice is owed, and the link is empty
pub record IsQuiet (s : State) (w : ℕ) : Type 0 where
  pub owed : owes_notice s w ≡ false
  pub link : List Numbered
  pub read : slice_get s.links w ≡ Some link
  pub empty : length link ≡ 0

-- a runner has the looper of a window with an empty link, and a buffer within its size
pub record Owns (s : State) (who : Runner) (w : ℕ) : Type 0 where
  pub window : window_of s who ≡ Some w
  pub quiet : IsQuiet s w
  pub buffer : Buffer
  pub read : slice_get s.buffers w ≡ Some buffer
  pub within : length buffer.commands ≤ 32

room_in : (m n : ℕ) → m ≤ 32 → n ≡ 0 → nat_le (m + n) 256 ≡ true
room_in m n h e = grind (arith, nat_tests)

pub none_is_zero : (n : ℕ) → n ≡ 0 → (n == 0) ≡ true
none_is_zero n e = grind (arith, nat_tests)

-- a buffer can go to an empty link
flush_some : (s : State) (who : Runner) (w : ℕ) (own : Owns s who w) → flush_act s w ≡ Some (act.Flush w (length own.buffer.commands))
flush_some s who w own =
    ap (λ o. with_both (λ (b : Buffer) link. if fits b link then Some (act.Flush w (length b.commands)) else None) o (slice_get s.links w)) own.read
    ∙ ap (λ o. with_both (λ (b : Buffer) link. if fits b link then Some (act.Flush w (length b.commands)) else None) (Some own.buffer) o) own.quiet.read
    ∙ ap (λ b. if b then Some (act.Flush w (length own.buffer.commands)) else None) (room_in (length own.buffer.commands) (length own.quiet.link) own.within own.quiet.empty)

can_flush : (s : State) (who : Runner) (w : ℕ) → Owns s who w → Can (in_own s who (flush_act s))
can_flush s who w own = can_some _ _ (ap (option_and_then (flush_act s)) own.window ∙ flush_some s who w own)

can_sync : (s : State) (who : Runner) (w : ℕ) → Owns s who w → Can (in_own s who (sync_act s))
can_sync s who w own = can_some _ (act.SyncDone w)
    (ap (option_and_then (sync_act s)) own.window
    ∙ ap (option_and_then (λ link. if length link == 0 then Some (act.SyncDone w) else None)) own.quiet.read
    ∙ ap (λ b. if b then Some (act.SyncDone w) else None) (none_is_zero (length own.quiet.link) own.quiet.empty))

counted : (s : State) (who : Runner) (w : ℕ) (own : Owns s who w) → buffered s who ≡ length own.buffer.commands
counted s who w own =
    ap (λ o. option_map_or (λ (b : Buffer). length b.commands) (option_and_then (λ v. slice_get s.buffers v) o) 0) own.window
    ∙ ap (λ o. option_map_or (λ (b : Buffer). length b.commands) o 0) own.read

draw_some : (s : State) (who : Runner) (w : ℕ) (own : Owns s who w) → has_no_room (buffered s who) ≡ false → draw_act s w ≡ Some (act.Draw w (own.buffer.made + 1))
draw_some s who w own room =
    ap (option_and_then (λ b. if is_full b then None else Some (act.Draw w (b.made + 1)))) own.read
    ∙ ap (λ b. if b then None else Some (act.Draw w (own.buffer.made + 1))) (ap has_no_room (sym (counted s who w own)) ∙ room)

can_draw : (s : State) (who : Runner) (w : ℕ) → Owns s who w → has_no_room (buffered s who) ≡ false → Can (in_own s who (draw_act s))
can_draw s who w own room = can_some _ _ (ap (option_and_then (draw_act s)) own.window ∙ draw_some s who w own room)

can_unlock : (s : State) (who : Runner) (w : ℕ) → Owns s who w → Can (in_own s who (λ v. Some (act.Unlock v)))
can_unlock s who w own = can_some _ (act.Unlock w) (ap (option_and_then (λ v. Some (act.Unlock v))) own.window)

-- ---- posts

-- a post always happens
pub can_post : (d : Declared) (s : State) (v hop : ℕ) (target : Target) → HasParts d s → is_address d v target ≡ true → Can (post_act s v hop)
can_post d s v hop target parts address =
    let inside : v < length d.windows = nat_lt_tells v (length d.windows) (and_first (nat_lt v (length d.windows)) _ address) in
    let ports : length s.ports ≡ length d.windows = parts.ports in
    let port : IsThere s.ports v = there s.ports v (omega (arith, inside, ports)) in
    can_some _ _ (ap (option_map (λ p. act.Post v (judged p hop))) port.read)

-- ---- instructions

-- under the lock of a window
pub locked_can : (d : Declared) (s : State) (m w part : ℕ) (i : Instruction) → HasParts d s → Owns s (app m) w → is_locked_step d w i ≡ true → Can (wish_act s (app m) (wish_at part None (buffered s (app m)) i))
unfolding wish_act
locked_can d s m w part (Note word) parts own h = can_some _ _ refl
locked_can d s m w part (Post v target draft) parts own h = can_post d s v 0 target parts (and_first (is_address d v target) _ h)
locked_can d s m w part (Send v target draft) parts own h = cc
locked_can d s m w part (Reply draft) parts own h = cc
locked_can d s m w part (Forward v target) parts own h = cc
locked_can d s m w part (Lock v) parts own h = cc
locked_can d s m w part Unlock parts own h = by_outcome (λ x. Can (wish_act s (app m) x)) (buffered s (app m) == 0) wish.Unlock wish.Flush (λ e. can_unlock s (app m) w own) (λ e. can_flush s (app m) w own)
locked_can d s m w part Flush parts own h = can_flush s (app m) w own
locked_can d s m w part Sync parts own h = by_outcome (λ x. Can (wish_act s (app m) x)) (part == 0) wish.Flush wish.SyncDone (λ e. can_flush s (app m) w own) (λ e. can_sync s (app m) w own)
locked_can d s m w part (Draw c) parts own h = by_outcome (λ x. Can (wish_act s (app m) x)) (has_no_room (buffered s (app m))) wish.Flush (wish.Draw c) (λ e. can_flush s (app m) w own) (λ e. can_draw s (app m) w own e)

can_reply : (s : State) (w : ℕ) (hand : Hand Message) → hand_of s (looper w) ≡ Some hand → Can (option_map (λ (h : Hand Message). answer_of (reply_answer h.duty)) (hand_of s (looper w)))
can_reply s w hand read = can_some _ _ (ap (option_map (λ (h : Hand Message). answer_of (reply_answer h.duty))) read)

-- in a body
body_can : (d : Declared) (s : State) (w part : ℕ) (now : Option Message) (hand : Hand Message) (i : Instruction) → HasParts d s → Owns s (looper w) w → hand_of s (looper w) ≡ Some hand → is_body_step d w i ≡ true → Can (wish_act s (looper w) (wish_at part now (buffered s (looper w)) i))
unfolding wish_act
body_can d s w part now hand (Note word) parts own read h = can_some _ _ refl
body_can d s w part now hand (Post v target draft) parts own read h = can_post d s v (hop_of s (looper w)) target parts (and_first (is_address d v target) _ h)
body_can d s w part now hand (Send v target draft) parts own read h = cc
body_can d s w part now hand (Reply draft) parts own read h = can_reply s w hand read
body_can d s w part now hand (Forward v target) parts own read h = can_post d s v (hop_of s (looper w)) target parts h
body_can d s w part now hand (Lock v) parts own read h = cc
body_can d s w part now hand Unlock parts own read h = cc
body_can d s w part now hand Flush parts own read h = can_flush s (looper w) w own
body_can d s w part now hand Sync parts own read h = by_outcome (λ x. Can (wish_act s (looper w) x)) (part == 0) wish.Flush wish.SyncDone (λ e. can_flush s (looper w) w own) (λ e. can_sync s (looper w) w own)
body_can d s w part now hand (Draw c) parts own read h = by_outcome (λ x. Can (wish_act s (looper w) x)) (has_no_room (buffered s (looper w))) wish.Flush (wish.Draw c) (λ e. can_flush s (looper w) w own) (λ e. can_draw s (looper w) w own e)

-- ---- a looper with a letter in its hand

end_can : (d : Declared) (s : State) (w : ℕ) (hand : Hand Message) → Owns s (looper w) w → hand_of s (looper w) ≡ Some hand → Can (want_act d s (end_want s w))
unfolding want_act
end_can d s w hand own read =
    by_outcome (λ x. Can (want_act d s x)) (buffered s (looper w) == 0) (ends w) (flushes w) (λ e. can_some _ _ (ap (option_map end_act) read)) (λ e. can_some _ _ (flush_some s (looper w) w own))

draw_end_can : (d : Declared) (s : State) (w : ℕ) → Owns s (looper w) w → Can (want_act d s (draw_end_want s w))
unfolding want_act
draw_end_can d s w own =
    by_outcome (λ x. Can (want_act d s x)) (has_no_room (buffered s (looper w))) (flushes w) (draws_end w) (λ e. can_some _ _ (flush_some s (looper w) w own)) (λ e. can_some _ _ (draw_some s (looper w) w own e))

asks_can : (d : Declared) (s : State) (w : ℕ) (hand : Hand Message) (program : List Instruction) (place : Place) (last : Want) (o : Option Instruction) → HasParts d s → Owns s (looper w) w → hand_of s (looper w) ≡ Some hand → slice_get program place.step ≡ o → ((i : Instruction) → slice_get program place.step ≡ Some i → is_body_step d w i ≡ true) → Can (want_act d s last) → Can (want_act d s (asks_or (looper w) (option_map (wish_at place.part (Some hand.letter.body) (buffered s (looper w))) o) last))
unfolding want_act
asks_can d s w hand program place last (Some i) parts own read next allowed can = body_can d s w place.part (Some hand.letter.body) hand i parts own read (allowed i next)
asks_can d s w hand program place last None parts own read next allowed can = can

begin_can : (d : Declared) (s : State) (w : ℕ) → IsQuiet s w → Can (want_act d s (begins w))
unfolding want_act
begin_can d s w quiet = can_some _ _
    (ap (option_and_then (λ link. if length link == 0 then Some (act.Begin (is_any (dirty_of s w))) else None)) quiet.read
    ∙ ap (λ b. if b then Some (act.Begin (is_any (dirty_of s w))) else None) (none_is_zero (length quiet.link) quiet.empty))

pub handling_can : (d : Declared) (s : State) (w : ℕ) (hand : Hand Message) (stage : Stage) → IsWithinLimits d → HasParts d s → Owns s (looper w) w → hand_of s (looper w) ≡ Some hand → Can (want_act d s (stage_want d s w hand stage))
unfolding wish_of
handling_can d s w hand (in_body place) limits parts own read =
    let program = letter_program d w hand in
    asks_can d s w hand program place (end_want s w) (slice_get program place.step) parts own read refl (λ i next. all_at (is_body_step d w) program place.step i (body_steps d w hand.letter.body.what hand.route limits) next) (end_can d s w hand own read)
handling_can d s w hand beginning limits parts own read = begin_can d s w own.quiet
handling_can d s w hand (in_update views place) limits parts own read =
    let program = update_program d w views in
    asks_can d s w hand program place (draw_end_want s w) (slice_get program place.step) parts own read refl (λ i next. draw_step_is d w i (all_at (is_draw_step d w) program place.step i (update_steps d w views limits) next)) (draw_end_can d s w own)
handling_can d s w hand ending limits parts own read = end_can d s w hand own read

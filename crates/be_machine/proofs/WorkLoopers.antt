-- Each instruction of a body and of a Draw body lowers the potential.
use Rattle.std.proofs.Common.{◌≡◌, ℕ, ◌+◌, ◌≤◌, Bool, true, false, List, Option, Some, None, refl, sym, ap, subst, ◌∙◌, arith}
use Rattle.std.specs.Prelude.{slice_get, option_and_then, if◌then◌else◌}
use Rattle.std.specs.Option.{option_map_or}
use Rattle.be_facts.proofs.Truths.{and_second}
use Rattle.be_actor.specs.declared.Instruction.{Instruction}
use Rattle.be_actor.specs.declared.Instruction.TheVariants as instruction
use Rattle.be_actor.specs.declared.Place.{Place}
use Rattle.be_actor.specs.declared.Wish.TheVariants as wish
use Rattle.be_actor.specs.Drafts.{DraftWords, filled}
use Rattle.be_actor.specs.Wishes.{wish_at, place_after}
use Rattle.be_command.specs.declared.Command.{Command}
use Rattle.be_command.specs.Effects.{Effect, at_view, changes, ends_update, effect_of, Deed, draws, sets, colors, saves, restores, copies, invalidates}
use Rattle.be_command.specs.Limits.{is_drawing, is_drawing_effect, is_drawing_deed}
use Rattle.be_looper.specs.Duties.{Hand, waiter, duty_after_reply, duty_after_forward, duty_handed_on}
use Rattle.be_message.specs.declared.target.Target.{Target}
use Rattle.be_message.specs.Messages.{Message}
use Rattle.be_port.specs.declared.Duty.{Duty}
use Rattle.be_script.specs.Programs.{is_body_step, is_draw_step, is_command_for}
use Rattle.be_script.specs.Script.{Declared}
use Rattle.be_script.specs.Work.{updates_cost}
use Rattle.be_machine.specs.Activities.{looper, sender_of}
use Rattle.be_machine.specs.Looper.{with_duty, with_duty_by, told, forwarded, forwarded_hand}
use Rattle.be_machine.specs.Lists.{at}
use Rattle.be_machine.specs.Port.{letter, with_post, is_accepted_at}
use Rattle.be_machine.specs.Program.{letter_program, update_program, hop_of, hand_of, hand_in, buffered}
use Rattle.be_machine.specs.State.{State, handling, Stage, in_body, in_update}
use Rattle.be_machine.specs.Step.{granted, is_accepted_wish, met}
use Rattle.be_machine.specs.Wants.{asks}
use Rattle.be_machine.proofs.Lists.{at_here}
use Rattle.be_machine.proofs.WorkGranted.{post_pays, told_keeps, duty_keeps}
use Rattle.be_machine.proofs.WorkInstructions.{Falls, Runs, note_falls, post_falls, flush_falls, sync_falls, draw_falls}
use Rattle.be_machine.proofs.WorkMoves.{next_falls, body_moves, update_moves}
use Rattle.be_machine.specs.Shares.{exposure, deed_exposure, post_at, body_step_cost, draw_cost, potential}
use Rattle.be_machine.proofs.WorkShares.{effect_costs}

-- ---- bodies

body_runs : (d : Declared) (s : State) (w : ℕ) (hand : Hand Message) (place : Place) → slice_get s.loopers w ≡ Some (handling hand (in_body place)) → Runs d s (looper w) (body_step_cost d hand.letter.hop hand.letter.body.what) (letter_program d w hand) place
body_runs d s w hand place read t keeps = body_moves d t w hand place (ap (λ loopers. slice_get loopers w) keeps.loopers ∙ read)

hop_in_hand : (s : State) (w : ℕ) (hand : Hand Message) (stage : Stage) → slice_get s.loopers w ≡ Some (handling hand stage) → hop_of s (looper w) ≡ hand.letter.hop + 1
hop_in_hand s w hand stage read = ap (λ o. option_map_or (λ (h : Hand Message). h.letter.hop + 1) (option_and_then hand_in o) 0) read

told_loopers : (message : Message) (o : Option ℕ) (s : State) → (told message o s).loopers ≡ s.loopers
told_loopers message (Some m) s = refl
told_loopers message None s = refl

body_reply : (d : Declared) (s : State) (w : ℕ) (hand : Hand Message) (place : Place) (draft : DraftWords) → slice_get s.loopers w ≡ Some (handling hand (in_body place)) → slice_get (letter_program d w hand) place.step ≡ Some (instruction.Reply draft) → Falls d s (asks (looper w) (wish.Reply (filled draft (Some hand.letter.body))))
unfolding met granted place_after
body_reply d s w hand place draft read at_i =
    let message : Message = filled draft (Some hand.letter.body) in
    let now : State = told message (option_and_then (λ h. waiter h.duty) (hand_of s (looper w))) s in
    let there : slice_get now.loopers w ≡ Some (handling hand (in_body place)) = ap (λ loopers. slice_get loopers w) (told_loopers message (option_and_then (λ h. waiter h.duty) (hand_of s (looper w))) s) ∙ read in
    let t : State = with_duty duty_after_reply (looper w) now in
    next_falls d s t (looper w) (body_step_cost d hand.letter.hop hand.letter.body.what) (letter_program d w hand) place (instruction.Reply draft) false (wish.Reply message) at_i
    (body_moves d t w (record hand { duty = duty_after_reply hand.duty }) place (at_here now.loopers w (with_duty_by duty_after_reply) (handling hand (in_body place)) there)) refl
    (omega (arith, duty_keeps d duty_after_reply (looper w) now, told_keeps d message (option_and_then (λ h. waiter h.duty) (hand_of s (looper w))) s))

-- a forward leaves the looper where it is, with some duty
record IsForwarded (d : Declared) (s : State) (w : ℕ) (hand : Hand Message) (stage : Stage) (cost : ℕ) (t : State) : Type 0 where
  duty : Duty
  reads : slice_get t.loopers w ≡ Some (handling (record hand { duty = duty }) stage)
  pays : potential d t + 1 ≤ potential d s + cost

forward_by : (d : Declared) (s : State) (w v : ℕ) (target : Target) (hand : Hand Message) (stage : Stage) (b : Bool) → slice_get s.loopers w ≡ Some (handling hand stage) →
    let post : State = with_post s v (letter (sender_of (looper w)) target (hop_of s (looper w)) (duty_handed_on hand.duty) hand.letter.body) in
    IsForwarded d s w hand stage (post_at d (hop_of s (looper w)) v target hand.letter.body.what) (if b then with_duty duty_after_forward (looper w) post else post)
forward_by d s w v target hand stage true read =
    let post : State = with_post s v (letter (sender_of (looper w)) target (hop_of s (looper w)) (duty_handed_on hand.duty) hand.letter.body) in
    record {
      duty = duty_after_forward hand.duty;
      reads = at_here s.loopers w (with_duty_by duty_after_forward) (handling hand stage) read;
      pays = omega (arith, duty_keeps d duty_after_forward (looper w) post, post_pays d s v (letter (sender_of (looper w)) target (hop_of s (looper w)) (duty_handed_on hand.duty) hand.letter.body) refl);
    }
forward_by d s w v target hand stage false read = record {
  duty = hand.duty;
  reads = read;
  pays = post_pays d s v (letter (sender_of (looper w)) target (hop_of s (looper w)) (duty_handed_on hand.duty) hand.letter.body) refl;
}

forwards : (d : Declared) (s : State) (w v : ℕ) (target : Target) (hand : Hand Message) (stage : Stage) → slice_get s.loopers w ≡ Some (handling hand stage) → IsForwarded d s w hand stage (post_at d (hop_of s (looper w)) v target hand.letter.body.what) (forwarded s (looper w) v target)
forwards d s w v target hand stage read =
    let found : forwarded s (looper w) v target ≡ forwarded_hand s (looper w) v target hand = ap (λ o. option_map_or (forwarded_hand s (looper w) v target) (option_and_then hand_in o) s) read in
    subst (IsForwarded d s w hand stage (post_at d (hop_of s (looper w)) v target hand.letter.body.what)) (sym found)
    (forward_by d s w v target hand stage (is_accepted_at s v (hop_of s (looper w))) read)

body_forward : (d : Declared) (s : State) (w : ℕ) (hand : Hand Message) (place : Place) (v : ℕ) (target : Target) → slice_get s.loopers w ≡ Some (handling hand (in_body place)) → slice_get (letter_program d w hand) place.step ≡ Some (instruction.Forward v target) → Falls d s (asks (looper w) (wish.Forward v target))
unfolding met granted place_after
body_forward d s w hand place v target read at_i =
    let t : State = forwarded s (looper w) v target in
    let is : IsForwarded d s w hand (in_body place) (post_at d (hop_of s (looper w)) v target hand.letter.body.what) t = forwards d s w v target hand (in_body place) read in
    let hop : post_at d (hop_of s (looper w)) v target hand.letter.body.what ≡ post_at d (hand.letter.hop + 1) v target hand.letter.body.what = ap (λ h. post_at d h v target hand.letter.body.what) (hop_in_hand s w hand (in_body place) read) in
    next_falls d s t (looper w) (body_step_cost d hand.letter.hop hand.letter.body.what) (letter_program d w hand) place (instruction.Forward v target) (is_accepted_wish s (looper w) (wish.Forward v target)) (wish.Forward v target) at_i
    (body_moves d t w (record hand { duty = is.duty }) place is.reads) refl
    (omega (arith, is.pays, hop))

pub body_instruction : (d : Declared) (s : State) (w : ℕ) (hand : Hand Message) (place : Place) (i : Instruction) → slice_get s.loopers w ≡ Some (handling hand (in_body place)) → slice_get (letter_program d w hand) place.step ≡ Some i → is_body_step d w i ≡ true → Falls d s (asks (looper w) (wish_at place.part (Some hand.letter.body) (buffered s (looper w)) i))
body_instruction d s w hand place (instruction.Note text) read at_i may = note_falls d s (looper w) (body_step_cost d hand.letter.hop hand.letter.body.what) (letter_program d w hand) place text at_i (body_runs d s w hand place read) refl
body_instruction d s w hand place (instruction.Post v target draft) read at_i may =
    post_falls d s (looper w) (body_step_cost d hand.letter.hop hand.letter.body.what) (letter_program d w hand) place v target draft (Some hand.letter.body) at_i (body_runs d s w hand place read)
    (ap (λ h. post_at d h v target draft.what) (sym (hop_in_hand s w hand (in_body place) read)))
body_instruction d s w hand place (instruction.Send v target draft) read at_i may = cc
body_instruction d s w hand place (instruction.Reply draft) read at_i may = body_reply d s w hand place draft read at_i
body_instruction d s w hand place (instruction.Forward v target) read at_i may = body_forward d s w hand place v target read at_i
body_instruction d s w hand place (instruction.Lock v) read at_i may = cc
body_instruction d s w hand place instruction.Unlock read at_i may = cc
body_instruction d s w hand place instruction.Flush read at_i may = flush_falls d s (looper w) (body_step_cost d hand.letter.hop hand.letter.body.what) (letter_program d w hand) place at_i (body_runs d s w hand place read) refl
body_instruction d s w hand place instruction.Sync read at_i may = sync_falls d s (looper w) (body_step_cost d hand.letter.hop hand.letter.body.what) (letter_program d w hand) place at_i (body_runs d s w hand place read) refl
body_instruction d s w hand place (instruction.Draw c) read at_i may = draw_falls d s (looper w) (body_step_cost d hand.letter.hop hand.letter.body.what) (letter_program d w hand) place c at_i (body_runs d s w hand place read) (omega (arith, effect_costs (updates_cost d) (effect_of c)))

-- ---- Draw bodies

update_runs : (d : Declared) (s : State) (w : ℕ) (hand : Hand Message) (views : List ℕ) (place : Place) → slice_get s.loopers w ≡ Some (handling hand (in_update views place)) → Runs d s (looper w) draw_cost (update_program d w views) place
update_runs d s w hand views place read t keeps = update_moves d t w hand views place (ap (λ loopers. slice_get loopers w) keeps.loopers ∙ read)

drawing_deed : (updates : ℕ) (deed : Deed) → is_drawing_deed deed ≡ true → deed_exposure updates deed ≡ 0
drawing_deed updates (draws figure) h = refl
drawing_deed updates (sets setting) h = refl
drawing_deed updates (colors color) h = refl
drawing_deed updates saves h = refl
drawing_deed updates restores h = refl
drawing_deed updates (copies source at) h = cc
drawing_deed updates (invalidates r) h = cc

drawing_effect : (updates : ℕ) (e : Effect) → is_drawing_effect e ≡ true → exposure updates e ≡ 0
drawing_effect updates (at_view v deed) h = drawing_deed updates deed h
drawing_effect updates (changes c) h = cc
drawing_effect updates ends_update h = cc

drawing_command : (updates : ℕ) (c : Command) → is_drawing c ≡ true → exposure updates (effect_of c) ≡ 0
unfolding is_drawing
drawing_command updates c h = drawing_effect updates (effect_of c) h

pub draw_instruction : (d : Declared) (s : State) (w : ℕ) (hand : Hand Message) (views : List ℕ) (place : Place) (i : Instruction) → slice_get s.loopers w ≡ Some (handling hand (in_update views place)) → slice_get (update_program d w views) place.step ≡ Some i → is_draw_step d w i ≡ true → Falls d s (asks (looper w) (wish_at place.part (Some hand.letter.body) (buffered s (looper w)) i))
draw_instruction d s w hand views place (instruction.Note text) read at_i may = note_falls d s (looper w) draw_cost (update_program d w views) place text at_i (update_runs d s w hand views place read) refl
draw_instruction d s w hand views place (instruction.Post v target draft) read at_i may = cc
draw_instruction d s w hand views place (instruction.Send v target draft) read at_i may = cc
draw_instruction d s w hand views place (instruction.Reply draft) read at_i may = cc
draw_instruction d s w hand views place (instruction.Forward v target) read at_i may = cc
draw_instruction d s w hand views place (instruction.Lock v) read at_i may = cc
draw_instruction d s w hand views place instruction.Unlock read at_i may = cc
draw_instruction d s w hand views place instruction.Flush read at_i may = flush_falls d s (looper w) draw_cost (update_program d w views) place at_i (update_runs d s w hand views place read) refl
draw_instruction d s w hand views place instruction.Sync read at_i may = sync_falls d s (looper w) draw_cost (update_program d w views) place at_i (update_runs d s w hand views place read) refl
draw_instruction d s w hand views place (instruction.Draw c) read at_i may = draw_falls d s (looper w) draw_cost (update_program d w views) place c at_i (update_runs d s w hand views place read)
    (omega (arith, effect_costs 0 (effect_of c), drawing_command (updates_cost d) c (and_second (is_command_for d w c) (is_drawing c) may)))

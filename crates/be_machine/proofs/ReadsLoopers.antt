-- What a looper wants, and what it does with a letter, reads only what it touches.
use Rattle.std.proofs.Common.{◌≡◌, ℕ, Option, Some, None, inl, inr, refl, sym, ap, subst, ◌∙◌}
use Rattle.std.specs.Prelude.{slice_get, option_map, option_and_then, length, ◌==◌, if◌then◌else◌}
use Rattle.std.specs.Option.{option_map_or}
use Rattle.be_actor.specs.declared.Wish.{Wish}
use Rattle.be_actor.specs.Wishes.{wish_of, has_no_room}
use Rattle.be_command.specs.declared.Command.TheVariants.{EndUpdate}
use Rattle.be_link.specs.Queues.{Buffer, with_command}
use Rattle.be_looper.specs.Duties.{Hand, EndTelling, nobody, no_reply, not_understood, end_telling}
use Rattle.be_message.specs.Messages.{Message}
use Rattle.be_port.specs.Ports as ports
use Rattle.be_port.specs.Ports.{Letter, Port, front}
use Rattle.be_script.specs.Script.{Declared}
use Rattle.be_machine.specs.Activities.{looper, runner}
use Rattle.be_machine.specs.Commands.{drawn}
use Rattle.be_machine.specs.Legal.{want_act}
use Rattle.be_machine.specs.Lists.{at, with_both}
use Rattle.be_machine.specs.Looper.{with_looper, freed, told_at_end, end_act, ended_hand}
use Rattle.be_machine.specs.Port.{take_act, taken, with_letter_in_hand}
use Rattle.be_machine.specs.Program.{buffered, hand_at, hand_in, letter_program, update_program}
use Rattle.be_machine.specs.State.{State, Looper, free, locked, handling, Stage, in_body, beginning, in_update, ending}
use Rattle.be_machine.specs.Step.{met}
use Rattle.be_machine.specs.Touched.{SamePart}
use Rattle.be_machine.specs.Touched as part
use Rattle.be_machine.specs.Update.{at_stage}
use Rattle.be_machine.specs.Wants.{Want, asks, takes, flushes, draws_end, ends, asks_or, looper_want, stage_want, want_of}
use Rattle.be_machine.proofs.ReadsBoth.{Wanted, Reads}
use Rattle.be_machine.proofs.ReadsParts.{Keeps, both_keep, none_keeps, found_keeps, ports_keep, loopers_keep, buffers_keep}
use Rattle.be_machine.proofs.ReadsWishes.{SameRunner, same_wish_act, asked_keeps, same_flush, same_draw, flushed_keeps, told_keeps}

-- ---- what a looper wants

-- by how many commands are in its buffer
same_stage_want : (d : Declared) (s r : State) (w : ℕ) (hand : Hand Message) (stage : Stage) → buffered r (looper w) ≡ buffered s (looper w) → stage_want d r w hand stage ≡ stage_want d s w hand stage
same_stage_want d s r w hand (in_body place) e = ap (λ n. asks_or (looper w) (wish_of (letter_program d w hand) place (Some hand.letter.body) n) (if n == 0 then ends w else flushes w)) e
same_stage_want d s r w hand beginning e = refl
same_stage_want d s r w hand (in_update views place) e = ap (λ n. asks_or (looper w) (wish_of (update_program d w views) place (Some hand.letter.body) n) (if has_no_room n then flushes w else draws_end w)) e
same_stage_want d s r w hand ending e = ap (λ n. if n == 0 then ends w else flushes w) e

same_looper_want : (d : Declared) (s r : State) (w : ℕ) (l : Looper) → buffered r (looper w) ≡ buffered s (looper w) → looper_want d r w l ≡ looper_want d s w l
same_looper_want d s r w (handling hand stage) e = same_stage_want d s r w hand stage e
same_looper_want d s r w (locked m) e = refl
same_looper_want d s r w free e = refl

same_found : (f g : Looper → Want) (o : Option Looper) → ((l : Looper) → f l ≡ g l) → option_map f o ≡ option_map g o
same_found f g (Some l) h = ap Some (h l)
same_found f g None h = refl

pub looper_wants : (d : Declared) (s r : State) (w : ℕ) (want : Want) → SamePart s r (part.looper w) → want_of d s (runner (looper w)) ≡ Some want → want_of d r (runner (looper w)) ≡ Some want
unfolding want_of
looper_wants d s r w want own e =
    let full : buffered r (looper w) ≡ buffered s (looper w) = ap (λ (o : Option Buffer). option_map_or (λ b. length b.commands) o 0) own.1 in
    ap (option_map (looper_want d r w)) own.0 ∙ same_found (looper_want d r w) (looper_want d s w) (slice_get s.loopers w) (λ l. same_looper_want d s r w l full) ∙ e

pub same_body : (d : Declared) (s r : State) (w : ℕ) (x : Wish) → Wanted d s r (asks (looper w) x) → SameRunner s r (looper w)
same_body d s r w x is = let own : SamePart s r (part.looper w) = is.touched (part.looper w) (inl refl) in record { window = refl; hand = ap (option_and_then hand_in) own.0 }

pub reads_body : (d : Declared) (s r : State) (w : ℕ) (x : Wish) → Wanted d s r (asks (looper w) x) → Reads d s r (asks (looper w) x)
unfolding want_act met
reads_body d s r w x is =
    let own : SamePart s r (part.looper w) = is.touched (part.looper w) (inl refl) in
    let who : SameRunner s r (looper w) = same_body d s r w x is in
    record {
      wanted = looper_wants d s r w (asks (looper w) x) own is.wanted;
      granted = same_wish_act s r (looper w) x who is.touched;
      kept = asked_keeps d s r (looper w) x who is.touched;
    }

-- ---- a letter

letter_keeps : (d : Declared) (s r : State) (w : ℕ) (x : Letter Message) → Keeps s r (with_letter_in_hand d s w x) (with_letter_in_hand d r w x)
letter_keeps d s r w x =
    both_keep s r (record s { ports = at s.ports w ports.without_front }) (record r { ports = at r.ports w ports.without_front }) (with_letter_in_hand d s w x) (with_letter_in_hand d r w x)
    (ports_keep s r w ports.without_front) (loopers_keep (record s { ports = at s.ports w ports.without_front }) (record r { ports = at r.ports w ports.without_front }) w _)

pub reads_take : (d : Declared) (s r : State) (w : ℕ) → Wanted d s r (takes w) → Reads d s r (takes w)
unfolding want_act met
reads_take d s r w is =
    let own : SamePart s r (part.looper w) = is.touched (part.looper w) (inl refl) in
    let port : SamePart s r (part.port w) = is.touched (part.port w) (inr refl) in
    record {
      wanted = looper_wants d s r w (takes w) own is.wanted;
      granted = ap (λ o. with_both take_act o (slice_get r.ports w)) own.0 ∙ ap (with_both take_act (slice_get s.loopers w)) port;
      kept = subst (λ (o : Option (Port Message)). Keeps s r (taken d s w) (option_map_or (with_letter_in_hand d r w) (option_and_then front o) r)) (sym port)
          (found_keeps s r (with_letter_in_hand d s w) (with_letter_in_hand d r w) (option_and_then front (slice_get s.ports w)) (λ x e. letter_keeps d s r w x));
    }

-- ---- its buffer

pub reads_flush : (d : Declared) (s r : State) (w : ℕ) → Wanted d s r (flushes w) → Reads d s r (flushes w)
unfolding want_act met
reads_flush d s r w is =
    let own : SamePart s r (part.looper w) = is.touched (part.looper w) (inl refl) in
    let link : SamePart s r (part.link w) = is.touched (part.link w) (inr refl) in
    record { wanted = looper_wants d s r w (flushes w) own is.wanted; granted = same_flush s r w own.1 link; kept = flushed_keeps s r w own.1 }

pub reads_draw_end : (d : Declared) (s r : State) (w : ℕ) → Wanted d s r (draws_end w) → Reads d s r (draws_end w)
unfolding want_act met
reads_draw_end d s r w is =
    let own : SamePart s r (part.looper w) = is.touched (part.looper w) refl in
    record {
      wanted = looper_wants d s r w (draws_end w) own is.wanted;
      granted = same_draw s r w own.1;
      kept = both_keep s r (drawn s w EndUpdate) (drawn r w EndUpdate) (with_looper (drawn s w EndUpdate) w (at_stage ending)) (with_looper (drawn r w EndUpdate) w (at_stage ending))
          (buffers_keep s r w (with_command EndUpdate)) (loopers_keep (drawn s w EndUpdate) (drawn r w EndUpdate) w (at_stage ending));
    }

-- ---- the end of a message

telling_keeps : (t : EndTelling) (s r : State) → Keeps s r (told_at_end t s) (told_at_end t r)
telling_keeps nobody s r = none_keeps s r
telling_keeps (no_reply m) s r = told_keeps _ (Some m) s r
telling_keeps (not_understood m) s r = told_keeps _ (Some m) s r

pub reads_end : (d : Declared) (s r : State) (w : ℕ) → Wanted d s r (ends w) → Reads d s r (ends w)
unfolding want_act met
reads_end d s r w is =
    let own : SamePart s r (part.looper w) = is.touched (part.looper w) (inl refl) in
    let hand : hand_at r w ≡ hand_at s w = ap (option_and_then hand_in) own.0 in
    record {
      wanted = looper_wants d s r w (ends w) own is.wanted;
      granted = ap (option_map end_act) hand;
      kept = subst (λ o. Keeps s r (option_map_or (ended_hand s w) (hand_at s w) s) (option_map_or (ended_hand r w) o r)) (sym hand)
          (found_keeps s r (ended_hand s w) (ended_hand r w) (hand_at s w) (λ h e.
          both_keep s r (freed s w) (freed r w) (ended_hand s w h) (ended_hand r w h) (loopers_keep s r w _) (telling_keeps (end_telling h.duty h.route) (freed s w) (freed r w))));
    }

-- What an instruction asked for reads only what it touches.
use Rattle.std.proofs.Common.{◌≡◌, ℕ, Bool, false, Option, Some, None, ◌⊎◌, inl, inr, refl, sym, ap, subst, ◌∙◌}
use Rattle.std.specs.Prelude.{◌+◌, slice_get, option_map, option_and_then, if◌then◌else◌}
use Rattle.std.specs.Option.{option_map_or}
use Rattle.be_actor.specs.declared.Wish.{Wish}
use Rattle.be_actor.specs.declared.Wish.TheVariants as wish
use Rattle.be_link.specs.Queues.{emptied, lengthened, with_command}
use Rattle.be_looper.specs.Duties.{Hand, waiter, duty_after_reply, duty_after_forward, duty_handed_on}
use Rattle.be_message.specs.Messages.{Message}
use Rattle.be_port.specs.declared.Duty.{Duty}
use Rattle.be_port.specs.declared.Duty.TheVariants.{Free}
use Rattle.be_port.specs.Ports.{Letter, judged, is_accepted, posted}
use Rattle.be_reply.specs.Cells as reply
use Rattle.be_script.specs.Script.{Declared}
use Rattle.be_machine.specs.Activities.{Runner, app, looper, sender_of}
use Rattle.be_machine.specs.Commands.{draw_act, drawn, flush_act, flushed_into, flushed, sync_act}
use Rattle.be_machine.specs.declared.Act.{Act}
use Rattle.be_machine.specs.declared.Act.TheVariants as act
use Rattle.be_machine.specs.Legal.{wish_act}
use Rattle.be_machine.specs.Lists.{at}
use Rattle.be_machine.specs.Looper.{lock_act, locked_for, freed, with_waiting, claimed, kind_of_reply, cell_of, with_duty, told, forwarded_hand, sent_duty}
use Rattle.be_machine.specs.Port.{letter, with_post, post_act, is_accepted_at}
use Rattle.be_machine.specs.Program.{window_of, hand_of, hop_of, moved_on}
use Rattle.be_machine.specs.State.{State, App}
use Rattle.be_machine.specs.Step.{granted, is_accepted_wish}
use Rattle.be_machine.specs.Touched.{Part, SamePart, IsOf, TouchesBy, own_part}
use Rattle.be_machine.specs.Touched as part
use Rattle.be_machine.proofs.ReadsParts.{Keeps, both_keep, none_keeps, tested_keeps, found_keeps, ports_keep, loopers_keep, buffers_keep, links_keep, apps_keep}

-- ---- what a runner has

-- the runner's window and the letter in its hand are the same in both states
pub record SameRunner (s r : State) (who : Runner) : Type 0 where
  pub window : window_of r who ≡ window_of s who
  pub hand : hand_of r who ≡ hand_of s who

same_hop : (s r : State) (who : Runner) → SameRunner s r who → hop_of r who ≡ hop_of s who
same_hop s r who is = ap (λ (o : Option (Hand Message)). option_map_or (λ hand. hand.letter.hop + 1) o 0) is.hand

-- what a wish touches is the same in both
abbrev pub SameFor : State → State → Runner → Wish → Type 0
SameFor s r who x = (p : Part) → (p ≡ own_part who) ⊎ TouchesBy s who x p → SamePart s r p

is_of : (part : ℕ → Part) (o : Option ℕ) (w : ℕ) → o ≡ Some w → IsOf part o (part w)
is_of part o w e = subst (λ k. IsOf part k (part w)) (sym e) refl

same_accepted : (s r : State) (w n k : ℕ) → slice_get r.ports w ≡ slice_get s.ports w → k ≡ n → is_accepted_at r w k ≡ is_accepted_at s w n
same_accepted s r w n k port same = ap (is_accepted_at r w) same ∙ ap (λ o. option_map_or (λ p. is_accepted (judged p n)) o false) port

-- ---- whether it is granted

in_window : (f g : ℕ → Option Act) (o : Option ℕ) → ((w : ℕ) → o ≡ Some w → f w ≡ g w) → option_and_then f o ≡ option_and_then g o
in_window f g (Some w) each = each w refl
in_window f g None each = refl

same_post : (s r : State) (w n k : ℕ) → slice_get r.ports w ≡ slice_get s.ports w → k ≡ n → post_act r w k ≡ post_act s w n
same_post s r w n k port same = ap (post_act r w) same ∙ ap (option_map (λ p. act.Post w (judged p n))) port

pub same_flush : (s r : State) (w : ℕ) → slice_get r.buffers w ≡ slice_get s.buffers w → slice_get r.links w ≡ slice_get s.links w → flush_act r w ≡ flush_act s w
same_flush s r w buffer link = rw (buffer, link) refl

pub same_draw : (s r : State) (w : ℕ) → slice_get r.buffers w ≡ slice_get s.buffers w → draw_act r w ≡ draw_act s w
same_draw s r w buffer = rw buffer refl

same_sync : (s r : State) (w : ℕ) → slice_get r.links w ≡ slice_get s.links w → sync_act r w ≡ sync_act s w
same_sync s r w link = rw link refl

same_cell : (s r : State) (who : Runner) → SamePart s r (own_part who) → cell_of r who ≡ cell_of s who
same_cell s r (app m) same = ap (option_map (λ (a : App). a.cell)) same
same_cell s r (looper w) same = refl

pub same_wish_act : (s r : State) (who : Runner) (x : Wish) → SameRunner s r who → SameFor s r who x → wish_act r who x ≡ wish_act s who x
unfolding wish_act
same_wish_act s r who (wish.Note word) is same = refl
same_wish_act s r who (wish.Post w target message) is same = same_post s r w _ _ (same (part.port w) (inr refl)) (same_hop s r who is)
same_wish_act s r who (wish.Send w target message) is same = same_post s r w _ _ (same (part.port w) (inr refl)) (same_hop s r who is)
same_wish_act s r who (wish.Forward w target) is same = same_post s r w _ _ (same (part.port w) (inr refl)) (same_hop s r who is)
same_wish_act s r who (wish.Reply message) is same = rw is.hand refl
same_wish_act s r who wish.Claim is same = ap (λ o. option_map (λ m. act.Claim (kind_of_reply m)) (option_and_then reply.reply_in o)) (same_cell s r who (same (own_part who) (inl refl)))
same_wish_act s r who (wish.Lock w) is same = let there : SamePart s r (part.looper w) = same (part.looper w) (inr refl) in ap (option_and_then (lock_act w)) there.0
same_wish_act s r who wish.Unlock is same = ap (option_and_then (λ w. Some (act.Unlock w))) is.window
same_wish_act s r who wish.Flush is same =
    ap (option_and_then (flush_act r)) is.window ∙ in_window (flush_act r) (flush_act s) (window_of s who) (λ w e.
    let there : SamePart s r (part.looper w) = same (part.looper w) (inr (inl (is_of part.looper (window_of s who) w e))) in
    same_flush s r w there.1 (same (part.link w) (inr (inr (is_of part.link (window_of s who) w e)))))
same_wish_act s r who wish.SyncDone is same =
    ap (option_and_then (sync_act r)) is.window ∙ in_window (sync_act r) (sync_act s) (window_of s who) (λ w e. same_sync s r w (same (part.link w) (inr (is_of part.link (window_of s who) w e))))
same_wish_act s r who (wish.Draw command) is same =
    ap (option_and_then (draw_act r)) is.window ∙ in_window (draw_act r) (draw_act s) (window_of s who) (λ w e.
    let there : SamePart s r (part.looper w) = same (part.looper w) (inr (is_of part.looper (window_of s who) w e)) in
    same_draw s r w there.1)

-- ---- what it does

waiting_keeps : (who : Runner) (s r : State) → Keeps s r (with_waiting who s) (with_waiting who r)
waiting_keeps (app m) s r = apps_keep s r m _
waiting_keeps (looper w) s r = none_keeps s r

duty_keeps : (f : Duty → Duty) (who : Runner) (s r : State) → Keeps s r (with_duty f who s) (with_duty f who r)
duty_keeps f (looper w) s r = loopers_keep s r w _
duty_keeps f (app m) s r = none_keeps s r

pub told_keeps : (message : Message) (o : Option ℕ) (s r : State) → Keeps s r (told message o s) (told message o r)
told_keeps message (Some m) s r = apps_keep s r m _
told_keeps message None s r = none_keeps s r

claimed_keeps : (who : Runner) (s r : State) → Keeps s r (claimed s who) (claimed r who)
claimed_keeps (app m) s r = apps_keep s r m _
claimed_keeps (looper w) s r = none_keeps s r

-- a post, and what becomes of who posts where it is accepted
abbrev posted_by : ℕ → (ℕ → Letter Message) → (State → State) → State → Bool → ℕ → State
posted_by w x f s b n = if b then f (with_post s w (x n)) else with_post s w (x n)

posted_keeps : (s r : State) (w : ℕ) (x : ℕ → Letter Message) (f : State → State) (b c : Bool) (n k : ℕ) → c ≡ b → k ≡ n → ((t u : State) → Keeps t u (f t) (f u)) → Keeps s r (posted_by w x f s b n) (posted_by w x f r c k)
posted_keeps s r w x f b c n k same also each =
    subst (λ e. Keeps s r (posted_by w x f s b n) (posted_by w x f r e k)) (sym same)
    (subst (λ j. Keeps s r (posted_by w x f s b n) (posted_by w x f r b j)) (sym also)
    (tested_keeps s r b (f (with_post s w (x n))) (f (with_post r w (x n))) (with_post s w (x n)) (with_post r w (x n))
    (both_keep s r (with_post s w (x n)) (with_post r w (x n)) (f (with_post s w (x n))) (f (with_post r w (x n))) (ports_keep s r w (posted (x n))) (each (with_post s w (x n)) (with_post r w (x n))))
    (ports_keep s r w (posted (x n)))))

pub flushed_keeps : (s r : State) (w : ℕ) → slice_get r.buffers w ≡ slice_get s.buffers w → Keeps s r (flushed s w) (flushed r w)
flushed_keeps s r w same =
    subst (λ o. Keeps s r (flushed s w) (option_map_or (flushed_into r w) o r)) (sym same)
    (found_keeps s r (flushed_into s w) (flushed_into r w) (slice_get s.buffers w) (λ b e.
    both_keep s r (record s { buffers = at s.buffers w emptied }) (record r { buffers = at r.buffers w emptied }) (flushed_into s w b) (flushed_into r w b)
    (buffers_keep s r w emptied) (links_keep (record s { buffers = at s.buffers w emptied }) (record r { buffers = at r.buffers w emptied }) w (lengthened b))))

own_keeps : (s r : State) (who : Runner) (f g : ℕ → State) → window_of r who ≡ window_of s who → ((w : ℕ) → window_of s who ≡ Some w → Keeps s r (f w) (g w)) → Keeps s r (option_map_or f (window_of s who) s) (option_map_or g (window_of r who) r)
own_keeps s r who f g same each =
    subst (λ o. Keeps s r (option_map_or f (window_of s who) s) (option_map_or g o r)) (sym same) (found_keeps s r f g (window_of s who) each)

pub granted_keeps : (s r : State) (who : Runner) (x : Wish) → SameRunner s r who → SameFor s r who x → Keeps s r (granted s who x) (granted r who x)
unfolding granted
granted_keeps s r who (wish.Note word) is same = none_keeps s r
granted_keeps s r who (wish.Post w target message) is same =
    subst (λ n. Keeps s r (with_post s w (letter (sender_of who) target (hop_of s who) Free message)) (with_post r w (letter (sender_of who) target n Free message))) (sym (same_hop s r who is)) (ports_keep s r w _)
granted_keeps s r who (wish.Send w target message) is same =
    posted_keeps s r w (λ n. letter (sender_of who) target n (sent_duty who) message) (with_waiting who) (is_accepted_at s w (hop_of s who)) (is_accepted_at r w (hop_of r who)) (hop_of s who) (hop_of r who)
    (same_accepted s r w _ _ (same (part.port w) (inr refl)) (same_hop s r who is)) (same_hop s r who is) (waiting_keeps who)
granted_keeps s r who (wish.Forward w target) is same =
    subst (λ o. Keeps s r (option_map_or (forwarded_hand s who w target) (hand_of s who) s) (option_map_or (forwarded_hand r who w target) o r)) (sym is.hand)
    (found_keeps s r (forwarded_hand s who w target) (forwarded_hand r who w target) (hand_of s who) (λ hand e.
    posted_keeps s r w (λ n. letter (sender_of who) target n (duty_handed_on hand.duty) hand.letter.body) (with_duty duty_after_forward who) (is_accepted_at s w (hop_of s who)) (is_accepted_at r w (hop_of r who)) (hop_of s who) (hop_of r who)
    (same_accepted s r w _ _ (same (part.port w) (inr refl)) (same_hop s r who is)) (same_hop s r who is) (duty_keeps duty_after_forward who)))
granted_keeps s r who (wish.Reply message) is same =
    let whom : Option ℕ = option_and_then (λ hand. waiter hand.duty) (hand_of s who) in
    subst (λ o. Keeps s r (with_duty duty_after_reply who (told message whom s)) (with_duty duty_after_reply who (told message (option_and_then (λ (hand : Hand Message). waiter hand.duty) o) r))) (sym is.hand)
    (both_keep s r (told message whom s) (told message whom r) (with_duty duty_after_reply who (told message whom s)) (with_duty duty_after_reply who (told message whom r)) (told_keeps message whom s r) (duty_keeps duty_after_reply who (told message whom s) (told message whom r)))
granted_keeps s r who wish.Claim is same = claimed_keeps who s r
granted_keeps s r who (wish.Lock w) is same = loopers_keep s r w (locked_for who)
granted_keeps s r who wish.Unlock is same = own_keeps s r who (freed s) (freed r) is.window (λ w e. loopers_keep s r w _)
granted_keeps s r who wish.Flush is same =
    own_keeps s r who (flushed s) (flushed r) is.window (λ w e.
    let there : SamePart s r (part.looper w) = same (part.looper w) (inr (inl (is_of part.looper (window_of s who) w e))) in
    flushed_keeps s r w there.1)
granted_keeps s r who wish.SyncDone is same = none_keeps s r
granted_keeps s r who (wish.Draw command) is same = own_keeps s r who (λ w. drawn s w command) (λ w. drawn r w command) is.window (λ w e. buffers_keep s r w (with_command command))

moved_keeps : (d : Declared) (who : Runner) (b : Bool) (x : Wish) (s r : State) → Keeps s r (moved_on d who b x s) (moved_on d who b x r)
unfolding moved_on
moved_keeps d (app m) b x s r = apps_keep s r m _
moved_keeps d (looper w) b x s r = loopers_keep s r w _

accepted_wish : (s r : State) (who : Runner) (x : Wish) → SameRunner s r who → SameFor s r who x → is_accepted_wish r who x ≡ is_accepted_wish s who x
accepted_wish s r who (wish.Post w target message) is same = same_accepted s r w _ _ (same (part.port w) (inr refl)) (same_hop s r who is)
accepted_wish s r who (wish.Send w target message) is same = same_accepted s r w _ _ (same (part.port w) (inr refl)) (same_hop s r who is)
accepted_wish s r who (wish.Forward w target) is same = same_accepted s r w _ _ (same (part.port w) (inr refl)) (same_hop s r who is)
accepted_wish s r who (wish.Note word) is same = refl
accepted_wish s r who (wish.Reply message) is same = refl
accepted_wish s r who wish.Claim is same = refl
accepted_wish s r who (wish.Lock w) is same = refl
accepted_wish s r who wish.Unlock is same = refl
accepted_wish s r who wish.Flush is same = refl
accepted_wish s r who wish.SyncDone is same = refl
accepted_wish s r who (wish.Draw command) is same = refl

pub asked_keeps : (d : Declared) (s r : State) (who : Runner) (x : Wish) → SameRunner s r who → SameFor s r who x → Keeps s r (moved_on d who (is_accepted_wish s who x) x (granted s who x)) (moved_on d who (is_accepted_wish r who x) x (granted r who x))
asked_keeps d s r who x is same =
    subst (λ b. Keeps s r (moved_on d who (is_accepted_wish s who x) x (granted s who x)) (moved_on d who b x (granted r who x))) (sym (accepted_wish s r who x is same))
    (both_keep s r (granted s who x) (granted r who x) (moved_on d who (is_accepted_wish s who x) x (granted s who x)) (moved_on d who (is_accepted_wish s who x) x (granted r who x))
    (granted_keeps s r who x is same) (moved_keeps d who (is_accepted_wish s who x) x (granted s who x) (granted r who x)))

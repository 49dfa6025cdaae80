-- Every wish of a body that is granted keeps who waits for whom.
use Rattle.std.proofs.Common.{◌≡◌, ℕ, ◌+◌, Bool, true, false, Option, Some, refl, sym, ap, subst, ◌∙◌, arith}
use Rattle.std.specs.Prelude.{slice_get, ◌==◌, option_and_then, if◌then◌else◌}
use Rattle.std.specs.Option.{option_map_or}
use Rattle.std.proofs.lemmas.Option.{same_Some}
use Rattle.be_actor.specs.declared.Instruction.{Instruction}
use Rattle.be_actor.specs.declared.Instruction.TheVariants.{Note, Post, Send, Reply, Forward, Lock, Unlock, Flush, Sync, Draw}
use Rattle.be_actor.specs.declared.Wish.{Wish}
use Rattle.be_actor.specs.declared.Wish.TheVariants as wish
use Rattle.be_actor.specs.Wishes.{wish_at, has_no_room}
use Rattle.be_looper.specs.Duties.{Hand, waiter, duty_after_reply, duty_handed_on, duty_after_forward}
use Rattle.be_message.specs.declared.target.Target.{Target}
use Rattle.be_message.specs.Messages.{Message}
use Rattle.be_port.specs.declared.Duty.{Duty}
use Rattle.be_port.specs.declared.Duty.TheVariants.{Free, Owed, Done}
use Rattle.be_port.specs.Ports.{Letter}
use Rattle.be_script.specs.Programs.{is_body_step}
use Rattle.be_script.specs.Script.{Declared}
use Rattle.be_machine.specs.Activities.{looper, sender_of}
use Rattle.be_machine.specs.Looper.{locked_for, with_waiting, told, with_duty, with_duty_by, replied_by, forwarded, forwarded_hand}
use Rattle.be_machine.specs.Port.{letter, with_post, is_accepted_at}
use Rattle.be_machine.specs.Program.{hand_in, hand_of, hop_of, looper_gone_on, moved_on, buffered}
use Rattle.be_machine.specs.State.{State, Looper, free, locked, handling, Stage}
use Rattle.be_machine.specs.Step.{granted, met}
use Rattle.be_machine.specs.Wants.{asks}
use Rattle.be_machine.proofs.ProgressCases.{by_test, neither}
use Rattle.be_machine.proofs.ProgressStands.{LooperStands}
use Rattle.be_machine.proofs.Waiting.{owes, owed_by_looper, IsWaiting}
use Rattle.be_machine.proofs.WaitingMoves.{loopers_kept, post_kept, forward_kept, answer_kept}
use Rattle.be_machine.proofs.WaitingApps.{flushed_kept}
use Rattle.be_machine.proofs.WaitingGranted.{Accepts, accepts, refused_kept}

-- ---- the looper goes on

stays_owed : (d : Declared) (w k : ℕ) (accepted : Bool) (x : Wish) (l : Looper) → owed_by_looper k (looper_gone_on d w accepted x l) ≡ owed_by_looper k l
stays_owed d w k accepted x (handling hand stage) = refl
stays_owed d w k accepted x (locked m) = refl
stays_owed d w k accepted x free = refl

body_moved : (d : Declared) (t : State) (w : ℕ) (accepted : Bool) (x : Wish) → IsWaiting d t → IsWaiting d (moved_on d (looper w) accepted x t)
unfolding moved_on
body_moved d t w accepted x h = loopers_kept d t.ports t.loopers t.apps w (looper_gone_on d w accepted x) (λ k l read. stays_owed d w k accepted x l) h

-- ---- a body gives back no lock

keeps_hand : (d : Declared) (w part buffered : ℕ) (now : Option Message) (i : Instruction) → is_body_step d w i ≡ true → wish_at part now buffered i ≡ wish.Unlock → (P : Type 0) → P
keeps_hand d w part buffered now (Send v target draft) allowed e P = cc
keeps_hand d w part buffered now (Note word) allowed e P = cc
keeps_hand d w part buffered now (Post v target draft) allowed e P = cc
keeps_hand d w part buffered now (Reply draft) allowed e P = cc
keeps_hand d w part buffered now (Forward v target) allowed e P = cc
keeps_hand d w part buffered now (Lock v) allowed e P = cc
keeps_hand d w part buffered now Unlock allowed e P = cc
keeps_hand d w part buffered now Flush allowed e P = cc
keeps_hand d w part buffered now Sync allowed e P = neither (part == 0) wish.Flush wish.SyncDone wish.Unlock P (λ h. cc) (λ h. cc) e
keeps_hand d w part buffered now (Draw c) allowed e P = neither (has_no_room buffered) wish.Flush (wish.Draw c) wish.Unlock P (λ h. cc) (λ h. cc) e

pub no_unlock : (d : Declared) (s : State) (w : ℕ) (P : Type 0) → LooperStands d s w wish.Unlock → P
no_unlock d s w P is = keeps_hand d w is.place.part (buffered s (looper w)) (Some is.hand.letter.body) is.step is.allowed is.asked P

-- ---- posts and forwards

forward_owes : (m : ℕ) (duty : Duty) → owes m (duty_handed_on duty) + owes m (duty_after_forward duty) ≡ owes m duty
forward_owes m (Owed n) = omega arith
forward_owes m Done = omega arith
forward_owes m Free = omega arith

forward_by : (d : Declared) (s : State) (w v : ℕ) (letter : Letter Message) (hand : Hand Message) (stage : Stage) (b : Bool) → slice_get s.loopers w ≡ Some (handling hand stage) → letter.duty ≡ duty_handed_on hand.duty → is_accepted_at s v letter.hop ≡ b → IsWaiting d s → IsWaiting d (if b then with_duty duty_after_forward (looper w) (with_post s v letter) else with_post s v letter)
forward_by d s w v letter hand stage true read duty e h =
    let port : Accepts s.ports v letter = accepts s v letter e in
    forward_kept d s.ports s.loopers s.apps v w letter port.port (with_duty_by duty_after_forward) (handling hand stage) port.read port.more read (λ m. ap (λ x. owes m x + owes m (duty_after_forward hand.duty)) duty ∙ forward_owes m hand.duty) h
forward_by d s w v letter hand stage false read duty e h = refused_kept d s v letter e h

hand_here : (s : State) (w : ℕ) (hand : Hand Message) (stage : Stage) → slice_get s.loopers w ≡ Some (handling hand stage) → hand_of s (looper w) ≡ Some hand
hand_here s w hand stage read = ap (option_and_then hand_in) read

body_forward : (d : Declared) (s : State) (w v : ℕ) (target : Target) (is : LooperStands d s w (wish.Forward v target)) → IsWaiting d s → IsWaiting d (forwarded s (looper w) v target)
body_forward d s w v target is h =
    let sent = letter (sender_of (looper w)) target (hop_of s (looper w)) (duty_handed_on is.hand.duty) is.hand.letter.body in
    subst (λ o. IsWaiting d (option_map_or (forwarded_hand s (looper w) v target) o s)) (sym (hand_here s w is.hand is.stage is.read))
    (forward_by d s w v sent is.hand is.stage (is_accepted_at s v (hop_of s (looper w))) is.read refl refl h)

-- ---- replies

reply_by : (d : Declared) (s : State) (w : ℕ) (message : Message) (letter : Letter Message) (hand : Hand Message) (stage : Stage) (duty : Duty) → hand.duty ≡ duty → slice_get s.loopers w ≡ Some (handling hand stage) → IsWaiting d s → IsWaiting d (with_duty duty_after_reply (looper w) (told message (waiter duty) s))
reply_by d s w message letter hand stage (Owed n) duty read h =
    answer_kept d s.ports s.loopers s.apps w n (with_duty_by duty_after_reply) (handling hand stage) message read (λ k. ap (owes k) duty) (λ k. ap (λ x. owes k (duty_after_reply x)) duty) h
reply_by d s w message letter hand stage Done duty read h =
    loopers_kept d s.ports s.loopers s.apps w (with_duty_by duty_after_reply) (λ k l there.
    subst (λ x. owed_by_looper k (with_duty_by duty_after_reply x) ≡ owed_by_looper k x) (same_Some (handling hand stage) l (sym read ∙ there)) (ap (λ x. owes k (duty_after_reply x)) duty ∙ sym (ap (owes k) duty))) h
reply_by d s w message letter hand stage Free duty read h =
    loopers_kept d s.ports s.loopers s.apps w (with_duty_by duty_after_reply) (λ k l there.
    subst (λ x. owed_by_looper k (with_duty_by duty_after_reply x) ≡ owed_by_looper k x) (same_Some (handling hand stage) l (sym read ∙ there)) (ap (λ x. owes k (duty_after_reply x)) duty ∙ sym (ap (owes k) duty))) h

body_reply : (d : Declared) (s : State) (w : ℕ) (message : Message) (is : LooperStands d s w (wish.Reply message)) → IsWaiting d s → IsWaiting d (replied_by s (looper w) message)
body_reply d s w message is h =
    subst (λ o. IsWaiting d (with_duty duty_after_reply (looper w) (told message (option_and_then (λ (hand : Hand Message). waiter hand.duty) o) s))) (sym (hand_here s w is.hand is.stage is.read))
    (reply_by d s w message is.hand.letter is.hand is.stage is.hand.duty refl is.read h)

-- ---- all wishes

pub body_granted : (d : Declared) (s : State) (w : ℕ) (x : Wish) → LooperStands d s w x → IsWaiting d s → IsWaiting d (met d s (asks (looper w) x))
unfolding met granted
body_granted d s w (wish.Note word) is h = body_moved d s w false (wish.Note word) h
body_granted d s w (wish.Post v target message) is h = body_moved d _ w (is_accepted_at s v (hop_of s (looper w))) (wish.Post v target message) (post_kept d s.ports s.loopers s.apps v (letter (sender_of (looper w)) target (hop_of s (looper w)) Free message) refl h)
body_granted d s w (wish.Send v target message) is h =
    let sent = letter (sender_of (looper w)) target (hop_of s (looper w)) Free message in
    body_moved d _ w (is_accepted_at s v (hop_of s (looper w))) (wish.Send v target message) (by_test (IsWaiting d) (is_accepted_at s v (hop_of s (looper w))) (with_waiting (looper w) (with_post s v sent)) (with_post s v sent) (post_kept d s.ports s.loopers s.apps v sent refl h) (post_kept d s.ports s.loopers s.apps v sent refl h))
body_granted d s w (wish.Forward v target) is h = body_moved d _ w (is_accepted_at s v (hop_of s (looper w))) (wish.Forward v target) (body_forward d s w v target is h)
body_granted d s w (wish.Reply message) is h = body_moved d _ w false (wish.Reply message) (body_reply d s w message is h)
body_granted d s w wish.Claim is h = body_moved d s w false wish.Claim h
body_granted d s w (wish.Lock v) is h = body_moved d _ w false (wish.Lock v) (loopers_kept d s.ports s.loopers s.apps v (locked_for (looper w)) (λ k l read. refl) h)
body_granted d s w wish.Unlock is h = no_unlock d s w _ is
body_granted d s w wish.Flush is h = body_moved d _ w false wish.Flush (flushed_kept d s w h)
body_granted d s w wish.SyncDone is h = body_moved d s w false wish.SyncDone h
body_granted d s w (wish.Draw command) is h = body_moved d _ w false (wish.Draw command) h

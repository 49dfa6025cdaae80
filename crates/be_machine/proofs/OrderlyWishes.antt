-- What an entry that an instruction asks for says of a window may happen there next.
use Rattle.std.proofs.Common.{◌≡◌, ℕ, true, Option, Some, None, refl, sym, ap, subst, ◌∙◌}
use Rattle.std.specs.Prelude.{slice_get, ◌==◌, option_map, option_and_then}
use Rattle.std.specs.Option.{option_map_or}
use Rattle.std.proofs.lemmas.Option.{same_Some}
use Rattle.be_actor.specs.declared.Wish.{Wish}
use Rattle.be_actor.specs.declared.Wish.TheVariants as wish
use Rattle.be_looper.specs.Duties.{Hand, reply_answer, duty_after_reply, duty_handed_on}
use Rattle.be_message.specs.declared.target.Target.{Target}
use Rattle.be_message.specs.Messages.{Message}
use Rattle.be_port.specs.declared.Duty.{Duty}
use Rattle.be_port.specs.declared.Duty.TheVariants as duty
use Rattle.be_script.specs.Limits.{IsWithinLimits}
use Rattle.be_script.specs.Script.{Declared}
use Rattle.be_machine.specs.Activities.{Runner, app, looper, runner, sender_of}
use Rattle.be_machine.specs.Commands.{draw_act, flush_act, sync_act, drawn, flushed}
use Rattle.be_machine.specs.declared.Act.{Act}
use Rattle.be_machine.specs.declared.Act.TheVariants as act
use Rattle.be_machine.specs.Legal.{wish_act}
use Rattle.be_machine.specs.Looper.{with_looper, lock_act, locked_for, freed, sent_duty, told, with_duty, replied_by, claim_act, reply_for, kind_of_reply, reply_act, answer_of, forwarded, forwarded_hand, claimed}
use Rattle.be_machine.specs.Orderly.{Tally}
use Rattle.be_machine.specs.Port.{post_act, letter}
use Rattle.be_machine.specs.Program.{hop_of, hand_at, hand_in, locked_by, moved_on}
use Rattle.be_machine.specs.State.{State, Looper, free, locked, handling, Stage}
use Rattle.be_machine.specs.Step.{granted, is_accepted_wish}
use Rattle.be_machine.proofs.BodyWishes.{is_body_wish, is_app_wish, IsHandling, body_asks, hand_asks, app_asks}
use Rattle.be_machine.proofs.Found.{IsMapped, mapped, IsChained, chained, locked_there}
use Rattle.be_machine.proofs.OrderlyLoopers.{lock_goes, unlock_goes, reply_keeps, reply_goes}
use Rattle.be_machine.proofs.Tallied.{IsTallied, GoesOn, nothing_happens}
use Rattle.be_machine.specs.Wants.{asks, want_of}
use Rattle.be_machine.proofs.OrderlySteps.{Goes, with_act, moves, nothing_if, told_tallied, claimed_tallied, duty_tallied, post_done, forwarded_tallied, sent_tallied, draw_done, flush_done, sync_done}

-- ---- what applications are granted

lock_free : (v : ℕ) (l : Looper) (a : Act) → lock_act v l ≡ Some a → (l ≡ free) × (act.Lock v ≡ a)
lock_free v free a e = (refl, same_Some (act.Lock v) a e)
lock_free v (locked m) a e = cc
lock_free v (handling hand g) a e = cc

lock_done : (s : State) (m v w : ℕ) (t : Tally) (a : Act) → option_and_then (lock_act v) (slice_get s.loopers v) ≡ Some a → IsTallied s w t → Goes (with_looper s v (locked_for (app m))) w t (runner (app m)) a
lock_done s m v w t a e h =
    let at : IsChained (lock_act v) (slice_get s.loopers v) a = chained (lock_act v) (slice_get s.loopers v) a e in
    let is : (at.from ≡ free) × (act.Lock v ≡ a) = lock_free v at.from a at.is in
    with_act (with_looper s v (locked_for (app m))) w t (runner (app m)) (act.Lock v) a is.1
    (lock_goes s v w m t (locked_for (app m)) (at.read ∙ ap Some is.0) refl h)

-- in the window that the application has locked
own_done : (s : State) (m w : ℕ) (t : Tally) (f : ℕ → Option Act) (g : ℕ → State) (a : Act) → ((v : ℕ) → locked_by s m ≡ Some v → f v ≡ Some a → Goes (g v) w t (runner (app m)) a) → option_and_then f (locked_by s m) ≡ Some a → Goes (option_map_or g (locked_by s m) s) w t (runner (app m)) a
own_done s m w t f g a each e =
    let at : IsChained f (locked_by s m) a = chained f (locked_by s m) a e in
    subst (λ o. Goes (option_map_or g o s) w t (runner (app m)) a) (sym at.read) (each at.from at.read at.is)

claim_done : (s : State) (m w : ℕ) (t : Tally) (a : Act) → claim_act s (app m) ≡ Some a → IsTallied s w t → Goes (claimed s (app m)) w t (runner (app m)) a
claim_done s m w t a e h =
    let at : IsMapped (λ x. act.Claim (kind_of_reply x)) (reply_for s (app m)) a = mapped (λ (x : Message). act.Claim (kind_of_reply x)) (reply_for s (app m)) a e in
    with_act (claimed s (app m)) w t (runner (app m)) (act.Claim (kind_of_reply at.from)) a at.is (nothing_happens _ w t (claimed_tallied (app m) s w t h))

app_granted : (s : State) (m w : ℕ) (t : Tally) (x : Wish) (a : Act) → is_app_wish x ≡ true → wish_act s (app m) x ≡ Some a → IsTallied s w t → Goes (granted s (app m) x) w t (runner (app m)) a
unfolding wish_act granted
app_granted s m w t (wish.Note word) a ok e h = with_act s w t (runner (app m)) (act.Note word) a (same_Some _ a e) (nothing_happens s w t h)
app_granted s m w t (wish.Post v target message) a ok e h = post_done s _ (runner (app m)) v w (hop_of s (app m)) t (letter (sender_of (app m)) target (hop_of s (app m)) duty.Free message) a refl (λ u k. k) e h
app_granted s m w t (wish.Send v target message) a ok e h =
    post_done s _ (runner (app m)) v w (hop_of s (app m)) t (letter (sender_of (app m)) target (hop_of s (app m)) (sent_duty (app m)) message) a refl (λ u k. sent_tallied s (app m) v w target message u k) e h
app_granted s m w t (wish.Forward v target) a ok e h = cc
app_granted s m w t (wish.Reply message) a ok e h = cc
app_granted s m w t wish.Claim a ok e h = claim_done s m w t a e h
app_granted s m w t (wish.Lock v) a ok e h = lock_done s m v w t a e h
app_granted s m w t wish.Unlock a ok e h =
    own_done s m w t (λ v. Some (act.Unlock v)) (freed s) a (λ v there is. with_act (freed s v) w t (runner (app m)) (act.Unlock v) a (same_Some _ a is) (unlock_goes s v w m t (locked_there s m v there) h)) e
app_granted s m w t wish.Flush a ok e h = own_done s m w t (flush_act s) (flushed s) a (λ v there is. flush_done s (runner (app m)) v w t a is h) e
app_granted s m w t wish.SyncDone a ok e h =
    let at : IsChained (sync_act s) (locked_by s m) a = chained (sync_act s) (locked_by s m) a e in
    sync_done s (runner (app m)) at.from w t a at.is h
app_granted s m w t (wish.Draw c) a ok e h = own_done s m w t (draw_act s) (λ v. drawn s v c) a (λ v there is. draw_done s (runner (app m)) v w t c a is h) e

-- ---- what bodies are granted

hand_read : (s : State) (v : ℕ) (hand : Hand Message) (g : Stage) → slice_get s.loopers v ≡ Some (handling hand g) → hand_at s v ≡ Some hand
hand_read s v hand g read = ap (option_and_then hand_in) read

told_loopers : (message : Message) (o : Option ℕ) (s : State) → (told message o s).loopers ≡ s.loopers
told_loopers message (Some m) s = refl
told_loopers message None s = refl

reply_by_duty : (s : State) (v w : ℕ) (t : Tally) (message : Message) (o : Option ℕ) (hand : Hand Message) (g : Stage) (x : Duty) → slice_get s.loopers v ≡ Some (handling hand g) → hand.duty ≡ x → IsTallied s w t → Goes (with_duty duty_after_reply (looper v) (told message o s)) w t (runner (looper v)) (answer_of (reply_answer x))
reply_by_duty s v w t message o hand g (duty.Owed m) read is h =
    reply_goes (told message o s) v w m t hand g (ap (λ xs. slice_get xs v) (told_loopers message o s) ∙ read) is (told_tallied message o s w t h)
reply_by_duty s v w t message o hand g duty.Done read is h =
    subst (GoesOn _ w t) (sym (nothing_if (w == v))) (nothing_happens _ w t (duty_tallied duty_after_reply reply_keeps (looper v) _ w t (told_tallied message o s w t h)))
reply_by_duty s v w t message o hand g duty.Free read is h =
    subst (GoesOn _ w t) (sym (nothing_if (w == v))) (nothing_happens _ w t (duty_tallied duty_after_reply reply_keeps (looper v) _ w t (told_tallied message o s w t h)))

reply_done : (s : State) (v w : ℕ) (t : Tally) (message : Message) (a : Act) → IsHandling s v → reply_act s (looper v) ≡ Some a → IsTallied s w t → Goes (replied_by s (looper v) message) w t (runner (looper v)) a
reply_done s v w t message a has e h =
    let is : Some (answer_of (reply_answer has.hand.duty)) ≡ Some a = sym (ap (option_map (λ (hand : Hand Message). answer_of (reply_answer hand.duty))) (hand_read s v has.hand has.stage has.read)) ∙ e in
    with_act (replied_by s (looper v) message) w t (runner (looper v)) (answer_of (reply_answer has.hand.duty)) a (same_Some _ a is)
    (reply_by_duty s v w t message _ has.hand has.stage has.hand.duty has.read refl h)

forward_done : (s : State) (v u w : ℕ) (t : Tally) (target : Target) (a : Act) → IsHandling s v → post_act s u (hop_of s (looper v)) ≡ Some a → IsTallied s w t → Goes (forwarded s (looper v) u target) w t (runner (looper v)) a
forward_done s v u w t target a has e h =
    subst (λ o. Goes (option_map_or (forwarded_hand s (looper v) u target) o s) w t (runner (looper v)) a) (sym (hand_read s v has.hand has.stage has.read))
    (post_done s _ (runner (looper v)) u w (hop_of s (looper v)) t (letter (sender_of (looper v)) target (hop_of s (looper v)) (duty_handed_on has.hand.duty) has.hand.letter.body) a refl (λ y k. forwarded_tallied s v u w target y has.hand k) e h)

body_granted : (s : State) (v w : ℕ) (t : Tally) (x : Wish) (a : Act) → IsHandling s v → is_body_wish x ≡ true → wish_act s (looper v) x ≡ Some a → IsTallied s w t → Goes (granted s (looper v) x) w t (runner (looper v)) a
unfolding wish_act granted
body_granted s v w t (wish.Note word) a has ok e h = with_act s w t (runner (looper v)) (act.Note word) a (same_Some _ a e) (nothing_happens s w t h)
body_granted s v w t (wish.Post u target message) a has ok e h = post_done s _ (runner (looper v)) u w (hop_of s (looper v)) t (letter (sender_of (looper v)) target (hop_of s (looper v)) duty.Free message) a refl (λ y k. k) e h
body_granted s v w t (wish.Send u target message) a has ok e h = cc
body_granted s v w t (wish.Forward u target) a has ok e h = forward_done s v u w t target a has e h
body_granted s v w t (wish.Reply message) a has ok e h = reply_done s v w t message a has e h
body_granted s v w t wish.Claim a has ok e h = cc
body_granted s v w t (wish.Lock u) a has ok e h = cc
body_granted s v w t wish.Unlock a has ok e h = cc
body_granted s v w t wish.Flush a has ok e h = flush_done s (runner (looper v)) v w t a e h
body_granted s v w t wish.SyncDone a has ok e h = sync_done s (runner (looper v)) v w t a e h
body_granted s v w t (wish.Draw c) a has ok e h = draw_done s (runner (looper v)) v w t c a e h

-- ---- what runners ask for

pub asked_goes : (d : Declared) (s : State) (who : Runner) (w : ℕ) (t : Tally) (x : Wish) (a : Act) → IsWithinLimits d → want_of d s (runner who) ≡ Some (asks who x) → wish_act s who x ≡ Some a → IsTallied s w t → Goes (moved_on d who (is_accepted_wish s who x) x (granted s who x)) w t (runner who) a
asked_goes d s (app m) w t x a limits wants e h = moves d (app m) _ x _ w t _ (app_granted s m w t x a (app_asks d s m x limits wants) e h)
asked_goes d s (looper v) w t x a limits wants e h = moves d (looper v) _ x _ w t _ (body_granted s v w t x a (hand_asks d s v x wants) (body_asks d s v x limits wants) e h)

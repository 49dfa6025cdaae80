-- Who has a looper, and what becomes of the duty of the letter in its hand.
use Rattle.std.proofs.Common.{◌≡◌, ℕ, Bool, true, false, [], ◌∷◌, Some, None, refl, sym, ap, subst, ◌∙◌}
use Rattle.std.specs.Prelude.{slice_get, ◌==◌, if◌then◌else◌}
use Rattle.be_handler.specs.declared.Route.{Route}
use Rattle.be_looper.specs.Duties.{Hand, waiter, duty_after_reply, duty_after_forward, EndTelling, nobody, no_reply, not_understood, end_telling}
use Rattle.be_message.specs.Messages.{Message}
use Rattle.be_port.specs.declared.Duty.{Duty}
use Rattle.be_port.specs.declared.Duty.TheVariants.{Free, Owed, Done}
use Rattle.be_machine.specs.declared.EndAnswer.{EndAnswer}
use Rattle.be_machine.specs.declared.EndAnswer.TheVariants as end
use Rattle.be_machine.specs.Happenings.{locked, unlocked, replied, ended, only}
use Rattle.be_machine.specs.Looper.{with_looper, with_duty_by, freed}
use Rattle.be_machine.specs.Orderly.{Tally}
use Rattle.be_machine.specs.State as state
use Rattle.be_machine.specs.State.{State, Looper, Stage}
use Rattle.be_machine.proofs.Lists.{same_element, place_here, place_elsewhere, place_kept}
use Rattle.be_machine.proofs.OrderlyPorts.{unheld}
use Rattle.be_machine.proofs.Tallied.{is_handling, OfLooper, IsTallied, GoesOn, at_window}

-- a looper goes on in a way that shows nothing else
pub looper_kept : (s : State) (v w : ℕ) (t : Tally) (f : Looper → Looper) → ((l : Looper) → OfLooper t l → OfLooper t (f l)) → IsTallied s w t → IsTallied (with_looper s v f) w t
looper_kept s v w t f keep h = record {
  port = h.port;
  looper = place_kept (OfLooper t) s.loopers v w f (w == v) refl (λ l there old. keep l old) h.looper;
  buffer = h.buffer;
  link = h.link;
}

-- another window's looper changes
looper_elsewhere : (s : State) (v w : ℕ) (t : Tally) (f : Looper → Looper) → (w ≡ v → ⊥) → IsTallied s w t → IsTallied (with_looper s v f) w t
looper_elsewhere s v w t f other h = record {
  port = h.port;
  looper = place_elsewhere (OfLooper t) s.loopers v w f (λ e. other (sym e)) h.looper;
  buffer = h.buffer;
  link = h.link;
}

-- this one's does, and the tally with it
looper_here : (s : State) (v : ℕ) (t : Tally) (in_hand in_lock was_replied : Bool) (f : Looper → Looper) → ((l : Looper) → slice_get s.loopers v ≡ Some l → OfLooper t l → OfLooper (record t { in_hand = in_hand; in_lock = in_lock; was_replied = was_replied }) (f l)) → IsTallied s v t → IsTallied (with_looper s v f) v (record t { in_hand = in_hand; in_lock = in_lock; was_replied = was_replied })
looper_here s v t in_hand in_lock was_replied f change h = record {
  port = h.port;
  looper = place_here (OfLooper t) (OfLooper (record t { in_hand = in_hand; in_lock = in_lock; was_replied = was_replied })) s.loopers v f change h.looper;
  buffer = h.buffer;
  link = h.link;
}

here_of : (s : State) (w v : ℕ) (t : Tally) → w ≡ v → IsTallied s w t → IsTallied s v t
here_of s w v t same h = subst (λ u. IsTallied s u t) same h

-- ---- locks

-- an application locks a free looper
pub lock_goes : (s : State) (v w m : ℕ) (t : Tally) (f : Looper → Looper) → slice_get s.loopers v ≡ Some state.free → f state.free ≡ state.locked m → IsTallied s w t → GoesOn (with_looper s v f) w t (only (w == v) locked)
lock_goes s v w m t f read is h =
    at_window (with_looper s v f) w v t _ (w == v) refl
    (λ same. let here : IsTallied s v t = here_of s w v t same h in record {
      in_turn = (unheld s v t read here, tt);
      tallied = looper_here s v t t.in_hand true t.was_replied f (λ l there old.
          let was : state.free ≡ l = same_element s.loopers v state.free l read there in
          subst (λ x. OfLooper (record t { in_lock = true }) (f x)) was (rw is (record { handles = old.handles ∙ ap is_handling (sym was); locks = refl; replied = λ e. refl }))) here;
    })
    (λ other. looper_elsewhere s v w t f other h)

-- ... and unlocks it
pub unlock_goes : (s : State) (v w m : ℕ) (t : Tally) → slice_get s.loopers v ≡ Some (state.locked m) → IsTallied s w t → GoesOn (freed s v) w t (only (w == v) unlocked)
unlock_goes s v w m t read h =
    at_window (freed s v) w v t _ (w == v) refl
    (λ same. let here : IsTallied s v t = here_of s w v t same h in record {
      in_turn = (tt, tt);
      tallied = looper_here s v t t.in_hand false t.was_replied (λ _. state.free) (λ l there old.
          let was : state.locked m ≡ l = same_element s.loopers v (state.locked m) l read there in
          record { handles = old.handles ∙ ap is_handling (sym was); locks = refl; replied = λ e. refl }) here;
    })
    (λ other. looper_elsewhere s v w t (λ _. state.free) other h)

-- ---- duties

duty_of : (t : Tally) (f : Duty → Duty) → ((duty : Duty) → waiter duty ≡ None → waiter (f duty) ≡ None) → (l : Looper) → OfLooper t l → OfLooper t (with_duty_by f l)
duty_of t f keep (state.handling hand g) old = record { handles = old.handles; locks = old.locks; replied = λ e. keep hand.duty (old.replied e) }
duty_of t f keep (state.locked m) old = old
duty_of t f keep state.free old = old

-- a duty changes to one for which nobody waits who didn't wait before
pub duty_kept : (s : State) (v w : ℕ) (t : Tally) (f : Duty → Duty) → ((duty : Duty) → waiter duty ≡ None → waiter (f duty) ≡ None) → IsTallied s w t → IsTallied (with_looper s v (with_duty_by f)) w t
duty_kept s v w t f keep h = looper_kept s v w t (with_duty_by f) (duty_of t f keep) h

pub forward_keeps : (duty : Duty) → waiter duty ≡ None → waiter (duty_after_forward duty) ≡ None
forward_keeps (Owed m) e = refl
forward_keeps Done e = refl
forward_keeps Free e = refl

pub reply_keeps : (duty : Duty) → waiter duty ≡ None → waiter (duty_after_reply duty) ≡ None
reply_keeps (Owed m) e = refl
reply_keeps Done e = refl
reply_keeps Free e = refl

not_yet : (b : Bool) (m : ℕ) → (b ≡ true → Some m ≡ None) → b ≡ false
not_yet true m h = let none : Some m ≡ None = h refl in cc
not_yet false m h = refl

-- a reply reaches who waits for it: the first one to the letter in hand
pub reply_goes : (s : State) (v w m : ℕ) (t : Tally) (hand : Hand Message) (g : Stage) → slice_get s.loopers v ≡ Some (state.handling hand g) → hand.duty ≡ Owed m → IsTallied s w t → GoesOn (with_looper s v (with_duty_by duty_after_reply)) w t (if w == v then replied ∷ [] else [])
reply_goes s v w m t hand g read owed h =
    at_window (with_looper s v (with_duty_by duty_after_reply)) w v t _ (w == v) refl
    (λ same.
    let here : IsTallied s v t = here_of s w v t same h in
    let of_looper : OfLooper t (state.handling hand g) = here.looper (state.handling hand g) read in
    record {
      in_turn = (not_yet t.was_replied m (λ e. sym (ap waiter owed) ∙ of_looper.replied e), tt);
      tallied = looper_here s v t t.in_hand t.in_lock true (with_duty_by duty_after_reply) (λ l there old.
          let was : state.handling hand g ≡ l = same_element s.loopers v (state.handling hand g) l read there in
          subst (λ x. OfLooper (record t { was_replied = true }) (with_duty_by duty_after_reply x)) was
          (record { handles = of_looper.handles; locks = of_looper.locks; replied = λ e. ap (λ x. waiter (duty_after_reply x)) owed })) here;
    })
    (λ other. looper_elsewhere s v w t (with_duty_by duty_after_reply) other h)

-- ---- the end of a message

-- as an answer
abbrev pub answer_of : EndTelling → EndAnswer
answer_of nobody = end.Nothing
answer_of (no_reply m) = end.NoReply
answer_of (not_understood m) = end.Unknown

tells_nobody : (duty : Duty) (route : Route) → waiter duty ≡ None → answer_of (end_telling duty route) ≡ end.Nothing
tells_nobody (Owed m) route e = cc
tells_nobody Done route e = refl
tells_nobody Free route e = refl

pub end_goes : (s : State) (v w : ℕ) (t : Tally) (hand : Hand Message) (g : Stage) → slice_get s.loopers v ≡ Some (state.handling hand g) → IsTallied s w t → GoesOn (freed s v) w t (only (w == v) (ended (answer_of (end_telling hand.duty hand.route))))
end_goes s v w t hand g read h =
    at_window (freed s v) w v t _ (w == v) refl
    (λ same.
    let here : IsTallied s v t = here_of s w v t same h in
    let of_looper : OfLooper t (state.handling hand g) = here.looper (state.handling hand g) read in
    record {
      in_turn = (λ e. tells_nobody hand.duty hand.route (of_looper.replied e), tt);
      tallied = looper_here s v t false t.in_lock t.was_replied (λ _. state.free) (λ l there old. record { handles = refl; locks = of_looper.locks; replied = λ e. refl }) here;
    })
    (λ other. looper_elsewhere s v w t (λ _. state.free) other h)

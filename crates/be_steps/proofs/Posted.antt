-- A letter that a runner posts.
use Rattle.std.proofs.Common.{◌≡◌, ℕ, ◌≤◌, Bool, true, false, List, Option, Some, None, inl, inr, refl, sym, ap, ◌∙◌}
use Rattle.std.specs.Prelude.{option_map, slice_get, if◌then◌else◌}
use Rattle.std.specs.Option.{option_map_or}
use Rattle.std.proofs.lemmas.Option.{same_Some}
use Rattle.be_asking.specs.Acts.{IsSameHop, post_window}
use Rattle.be_asking.specs.Wants.{runner_in, wish_in}
use Rattle.be_asking.specs.declared.activity.Runner.{Runner}
use Rattle.be_asking.specs.declared.activity.Runner.TheVariants.{App, Looper}
use Rattle.be_asking.specs.declared.want.Request.{Request}
use Rattle.be_asking.specs.declared.want.Request.TheVariants as request
use Rattle.be_actor.specs.Drafts.{filled}
use Rattle.be_looper.specs.Duties.{Hand, duty_after_forward, duty_handed_on}
use Rattle.be_machine.specs.Activities as machine
use Rattle.be_machine.specs.Activities.{sender_of}
use Rattle.be_machine.specs.Looper.{sent_duty, with_waiting}
use Rattle.be_machine.specs.Port.{is_accepted_at, letter, with_post}
use Rattle.be_machine.specs.Program.{hand_of, hop_of}
use Rattle.be_machine.specs.State.{State}
use Rattle.be_machine.specs.Step.{granted, is_accepted_wish}
use Rattle.be_machine.specs.Looper.{with_duty, forwarded_hand}
use Rattle.be_message.specs.Messages.{Message}
use Rattle.be_message.specs.declared.target.Target.{Target}
use Rattle.be_port.specs.declared.Duty.{Duty}
use Rattle.be_port.specs.declared.Duty.TheVariants.{Free}
use Rattle.be_port.specs.declared.Posted.TheVariants as posts
use Rattle.be_port.specs.Ports.{Letter, Port, is_accepted, judged, posted}
use Rattle.be_steps.proofs.Moved.{at_map}
use Rattle.be_steps.specs.Going.{handed_on_in, settled_in, waiting_in}
use Rattle.be_steps.specs.Letters.{wished_letter}
use Rattle.std.specs.Borrow.{Bor}
use Rattle.be_actor.specs.Drafts.{DraftWords}
use Rattle.be_machine.specs.Looper.{with_duty_by}
use Rattle.be_machine.specs.Touched.{own_part}
use Rattle.be_reply.specs.Cells as reply
use Rattle.be_rules.specs.Slices.{Slice, cell, looper, slice_of}
use Rattle.be_asking.proofs.PostsAnswered.{deep}

-- ---- hops

refused_by : (closed : Bool) → is_accepted (if closed then posts.BadPort else posts.TooDeep) ≡ false
refused_by true = refl
refused_by false = refl

too_deep : (p : Port Message) (h : ℕ) → 8 ≤ h → is_accepted (judged p h) ≡ false
unfolding judged
too_deep p h le = rw (deep h le) (refused_by p.closed)

pub same_posted : (m : Letter Message) (h : ℕ) (p : Port Message) → IsSameHop h m.hop → posted (record m { hop = h }) p ≡ posted m p
unfolding posted
same_posted m h p (inl is) = ap (λ (n : ℕ). posted (record m { hop = n }) p) is
same_posted m h p (inr both) = rw (too_deep p h both.0, too_deep p m.hop both.1) refl

-- ---- what is posted

ports_of_if : (b : Bool) (s t : State) → s.ports ≡ t.ports → (if b then s else t).ports ≡ t.ports
ports_of_if true s t same = same
ports_of_if false s t same = refl

waiting_ports : (r : machine.Runner) (s : State) → (with_waiting r s).ports ≡ s.ports
waiting_ports (machine.app m) s = refl
waiting_ports (machine.looper w) s = refl

handed_ports : (f : Duty → Duty) (r : machine.Runner) (s : State) → (with_duty f r s).ports ≡ s.ports
handed_ports f (machine.app m) s = refl
handed_ports f (machine.looper w) s = refl

module _ (s : State) (r : machine.Runner) (now : Option Message) (w : ℕ) where
  post_by : (v : ℕ) (k l : Letter Message) → Some v ≡ Some w → k ≡ l → slice_get (with_post s v k).ports w ≡ option_map (posted l) (slice_get s.ports w)
  post_by v k l window is =
      let same : v ≡ w = same_Some v w window in
      ap (λ n. slice_get (with_post s n k).ports w) same ∙ at_map s.ports w (posted k) ∙ ap (λ x. option_map (posted x) (slice_get s.ports w)) is

  forward_by : (v : ℕ) (target : Target) (o : Option (Hand Message)) (m : Letter Message) → Some v ≡ Some w
      → option_map (λ hand. letter (sender_of r) target (hop_of s r) (duty_handed_on hand.duty) hand.letter.body) o ≡ Some m
      → slice_get (option_map_or (forwarded_hand s r v target) o s).ports w ≡ option_map (posted m) (slice_get s.ports w)
  forward_by v target (Some hand) m window is =
      let l : Letter Message = letter (sender_of r) target (hop_of s r) (duty_handed_on hand.duty) hand.letter.body in
      ap (λ (ports : List (Port Message)). slice_get ports w) (ports_of_if (is_accepted_at s v (hop_of s r)) (with_duty duty_after_forward r (with_post s v l)) (with_post s v l) (handed_ports duty_after_forward r (with_post s v l)))
      ∙ post_by v l m window (same_Some l m is)
  forward_by v target None m window is = absurd (cc)

  -- the port has the letter, or refused it
  pub granted_port : (q : Request) (m : Letter Message) → post_window q ≡ Some w → wished_letter s r (wish_in now q) ≡ Some m → slice_get (granted s r (wish_in now q)).ports w ≡ option_map (posted m) (slice_get s.ports w)
  unfolding granted
  granted_port (request.Post v target draft) m window is = post_by v (letter (sender_of r) target (hop_of s r) Free (filled draft.now now)) m window (same_Some _ m is)
  granted_port (request.Send v target draft) m window is =
      let l : Letter Message = letter (sender_of r) target (hop_of s r) (sent_duty r) (filled draft.now now) in
      ap (λ (ports : List (Port Message)). slice_get ports w) (ports_of_if (is_accepted_at s v (hop_of s r)) (with_waiting r (with_post s v l)) (with_post s v l) (waiting_ports r (with_post s v l)))
      ∙ post_by v l m window (same_Some l m is)
  granted_port (request.Forward v target) m window is = forward_by v target (hand_of s r) m window is
  granted_port (request.Note text) m window is = absurd (cc)
  granted_port (request.Reply draft) m window is = absurd (cc)
  granted_port request.Claim m window is = absurd (cc)
  granted_port (request.Lock v) m window is = absurd (cc)
  granted_port request.Unlock m window is = absurd (cc)
  granted_port request.Flush m window is = absurd (cc)
  granted_port request.SyncDone m window is = absurd (cc)
  granted_port (request.Draw command) m window is = absurd (cc)

  -- an ordinary letter, of the runner's hop
  pub wished_is : (q : Request) (m : Letter Message) → post_window q ≡ Some w → wished_letter s r (wish_in now q) ≡ Some m → (m.notice ≡ false) × (m.hop ≡ hop_of s r)
  wished_is (request.Post v target draft) m window is = (ap (λ (l : Letter Message). l.notice) (sym (same_Some _ m is)), ap (λ (l : Letter Message). l.hop) (sym (same_Some _ m is)))
  wished_is (request.Send v target draft) m window is = (ap (λ (l : Letter Message). l.notice) (sym (same_Some _ m is)), ap (λ (l : Letter Message). l.hop) (sym (same_Some _ m is)))
  wished_is (request.Forward v target) m window is = by_hand (hand_of s r) is
    where
      by_hand : (o : Option (Hand Message)) → option_map (λ hand. letter (sender_of r) target (hop_of s r) (duty_handed_on hand.duty) hand.letter.body) o ≡ Some m → (m.notice ≡ false) × (m.hop ≡ hop_of s r)
      by_hand (Some hand) e = (ap (λ (l : Letter Message). l.notice) (sym (same_Some _ m e)), ap (λ (l : Letter Message). l.hop) (sym (same_Some _ m e)))
      by_hand None e = absurd (cc)
  wished_is (request.Note text) m window is = absurd (cc)
  wished_is (request.Reply draft) m window is = absurd (cc)
  wished_is request.Claim m window is = absurd (cc)
  wished_is (request.Lock v) m window is = absurd (cc)
  wished_is request.Unlock m window is = absurd (cc)
  wished_is request.Flush m window is = absurd (cc)
  wished_is request.SyncDone m window is = absurd (cc)
  wished_is (request.Draw command) m window is = absurd (cc)

  -- whether the port accepts it
  pub accepts : (q : Request) → post_window q ≡ Some w → is_accepted_wish s r (wish_in now q) ≡ is_accepted_at s w (hop_of s r)
  accepts (request.Post v target draft) window = ap (λ n. is_accepted_at s n (hop_of s r)) (same_Some v w window)
  accepts (request.Send v target draft) window = ap (λ n. is_accepted_at s n (hop_of s r)) (same_Some v w window)
  accepts (request.Forward v target) window = ap (λ n. is_accepted_at s n (hop_of s r)) (same_Some v w window)
  accepts (request.Note text) window = absurd (cc)
  accepts (request.Reply draft) window = absurd (cc)
  accepts request.Claim window = absurd (cc)
  accepts (request.Lock v) window = absurd (cc)
  accepts request.Unlock window = absurd (cc)
  accepts request.Flush window = absurd (cc)
  accepts request.SyncDone window = absurd (cc)
  accepts (request.Draw command) window = absurd (cc)

-- ---- the runner

own_by : (r : Runner) (s : State) (v : ℕ) (k : Letter Message) → slice_of (with_post s v k) (own_part (runner_in r)) ≡ slice_of s (own_part (runner_in r))
own_by (App m) s v k = refl
own_by (Looper w) s v k = refl

waiting_by : (r : Runner) (s : State) → slice_of (with_waiting (runner_in r) s) (own_part (runner_in r)) ≡ waiting_in r (slice_of s (own_part (runner_in r)))
waiting_by (App m) s = ap (cell m) (at_map s.apps m (λ a. record a { cell = reply.waiting }))
waiting_by (Looper w) s = refl

handed_by : (r : Runner) (s : State) → slice_of (with_duty duty_after_forward (runner_in r) s) (own_part (runner_in r)) ≡ handed_on_in r (slice_of s (own_part (runner_in r)))
handed_by (App m) s = refl
handed_by (Looper w) s = ap (λ o. looper w o (slice_get s.buffers w)) (at_map s.loopers w (with_duty_by duty_after_forward))

-- what the runner's part is once the post was answered
module _ (s : State) (r : Runner) (now : Option Message) where
  abbrev own : State → Slice
  own t = slice_of t (own_part (runner_in r))

  sent_by : (v : ℕ) (k : Letter Message) (b : Bool) (target : Target) (draft : Bor DraftWords) → own (if b then with_waiting (runner_in r) (with_post s v k) else with_post s v k) ≡ settled_in (request.Send v target draft) b r (own s)
  sent_by v k true target draft = waiting_by r (with_post s v k) ∙ ap (waiting_in r) (own_by r s v k)
  sent_by v k false target draft = own_by r s v k

  forwarded_by : (v : ℕ) (k : Letter Message) (b : Bool) (target : Target) → own (if b then with_duty duty_after_forward (runner_in r) (with_post s v k) else with_post s v k) ≡ settled_in (request.Forward v target) b r (own s)
  forwarded_by v k true target = handed_by r (with_post s v k) ∙ ap (handed_on_in r) (own_by r s v k)
  forwarded_by v k false target = own_by r s v k

  hand_by : (v : ℕ) (target : Target) (o : Option (Hand Message)) (m : Letter Message) → option_map (λ hand. letter (sender_of (runner_in r)) target (hop_of s (runner_in r)) (duty_handed_on hand.duty) hand.letter.body) o ≡ Some m
      → own (option_map_or (forwarded_hand s (runner_in r) v target) o s) ≡ settled_in (request.Forward v target) (is_accepted_at s v (hop_of s (runner_in r))) r (own s)
  hand_by v target (Some hand) m is = forwarded_by v (letter (sender_of (runner_in r)) target (hop_of s (runner_in r)) (duty_handed_on hand.duty) hand.letter.body) (is_accepted_at s v (hop_of s (runner_in r))) target
  hand_by v target None m is = absurd (cc)

  pub granted_own : (q : Request) (w : ℕ) (m : Letter Message) → post_window q ≡ Some w → wished_letter s (runner_in r) (wish_in now q) ≡ Some m → own (granted s (runner_in r) (wish_in now q)) ≡ settled_in q (is_accepted_wish s (runner_in r) (wish_in now q)) r (own s)
  unfolding granted
  granted_own (request.Post v target draft) w m window is = own_by r s v (letter (sender_of (runner_in r)) target (hop_of s (runner_in r)) Free (filled draft.now now))
  granted_own (request.Send v target draft) w m window is = sent_by v (letter (sender_of (runner_in r)) target (hop_of s (runner_in r)) (sent_duty (runner_in r)) (filled draft.now now)) (is_accepted_at s v (hop_of s (runner_in r))) target draft
  granted_own (request.Forward v target) w m window is = hand_by v target (hand_of s (runner_in r)) m is
  granted_own (request.Note text) w m window is = absurd (cc)
  granted_own (request.Reply draft) w m window is = absurd (cc)
  granted_own request.Claim w m window is = absurd (cc)
  granted_own (request.Lock v) w m window is = absurd (cc)
  granted_own request.Unlock w m window is = absurd (cc)
  granted_own request.Flush w m window is = absurd (cc)
  granted_own request.SyncDone w m window is = absurd (cc)
  granted_own (request.Draw command) w m window is = absurd (cc)

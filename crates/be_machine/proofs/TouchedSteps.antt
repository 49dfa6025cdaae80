-- Which parts a met want may change.
use Rattle.std.proofs.Common.{◌≡◌, ℕ, Bool, Option, Some, None, ◌⊎◌, inl, inr}
use Rattle.std.specs.Prelude.{slice_get, option_and_then}
use Rattle.std.specs.Option.{option_map_or}
use Rattle.be_actor.specs.declared.Wish.{Wish}
use Rattle.be_looper.specs.Duties.{duty_after_reply, duty_after_forward, waiter}
use Rattle.be_message.specs.Messages.{Message}
use Rattle.be_port.specs.declared.Duty.{Duty}
use Rattle.be_script.specs.Script.{Declared}
use Rattle.be_machine.specs.Activities.{Runner, app, looper}
use Rattle.be_machine.specs.Commands.{drawn, flushed, flushed_into}
use Rattle.be_machine.specs.Looper.{freed, with_waiting, told, with_duty, forwarded_hand, claimed}
use Rattle.be_machine.specs.Port.{is_accepted_at, with_post}
use Rattle.be_machine.specs.Program.{window_of, hop_of, hand_of, moved_on}
use Rattle.be_machine.specs.State.{State}
use Rattle.be_machine.specs.Step.{granted}
use Rattle.be_port.specs.Ports.{Letter}
use Rattle.be_machine.specs.Lists.{at}
use Rattle.be_link.specs.Queues.{emptied, lengthened}
use Rattle.be_machine.specs.Touched.{Part, IsOf, TouchesBy, own_part}
use Rattle.be_machine.proofs.TouchedParts.{Alters, both_alter, wider, none_alters, found_alters, of_alters, tested_alters, ports_alter, loopers_alter, buffers_alter, links_alter, apps_alter}
use Rattle.be_actor.specs.declared.Wish.TheVariants as wish
use Rattle.be_machine.specs.Touched as part

-- ---- what instructions do

abbrev Own : Runner → Part → Type 0
Own who p = p ≡ own_part who

pub moved_alters : (d : Declared) (who : Runner) (accepted : Bool) (x : Wish) (s : State) → Alters s (moved_on d who accepted x s) (Own who)
unfolding moved_on
moved_alters d (app m) accepted x s = apps_alter s m _
moved_alters d (looper v) accepted x s = loopers_alter s v _

duty_alters : (f : Duty → Duty) (who : Runner) (s : State) → Alters s (with_duty f who s) (Own who)
duty_alters f (looper v) s = loopers_alter s v _
duty_alters f (app m) s = none_alters s (Own (app m))

pub told_alters : (message : Message) (o : Option ℕ) (s : State) → Alters s (told message o s) (IsOf part.cell o)
told_alters message (Some m) s = apps_alter s m _
told_alters message None s = none_alters s (IsOf part.cell None)

waiting_alters : (who : Runner) (s : State) → Alters s (with_waiting who s) (Own who)
waiting_alters (app m) s = apps_alter s m _
waiting_alters (looper v) s = none_alters s (Own (looper v))

claimed_alters : (who : Runner) (s : State) → Alters s (claimed s who) (Own who)
claimed_alters (app m) s = apps_alter s m _
claimed_alters (looper v) s = none_alters s (Own (looper v))

-- a post, and what becomes of who posts
post_alters : (s r : State) (v : ℕ) (x : Letter Message) (who : Runner) → Alters (with_post s v x) r (Own who) → Alters s r (λ p. Own who p ⊎ (p ≡ part.port v))
post_alters s r v x who h = both_alter s (with_post s v x) r (λ p. p ≡ part.port v) (Own who) (λ p. Own who p ⊎ (p ≡ part.port v)) (λ p e. inr e) (λ p e. inl e) (ports_alter s v _) h

pub flushed_alters : (s : State) (v : ℕ) → Alters s (flushed s v) (λ p. (p ≡ part.looper v) ⊎ (p ≡ part.link v))
flushed_alters s v =
    found_alters s (flushed_into s v) (slice_get s.buffers v) (λ p. (p ≡ part.looper v) ⊎ (p ≡ part.link v)) (λ b e.
    both_alter s (record s { buffers = at s.buffers v emptied }) (flushed_into s v b) (λ p. p ≡ part.looper v) (λ p. p ≡ part.link v) (λ p. (p ≡ part.looper v) ⊎ (p ≡ part.link v)) (λ p e. inl e) (λ p e. inr e)
    (buffers_alter s v emptied) (links_alter (record s { buffers = at s.buffers v emptied }) v (lengthened b)))

own_flush_alters : (s : State) (o : Option ℕ) → Alters s (option_map_or (flushed s) o s) (λ p. IsOf part.looper o p ⊎ IsOf part.link o p)
own_flush_alters s (Some v) = flushed_alters s v
own_flush_alters s None = none_alters s (λ p. IsOf part.looper None p ⊎ IsOf part.link None p)

pub granted_alters : (s : State) (who : Runner) (x : Wish) → Alters s (granted s who x) (λ p. Own who p ⊎ TouchesBy s who x p)
unfolding granted
granted_alters s who (wish.Note word) = none_alters s _
granted_alters s who (wish.Post v target message) = wider s _ (λ p. p ≡ part.port v) (λ p. Own who p ⊎ (p ≡ part.port v)) (λ p e. inr e) (ports_alter s v _)
granted_alters s who (wish.Send v target message) = post_alters s _ v _ who (tested_alters _ (is_accepted_at s v (hop_of s who)) _ _ (Own who) (waiting_alters who _) (none_alters _ (Own who)))
granted_alters s who (wish.Forward v target) =
    found_alters s (forwarded_hand s who v target) (hand_of s who) (λ p. Own who p ⊎ (p ≡ part.port v)) (λ hand e.
    post_alters s (forwarded_hand s who v target hand) v _ who (tested_alters _ (is_accepted_at s v (hop_of s who)) _ _ (Own who) (duty_alters duty_after_forward who _) (none_alters _ (Own who))))
granted_alters s who (wish.Reply message) =
    let whom : Option ℕ = option_and_then (λ hand. waiter hand.duty) (hand_of s who) in
    both_alter s (told message whom s) _ (IsOf part.cell whom) (Own who) (λ p. Own who p ⊎ IsOf part.cell whom p) (λ p e. inr e) (λ p e. inl e) (told_alters message whom s) (duty_alters duty_after_reply who (told message whom s))
granted_alters s who wish.Claim = wider s _ (Own who) (λ p. Own who p ⊎ ⊥) (λ p e. inl e) (claimed_alters who s)
granted_alters s who (wish.Lock v) = wider s _ (λ p. p ≡ part.looper v) (λ p. Own who p ⊎ (p ≡ part.looper v)) (λ p e. inr e) (loopers_alter s v _)
granted_alters s who wish.Unlock = wider s _ (IsOf part.looper (window_of s who)) (λ p. Own who p ⊎ IsOf part.looper (window_of s who) p) (λ p e. inr e) (of_alters s (freed s) (window_of s who) part.looper (λ v. loopers_alter s v _))
granted_alters s who wish.Flush = wider s _ _ (λ p. Own who p ⊎ (IsOf part.looper (window_of s who) p ⊎ IsOf part.link (window_of s who) p)) (λ p e. inr e) (own_flush_alters s (window_of s who))
granted_alters s who wish.SyncDone = none_alters s _
granted_alters s who (wish.Draw c) = wider s _ (IsOf part.looper (window_of s who)) (λ p. Own who p ⊎ IsOf part.looper (window_of s who) p) (λ p e. inr e) (of_alters s (λ v. drawn s v c) (window_of s who) part.looper (λ v. buffers_alter s v _))

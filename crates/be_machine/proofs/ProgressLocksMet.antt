-- Every legal entry keeps that each application has the lock that its program has at its place.
use Rattle.std.proofs.Common.{◌≡◌, ℕ, ◌<◌, Bool, true, false, length, Option, Some, None, refl, sym, ap, subst, ◌∙◌, arith}
use Rattle.std.specs.Prelude.{slice_get, option_and_then, if◌then◌else◌}
use Rattle.std.specs.Option.{option_map_or}
use Rattle.std.proofs.lemmas.Option.{same_Some, slice_get_within}
use Rattle.be_actor.specs.declared.Wish.{Wish}
use Rattle.be_actor.specs.declared.Wish.TheVariants as wish
use Rattle.be_command.specs.declared.Command.TheVariants.{EndUpdate}
use Rattle.be_looper.specs.Duties.{Hand, waiter, duty_after_reply, duty_after_forward, duty_handed_on, EndTelling, nobody, no_reply, not_understood, end_telling}
use Rattle.be_message.specs.declared.target.Target.{Target}
use Rattle.be_message.specs.Messages.{Message}
use Rattle.be_port.specs.declared.Duty.{Duty}
use Rattle.be_port.specs.Ports.{Letter}
use Rattle.be_reply.specs.Cells as reply
use Rattle.be_script.specs.Limits.{IsWithinLimits}
use Rattle.be_script.specs.Script.{Declared}
use Rattle.be_update.specs.Sessions.{is_any}
use Rattle.be_machine.specs.Activities.{app, looper, Activity, sender_of}
use Rattle.be_machine.specs.Commands.{drawn, flushed, flushed_into}
use Rattle.be_machine.specs.declared.Act.{Act}
use Rattle.be_machine.specs.declared.Act.TheVariants as act
use Rattle.be_machine.specs.Legal.{wish_act, want_act}
use Rattle.be_machine.specs.Lists.{at}
use Rattle.be_machine.specs.Looper.{with_looper, freed, with_duty, with_duty_by, with_waiting, told, told_at_end, ended_hand, forwarded_hand}
use Rattle.be_machine.specs.Port.{letter, with_post, is_accepted_at, taken}
use Rattle.be_machine.specs.Program.{is_locked_by, locked_by, hand_of, hand_at, hop_of, app_gone_on, looper_gone_on, moved_on}
use Rattle.be_machine.specs.State.{State, Looper, free, locked, handling, Stage, App, ending}
use Rattle.be_machine.specs.Step.{granted, met}
use Rattle.be_machine.specs.Update.{at_stage, opened, passed_by, begun}
use Rattle.be_machine.specs.Wants.{Want, asks, takes, begins, flushes, draws_end, ends, notifies, executes, uses, stops, want_of}
use Rattle.be_machine.specs.Windows.{dirty_of, corner_at}
use Rattle.be_machine.proofs.WaitingGranted.{flushed_apps}
use Rattle.be_machine.proofs.ProgressCases.{by_test, by_option}
use Rattle.be_machine.proofs.LegalEntries.{maker}
use Rattle.be_machine.proofs.ProgressBeside.{Beside, beside_executed, beside_event}
use Rattle.be_machine.proofs.ProgressLocks.{AreLocked, locks_kept, cells_kept, is_lockless, gone_on_kept}
use Rattle.be_machine.proofs.ProgressLockSteps.{lock_locks, unlock_locks}
use Rattle.be_machine.proofs.HasParts.{HasParts}
use Rattle.be_machine.proofs.ProgressStands.{AppStands, LooperStands, app_stands, looper_stands}
use Rattle.be_machine.proofs.WaitingApps.{lock_tells}
use Rattle.be_machine.proofs.WaitingBodies.{no_unlock}
use Rattle.be_machine.proofs.WaitingSteps.{Takes, take_tells, taken_is, hand_read}
use Rattle.be_machine.proofs.WaitingSums.{at_twice}

abbrev pub IsLockedState : Declared → State → Type 0
IsLockedState d s = AreLocked d s.loopers s.apps

-- ---- applications

-- a cell changes, and the application goes on
cell_gone_on : (d : Declared) (s : State) (m : ℕ) (accepted : Bool) (x : Wish) (f : reply.Cell → reply.Cell) (is : AppStands d s m x) → is_lockless x ≡ true → IsLockedState d s → AreLocked d s.loopers (at (at s.apps m (λ (a : App). record a { cell = f a.cell })) m (app_gone_on d m accepted x))
cell_gone_on d s m accepted x f is lockless h =
    let cell = λ (a : App). record a { cell = f a.cell } in
    subst (AreLocked d s.loopers) (at_twice s.apps m (app_gone_on d m accepted x) cell ∙ sym (at_twice s.apps m cell (app_gone_on d m accepted x)))
    (cells_kept d s.loopers (at s.apps m (app_gone_on d m accepted x)) m cell (λ a. refl) (gone_on_kept d s s.loopers m accepted x is lockless h))

sent_by : (d : Declared) (s : State) (m v : ℕ) (target : Target) (message : Message) (letter : Letter Message) (b : Bool) (is : AppStands d s m (wish.Send v target message)) → IsLockedState d s → IsLockedState d (moved_on d (app m) b (wish.Send v target message) (if b then with_waiting (app m) (with_post s v letter) else with_post s v letter))
unfolding moved_on
sent_by d s m v target message letter true is h = cell_gone_on d s m true (wish.Send v target message) (λ _. reply.waiting) is refl h
sent_by d s m v target message letter false is h = gone_on_kept d s s.loopers m false (wish.Send v target message) is refl h

unlocked_by : (d : Declared) (s : State) (m : ℕ) (a : Act) (o : Option ℕ) (is : AppStands d s m wish.Unlock) → locked_by s m ≡ o → option_and_then (λ w. Some (act.Unlock w)) o ≡ Some a → IsLockedState d s → IsLockedState d (moved_on d (app m) false wish.Unlock (option_map_or (freed s) o s))
unfolding moved_on
unlocked_by d s m a (Some w) is found e h = unlock_locks d s m w is found h
unlocked_by d s m a None is found e h = cc

quiet_by : (d : Declared) (s : State) (m : ℕ) (x : Wish) (f : ℕ → State) (o : Option ℕ) (is : AppStands d s m x) → is_lockless x ≡ true → ((w : ℕ) → (f w).loopers ≡ s.loopers) → ((w : ℕ) → (f w).apps ≡ s.apps) → IsLockedState d s → IsLockedState d (moved_on d (app m) false x (option_map_or f o s))
unfolding moved_on
quiet_by d s m x f (Some w) is lockless loopers apps h =
    subst (λ ls. AreLocked d ls (at (f w).apps m (app_gone_on d m false x))) (sym (loopers w)) (subst (λ xs. AreLocked d s.loopers (at xs m (app_gone_on d m false x))) (sym (apps w)) (gone_on_kept d s s.loopers m false x is lockless h))
quiet_by d s m x f None is lockless loopers apps h = gone_on_kept d s s.loopers m false x is lockless h

flushed_loopers : (s : State) (w : ℕ) → (flushed s w).loopers ≡ s.loopers
flushed_loopers s w = by_option (λ t. t.loopers ≡ s.loopers) (flushed_into s w) s (slice_get s.buffers w) refl (λ b. refl)

locked_app : (d : Declared) (s : State) (m : ℕ) (x : Wish) (a : Act) → HasParts d s → AppStands d s m x → want_act d s (asks (app m) x) ≡ Some a → IsLockedState d s → IsLockedState d (met d s (asks (app m) x))
unfolding met moved_on granted want_act wish_act
locked_app d s m (wish.Note word) a parts is e h = gone_on_kept d s s.loopers m false _ is refl h
locked_app d s m (wish.Post v target message) a parts is e h = gone_on_kept d s s.loopers m (is_accepted_at s v 0) _ is refl h
locked_app d s m (wish.Send v target message) a parts is e h = sent_by d s m v target message _ (is_accepted_at s v 0) is h
locked_app d s m (wish.Forward v target) a parts is e h = gone_on_kept d s s.loopers m (is_accepted_at s v 0) _ is refl h
locked_app d s m (wish.Reply message) a parts is e h = gone_on_kept d s s.loopers m false _ is refl h
locked_app d s m wish.Claim a parts is e h = cell_gone_on d s m false wish.Claim (λ _. reply.idle) is refl h
locked_app d s m (wish.Lock v) a parts is e h =
    lock_locks d s m v is (lock_tells s.loopers v a (slice_get s.loopers v) refl e) (let inside : m < length s.apps = slice_get_within s.apps m is.it is.read in let same : length s.apps ≡ length d.apps = parts.apps in omega (arith, inside, same)) h
locked_app d s m wish.Unlock a parts is e h = unlocked_by d s m a (locked_by s m) is refl e h
locked_app d s m wish.Flush a parts is e h = quiet_by d s m wish.Flush (flushed s) (locked_by s m) is refl (flushed_loopers s) (flushed_apps s) h
locked_app d s m wish.SyncDone a parts is e h = gone_on_kept d s s.loopers m false _ is refl h
locked_app d s m (wish.Draw c) a parts is e h = quiet_by d s m (wish.Draw c) (λ w. drawn s w c) (locked_by s m) is refl (λ w. refl) (λ w. refl) h

-- ---- bodies

gone_lock : (d : Declared) (w m : ℕ) (accepted : Bool) (x : Wish) (l : Looper) → is_locked_by m (looper_gone_on d w accepted x l) ≡ is_locked_by m l
gone_lock d w m accepted x (handling hand stage) = refl
gone_lock d w m accepted x (locked n) = refl
gone_lock d w m accepted x free = refl

duty_lock : (f : Duty → Duty) (m : ℕ) (l : Looper) → is_locked_by m (with_duty_by f l) ≡ is_locked_by m l
duty_lock f m (handling hand stage) = refl
duty_lock f m (locked n) = refl
duty_lock f m free = refl

locked_duty : (d : Declared) (f : Duty → Duty) (w : ℕ) (s : State) → IsLockedState d s → IsLockedState d (with_duty f (looper w) s)
locked_duty d f w s h = locks_kept d s.loopers s.apps w (with_duty_by f) (λ m l read. duty_lock f m l) h

locked_told : (d : Declared) (message : Message) (o : Option ℕ) (s : State) → IsLockedState d s → IsLockedState d (told message o s)
locked_told d message (Some m) s h = cells_kept d s.loopers s.apps m (λ (a : App). record a { cell = reply.with_reply message a.cell }) (λ a. refl) h
locked_told d message None s h = h

locked_moved : (d : Declared) (w : ℕ) (accepted : Bool) (x : Wish) (s : State) → IsLockedState d s → IsLockedState d (moved_on d (looper w) accepted x s)
unfolding moved_on
locked_moved d w accepted x s h = locks_kept d s.loopers s.apps w (looper_gone_on d w accepted x) (λ m l read. gone_lock d w m accepted x l) h

forwarded_locks : (d : Declared) (s : State) (w v : ℕ) (target : Target) (hand : Hand Message) → IsLockedState d s → IsLockedState d (forwarded_hand s (looper w) v target hand)
forwarded_locks d s w v target hand h =
    let t : State = with_post s v (letter (sender_of (looper w)) target (hop_of s (looper w)) (duty_handed_on hand.duty) hand.letter.body) in
    by_test (IsLockedState d) (is_accepted_at s v (hop_of s (looper w))) (with_duty duty_after_forward (looper w) t) t (locked_duty d duty_after_forward w t h) h

locked_flushed : (d : Declared) (s : State) (w : ℕ) → IsLockedState d s → IsLockedState d (flushed s w)
locked_flushed d s w h = by_option (IsLockedState d) (flushed_into s w) s (slice_get s.buffers w) h (λ b. h)

locked_body : (d : Declared) (s : State) (w : ℕ) (x : Wish) → LooperStands d s w x → IsLockedState d s → IsLockedState d (met d s (asks (looper w) x))
unfolding met granted
locked_body d s w (wish.Note word) is h = locked_moved d w _ _ s h
locked_body d s w (wish.Post v target message) is h = locked_moved d w _ _ (with_post s v _) h
locked_body d s w (wish.Send v target message) is h = locked_moved d w _ _ _ (by_test (IsLockedState d) (is_accepted_at s v (hop_of s (looper w))) (with_waiting (looper w) (with_post s v _)) (with_post s v _) h h)
locked_body d s w (wish.Forward v target) is h = locked_moved d w _ _ _ (by_option (IsLockedState d) (forwarded_hand s (looper w) v target) s (hand_of s (looper w)) h (λ hand. forwarded_locks d s w v target hand h))
locked_body d s w (wish.Reply message) is h =
    let o = option_and_then (λ (hand : Hand Message). waiter hand.duty) (hand_of s (looper w)) in
    locked_moved d w _ _ _ (locked_duty d duty_after_reply w (told message o s) (locked_told d message o s h))
locked_body d s w wish.Claim is h = locked_moved d w _ _ s h
locked_body d s w (wish.Lock v) is h = locked_moved d w _ _ _ (locks_kept d s.loopers s.apps v (λ l. l) (λ m l read. refl) h)
locked_body d s w wish.Unlock is h = no_unlock d s w _ is
locked_body d s w wish.Flush is h = locked_moved d w _ _ _ (locked_flushed d s w h)
locked_body d s w wish.SyncDone is h = locked_moved d w _ _ s h
locked_body d s w (wish.Draw c) is h = locked_moved d w _ _ _ h

-- ---- other wants

locked_beside : (d : Declared) (s t : State) → Beside s t → IsLockedState d s → IsLockedState d t
locked_beside d s t is h = subst (λ xs. AreLocked d t.loopers xs) (sym is.apps) (subst (λ ls. AreLocked d ls s.apps) (sym is.loopers) h)

staged_lock : (stage : Stage) (m : ℕ) (l : Looper) → is_locked_by m (at_stage stage l) ≡ is_locked_by m l
staged_lock stage m (handling hand old) = refl
staged_lock stage m (locked n) = refl
staged_lock stage m free = refl

locked_staged : (d : Declared) (s : State) (w : ℕ) (stage : Stage) → IsLockedState d s → IsLockedState d (with_looper s w (at_stage stage))
locked_staged d s w stage h = locks_kept d s.loopers s.apps w (at_stage stage) (λ m l read. staged_lock stage m l) h

locked_begun : (d : Declared) (s : State) (w : ℕ) → IsLockedState d s → IsLockedState d (begun s w)
unfolding begun
locked_begun d s w h = by_test (IsLockedState d) (is_any (dirty_of s w)) (option_map_or (opened s w) (corner_at s w) s) (passed_by s w) (by_option (IsLockedState d) (opened s w) s (corner_at s w) h (λ corner. locked_staged d s w _ h)) (locked_staged d s w ending h)

locked_taken : (d : Declared) (s : State) (w : ℕ) (is : Takes s w) → IsLockedState d s → IsLockedState d (taken d s w)
locked_taken d s w is h = subst (IsLockedState d) (sym (taken_is d s w is)) (locks_kept d s.loopers s.apps w _ (λ m l read. ap (is_locked_by m) (same_Some free l (sym is.is_free ∙ read))) h)

telling_locks : (d : Declared) (t : EndTelling) (s : State) → IsLockedState d s → IsLockedState d (told_at_end t s)
telling_locks d nobody s h = h
telling_locks d (no_reply m) s h = locked_told d _ (Some m) s h
telling_locks d (not_understood m) s h = locked_told d _ (Some m) s h

locked_ended : (d : Declared) (s : State) (w : ℕ) (o : Option (Hand Message)) → hand_at s w ≡ o → IsLockedState d s → IsLockedState d (option_map_or (ended_hand s w) o s)
locked_ended d s w (Some hand) e h =
    let read : (stage : Stage) × (slice_get s.loopers w ≡ Some (handling hand stage)) = hand_read s w hand (slice_get s.loopers w) refl e in
    telling_locks d (end_telling hand.duty hand.route) (freed s w) (locks_kept d s.loopers s.apps w (λ _. free) (λ m l there. ap (is_locked_by m) (same_Some (handling hand read.0) l (sym read.1 ∙ there))) h)
locked_ended d s w None e h = h

pub locked_met : (d : Declared) (s : State) (who : Activity) (want : Want) (a : Act) → IsWithinLimits d → HasParts d s → maker want ≡ who → want_of d s who ≡ Some want → want_act d s want ≡ Some a → IsLockedState d s → IsLockedState d (met d s want)
unfolding met
locked_met d s who (asks (app m) x) a limits parts made wanted e h = locked_app d s m x a parts (app_stands d s m x (ap (want_of d s) made ∙ wanted)) e h
locked_met d s who (asks (looper w) x) a limits parts made wanted e h = locked_body d s w x (looper_stands d s w x limits (ap (want_of d s) made ∙ wanted)) h
locked_met d s who (takes w) a limits parts made wanted e h = locked_taken d s w (take_tells d s w a e) h
locked_met d s who (begins w) a limits parts made wanted e h = locked_begun d s w h
locked_met d s who (flushes w) a limits parts made wanted e h = locked_flushed d s w h
locked_met d s who (draws_end w) a limits parts made wanted e h = locked_staged d (drawn s w EndUpdate) w ending h
locked_met d s who (ends w) a limits parts made wanted e h = locked_ended d s w (hand_at s w) refl h
locked_met d s who (notifies w) a limits parts made wanted e h = h
locked_met d s who (executes w) a limits parts made wanted e h = locked_beside d s _ (beside_executed d s w) h
locked_met d s who (uses x) a limits parts made wanted e h = locked_beside d _ _ (beside_event s x) h
locked_met d s who stops a limits parts made wanted e h = h

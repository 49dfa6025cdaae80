-- Every legal entry keeps the sizes of buffers, and that a free looper's is empty.
use Rattle.std.proofs.Common.{◌≡◌, ℕ, Bool, true, false, length, Option, Some, None, refl, sym, ap, subst, ◌∙◌}
use Rattle.std.specs.Prelude.{slice_get, ◌==◌, option_and_then, if◌then◌else◌}
use Rattle.std.specs.Option.{option_map_or}
use Rattle.be_facts.proofs.Numbers.{eq_tells}
use Rattle.be_actor.specs.declared.Instruction.{Instruction}
use Rattle.be_actor.specs.declared.Instruction.TheVariants.{Note, Post, Send, Reply, Forward, Lock, Unlock, Flush, Sync, Draw}
use Rattle.be_actor.specs.declared.Wish.{Wish}
use Rattle.be_actor.specs.declared.Wish.TheVariants as wish
use Rattle.be_actor.specs.Wishes.{wish_at, has_no_room}
use Rattle.be_command.specs.declared.Command.{Command}
use Rattle.be_command.specs.declared.Command.TheVariants.{EndUpdate}
use Rattle.be_link.specs.Queues.{Buffer}
use Rattle.be_looper.specs.Duties.{Hand, waiter, duty_after_reply, duty_after_forward, duty_handed_on, EndTelling, nobody, no_reply, not_understood, end_telling}
use Rattle.be_message.specs.declared.target.Target.{Target}
use Rattle.be_message.specs.Messages.{Message}
use Rattle.be_port.specs.declared.Duty.{Duty}
use Rattle.be_script.specs.Limits.{IsWithinLimits}
use Rattle.be_script.specs.Script.{Declared}
use Rattle.be_machine.specs.Activities.{app, looper, Activity, sender_of}
use Rattle.be_machine.specs.Commands.{draw_act, drawn, flushed}
use Rattle.be_machine.specs.declared.Act.{Act}
use Rattle.be_machine.specs.Legal.{wish_act, want_act}
use Rattle.be_machine.specs.Looper.{with_looper, freed, with_duty, with_duty_by, with_waiting, told, told_at_end, ended_hand, forwarded_hand}
use Rattle.be_machine.specs.Port.{letter, with_post, is_accepted_at, taken}
use Rattle.be_machine.specs.Program.{buffered, is_locked_by, locked_by, hand_of, hand_at, hop_of, looper_gone_on, moved_on}
use Rattle.be_machine.specs.State.{State, Looper, free, locked, handling, Stage, ending}
use Rattle.be_machine.specs.Step.{granted, met}
use Rattle.be_machine.specs.Update.{at_stage, opened, passed_by, begun}
use Rattle.be_machine.specs.Wants.{Want, asks, takes, begins, flushes, draws_end, ends, notifies, executes, uses, stops, want_of}
use Rattle.be_update.specs.Sessions.{is_any}
use Rattle.be_machine.specs.Windows.{dirty_of, corner_at}
use Rattle.be_machine.proofs.ProgressCases.{by_test, by_option, neither}
use Rattle.be_machine.proofs.LegalEntries.{maker}
use Rattle.be_machine.proofs.ProgressBeside.{Beside, beside_executed, beside_event}
use Rattle.be_machine.proofs.ProgressCalm.{is_free_looper, AreCalm, calm_looper, calm_freed, calm_flushed, calm_drawn}
use Rattle.be_machine.proofs.ProgressStands.{AppStands, LooperStands, app_stands, looper_stands, Handles, handles, ends_empty}
use Rattle.be_machine.proofs.WaitingGranted.{position_passes}
use Rattle.be_machine.proofs.WaitingBodies.{no_unlock}
use Rattle.be_machine.proofs.WaitingSteps.{Takes, take_tells, taken_is}

abbrev pub IsCalmState : State → Type 0
IsCalmState s = AreCalm s.loopers s.buffers

-- ---- an application's lock

unlock_if : (b : Bool) → (if b then wish.Unlock else wish.Flush) ≡ wish.Unlock → b ≡ true
unlock_if true e = refl
unlock_if false e = cc

-- a lock is given back with an empty buffer
pub unlock_empty : (part n : ℕ) (i : Instruction) → wish_at part None n i ≡ wish.Unlock → (n == 0) ≡ true
unlock_empty part n Unlock e = unlock_if (n == 0) e
unlock_empty part n (Note word) e = cc
unlock_empty part n (Post w target draft) e = cc
unlock_empty part n (Send w target draft) e = neither (part == 0) _ wish.Claim wish.Unlock _ (λ h. cc) (λ h. cc) e
unlock_empty part n (Reply draft) e = cc
unlock_empty part n (Forward w target) e = cc
unlock_empty part n (Lock w) e = cc
unlock_empty part n Flush e = cc
unlock_empty part n Sync e = neither (part == 0) wish.Flush wish.SyncDone wish.Unlock _ (λ h. cc) (λ h. cc) e
unlock_empty part n (Draw c) e = neither (has_no_room n) wish.Flush (wish.Draw c) wish.Unlock _ (λ h. cc) (λ h. cc) e

none_in : (s : State) (w : ℕ) (b : Buffer) (o : Option ℕ) → o ≡ Some w → slice_get s.buffers w ≡ Some b → (option_map_or (λ (x : Buffer). length x.commands) (option_and_then (λ v. slice_get s.buffers v) o) 0 == 0) ≡ true → length b.commands ≡ 0
none_in s w b o at read e =
    let count : option_map_or (λ (x : Buffer). length x.commands) (option_and_then (λ v. slice_get s.buffers v) o) 0 ≡ length b.commands =
    ap (λ p. option_map_or (λ (x : Buffer). length x.commands) (option_and_then (λ v. slice_get s.buffers v) p) 0) at ∙ ap (λ p. option_map_or (λ (x : Buffer). length x.commands) p 0) read in
    sym count ∙ eq_tells _ 0 e

unlocked_by : (d : Declared) (s : State) (m : ℕ) (o : Option ℕ) (is : AppStands d s m wish.Unlock) → locked_by s m ≡ o → IsCalmState s → IsCalmState (option_map_or (freed s) o s)
unlocked_by d s m (Some w) is found h =
    calm_freed s.loopers s.buffers w (λ _. free) (λ b read. none_in s w b (locked_by s m) found read (unlock_empty is.it.place.part (buffered s (app m)) is.step is.asked)) h
unlocked_by d s m None is found h = h

locked_busy : (m : ℕ) (l : Looper) → is_locked_by m l ≡ true → is_free_looper l ≡ false
locked_busy m (locked n) e = refl
locked_busy m free e = cc
locked_busy m (handling hand stage) e = refl

drawn_by : (s : State) (m : ℕ) (a : Act) (c : Command) (o : Option ℕ) → locked_by s m ≡ o → option_and_then (draw_act s) o ≡ Some a → IsCalmState s → IsCalmState (option_map_or (λ w. drawn s w c) o s)
drawn_by s m a c (Some w) found e h = calm_drawn s w a c e (λ l read. locked_busy m l (position_passes (is_locked_by m) s.loopers w l found read)) h
drawn_by s m a c None found e h = cc

calm_app : (d : Declared) (s : State) (m : ℕ) (x : Wish) (a : Act) → AppStands d s m x → want_act d s (asks (app m) x) ≡ Some a → IsCalmState s → IsCalmState (met d s (asks (app m) x))
unfolding met moved_on granted want_act wish_act
calm_app d s m (wish.Note word) a is e h = h
calm_app d s m (wish.Post v target message) a is e h = h
calm_app d s m (wish.Send v target message) a is e h = by_test IsCalmState (is_accepted_at s v 0) (with_waiting (app m) (with_post s v _)) (with_post s v _) h h
calm_app d s m (wish.Forward v target) a is e h = h
calm_app d s m (wish.Reply message) a is e h = h
calm_app d s m wish.Claim a is e h = h
calm_app d s m (wish.Lock v) a is e h = calm_looper s.loopers s.buffers v (λ _. locked m) (λ l read e. cc) h
calm_app d s m wish.Unlock a is e h = unlocked_by d s m (locked_by s m) is refl h
calm_app d s m wish.Flush a is e h = by_option IsCalmState (flushed s) s (locked_by s m) h (λ w. calm_flushed s w h)
calm_app d s m wish.SyncDone a is e h = h
calm_app d s m (wish.Draw c) a is e h = drawn_by s m a c (locked_by s m) refl e h

-- ---- bodies

gone_free : (d : Declared) (w : ℕ) (accepted : Bool) (x : Wish) (l : Looper) → is_free_looper (looper_gone_on d w accepted x l) ≡ true → is_free_looper l ≡ true
gone_free d w accepted x (handling hand stage) e = e
gone_free d w accepted x (locked m) e = e
gone_free d w accepted x free e = e

duty_free : (f : Duty → Duty) (l : Looper) → is_free_looper (with_duty_by f l) ≡ true → is_free_looper l ≡ true
duty_free f (handling hand stage) e = e
duty_free f (locked m) e = e
duty_free f free e = e

calm_duty : (f : Duty → Duty) (w : ℕ) (s : State) → IsCalmState s → IsCalmState (with_duty f (looper w) s)
calm_duty f w s h = calm_looper s.loopers s.buffers w (with_duty_by f) (λ l read e. duty_free f l e) h

calm_told : (message : Message) (o : Option ℕ) (s : State) → IsCalmState s → IsCalmState (told message o s)
calm_told message (Some m) s h = h
calm_told message None s h = h

calm_moved : (d : Declared) (w : ℕ) (accepted : Bool) (x : Wish) (s : State) → IsCalmState s → IsCalmState (moved_on d (looper w) accepted x s)
unfolding moved_on
calm_moved d w accepted x s h = calm_looper s.loopers s.buffers w (looper_gone_on d w accepted x) (λ l read e. gone_free d w accepted x l e) h

forwarded_calm : (s : State) (w v : ℕ) (target : Target) (hand : Hand Message) → IsCalmState s → IsCalmState (forwarded_hand s (looper w) v target hand)
forwarded_calm s w v target hand h =
    let t : State = with_post s v (letter (sender_of (looper w)) target (hop_of s (looper w)) (duty_handed_on hand.duty) hand.letter.body) in
    by_test IsCalmState (is_accepted_at s v (hop_of s (looper w))) (with_duty duty_after_forward (looper w) t) t (calm_duty duty_after_forward w t h) h

handling_busy : (s : State) (w : ℕ) (hand : Hand Message) (stage : Stage) (l : Looper) → slice_get s.loopers w ≡ Some (handling hand stage) → slice_get s.loopers w ≡ Some l → is_free_looper l ≡ false
handling_busy s w hand stage (handling other old) read there = refl
handling_busy s w hand stage (locked m) read there = refl
handling_busy s w hand stage free read there = let no : Some (handling hand stage) ≡ Some free = sym read ∙ there in cc

calm_body : (d : Declared) (s : State) (w : ℕ) (x : Wish) (a : Act) → LooperStands d s w x → want_act d s (asks (looper w) x) ≡ Some a → IsCalmState s → IsCalmState (met d s (asks (looper w) x))
unfolding met granted want_act wish_act
calm_body d s w (wish.Note word) a is e h = calm_moved d w _ _ s h
calm_body d s w (wish.Post v target message) a is e h = calm_moved d w _ _ (with_post s v _) h
calm_body d s w (wish.Send v target message) a is e h = calm_moved d w _ _ _ (by_test IsCalmState (is_accepted_at s v (hop_of s (looper w))) (with_waiting (looper w) (with_post s v _)) (with_post s v _) h h)
calm_body d s w (wish.Forward v target) a is e h = calm_moved d w _ _ _ (by_option IsCalmState (forwarded_hand s (looper w) v target) s (hand_of s (looper w)) h (λ hand. forwarded_calm s w v target hand h))
calm_body d s w (wish.Reply message) a is e h =
    let o = option_and_then (λ (hand : Hand Message). waiter hand.duty) (hand_of s (looper w)) in
    calm_moved d w _ _ _ (calm_duty duty_after_reply w (told message o s) (calm_told message o s h))
calm_body d s w wish.Claim a is e h = calm_moved d w _ _ s h
calm_body d s w (wish.Lock v) a is e h = calm_moved d w _ _ _ (calm_looper s.loopers s.buffers v (λ l. l) (λ l read e. e) h)
calm_body d s w wish.Unlock a is e h = no_unlock d s w _ is
calm_body d s w wish.Flush a is e h = calm_moved d w _ _ _ (calm_flushed s w h)
calm_body d s w wish.SyncDone a is e h = calm_moved d w _ _ s h
calm_body d s w (wish.Draw c) a is e h = calm_moved d w _ _ _ (calm_drawn s w a c e (λ l read. handling_busy s w is.hand is.stage l is.read read) h)

-- ---- other wants

calm_beside : (s t : State) → Beside s t → IsCalmState s → IsCalmState t
calm_beside s t is h = subst (λ bs. AreCalm t.loopers bs) (sym is.buffers) (subst (λ ls. AreCalm ls s.buffers) (sym is.loopers) h)

staged_free : (stage : Stage) (l : Looper) → is_free_looper (at_stage stage l) ≡ true → is_free_looper l ≡ true
staged_free stage (handling hand old) e = e
staged_free stage (locked m) e = e
staged_free stage free e = e

calm_staged : (s : State) (w : ℕ) (stage : Stage) → IsCalmState s → IsCalmState (with_looper s w (at_stage stage))
calm_staged s w stage h = calm_looper s.loopers s.buffers w (at_stage stage) (λ l read e. staged_free stage l e) h

calm_begun : (s : State) (w : ℕ) → IsCalmState s → IsCalmState (begun s w)
unfolding begun
calm_begun s w h = by_test IsCalmState (is_any (dirty_of s w)) (option_map_or (opened s w) (corner_at s w) s) (passed_by s w) (by_option IsCalmState (opened s w) s (corner_at s w) h (λ corner. calm_staged s w _ h)) (calm_staged s w ending h)

calm_taken : (d : Declared) (s : State) (w : ℕ) (is : Takes s w) → IsCalmState s → IsCalmState (taken d s w)
calm_taken d s w is h = subst IsCalmState (sym (taken_is d s w is)) (calm_looper s.loopers s.buffers w _ (λ l read e. cc) h)

telling_calm : (t : EndTelling) (s : State) → IsCalmState s → IsCalmState (told_at_end t s)
telling_calm nobody s h = h
telling_calm (no_reply m) s h = h
telling_calm (not_understood m) s h = h

calm_ended : (d : Declared) (s : State) (w : ℕ) → (buffered s (looper w) == 0) ≡ true → IsCalmState s → IsCalmState (option_map_or (ended_hand s w) (hand_at s w) s)
calm_ended d s w empty h =
    by_option IsCalmState (ended_hand s w) s (hand_at s w) h (λ hand. telling_calm (end_telling hand.duty hand.route) (freed s w)
    (calm_freed s.loopers s.buffers w (λ _. free) (λ b read. none_in s w b (Some w) refl read empty) h))

drawn_end : (d : Declared) (s : State) (w : ℕ) (a : Act) → draw_act s w ≡ Some a → Handles s w → IsCalmState s → IsCalmState (with_looper (drawn s w EndUpdate) w (at_stage ending))
drawn_end d s w a e is h = calm_staged (drawn s w EndUpdate) w ending (calm_drawn s w a EndUpdate e (λ l read. handling_busy s w is.hand is.stage l is.read read) h)

pub calm_met : (d : Declared) (s : State) (who : Activity) (want : Want) (a : Act) → IsWithinLimits d → maker want ≡ who → want_of d s who ≡ Some want → want_act d s want ≡ Some a → IsCalmState s → IsCalmState (met d s want)
unfolding met want_act
calm_met d s who (asks (app m) x) a limits made wanted e h = calm_app d s m x a (app_stands d s m x (ap (want_of d s) made ∙ wanted)) e h
calm_met d s who (asks (looper w) x) a limits made wanted e h = calm_body d s w x a (looper_stands d s w x limits (ap (want_of d s) made ∙ wanted)) e h
calm_met d s who (takes w) a limits made wanted e h = calm_taken d s w (take_tells d s w a e) h
calm_met d s who (begins w) a limits made wanted e h = calm_begun s w h
calm_met d s who (flushes w) a limits made wanted e h = calm_flushed s w h
calm_met d s who (draws_end w) a limits made wanted e h = drawn_end d s w a e (handles d s w (draws_end w) (λ k. cc) (ap (want_of d s) made ∙ wanted)) h
calm_met d s who (ends w) a limits made wanted e h = calm_ended d s w (ends_empty d s w (ap (want_of d s) made ∙ wanted)) h
calm_met d s who (notifies w) a limits made wanted e h = h
calm_met d s who (executes w) a limits made wanted e h = calm_beside s _ (beside_executed d s w) h
calm_met d s who (uses x) a limits made wanted e h = calm_beside _ _ (beside_event s x) h
calm_met d s who stops a limits made wanted e h = h

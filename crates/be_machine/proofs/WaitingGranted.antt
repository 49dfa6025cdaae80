-- Every wish of an application that is granted keeps who waits for whom.
use Rattle.std.proofs.Common.{◌≡◌, ℕ, Bool, true, false, List, Option, Some, None, refl, sym, ap, subst, ◌∙◌}
use Rattle.std.specs.Prelude.{slice_get, ◌==◌, position, option_map, option_and_then, if◌then◌else◌}
use Rattle.std.specs.Option.{option_map_or}
use Rattle.std.proofs.lemmas.List.Quantifiers.{position-Some}
use Rattle.std.proofs.lemmas.Option.{get_or_from_slice_get}
use Rattle.be_actor.specs.declared.Instruction.{Instruction}
use Rattle.be_actor.specs.declared.Instruction.TheVariants.{Note, Post, Send, Reply, Forward, Lock, Unlock, Flush, Sync, Draw}
use Rattle.be_actor.specs.declared.Wish.{Wish}
use Rattle.be_actor.specs.declared.Wish.TheVariants as wish
use Rattle.be_actor.specs.Wishes.{wish_at, place_after, second_part, has_no_room}
use Rattle.be_message.specs.declared.target.Target.{Target}
use Rattle.be_message.specs.Messages.{Message}
use Rattle.be_port.specs.declared.Duty.TheVariants.{Free, Owed}
use Rattle.be_port.specs.Ports.{Letter, Port, judged, is_accepted, with_letter, posted}
use Rattle.be_reply.specs.Cells as reply
use Rattle.be_script.specs.Script.{Declared}
use Rattle.be_machine.specs.Activities.{app, sender_of}
use Rattle.be_machine.specs.Commands.{drawn, flushed, flushed_into}
use Rattle.be_machine.specs.declared.Act.{Act}
use Rattle.be_machine.specs.Legal.{want_act, wish_act}
use Rattle.be_machine.specs.Lists.{at}
use Rattle.be_machine.specs.Looper.{freed, with_looper, with_waiting, with_cell, kind_of_reply, claim_act}
use Rattle.be_machine.specs.declared.Act.TheVariants as act
use Rattle.be_machine.specs.Port.{letter, with_post, is_accepted_at}
use Rattle.be_machine.specs.Program.{app_program, buffered, is_locked_by, locked_by, app_gone_on, moved_on}
use Rattle.be_machine.specs.State.{State, Looper, free, locked, handling, App}
use Rattle.be_machine.specs.Step.{granted, met}
use Rattle.be_machine.specs.Wants.{asks}
use Rattle.be_machine.proofs.ProgressCases.{by_option, neither}
use Rattle.be_machine.proofs.ProgressStands.{AppStands}
use Rattle.be_machine.proofs.Waiting.{owed_by_looper, owed_by_port, due_in, is_busy, claims, claims_at, IsBusyByPlace, IsWaiting, Waits}
use Rattle.be_machine.proofs.WaitingSums.{at_twice}
use Rattle.be_machine.proofs.WaitingMoves.{loopers_kept, ports_kept, post_kept, in_time_posted, apps_kept, sent_kept}
use Rattle.be_machine.proofs.WaitingApps.{before_claims, next_claims, gone_to, quiet_kept, lock_tells, lock_kept, flushed_kept}

-- ---- a lock that is given back

-- what is found passes
pub position_passes : {X : Type 0} (p : X → Bool) (xs : List X) (i : ℕ) (x : X) → position p xs ≡ Some i → slice_get xs i ≡ Some x → p x ≡ true
position_passes p xs i x found read = ap p (sym (get_or_from_slice_get xs i x x read)) ∙ (position-Some p xs i x found).1

lock_owes : (k m : ℕ) (l : Looper) → is_locked_by m l ≡ true → owed_by_looper k l ≡ 0
lock_owes k m (locked n) e = refl
lock_owes k m free e = refl
lock_owes k m (handling hand stage) e = cc

unlock_by : (d : Declared) (s : State) (m : ℕ) (o : Option ℕ) → locked_by s m ≡ o → IsWaiting d s → IsWaiting d (option_map_or (freed s) o s)
unlock_by d s m (Some w) found h = loopers_kept d s.ports s.loopers s.apps w (λ _. free) (λ k l read. sym (lock_owes k m l (position_passes (is_locked_by m) s.loopers w l found read))) h
unlock_by d s m None found h = h

pub flushed_apps : (s : State) (w : ℕ) → (flushed s w).apps ≡ s.apps
flushed_apps s w = by_option (λ t. t.apps ≡ s.apps) (flushed_into s w) s (slice_get s.buffers w) refl (λ b. refl)

-- ---- what a port says of a letter

-- the letter is accepted
pub record Accepts (ports : List (Port Message)) (v : ℕ) (letter : Letter Message) : Type 0 where
  pub port : Port Message
  pub read : slice_get ports v ≡ Some port
  pub more : posted letter port ≡ with_letter letter port

posted_by : (p : Port Message) (letter : Letter Message) (b : Bool) → is_accepted (judged p letter.hop) ≡ b → posted letter p ≡ (if b then with_letter letter p else p)
unfolding posted
posted_by p letter b e = ap (λ x. if x then with_letter letter p else p) e

accepts_by : (ports : List (Port Message)) (v : ℕ) (letter : Letter Message) (o : Option (Port Message)) → slice_get ports v ≡ o → option_map_or (λ p. is_accepted (judged p letter.hop)) o false ≡ true → Accepts ports v letter
accepts_by ports v letter (Some p) read e = record { port = p; read = read; more = posted_by p letter true e }
accepts_by ports v letter None read e = cc

pub accepts : (s : State) (v : ℕ) (letter : Letter Message) → is_accepted_at s v letter.hop ≡ true → Accepts s.ports v letter
accepts s v letter e = accepts_by s.ports v letter (slice_get s.ports v) refl e

refused_by : (ports : List (Port Message)) (v : ℕ) (letter : Letter Message) (p : Port Message) → option_map_or (λ q. is_accepted (judged q letter.hop)) (slice_get ports v) false ≡ false → slice_get ports v ≡ Some p → posted letter p ≡ p
refused_by ports v letter p e read = posted_by p letter false (sym (ap (λ o. option_map_or (λ (q : Port Message). is_accepted (judged q letter.hop)) o false) read) ∙ e)

-- ... or refused, and nothing changes
pub refused_kept : (d : Declared) (s : State) (v : ℕ) (letter : Letter Message) → is_accepted_at s v letter.hop ≡ false → IsWaiting d s → IsWaiting d (with_post s v letter)
refused_kept d s v letter e h = ports_kept d s.ports s.loopers s.apps v (posted letter) (λ m p read in_time. ap (owed_by_port m) (refused_by s.ports v letter p e read)) (in_time_posted letter) h

-- ---- a letter for whose reply an application waits

sends : (part buffered v : ℕ) (target : Target) (message : Message) (i : Instruction) → wish_at part None buffered i ≡ wish.Send v target message → claims (Some i) 1 ≡ true
sends part buffered v target message (Send w to draft) e = refl
sends part buffered v target message (Note word) e = cc
sends part buffered v target message (Post w to draft) e = cc
sends part buffered v target message (Reply draft) e = cc
sends part buffered v target message (Forward w to) e = cc
sends part buffered v target message (Lock w) e = cc
sends part buffered v target message Unlock e = neither (buffered == 0) wish.Unlock wish.Flush (wish.Send v target message) _ (λ h. cc) (λ h. cc) e
sends part buffered v target message Flush e = cc
sends part buffered v target message Sync e = neither (part == 0) wish.Flush wish.SyncDone (wish.Send v target message) _ (λ h. cc) (λ h. cc) e
sends part buffered v target message (Draw c) e = neither (has_no_room buffered) wish.Flush (wish.Draw c) (wish.Send v target message) _ (λ h. cc) (λ h. cc) e

idle_due : (c : reply.Cell) → is_busy c ≡ false → due_in c ≡ 0
idle_due reply.waiting e = cc
idle_due (reply.replied message) e = refl
idle_due reply.idle e = refl

-- where an application is after a letter was sent
abbrev waiting_on : Declared → ℕ → Wish → App → App
waiting_on d m x a = app_gone_on d m true x (record a { cell = reply.waiting })

sent_busy : (d : Declared) (s : State) (m v : ℕ) (target : Target) (message : Message) (is : AppStands d s m (wish.Send v target message)) → IsBusyByPlace d m is.it → IsBusyByPlace d m (waiting_on d m (wish.Send v target message) is.it)
unfolding place_after
sent_busy d s m v target message is h =
    let program = app_program d m in
    let second : claims_at program (second_part is.it.place) ≡ true = ap (λ o. claims o 1) is.next ∙ sends is.it.place.part (buffered s (app m)) v target message is.step is.asked in
    sym (ap (claims_at program) (gone_to program is.it.place is.step true (wish.Send v target message) is.next) ∙ second)

refused_busy : (d : Declared) (s : State) (m v : ℕ) (target : Target) (message : Message) (is : AppStands d s m (wish.Send v target message)) → IsBusyByPlace d m is.it → IsBusyByPlace d m (app_gone_on d m false (wish.Send v target message) is.it)
unfolding place_after
refused_busy d s m v target message is h =
    let program = app_program d m in
    let before : claims_at program is.it.place ≡ false = before_claims program is.it.place (buffered s (app m)) is.step (wish.Send v target message) is.next is.asked refl in
    h ∙ before ∙ sym (ap (claims_at program) (gone_to program is.it.place is.step false (wish.Send v target message) is.next) ∙ next_claims program is.it.place)

send_by : (d : Declared) (s : State) (m v : ℕ) (target : Target) (message : Message) (letter : Letter Message) (b : Bool) (is : AppStands d s m (wish.Send v target message)) → letter.duty ≡ Owed m → is_accepted_at s v letter.hop ≡ b → IsWaiting d s → IsWaiting d (moved_on d (app m) b (wish.Send v target message) (if b then with_waiting (app m) (with_post s v letter) else with_post s v letter))
unfolding moved_on
send_by d s m v target message letter true is duty e h =
    let port : Accepts s.ports v letter = accepts s v letter e in
    let program = app_program d m in
    let before : claims_at program is.it.place ≡ false = before_claims program is.it.place (buffered s (app m)) is.step (wish.Send v target message) is.next is.asked refl in
    let idle : is_busy is.it.cell ≡ false = h.busy m is.it is.read ∙ before in
    subst (λ apps. Waits d (at s.ports v (posted letter)) s.loopers apps)
    (sym (at_twice s.apps m (λ (a : App). record a { cell = reply.waiting }) (app_gone_on d m true (wish.Send v target message))))
    (sent_kept d s.ports s.loopers s.apps v m letter port.port (waiting_on d m (wish.Send v target message)) is.it port.read port.more duty is.read (sent_busy d s m v target message is) (idle_due is.it.cell idle) refl h)
send_by d s m v target message letter false is duty e h =
    let same : IsWaiting d (with_post s v letter) = refused_kept d s v letter e h in
    apps_kept d (at s.ports v (posted letter)) s.loopers s.apps m (app_gone_on d m false (wish.Send v target message)) is.it is.read (refused_busy d s m v target message is) refl same

-- ---- a reply that is claimed

claimed_due : (c : reply.Cell) (a : Act) → option_map (λ m. act.Claim (kind_of_reply m)) (reply.reply_in c) ≡ Some a → due_in c ≡ 0
claimed_due reply.waiting a e = cc
claimed_due (reply.replied message) a e = refl
claimed_due reply.idle a e = refl

claim_tells : (s : State) (m : ℕ) (it : App) (a : Act) → slice_get s.apps m ≡ Some it → claim_act s (app m) ≡ Some a → due_in it.cell ≡ 0
claim_tells s m it a read e = claimed_due it.cell a (sym (ap (λ o. option_map (λ m. act.Claim (kind_of_reply m)) (option_and_then reply.reply_in (option_map (λ (x : App). x.cell) o))) read) ∙ e)

claimed_busy : (d : Declared) (s : State) (m : ℕ) (is : AppStands d s m wish.Claim) → IsBusyByPlace d m (app_gone_on d m false wish.Claim (record is.it { cell = reply.idle }))
unfolding place_after
claimed_busy d s m is = let program = app_program d m in sym (ap (claims_at program) (gone_to program is.it.place is.step false wish.Claim is.next) ∙ next_claims program is.it.place)

claim_kept : (d : Declared) (s : State) (m : ℕ) (a : Act) (is : AppStands d s m wish.Claim) → claim_act s (app m) ≡ Some a → IsWaiting d s → IsWaiting d (moved_on d (app m) false wish.Claim (with_cell s m (λ _. reply.idle)))
unfolding moved_on
claim_kept d s m a is e h =
    subst (λ apps. Waits d s.ports s.loopers apps) (sym (at_twice s.apps m (λ (x : App). record x { cell = reply.idle }) (app_gone_on d m false wish.Claim)))
    (apps_kept d s.ports s.loopers s.apps m (λ x. app_gone_on d m false wish.Claim (record x { cell = reply.idle })) is.it is.read (λ _. claimed_busy d s m is) (sym (claim_tells s m is.it a is.read e)) h)

-- ---- all wishes

pub app_granted : (d : Declared) (s : State) (m : ℕ) (x : Wish) (a : Act) → AppStands d s m x → want_act d s (asks (app m) x) ≡ Some a → IsWaiting d s → IsWaiting d (met d s (asks (app m) x))
unfolding met granted want_act wish_act
app_granted d s m (wish.Note word) a is e h = quiet_kept d s s m false (wish.Note word) is refl refl h
app_granted d s m (wish.Post v target message) a is e h =
    quiet_kept d s (with_post s v (letter (sender_of (app m)) target 0 Free message)) m (is_accepted_at s v 0) (wish.Post v target message) is refl refl (post_kept d s.ports s.loopers s.apps v (letter (sender_of (app m)) target 0 Free message) refl h)
app_granted d s m (wish.Send v target message) a is e h = send_by d s m v target message (letter (sender_of (app m)) target 0 (Owed m) message) (is_accepted_at s v 0) is refl refl h
app_granted d s m (wish.Forward v target) a is e h = quiet_kept d s s m (is_accepted_at s v 0) (wish.Forward v target) is refl refl h
app_granted d s m (wish.Reply message) a is e h = quiet_kept d s s m false (wish.Reply message) is refl refl h
app_granted d s m wish.Claim a is e h = claim_kept d s m a is e h
app_granted d s m (wish.Lock v) a is e h = quiet_kept d s (with_looper s v (λ _. locked m)) m false (wish.Lock v) is refl refl (lock_kept d s m v (lock_tells s.loopers v a (slice_get s.loopers v) refl e) h)
app_granted d s m wish.Unlock a is e h =
    quiet_kept d s (option_map_or (freed s) (locked_by s m) s) m false wish.Unlock is refl (by_option (λ t. t.apps ≡ s.apps) (freed s) s (locked_by s m) refl (λ w. refl)) (unlock_by d s m (locked_by s m) refl h)
app_granted d s m wish.Flush a is e h =
    quiet_kept d s (option_map_or (flushed s) (locked_by s m) s) m false wish.Flush is refl (by_option (λ t. t.apps ≡ s.apps) (flushed s) s (locked_by s m) refl (flushed_apps s)) (by_option (IsWaiting d) (flushed s) s (locked_by s m) h (λ w. flushed_kept d s w h))
app_granted d s m wish.SyncDone a is e h = quiet_kept d s s m false wish.SyncDone is refl refl h
app_granted d s m (wish.Draw command) a is e h =
    quiet_kept d s (option_map_or (λ w. drawn s w command) (locked_by s m) s) m false (wish.Draw command) is refl (by_option (λ t. t.apps ≡ s.apps) (λ w. drawn s w command) s (locked_by s m) refl (λ w. refl)) (by_option (IsWaiting d) (λ w. drawn s w command) s (locked_by s m) h (λ w. h))

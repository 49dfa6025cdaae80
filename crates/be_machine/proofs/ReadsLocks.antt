-- What an application asks for is the same where its place is.
use Rattle.std.proofs.Common.{◌≡◌, ℕ, Bool, true, false, List, Option, Some, None, inl, inr, refl, sym, ap, ◌∙◌}
use Rattle.std.specs.Prelude.{slice_get, position, option_map, option_and_then, length, ◌==◌}
use Rattle.std.specs.Option.{option_map_or}
use Rattle.std.proofs.lemmas.List.Quantifiers.{position-Some}
use Rattle.be_actor.specs.declared.Instruction.{Instruction}
use Rattle.be_actor.specs.declared.Instruction.TheVariants.{Note, Post, Send, Reply, Forward, Lock, Unlock, Flush, Sync, Draw}
use Rattle.be_actor.specs.declared.Wish.{Wish}
use Rattle.be_actor.specs.declared.Wish.TheVariants as wish
use Rattle.be_actor.specs.Wishes.{wish_at, wish_of, has_no_room}
use Rattle.be_link.specs.Queues.{Buffer}
use Rattle.be_script.specs.Script.{Declared}
use Rattle.be_machine.specs.Activities.{app, runner}
use Rattle.be_machine.specs.Legal.{want_act}
use Rattle.be_machine.specs.Program.{is_locked_by, locked_by, buffered, app_program, app_wish}
use Rattle.be_machine.specs.State.{State, App, Looper, free}
use Rattle.be_machine.specs.Step.{met}
use Rattle.be_machine.specs.Touched.{Part, SamePart, IsOf}
use Rattle.be_machine.specs.Touched as part
use Rattle.be_machine.specs.Wants.{asks, want_of}
use Rattle.be_machine.proofs.Lists.{IsThere, there}
use Rattle.be_machine.proofs.ProgressCases.{neither}
use Rattle.be_machine.proofs.ProgressLocks.{HasLock, Follows}
use Rattle.be_machine.proofs.ProgressLocksMet.{IsLockedState}
use Rattle.be_machine.proofs.ProgressPlaces.{position_is}
use Rattle.be_machine.proofs.ProgressStands.{AppStands, app_stands}
use Rattle.be_machine.proofs.WaitingGranted.{position_passes}
use Rattle.be_machine.proofs.ReadsBoth.{Wanted, Reads}
use Rattle.be_machine.proofs.ReadsWishes.{SameRunner, SameFor, same_wish_act, asked_keeps}

-- ---- the lock

pub no_position : (loopers : List Looper) (m : ℕ) (o : Option ℕ) → HasLock loopers m None → position (is_locked_by m) loopers ≡ o → o ≡ None
no_position loopers m (Some w) h e =
    let l : IsThere loopers w = there loopers w (position-Some (is_locked_by m) loopers w free e).0 in
    let no : true ≡ false = sym (position_passes (is_locked_by m) loopers w l.element e l.read) ∙ h.alone w l.element l.read in cc
no_position loopers m None h e = refl

pub locked_is : (loopers : List Looper) (m : ℕ) (lock : Option ℕ) → HasLock loopers m lock → position (is_locked_by m) loopers ≡ lock
locked_is loopers m (Some w) h = position_is (is_locked_by m) loopers w h.inside h.alone
locked_is loopers m None h = no_position loopers m (position (is_locked_by m) loopers) h refl

-- where an application is at the same place it has locked the same window
same_lock : (d : Declared) (s r : State) (m : ℕ) (a : App) → IsLockedState d s → IsLockedState d r → slice_get s.apps m ≡ Some a → slice_get r.apps m ≡ Some a → locked_by r m ≡ locked_by s m
same_lock d s r m a h k read other =
    let one : Follows d s.loopers m a = h.follows m a read in
    let two : Follows d r.loopers m a = k.follows m a other in
    locked_is r.loopers m two.lock two.has ∙ two.placed ∙ sym one.placed ∙ sym (locked_is s.loopers m one.lock one.has)

-- ---- the instruction

-- whether how full the buffer is may decide that this is asked for
abbrev reads_buffer : Wish → Bool
reads_buffer wish.Unlock = true
reads_buffer wish.Flush = true
reads_buffer (wish.Draw command) = true
reads_buffer (wish.Note word) = false
reads_buffer (wish.Post w target message) = false
reads_buffer (wish.Send w target message) = false
reads_buffer (wish.Forward w target) = false
reads_buffer (wish.Reply message) = false
reads_buffer wish.Claim = false
reads_buffer (wish.Lock w) = false
reads_buffer wish.SyncDone = false

not_this : (x y : Wish) → reads_buffer x ≡ false → reads_buffer y ≡ true → y ≡ x → ⊥
not_this x y quiet h e = let no : true ≡ false = sym h ∙ ap reads_buffer e ∙ quiet in cc

wish_anyway : (part n k : ℕ) (i : Instruction) (x : Wish) → reads_buffer x ≡ false → wish_at part None n i ≡ x → wish_at part None k i ≡ x
wish_anyway part n k (Note word) x quiet e = e
wish_anyway part n k (Post w target draft) x quiet e = e
wish_anyway part n k (Send w target draft) x quiet e = e
wish_anyway part n k (Reply draft) x quiet e = e
wish_anyway part n k (Forward w target) x quiet e = e
wish_anyway part n k (Lock w) x quiet e = e
wish_anyway part n k Unlock x quiet e = neither (n == 0) wish.Unlock wish.Flush x _ (not_this x wish.Unlock quiet refl) (not_this x wish.Flush quiet refl) e
wish_anyway part n k Flush x quiet e = e
wish_anyway part n k Sync x quiet e = e
wish_anyway part n k (Draw c) x quiet e = neither (has_no_room n) wish.Flush (wish.Draw c) x _ (not_this x wish.Flush quiet refl) (not_this x (wish.Draw c) quiet refl) e

same_buffered : (s r : State) (o : Option ℕ) → ((p : Part) → IsOf part.looper o p → SamePart s r p) → option_map_or (λ (b : Buffer). length b.commands) (option_and_then (λ w. slice_get r.buffers w) o) 0 ≡ option_map_or (λ (b : Buffer). length b.commands) (option_and_then (λ w. slice_get s.buffers w) o) 0
same_buffered s r (Some w) same = let there : SamePart s r (part.looper w) = same (part.looper w) refl in ap (λ (o : Option Buffer). option_map_or (λ b. length b.commands) o 0) there.1
same_buffered s r None same = refl

buffered_by : (s r : State) (m : ℕ) → locked_by r m ≡ locked_by s m → ((p : Part) → IsOf part.looper (locked_by s m) p → SamePart s r p) → buffered r (app m) ≡ buffered s (app m)
buffered_by s r m lock same = ap (λ o. option_map_or (λ (b : Buffer). length b.commands) (option_and_then (λ w. slice_get r.buffers w) o) 0) lock ∙ same_buffered s r (locked_by s m) same

asked_again : (d : Declared) (s r : State) (m : ℕ) (x : Wish) (is : AppStands d s m x) → locked_by r m ≡ locked_by s m → SameFor s r (app m) x → wish_at is.it.place.part None (buffered r (app m)) is.step ≡ x
asked_again d s r m (wish.Note word) is lock same = wish_anyway _ (buffered s (app m)) _ is.step (wish.Note word) refl is.asked
asked_again d s r m (wish.Post w target message) is lock same = wish_anyway _ (buffered s (app m)) _ is.step _ refl is.asked
asked_again d s r m (wish.Send w target message) is lock same = wish_anyway _ (buffered s (app m)) _ is.step _ refl is.asked
asked_again d s r m (wish.Forward w target) is lock same = wish_anyway _ (buffered s (app m)) _ is.step _ refl is.asked
asked_again d s r m (wish.Reply message) is lock same = wish_anyway _ (buffered s (app m)) _ is.step _ refl is.asked
asked_again d s r m wish.Claim is lock same = wish_anyway _ (buffered s (app m)) _ is.step _ refl is.asked
asked_again d s r m (wish.Lock w) is lock same = wish_anyway _ (buffered s (app m)) _ is.step _ refl is.asked
asked_again d s r m wish.SyncDone is lock same = wish_anyway _ (buffered s (app m)) _ is.step _ refl is.asked
asked_again d s r m wish.Unlock is lock same = ap (λ n. wish_at is.it.place.part None n is.step) (buffered_by s r m lock (λ p h. same p (inr h))) ∙ is.asked
asked_again d s r m wish.Flush is lock same = ap (λ n. wish_at is.it.place.part None n is.step) (buffered_by s r m lock (λ p h. same p (inr (inl h)))) ∙ is.asked
asked_again d s r m (wish.Draw c) is lock same = ap (λ n. wish_at is.it.place.part None n is.step) (buffered_by s r m lock (λ p h. same p (inr h))) ∙ is.asked

stands_again : (d : Declared) (r : State) (m : ℕ) (x : Wish) (a : App) (i : Instruction) → slice_get r.apps m ≡ Some a → slice_get (app_program d m) a.place.step ≡ Some i → wish_at a.place.part None (buffered r (app m)) i ≡ x → want_of d r (runner (app m)) ≡ Some (asks (app m) x)
unfolding want_of app_wish wish_of
stands_again d r m x a i read next asked =
    ap (λ o. option_map (asks (app m)) (option_and_then (λ (b : App). wish_of (app_program d m) b.place None (buffered r (app m))) o)) read
    ∙ ap (λ o. option_map (asks (app m)) (option_map (wish_at a.place.part None (buffered r (app m))) o)) next
    ∙ ap (λ y. Some (asks (app m) y)) asked

pub same_app : (d : Declared) (s r : State) (m : ℕ) (x : Wish) → Wanted d s r (asks (app m) x) → SameRunner s r (app m)
same_app d s r m x is =
    let stands : AppStands d s m x = app_stands d s m x is.wanted in
    let own : SamePart s r (part.cell m) = is.touched (part.cell m) (inl refl) in
    record { window = same_lock d s r m stands.it is.both.one.locks is.both.two.locks stands.read (own ∙ stands.read); hand = refl }

pub reads_app : (d : Declared) (s r : State) (m : ℕ) (x : Wish) → Wanted d s r (asks (app m) x) → Reads d s r (asks (app m) x)
unfolding want_act met
reads_app d s r m x is =
    let stands : AppStands d s m x = app_stands d s m x is.wanted in
    let own : SamePart s r (part.cell m) = is.touched (part.cell m) (inl refl) in
    let who : SameRunner s r (app m) = same_app d s r m x is in
    record {
      wanted = stands_again d r m x stands.it stands.step (own ∙ stands.read) stands.next (asked_again d s r m x stands who.window is.touched);
      granted = same_wish_act s r (app m) x who is.touched;
      kept = asked_keeps d s r (app m) x who is.touched;
    }

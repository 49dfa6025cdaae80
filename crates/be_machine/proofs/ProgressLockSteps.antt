-- A lock that an application gets or gives back is the one that its program has from there on.
use Rattle.std.proofs.Common.{◌≡◌, ℕ, ◌+◌, ◌<◌, Bool, true, false, List, drop, length, Option, Some, None, refl, sym, ap, subst, ◌∙◌, arith}
use Rattle.std.specs.Prelude.{slice_get, ◌==◌}
use Rattle.std.proofs.lemmas.List.Quantifiers.{position-Some}
use Rattle.std.proofs.lemmas.Option.{same_Some, slice_get_within}
use Rattle.be_facts.proofs.Numbers.{eq_false, eq_self, eq_tells}
use Rattle.be_actor.specs.declared.Instruction.{Instruction}
use Rattle.be_actor.specs.declared.Instruction.TheVariants.{Note, Post, Send, Reply, Forward, Lock, Unlock, Flush, Sync, Draw}
use Rattle.be_actor.specs.declared.Place.{Place}
use Rattle.be_actor.specs.declared.Wish.{Wish}
use Rattle.be_actor.specs.declared.Wish.TheVariants as wish
use Rattle.be_actor.specs.Wishes.{wish_at, place_after, next_place, has_no_room}
use Rattle.be_geom.specs.Numbers.{is_number}
use Rattle.be_script.specs.Programs.{is_rest_of_app, lock_behind}
use Rattle.be_script.specs.Script.{Declared}
use Rattle.be_machine.specs.Activities.{app}
use Rattle.be_machine.specs.Lists.{at}
use Rattle.be_machine.specs.Program.{lock_before, app_program, buffered, is_locked_by, locked_by, app_gone_on}
use Rattle.be_machine.specs.State.{State, Looper, free, locked, handling, App}
use Rattle.be_machine.proofs.ProgressCases.{neither}
use Rattle.be_machine.proofs.Lists.{IsThere, there, length_at}
use Rattle.be_machine.proofs.ProgressPlaces.{each_at, each_kept}
use Rattle.be_machine.proofs.ProgressLocks.{lock_after, HasLock, Follows, IsKnown, AreLocked, StepKeeps, step_keeps, has_kept}
use Rattle.be_machine.proofs.ProgressStands.{AppStands}
use Rattle.be_machine.proofs.WaitingApps.{gone_to}
use Rattle.be_machine.proofs.WaitingGranted.{position_passes}

-- ---- at which instruction

same_lock : (w v : ℕ) → wish.Lock w ≡ wish.Lock v → Lock w ≡ Lock v
same_lock w v e = let same : w ≡ v = cc in ap Lock same

at_lock : (part n v : ℕ) (i : Instruction) → wish_at part None n i ≡ wish.Lock v → i ≡ Lock v
at_lock part n v (Lock w) e = same_lock w v e
at_lock part n v (Note word) e = cc
at_lock part n v (Post w target draft) e = cc
at_lock part n v (Send w target draft) e = neither (part == 0) _ wish.Claim (wish.Lock v) _ (λ h. cc) (λ h. cc) e
at_lock part n v (Reply draft) e = cc
at_lock part n v (Forward w target) e = cc
at_lock part n v Unlock e = neither (n == 0) wish.Unlock wish.Flush (wish.Lock v) _ (λ h. cc) (λ h. cc) e
at_lock part n v Flush e = cc
at_lock part n v Sync e = neither (part == 0) wish.Flush wish.SyncDone (wish.Lock v) _ (λ h. cc) (λ h. cc) e
at_lock part n v (Draw c) e = neither (has_no_room n) wish.Flush (wish.Draw c) (wish.Lock v) _ (λ h. cc) (λ h. cc) e

at_unlock : (part n : ℕ) (i : Instruction) → wish_at part None n i ≡ wish.Unlock → i ≡ Unlock
at_unlock part n Unlock e = refl
at_unlock part n (Lock w) e = cc
at_unlock part n (Note word) e = cc
at_unlock part n (Post w target draft) e = cc
at_unlock part n (Send w target draft) e = neither (part == 0) _ wish.Claim wish.Unlock _ (λ h. cc) (λ h. cc) e
at_unlock part n (Reply draft) e = cc
at_unlock part n (Forward w target) e = cc
at_unlock part n Flush e = cc
at_unlock part n Sync e = neither (part == 0) wish.Flush wish.SyncDone wish.Unlock _ (λ h. cc) (λ h. cc) e
at_unlock part n (Draw c) e = neither (has_no_room n) wish.Flush (wish.Draw c) wish.Unlock _ (λ h. cc) (λ h. cc) e

-- the next instruction, with the lock behind this one
next_keeps : (d : Declared) (s : State) (m : ℕ) (accepted : Bool) (x : Wish) (is : AppStands d s m x) (lock : Option ℕ) → place_after is.step is.it.place accepted x ≡ next_place is.it.place → is_rest_of_app d lock (drop (is.it.place.step + 1) (app_program d m)) ≡ true → is_rest_of_app d lock (drop (app_gone_on d m accepted x is.it).place.step (app_program d m)) ≡ true
next_keeps d s m accepted x is lock next h = ap (λ (p : Place). is_rest_of_app d lock (drop p.step (app_program d m))) (gone_to (app_program d m) is.it.place is.step accepted x is.next ∙ next) ∙ h

-- ... and the program has that lock there
next_placed : (d : Declared) (s : State) (m : ℕ) (accepted : Bool) (x : Wish) (is : AppStands d s m x) (i : Instruction) → is.step ≡ i → place_after is.step is.it.place accepted x ≡ next_place is.it.place → lock_before None (app_program d m) (app_gone_on d m accepted x is.it).place.step ≡ lock_behind (lock_before None (app_program d m) is.it.place.step) i
next_placed d s m accepted x is i same next =
    ap (λ (p : Place). lock_before None (app_program d m) p.step) (gone_to (app_program d m) is.it.place is.step accepted x is.next ∙ next)
    ∙ lock_after None (app_program d m) is.it.place.step i (is.next ∙ ap Some same)

-- ---- a lock

new_lock : (loopers : List Looper) (m v : ℕ) → slice_get loopers v ≡ Some free → HasLock loopers m None → HasLock (at loopers v (λ _. locked m)) m (Some v)
new_lock loopers m v read h = record {
  inside = let inside : v < length loopers = slice_get_within loopers v free read in let same : length (at loopers v (λ _. locked m)) ≡ length loopers = length_at loopers v (λ _. locked m) in omega (arith, inside, same);
  alone = each_at (λ u l. is_locked_by m l ≡ is_number u None) (λ u l. is_locked_by m l ≡ is_number u (Some v)) loopers v (λ _. locked m) (λ u l other e. e ∙ sym (eq_false v u (λ same. other (sym same)))) (λ l there e. eq_self m ∙ sym (eq_self v)) h.alone;
}

locked_here : (d : Declared) (s : State) (m v : ℕ) (is : AppStands d s m (wish.Lock v)) (lock : Option ℕ) → is.step ≡ Lock v → slice_get s.loopers v ≡ Some free → HasLock s.loopers m lock → StepKeeps d lock (Lock v) (drop (is.it.place.step + 1) (app_program d m)) → Follows d (at s.loopers v (λ _. locked m)) m (app_gone_on d m false (wish.Lock v) is.it)
unfolding place_after
locked_here d s m v is None step read has keeps = record { lock = Some v; placed = sym (next_placed d s m false (wish.Lock v) is (Lock v) step refl); has = new_lock s.loopers m v read has; keeps = next_keeps d s m false (wish.Lock v) is (Some v) refl keeps.behind }
locked_here d s m v is (Some w) step read has keeps = let no : false ≡ true = keeps.here in cc

pub lock_locks : (d : Declared) (s : State) (m v : ℕ) (is : AppStands d s m (wish.Lock v)) → slice_get s.loopers v ≡ Some free → m < length d.apps → AreLocked d s.loopers s.apps → AreLocked d (at s.loopers v (λ _. locked m)) (at s.apps m (app_gone_on d m false (wish.Lock v)))
lock_locks d s m v is read inside h = record {
  follows = each_at (Follows d s.loopers) (Follows d (at s.loopers v (λ _. locked m))) s.apps m (app_gone_on d m false (wish.Lock v))
      (λ j a other old. record {
        lock = old.lock;
        placed = old.placed;
        has = has_kept s.loopers v j (λ _. locked m) old.lock (λ l there. eq_false j m other ∙ ap (is_locked_by j) (same_Some free l (sym read ∙ there))) old.has;
        keeps = old.keeps;
      })
      (λ a there old.
      let same : is.it ≡ a = same_Some is.it a (sym is.read ∙ there) in
      let step : is.step ≡ Lock v = at_lock is.it.place.part (buffered s (app m)) v is.step is.asked in
      let keeps : is_rest_of_app d old.lock (drop is.it.place.step (app_program d m)) ≡ true = subst (λ (b : App). is_rest_of_app d old.lock (drop b.place.step (app_program d m)) ≡ true) (sym same) old.keeps in
      let now : StepKeeps d old.lock (Lock v) (drop (is.it.place.step + 1) (app_program d m)) = step_keeps d old.lock (app_program d m) is.it.place.step (Lock v) (is.next ∙ ap Some step) keeps in
      subst (λ b. Follows d (at s.loopers v (λ _. locked m)) m (app_gone_on d m false (wish.Lock v) b)) same (locked_here d s m v is old.lock step read old.has now))
      h.follows;
  known = each_kept (λ u l. IsKnown d l) s.loopers v (λ _. locked m) (λ l there known k e. subst (λ j. j < length d.apps) (sym (eq_tells k m e)) inside) h.known;
}

-- ---- a lock that is given back

no_lock : (loopers : List Looper) (m w : ℕ) → HasLock loopers m (Some w) → HasLock (at loopers w (λ _. free)) m None
no_lock loopers m w h = record {
  inside = tt;
  alone = each_at (λ u l. is_locked_by m l ≡ is_number u (Some w)) (λ u l. is_locked_by m l ≡ is_number u None) loopers w (λ _. free) (λ u l other e. e ∙ eq_false w u (λ same. other (sym same))) (λ l there e. refl) h.alone;
}

unlocked_here : (d : Declared) (s : State) (m w : ℕ) (is : AppStands d s m wish.Unlock) (lock : Option ℕ) → is.step ≡ Unlock → is_number w lock ≡ true → HasLock s.loopers m lock → StepKeeps d lock Unlock (drop (is.it.place.step + 1) (app_program d m)) → Follows d (at s.loopers w (λ _. free)) m (app_gone_on d m false wish.Unlock is.it)
unfolding place_after
unlocked_here d s m w is None step at has keeps = cc
unlocked_here d s m w is (Some v) step at has keeps =
    let here : HasLock s.loopers m (Some w) = subst (λ u. HasLock s.loopers m (Some u)) (eq_tells v w at) has in
    record { lock = None; placed = sym (next_placed d s m false wish.Unlock is Unlock step refl); has = no_lock s.loopers m w here; keeps = next_keeps d s m false wish.Unlock is None refl keeps.behind }

other_lock : (j m : ℕ) (l : Looper) → (j ≡ m → ⊥) → is_locked_by m l ≡ true → is_locked_by j l ≡ false
other_lock j m (locked n) other e = let same : m ≡ n = eq_tells m n e in eq_false j n (λ k. other (k ∙ sym same))
other_lock j m free other e = cc
other_lock j m (handling hand stage) other e = cc

pub unlock_locks : (d : Declared) (s : State) (m w : ℕ) (is : AppStands d s m wish.Unlock) → locked_by s m ≡ Some w → AreLocked d s.loopers s.apps → AreLocked d (at s.loopers w (λ _. free)) (at s.apps m (app_gone_on d m false wish.Unlock))
unlock_locks d s m w is found h = record {
  follows = each_at (Follows d s.loopers) (Follows d (at s.loopers w (λ _. free))) s.apps m (app_gone_on d m false wish.Unlock)
      (λ j a other old. record {
        lock = old.lock;
        placed = old.placed;
        has = has_kept s.loopers w j (λ _. free) old.lock (λ l there. sym (other_lock j m l other (position_passes (is_locked_by m) s.loopers w l found there))) old.has;
        keeps = old.keeps;
      })
      (λ a there_app old.
      let same : is.it ≡ a = same_Some is.it a (sym is.read ∙ there_app) in
      let step : is.step ≡ Unlock = at_unlock is.it.place.part (buffered s (app m)) is.step is.asked in
      let keeps : is_rest_of_app d old.lock (drop is.it.place.step (app_program d m)) ≡ true = subst (λ (b : App). is_rest_of_app d old.lock (drop b.place.step (app_program d m)) ≡ true) (sym same) old.keeps in
      let now : StepKeeps d old.lock Unlock (drop (is.it.place.step + 1) (app_program d m)) = step_keeps d old.lock (app_program d m) is.it.place.step Unlock (is.next ∙ ap Some step) keeps in
      let l : IsThere s.loopers w = there s.loopers w (position-Some (is_locked_by m) s.loopers w free found).0 in
      let holds : is_number w old.lock ≡ true = sym (old.has.alone w l.element l.read) ∙ position_passes (is_locked_by m) s.loopers w l.element found l.read in
      subst (λ b. Follows d (at s.loopers w (λ _. free)) m (app_gone_on d m false wish.Unlock b)) same (unlocked_here d s m w is old.lock step holds old.has now))
      h.follows;
  known = each_kept (λ u l. IsKnown d l) s.loopers w (λ _. free) (λ l there known k e. cc) h.known;
}

-- Each application has the lock that its program has at its place, and no other.
use Rattle.std.proofs.Common.{◌≡◌, ℕ, zero, suc, ◌+◌, ◌<◌, Bool, true, false, List, [], ◌∷◌, drop, length, Option, Some, None, refl, sym, ap, subst, ◌∙◌, arith}
use Rattle.std.specs.Prelude.{slice_get, ◌==◌, if◌then◌else◌}
use Rattle.std.proofs.lemmas.Option.{same_Some}
use Rattle.be_facts.proofs.Truths.{and_first, and_second}
use Rattle.be_actor.specs.declared.Instruction.{Instruction}
use Rattle.be_actor.specs.declared.Instruction.TheVariants.{Note, Post, Send, Reply, Forward, Lock, Unlock, Flush, Sync, Draw}
use Rattle.be_actor.specs.declared.Place.{Place}
use Rattle.be_actor.specs.declared.Wish.{Wish}
use Rattle.be_actor.specs.declared.Wish.TheVariants as wish
use Rattle.be_actor.specs.Wishes.{wish_at, place_after, next_place, second_part, has_no_room}
use Rattle.be_geom.specs.Numbers.{is_number}
use Rattle.be_script.specs.Programs.{is_app_step, lock_behind, is_rest_of_app}
use Rattle.be_script.specs.Script.{Declared}
use Rattle.be_machine.specs.Activities.{app}
use Rattle.be_machine.specs.Lists.{at}
use Rattle.be_machine.specs.Program.{lock_before, app_program, buffered, is_locked_by, app_gone_on}
use Rattle.be_machine.specs.State.{State, Looper, App}
use Rattle.be_machine.proofs.ProgressCases.{by_test}
use Rattle.be_machine.proofs.Lists.{length_at}
use Rattle.be_machine.proofs.ProgressPlaces.{Each, each_kept, drop_read}
use Rattle.be_machine.proofs.ProgressStands.{AppStands}
use Rattle.be_machine.proofs.WaitingApps.{gone_to}

-- ---- what holds

-- a place of the list, where one is given
abbrev pub HasPlace : ℕ → Option ℕ → Type 0
HasPlace n (Some w) = w < n
HasPlace n None = Unit {0}

-- the application has locked this window, if one is given, and no other
pub record HasLock (loopers : List Looper) (m : ℕ) (lock : Option ℕ) : Type 0 where
  pub inside : HasPlace (length loopers) lock
  pub alone : Each (λ w l. is_locked_by m l ≡ is_number w lock) loopers

pub lock_after : (lock : Option ℕ) (program : List Instruction) (k : ℕ) (i : Instruction) → slice_get program k ≡ Some i → lock_before lock program (k + 1) ≡ lock_behind (lock_before lock program k) i
lock_after lock [] k i next = cc
lock_after lock (j ∷ rest) zero i next = lock_here lock rest j ∙ ap (lock_behind lock) (same_Some j i next)
  where
    lock_here : (lock : Option ℕ) (rest : List Instruction) (j : Instruction) → lock_before lock (j ∷ rest) 1 ≡ lock_behind lock j
    lock_here lock [] j = refl
    lock_here lock (k ∷ rest) j = refl
lock_after lock (j ∷ rest) (suc k) i next =
    let n : suc k + 1 ≡ suc (k + 1) = omega arith in
    ap (lock_before lock (j ∷ rest)) n ∙ lock_after (lock_behind lock j) rest k i next

-- its lock is the one that its program has at its place, and what is left of the program keeps the rules of locks from it on
pub record Follows (d : Declared) (loopers : List Looper) (m : ℕ) (a : App) : Type 0 where
  pub lock : Option ℕ
  pub placed : lock ≡ lock_before None (app_program d m) a.place.step
  pub has : HasLock loopers m lock
  pub keeps : is_rest_of_app d lock (drop a.place.step (app_program d m)) ≡ true

-- who has a lock is an application that is there
abbrev pub IsKnown : Declared → Looper → Type 0
IsKnown d l = (m : ℕ) → is_locked_by m l ≡ true → m < length d.apps

pub record AreLocked (d : Declared) (loopers : List Looper) (apps : List App) : Type 0 where
  pub follows : Each (Follows d loopers) apps
  pub known : Each (λ w l. IsKnown d l) loopers

-- ---- changes of loopers that leave their locks

pub has_kept : (loopers : List Looper) (w m : ℕ) (f : Looper → Looper) (lock : Option ℕ) → ((l : Looper) → slice_get loopers w ≡ Some l → is_locked_by m (f l) ≡ is_locked_by m l) → HasLock loopers m lock → HasLock (at loopers w f) m lock
has_kept loopers w m f lock same h = record {
  inside = subst (λ n. HasPlace n lock) (sym (length_at loopers w f)) h.inside;
  alone = each_kept (λ u l. is_locked_by m l ≡ is_number u lock) loopers w f (λ l read e. same l read ∙ e) h.alone;
}

pub locks_kept : (d : Declared) (loopers : List Looper) (apps : List App) (w : ℕ) (f : Looper → Looper) → ((m : ℕ) (l : Looper) → slice_get loopers w ≡ Some l → is_locked_by m (f l) ≡ is_locked_by m l) → AreLocked d loopers apps → AreLocked d (at loopers w f) apps
locks_kept d loopers apps w f same h = record {
  follows = λ m a read.
      let old : Follows d loopers m a = h.follows m a read in
      record { lock = old.lock; placed = old.placed; has = has_kept loopers w m f old.lock (same m) old.has; keeps = old.keeps };
  known = each_kept (λ u l. IsKnown d l) loopers w f (λ l read known m e. known m (sym (same m l read) ∙ e)) h.known;
}

-- ---- changes of applications that leave their places

pub cells_kept : (d : Declared) (loopers : List Looper) (apps : List App) (m : ℕ) (f : App → App) → ((a : App) → (f a).place ≡ a.place) → AreLocked d loopers apps → AreLocked d loopers (at apps m f)
cells_kept d loopers apps m f same h = record {
  follows = each_kept (Follows d loopers) apps m f (λ a read old. record { lock = old.lock; placed = subst (λ (p : Place). old.lock ≡ lock_before None (app_program d m) p.step) (sym (same a)) old.placed; has = old.has; keeps = subst (λ (p : Place). is_rest_of_app d old.lock (drop p.step (app_program d m)) ≡ true) (sym (same a)) old.keeps }) h.follows;
  known = h.known;
}

-- ---- where a program goes on

-- the rules at an instruction
pub record StepKeeps (d : Declared) (lock : Option ℕ) (i : Instruction) (rest : List Instruction) : Type 0 where
  pub here : is_app_step d lock i ≡ true
  pub behind : is_rest_of_app d (lock_behind lock i) rest ≡ true

step_by : (d : Declared) (lock : Option ℕ) (i : Instruction) (rest : List Instruction) → is_rest_of_app d lock (i ∷ rest) ≡ true → StepKeeps d lock i rest
step_by d None i rest h = record { here = and_first (is_app_step d None i) _ h; behind = and_second (is_app_step d None i) _ h }
step_by d (Some w) i rest h = record { here = and_first (is_app_step d (Some w) i) _ h; behind = and_second (is_app_step d (Some w) i) _ h }

pub step_keeps : (d : Declared) (lock : Option ℕ) (program : List Instruction) (k : ℕ) (i : Instruction) → slice_get program k ≡ Some i → is_rest_of_app d lock (drop k program) ≡ true → StepKeeps d lock i (drop (k + 1) program)
step_keeps d lock program k i next h = step_by d lock i (drop (k + 1) program) (sym (ap (is_rest_of_app d lock) (drop_read program k i next)) ∙ h)

-- neither a lock nor its end
abbrev pub is_lockless : Wish → Bool
is_lockless (wish.Lock w) = false
is_lockless wish.Unlock = false
is_lockless (wish.Note word) = true
is_lockless (wish.Post w target message) = true
is_lockless (wish.Send w target message) = true
is_lockless wish.Claim = true
is_lockless (wish.Forward w target) = true
is_lockless (wish.Reply message) = true
is_lockless wish.Flush = true
is_lockless wish.SyncDone = true
is_lockless (wish.Draw command) = true

-- still at the same instruction, or at the next one with the same lock
pub data GoesOn (i : Instruction) (old new : Place) : Type 0 where
  stays : new.step ≡ old.step → GoesOn i old new
  passes : new.step ≡ old.step + 1 → ((lock : Option ℕ) → lock_behind lock i ≡ lock) → GoesOn i old new

by_either : (i : Instruction) (place : Place) (accepted : Bool) (b : Bool) (x y : Wish) → (is_lockless x ≡ true → GoesOn i place (place_after i place accepted x)) → (is_lockless y ≡ true → GoesOn i place (place_after i place accepted y)) → is_lockless (if b then x else y) ≡ true → GoesOn i place (place_after i place accepted (if b then x else y))
by_either i place accepted b x y h k = by_test (λ z. is_lockless z ≡ true → GoesOn i place (place_after i place accepted z)) b x y h k

sent_on : (w : Instruction) (place : Place) (accepted : Bool) → ((lock : Option ℕ) → lock_behind lock w ≡ lock) → GoesOn w place (if accepted then second_part place else next_place place)
sent_on w place true same = stays refl
sent_on w place false same = passes refl same

goes_on : (i : Instruction) (place : Place) (accepted : Bool) (n : ℕ) → is_lockless (wish_at place.part None n i) ≡ true → GoesOn i place (place_after i place accepted (wish_at place.part None n i))
unfolding place_after
goes_on (Note word) place accepted n e = passes refl (λ lock. refl)
goes_on (Post w target draft) place accepted n e = passes refl (λ lock. refl)
goes_on (Send w target draft) place accepted n e = by_either (Send w target draft) place accepted (place.part == 0) (wish.Send w target _) wish.Claim (λ h. sent_on (Send w target draft) place accepted (λ lock. refl)) (λ h. passes refl (λ lock. refl)) e
goes_on (Reply draft) place accepted n e = passes refl (λ lock. refl)
goes_on (Forward w target) place accepted n e = passes refl (λ lock. refl)
goes_on (Lock w) place accepted n e = cc
goes_on Unlock place accepted n e = by_either Unlock place accepted (n == 0) wish.Unlock wish.Flush (λ h. cc) (λ h. stays refl) e
goes_on Flush place accepted n e = passes refl (λ lock. refl)
goes_on Sync place accepted n e = by_either Sync place accepted (place.part == 0) wish.Flush wish.SyncDone (λ h. stays refl) (λ h. passes refl (λ lock. refl)) e
goes_on (Draw c) place accepted n e = by_either (Draw c) place accepted (has_no_room n) wish.Flush (wish.Draw c) (λ h. stays refl) (λ h. passes refl (λ lock. refl)) e

keeps_on : (d : Declared) (lock : Option ℕ) (program : List Instruction) (i : Instruction) (old new : Place) → slice_get program old.step ≡ Some i → GoesOn i old new → is_rest_of_app d lock (drop old.step program) ≡ true → is_rest_of_app d lock (drop new.step program) ≡ true
keeps_on d lock program i old new next (stays same) h = ap (λ k. is_rest_of_app d lock (drop k program)) same ∙ h
keeps_on d lock program i old new next (passes more same) h =
    let behind : is_rest_of_app d (lock_behind lock i) (drop (old.step + 1) program) ≡ true = (step_keeps d lock program old.step i next h).behind in
    ap (λ k. is_rest_of_app d lock (drop k program)) more ∙ ap (λ o. is_rest_of_app d o (drop (old.step + 1) program)) (sym (same lock)) ∙ behind

-- the program has the same lock where it goes on
placed_on : (program : List Instruction) (i : Instruction) (old new : Place) → slice_get program old.step ≡ Some i → GoesOn i old new → lock_before None program new.step ≡ lock_before None program old.step
placed_on program i old new next (stays same) = ap (lock_before None program) same
placed_on program i old new next (passes more same) = ap (lock_before None program) more ∙ lock_after None program old.step i next ∙ same (lock_before None program old.step)

-- an application goes on and keeps the lock that it has
pub gone_on_kept : (d : Declared) (s : State) (loopers : List Looper) (m : ℕ) (accepted : Bool) (x : Wish) (is : AppStands d s m x) → is_lockless x ≡ true → AreLocked d loopers s.apps → AreLocked d loopers (at s.apps m (app_gone_on d m accepted x))
gone_on_kept d s loopers m accepted x is lockless h = record {
  follows = each_kept (Follows d loopers) s.apps m (app_gone_on d m accepted x) (λ a read old.
      let same : is.it ≡ a = same_Some is.it a (sym is.read ∙ read) in
      let program = app_program d m in
      let went : GoesOn is.step is.it.place (place_after is.step is.it.place accepted x) =
      subst (λ y. GoesOn is.step is.it.place (place_after is.step is.it.place accepted y)) is.asked (goes_on is.step is.it.place accepted (buffered s (app m)) (ap is_lockless is.asked ∙ lockless)) in
      let keeps : is_rest_of_app d old.lock (drop is.it.place.step program) ≡ true = subst (λ (b : App). is_rest_of_app d old.lock (drop b.place.step program) ≡ true) (sym same) old.keeps in
      let now : is_rest_of_app d old.lock (drop (place_after is.step is.it.place accepted x).step program) ≡ true = keeps_on d old.lock program is.step is.it.place (place_after is.step is.it.place accepted x) is.next went keeps in
      let placed : old.lock ≡ lock_before None program is.it.place.step = subst (λ (b : App). old.lock ≡ lock_before None program b.place.step) (sym same) old.placed in
      record {
        lock = old.lock;
        placed = subst (λ (b : App). old.lock ≡ lock_before None program (app_gone_on d m accepted x b).place.step) same
            (placed ∙ sym (ap (λ (p : Place). lock_before None program p.step) (gone_to program is.it.place is.step accepted x is.next) ∙ placed_on program is.step is.it.place (place_after is.step is.it.place accepted x) is.next went));
        has = old.has;
        keeps = subst (λ (b : App). is_rest_of_app d old.lock (drop (app_gone_on d m accepted x b).place.step program) ≡ true) same
            (ap (λ (p : Place). is_rest_of_app d old.lock (drop p.step program)) (gone_to program is.it.place is.step accepted x is.next) ∙ now);
      }) h.follows;
  known = h.known;
}

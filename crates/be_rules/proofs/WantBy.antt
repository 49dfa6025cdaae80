-- Two states that are the same where an activity reads want the same of it.
use Rattle.std.proofs.Common.{◌≡◌, ℕ, Bool, true, false, List, Option, Some, None, refl, sym, ap, ◌∙◌}
use Rattle.std.specs.Prelude.{slice_get, option_map, option_and_then, length, if◌then◌else◌}
use Rattle.std.specs.Option.{option_map_or}
use Rattle.be_actor.specs.declared.Instruction.{Instruction}
use Rattle.be_actor.specs.declared.Instruction.TheVariants.{Note, Post, Send, Reply, Forward, Lock, Unlock, Flush, Sync, Draw}
use Rattle.be_actor.specs.Wishes.{wish_at, wish_of}
use Rattle.be_link.specs.Queues.{Buffer}
use Rattle.be_script.specs.Limits.{IsWithinLimits}
use Rattle.be_script.specs.Script.{Declared}
use Rattle.be_machine.specs.Activities.{Activity, runner, app, looper, twin, input, closing}
use Rattle.be_machine.specs.declared.Entry.{Entry}
use Rattle.be_machine.specs.History.{IsLegalHistory, state_after}
use Rattle.be_machine.specs.Program.{locked_by, buffered, app_program, app_wish, lock_of}
use Rattle.be_machine.specs.State.{State, App, Looper}
use Rattle.be_machine.specs.Touched.{SamePart}
use Rattle.be_machine.specs.Touched as part
use Rattle.be_machine.specs.Wants.{Want, asks, uses, looper_want, want_of, notifies, executes}
use Rattle.be_machine.specs.Windows.{width_of}
use Rattle.be_machine.proofs.ProgressLocks.{Follows}
use Rattle.be_machine.proofs.ProgressLocksMet.{IsLockedState}
use Rattle.be_machine.proofs.ProgressAfter.{IsSettled, settled_after}
use Rattle.be_machine.proofs.ReadsDirt.{same_owes}
use Rattle.be_machine.proofs.ReadsLocks.{locked_is}
use Rattle.be_machine.proofs.ReadsLoopers.{looper_wants}
use Rattle.be_rules.proofs.Cut.{IsWhole}
use Rattle.be_rules.proofs.Lawfully.{whole_after}
use Rattle.be_rules.specs.Own.{reads_buffer, step_of, SameOwn}

-- ---- the lock, by program and place

-- the looper that an application owns, without looking at any
pub lock_is : (d : Declared) (s : State) (m : ℕ) (a : App) → IsLockedState d s → slice_get s.apps m ≡ Some a → locked_by s m ≡ lock_of d m a
lock_is d s m a h read =
    let f : Follows d s.loopers m a = h.follows m a read in
    locked_is s.loopers m f.lock f.has ∙ f.placed

-- ---- applications

-- how many commands are in the buffer of this window
abbrev pub count_in : State → Option ℕ → ℕ
count_in s o = option_map_or (λ (b : Buffer). length b.commands) (option_and_then (λ w. slice_get s.buffers w) o) 0

same_count : (s r : State) (o : Option ℕ) → ((w : ℕ) → o ≡ Some w → SamePart s r (part.looper w)) → count_in r o ≡ count_in s o
same_count s r (Some w) same = let there : SamePart s r (part.looper w) = same w refl in ap (λ (o : Option Buffer). option_map_or (λ b. length b.commands) o 0) there.1
same_count s r None same = refl

-- what an application wants, by its part and how full its buffer is
abbrev pub app_want : Declared → ℕ → App → ℕ → Option Want
app_want d m a n = option_map (asks (app m)) (option_map (wish_at a.place.part None n) (step_of d m a))

pub app_want_is : (d : Declared) (s : State) (m : ℕ) (a : App) → IsLockedState d s → slice_get s.apps m ≡ Some a → want_of d s (runner (app m)) ≡ app_want d m a (count_in s (lock_of d m a))
unfolding want_of app_wish wish_of
app_want_is d s m a h read =
    ap (λ o. option_map (asks (app m)) (option_and_then (λ (x : App). option_map (wish_at x.place.part None (buffered s (app m))) (slice_get (app_program d m) x.place.step)) o)) read
    ∙ ap (λ o. app_want d m a (count_in s o)) (lock_is d s m a h read)

-- where the buffer isn't read, any number serves
pub any_count : (m part n k : ℕ) (o : Option Instruction) → reads_buffer o ≡ false → option_map (asks (app m)) (option_map (wish_at part None n) o) ≡ option_map (asks (app m)) (option_map (wish_at part None k) o)
any_count m part n k (Some (Note word)) e = refl
any_count m part n k (Some (Post w target draft)) e = refl
any_count m part n k (Some (Send w target draft)) e = refl
any_count m part n k (Some (Reply draft)) e = refl
any_count m part n k (Some (Forward w target)) e = refl
any_count m part n k (Some (Lock w)) e = refl
any_count m part n k (Some Unlock) e = absurd (cc)
any_count m part n k (Some Flush) e = refl
any_count m part n k (Some Sync) e = refl
any_count m part n k (Some (Draw c)) e = absurd (cc)
any_count m part n k None e = refl

app_by : (d : Declared) (s r : State) (m : ℕ) (a : App) (b : Bool) → reads_buffer (step_of d m a) ≡ b → (b ≡ true → (w : ℕ) → lock_of d m a ≡ Some w → SamePart s r (part.looper w)) → app_want d m a (count_in r (lock_of d m a)) ≡ app_want d m a (count_in s (lock_of d m a))
app_by d s r m a true e same = ap (app_want d m a) (same_count s r (lock_of d m a) (same refl))
app_by d s r m a false e same = any_count m a.place.part (count_in r (lock_of d m a)) (count_in s (lock_of d m a)) (step_of d m a) e

no_app : (d : Declared) (s : State) (m : ℕ) → slice_get s.apps m ≡ None → want_of d s (runner (app m)) ≡ None
unfolding want_of app_wish
no_app d s m e = ap (λ o. option_map (asks (app m)) (option_and_then (λ (x : App). wish_of (app_program d m) x.place None (buffered s (app m))) o)) e

by_app : (d : Declared) (s r : State) (m : ℕ) (o : Option App) → IsLockedState d s → IsLockedState d r → slice_get s.apps m ≡ o → SameOwn d s r (runner (app m)) → want_of d r (runner (app m)) ≡ want_of d s (runner (app m))
by_app d s r m (Some a) one two read (own, full) = app_want_is d r m a two (own ∙ read) ∙ app_by d s r m a (reads_buffer (step_of d m a)) refl (λ yes w. full a w read yes) ∙ sym (app_want_is d s m a one read)
by_app d s r m None one two read (own, full) = no_app d r m (own ∙ read) ∙ sym (no_app d s m read)

-- ---- loopers

no_looper : (d : Declared) (s : State) (w : ℕ) → slice_get s.loopers w ≡ None → want_of d s (runner (looper w)) ≡ None
unfolding want_of
no_looper d s w e = ap (option_map (looper_want d s w)) e

some_looper : (d : Declared) (s : State) (w : ℕ) (l : Looper) → slice_get s.loopers w ≡ Some l → want_of d s (runner (looper w)) ≡ Some (looper_want d s w l)
unfolding want_of
some_looper d s w l e = ap (option_map (looper_want d s w)) e

by_looper : (d : Declared) (s r : State) (w : ℕ) (o : Option Looper) → slice_get s.loopers w ≡ o → SamePart s r (part.looper w) → want_of d r (runner (looper w)) ≡ want_of d s (runner (looper w))
by_looper d s r w (Some l) read same = looper_wants d s r w (looper_want d s w l) same (some_looper d s w l read) ∙ sym (some_looper d s w l read)
by_looper d s r w None read same = no_looper d r w (same.0 ∙ read) ∙ sym (no_looper d s w read)

-- ---- every activity

-- two settled states of screens as wide
pub record BothSettled (d : Declared) (s r : State) : Type 0 where
  pub one : IsLockedState d s
  pub two : IsLockedState d r
  pub width : width_of r ≡ width_of s

pub want_by : (d : Declared) (s r : State) (who : Activity) → BothSettled d s r → SameOwn d s r who → want_of d r who ≡ want_of d s who
unfolding want_of
want_by d s r (runner (app m)) both same = by_app d s r m (slice_get s.apps m) both.one both.two refl same
want_by d s r (runner (looper w)) both same = by_looper d s r w (slice_get s.loopers w) refl same
want_by d s r (twin w) both same = ap (λ b. Some (if b then notifies w else executes w)) (same_owes s r w both.width same)
want_by d s r input both same = ap (λ n. option_map uses (slice_get d.input n)) same.0
want_by d s r closing both same = refl

pub both_settled : (d : Declared) (g h : List Entry) → IsWithinLimits d → IsLegalHistory d g → IsLegalHistory d h → BothSettled d (state_after d g) (state_after d h)
both_settled d g h limits one two =
    let a : IsWhole d (state_after d g) = whole_after d g limits one in
    let b : IsWhole d (state_after d h) = whole_after d h limits two in
    let x : IsSettled d (state_after d g) = settled_after d g limits one in
    let y : IsSettled d (state_after d h) = settled_after d h limits two in
    record { one = x.locks; two = y.locks; width = b.parts.width ∙ sym a.parts.width }

-- after two legal histories of one script
pub want_after : (d : Declared) (g h : List Entry) (who : Activity) → IsWithinLimits d → IsLegalHistory d g → IsLegalHistory d h → SameOwn d (state_after d g) (state_after d h) who → want_of d (state_after d h) who ≡ want_of d (state_after d g) who
want_after d g h who limits one two same = want_by d (state_after d g) (state_after d h) who (both_settled d g h limits one two) same

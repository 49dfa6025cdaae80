-- The parts that an activity's want names are the script's.
use Rattle.std.proofs.Common.{◌≡◌, ℕ, zero, suc, ◌+◌, ◌<◌, ◌≤◌, Bool, true, false, List, [], ◌∷◌, ◌++◌, length, Option, Some, None, inl, inr, refl, sym, ap, subst, arith}
use Rattle.std.specs.Prelude.{◌==◌, ◌&&◌, nat_lt, drop, slice_get, option_map, option_and_then, if◌then◌else◌}
use Rattle.std.proofs.lemmas.Bool.Decides.{nat_tests}
use Rattle.std.proofs.lemmas.List.Quantifiers.{position-Some}
use Rattle.std.proofs.lemmas.Option.{same_Some}
use Rattle.be_facts.proofs.Truths.{and_first}
use Rattle.be_facts.proofs.Numbers.{nat_lt_tells}
use Rattle.be_facts.proofs.Lists.{all_at}
use Rattle.be_actor.specs.declared.Instruction.{Instruction}
use Rattle.be_actor.specs.declared.Instruction.TheVariants.{Note, Post, Send, Reply, Forward, Lock, Unlock, Flush, Sync, Draw}
use Rattle.be_actor.specs.declared.Place.{Place}
use Rattle.be_actor.specs.declared.Wish.{Wish}
use Rattle.be_actor.specs.declared.Wish.TheVariants as wish
use Rattle.be_actor.specs.Wishes.{wish_at, wish_of, has_no_room}
use Rattle.be_command.specs.Effects.{Effect, at_view, changes, ends_update}
use Rattle.be_geom.specs.declared.change.Change.{Change}
use Rattle.be_geom.specs.declared.change.Change.TheVariants.{Show, Hide, MoveTo, MoveBy, ResizeTo, Activate, Behind, Focus, Close}
use Rattle.be_looper.specs.Duties.{Hand, waiter}
use Rattle.be_message.specs.Messages.{Message}
use Rattle.be_port.specs.declared.Duty.{Duty}
use Rattle.be_port.specs.declared.Duty.TheVariants.{Owed, Done, Free}
use Rattle.be_script.specs.Limits.{IsWithinLimits, is_event}
use Rattle.be_script.specs.Programs.{is_app_step, is_body_step, is_draw_step}
use Rattle.be_script.specs.Script.{Declared}
use Rattle.be_machine.specs.Activities as by
use Rattle.be_machine.specs.Activities.{Activity, Runner, runner, twin, input, closing}
use Rattle.be_machine.specs.Program.{app_program, buffered, is_locked_by, letter_program, update_program}
use Rattle.be_machine.specs.State.{State, App, Looper, free, locked, handling, Stage, in_body, beginning, in_update, ending}
use Rattle.be_machine.specs.Touched.{Part, desk, cell, looper, port, link, pane, own_part}
use Rattle.be_machine.specs.Update.{owes_notice}
use Rattle.be_machine.specs.Wants.{Want, asks, flushes, draws_end, ends, notifies, executes, uses, stops, asks_or, end_want, draw_end_want, stage_want, looper_want, want_of}
use Rattle.be_machine.proofs.Histories.{InRange}
use Rattle.be_machine.proofs.ProgressAfter.{IsSettled}
use Rattle.be_machine.proofs.ProgressCases.{by_outcome}
use Rattle.be_machine.proofs.ProgressLocks.{Follows, StepKeeps, step_keeps}
use Rattle.be_machine.proofs.ProgressStands.{AppStands, app_stands, draw_step_is}
use Rattle.be_machine.proofs.Programs.{body_steps, update_steps}
use Rattle.be_machine.proofs.Waiting.{one_where, owes, owed_by_looper, owed_in, due_to, total}
use Rattle.be_rules.specs.Places.{IsPart}
use Rattle.be_rules.proofs.Among.{alone, among_both, maybe_part}
use Rattle.be_rules.proofs.Events.{event_named}
use Rattle.be_rules.proofs.ListLemmas.{there_below}
use Rattle.be_rules.specs.Sure.{seen_in, waiter_in, maybe, owned_window, who_waits, parts_for, port_for, effect_parts, parts_by, IsAmong}

-- ---- the window of an instruction

abbrev goes_to : Instruction → Option ℕ
goes_to (Note word) = None
goes_to (Post v target draft) = Some v
goes_to (Send v target draft) = Some v
goes_to (Reply draft) = None
goes_to (Forward v target) = Some v
goes_to (Lock v) = Some v
goes_to Unlock = None
goes_to Flush = None
goes_to Sync = None
goes_to (Draw c) = None

-- is one of the script's
abbrev IsKnown : Declared → Instruction → Type 0
IsKnown d i = (v : ℕ) → goes_to i ≡ Some v → v < length d.windows

below : (d : Declared) (v : ℕ) (b : Bool) → (nat_lt v (length d.windows) && b) ≡ true → (w : ℕ) → Some v ≡ Some w → w < length d.windows
below d v b h w e = subst (λ n. n < length d.windows) (same_Some v w e) (nat_lt_tells v (length d.windows) (and_first (nat_lt v (length d.windows)) b h))

within : (d : Declared) (v : ℕ) (a b : Bool) → ((nat_lt v (length d.windows) && a) && b) ≡ true → (w : ℕ) → Some v ≡ Some w → w < length d.windows
within d v a b h = below d v a (and_first (nat_lt v (length d.windows) && a) b h)

nowhere : (d : Declared) (w : ℕ) → None ≡ Some w → w < length d.windows
nowhere d w e = absurd (cc)

app_known : (d : Declared) (lock : Option ℕ) (i : Instruction) → is_app_step d lock i ≡ true → IsKnown d i
app_known d lock (Note word) h = nowhere d
app_known d None (Post v target draft) h = within d v _ _ h
app_known d (Some w) (Post v target draft) h = within d v _ _ h
app_known d None (Send v target draft) h = within d v _ _ h
app_known d (Some w) (Send v target draft) h = absurd (cc)
app_known d lock (Reply draft) h = nowhere d
app_known d None (Forward v target) h = absurd (cc)
app_known d (Some w) (Forward v target) h = absurd (cc)
app_known d None (Lock v) h = λ w e. subst (λ n. n < length d.windows) (same_Some v w e) (nat_lt_tells v (length d.windows) h)
app_known d (Some w) (Lock v) h = absurd (cc)
app_known d lock Unlock h = nowhere d
app_known d lock Flush h = nowhere d
app_known d lock Sync h = nowhere d
app_known d lock (Draw c) h = nowhere d

body_known : (d : Declared) (w : ℕ) (i : Instruction) → is_body_step d w i ≡ true → IsKnown d i
body_known d w (Note word) h = nowhere d
body_known d w (Post v target draft) h = within d v _ _ h
body_known d w (Send v target draft) h = absurd (cc)
body_known d w (Reply draft) h = nowhere d
body_known d w (Forward v target) h = below d v _ h
body_known d w (Lock v) h = absurd (cc)
body_known d w Unlock h = nowhere d
body_known d w Flush h = nowhere d
body_known d w Sync h = nowhere d
body_known d w (Draw c) h = nowhere d

-- ---- parts

module _ (d : Declared) (s : State) (h : IsSettled d s) (limits : IsWithinLimits d) where
  -- who has a lock has one of a window that is there
  owned_there : (who : Runner) → InRange (length d.apps) (length d.windows) (runner who) → (n : ℕ) → owned_window (seen_in s) who ≡ Some n → n < length d.windows
  owned_there (by.app m) range n e =
      let lt : n < length s.loopers = (position-Some (is_locked_by m) s.loopers n free e).0 in
      let same : length s.loopers ≡ length d.windows = h.parts.loopers in
      omega (arith, lt, same)
  owned_there (by.looper w) range n e = subst (λ k. k < length d.windows) (same_Some w n e) range

  module _ (waits : (w n : ℕ) → (seen_in s).waits w ≡ Some n → n < length d.apps) (p : Part) where
    reply_there : (who : Runner) → IsAmong p (maybe cell (who_waits (seen_in s) who)) → IsPart d p
    reply_there (by.app m) k = absurd k
    reply_there (by.looper w) k = maybe_part d p cell ((seen_in s).waits w) (waits w) k

    module _ (who : Runner) (range : InRange (length d.apps) (length d.windows) (runner who)) where
      abbrev Named : Wish → Type 0
      Named x = IsAmong p (parts_for (seen_in s) who x) → IsPart d p

      owned : (of : ℕ → Part) → ((n : ℕ) → n < length d.windows → IsPart d (of n)) → IsAmong p (maybe of (owned_window (seen_in s) who)) → IsPart d p
      owned of is k = maybe_part d p of (owned_window (seen_in s) who) (λ n e. is n (owned_there who range n e)) k

      flush_named : Named wish.Flush
      flush_named k = among_both d p (maybe looper (owned_window (seen_in s) who)) (maybe link (owned_window (seen_in s) who)) (owned looper (λ n lt. lt)) (owned link (λ n lt. lt)) k

      wish_named : (at : ℕ) (now : Option Message) (count : ℕ) (i : Instruction) → IsKnown d i → Named (wish_at at now count i)
      wish_named at now count (Note word) known k = absurd k
      wish_named at now count (Post v target draft) known k = alone d p (port v) (known v refl) k
      wish_named at now count (Send v target draft) known k = by_outcome Named (at == 0) (wish.Send v target _) wish.Claim (λ e. alone d p (port v) (known v refl)) (λ e z. absurd z) k
      wish_named at now count (Reply draft) known k = reply_there who k
      wish_named at now count (Forward v target) known k = alone d p (port v) (known v refl) k
      wish_named at now count (Lock v) known k = alone d p (looper v) (known v refl) k
      wish_named at now count Unlock known k = by_outcome Named (count == 0) wish.Unlock wish.Flush (λ e. owned looper (λ n lt. lt)) (λ e. flush_named) k
      wish_named at now count Flush known k = flush_named k
      wish_named at now count Sync known k = by_outcome Named (at == 0) wish.Flush wish.SyncDone (λ e. flush_named) (λ e. owned link (λ n lt. lt)) k
      wish_named at now count (Draw c) known k = by_outcome Named (has_no_room count) wish.Flush (wish.Draw c) (λ e. flush_named) (λ e. owned looper (λ n lt. lt)) k

    abbrev AreParts : Want → Type 0
    AreParts want = IsAmong p (parts_by (seen_in s) want) → IsPart d p

    own_there : (who : Runner) → InRange (length d.apps) (length d.windows) (runner who) → IsPart d (own_part who)
    own_there (by.app m) lt = lt
    own_there (by.looper w) lt = lt

    asks_named : (who : Runner) → InRange (length d.apps) (length d.windows) (runner who) → (at : ℕ) (now : Option Message) (count : ℕ) (i : Instruction) → IsKnown d i → AreParts (asks who (wish_at at now count i))
    asks_named who range at now count i known (inl e) = subst (IsPart d) (sym e) (own_there who range)
    asks_named who range at now count i known (inr k) = wish_named who range at now count i known k

    -- ---- by the activity

    app_named : (m : ℕ) → m < length d.apps → (x : Wish) → want_of d s (runner (by.app m)) ≡ Some (asks (by.app m) x) → AreParts (asks (by.app m) x)
    app_named m lt x wanted =
        let a : AppStands d s m x = app_stands d s m x wanted in
        let f : Follows d s.loopers m a.it = h.locks.follows m a.it a.read in
        let keeps : StepKeeps d f.lock a.step (drop (a.it.place.step + 1) (app_program d m)) = step_keeps d f.lock (app_program d m) a.it.place.step a.step a.next f.keeps in
        subst (λ z. AreParts (asks (by.app m) z)) a.asked (asks_named (by.app m) lt a.it.place.part None (buffered s (by.app m)) a.step (app_known d f.lock a.step keeps.here))

    module _ (w : ℕ) (lt : w < length d.windows) where
      one : (x : Part) → IsPart d x → (xs : List Part) → (IsAmong p xs → IsPart d p) → IsAmong p (x ∷ xs) → IsPart d p
      one x is xs rest (inl e) = subst (IsPart d) (sym e) is
      one x is xs rest (inr k) = rest k

      none : IsAmong p [] → IsPart d p
      none k = absurd k

      flushes_named : AreParts (flushes w)
      flushes_named k = one (looper w) lt (link w ∷ []) (one (link w) lt [] none) k

      ends_named : AreParts (ends w)
      ends_named k = one (looper w) lt (maybe cell ((seen_in s).waits w)) (maybe_part d p cell ((seen_in s).waits w) (waits w)) k

      end_named : AreParts (end_want s w)
      end_named = by_outcome AreParts (buffered s (by.looper w) == 0) (ends w) (flushes w) (λ e. ends_named) (λ e. flushes_named)

      draw_end_named : AreParts (draw_end_want s w)
      draw_end_named = by_outcome AreParts (has_no_room (buffered s (by.looper w))) (flushes w) (draws_end w) (λ e. flushes_named) (λ e. one (looper w) lt [] none)

      steps_named : (hand : Hand Message) (program : List Instruction) (place : Place) (last : Want) (o : Option Instruction) → slice_get program place.step ≡ o → ((i : Instruction) → slice_get program place.step ≡ Some i → is_body_step d w i ≡ true) → AreParts last → AreParts (asks_or (by.looper w) (option_map (wish_at place.part (Some hand.letter.body) (buffered s (by.looper w))) o) last)
      steps_named hand program place last (Some i) next allowed more = asks_named (by.looper w) lt place.part (Some hand.letter.body) (buffered s (by.looper w)) i (body_known d w i (allowed i next))
      steps_named hand program place last None next allowed more = more

      stage_named : (hand : Hand Message) (stage : Stage) → AreParts (stage_want d s w hand stage)
      unfolding wish_of
      stage_named hand (in_body place) =
          let program = letter_program d w hand in
          steps_named hand program place (end_want s w) (slice_get program place.step) refl (λ i next. all_at (is_body_step d w) program place.step i (body_steps d w hand.letter.body.what hand.route limits) next) end_named
      stage_named hand beginning = one (looper w) lt (link w ∷ pane w ∷ []) (one (link w) lt (pane w ∷ []) (one (pane w) lt [] none))
      stage_named hand (in_update views place) =
          let program = update_program d w views in
          steps_named hand program place (draw_end_want s w) (slice_get program place.step) refl (λ i next. draw_step_is d w i (all_at (is_draw_step d w) program place.step i (update_steps d w views limits) next)) draw_end_named
      stage_named hand ending = end_named

      looper_named : (l : Looper) → AreParts (looper_want d s w l)
      looper_named (handling hand stage) = stage_named hand stage
      looper_named (locked m) = one (looper w) lt (port w ∷ []) (one (port w) lt [] none)
      looper_named free = one (looper w) lt (port w ∷ []) (one (port w) lt [] none)

      port_named : (change : Change) → IsAmong p (port_for w change) → IsPart d p
      port_named Close k = one (port w) lt [] none k
      port_named Show k = absurd k
      port_named Hide k = absurd k
      port_named (MoveTo corner) k = absurd k
      port_named (MoveBy dx dy) k = absurd k
      port_named (ResizeTo width height) k = absurd k
      port_named Activate k = absurd k
      port_named (Behind front) k = absurd k
      port_named (Focus view) k = absurd k

      effect_named : (o : Option Effect) → IsAmong p (effect_parts w o) → IsPart d p
      effect_named (Some (at_view v deed)) k = one (pane w) lt [] none k
      effect_named (Some (changes change)) k = one desk tt (port_for w change ++ pane w ∷ []) (among_both d p (port_for w change) (pane w ∷ []) (port_named change) (one (pane w) lt [] none)) k
      effect_named (Some ends_update) k = one (pane w) lt [] none k
      effect_named None k = absurd k

      twin_named : (b : Bool) → AreParts (if b then notifies w else executes w)
      twin_named true = one (pane w) lt (port w ∷ []) (one (port w) lt [] none)
      twin_named false = one (link w) lt (effect_parts w ((seen_in s).oldest w)) (effect_named ((seen_in s).oldest w))

-- ---- who waits

same_one : (n : ℕ) → owes n (Owed n) ≡ 1
same_one n = let is : (n == n) ≡ true = grind (arith, nat_tests) in ap one_where is

owed_here : (n : ℕ) (duty : Duty) → waiter duty ≡ Some n → owes n duty ≡ 1
owed_here n (Owed m) e = subst (λ k. owes k (Owed m) ≡ 1) (same_Some m n e) (same_one m)
owed_here n Done e = absurd (cc)
owed_here n Free e = absurd (cc)

looper_owes : (n : ℕ) (l : Looper) → waiter_in l ≡ Some n → owed_by_looper n l ≡ 1
looper_owes n (handling hand stage) e = owed_here n hand.duty e
looper_owes n (locked m) e = absurd (cc)
looper_owes n free e = absurd (cc)

no_less : (f : Looper → ℕ) (ls : List Looper) (w : ℕ) (l : Looper) → slice_get ls w ≡ Some l → f l ≤ total f ls
no_less f [] w l e = absurd (cc)
no_less f (x ∷ xs) zero l e = let is : x ≡ l = same_Some x l e in let same : f x ≡ f l = ap f is in omega (arith, same)
no_less f (x ∷ xs) (suc w) l e = let rest : f l ≤ total f xs = no_less f xs w l e in omega (arith, rest)

due_there : (apps : List App) (n : ℕ) (o : Option App) → slice_get apps n ≡ o → 1 ≤ due_to o → n < length apps
due_there apps n (Some a) read some = there_below apps n a read
due_there apps n None read some = absurd (omega arith)

waits_by : (d : Declared) (s : State) → IsSettled d s → (w n : ℕ) (o : Option Looper) → slice_get s.loopers w ≡ o → option_and_then waiter_in o ≡ Some n → n < length d.apps
waits_by d s h w n (Some l) read e =
    let here : owed_by_looper n l ≡ 1 = looper_owes n l e in
    let some : owed_by_looper n l ≤ total (owed_by_looper n) s.loopers = no_less (owed_by_looper n) s.loopers w l read in
    let sum : owed_in s.ports s.loopers n ≡ due_to (slice_get s.apps n) = h.waits.owed n in
    let inside : n < length s.apps = due_there s.apps n (slice_get s.apps n) refl (omega (arith, here, some, sum)) in
    let same : length s.apps ≡ length d.apps = h.parts.apps in
    omega (arith, inside, same)
waits_by d s h w n None read e = absurd (cc)

-- ---- all together

some_map : {X Y : Type 0} (f : X → Y) (o : Option X) (y : Y) (P : Y → Type 0) → option_map f o ≡ Some y → ((x : X) → o ≡ Some x → P (f x)) → P y
some_map f (Some x) y P e h = subst P (same_Some (f x) y e) (h x refl)
some_map f None y P e h = absurd (cc)

-- a part that the want of an activity names is the script's
pub parts_named : (d : Declared) (s : State) → IsSettled d s → IsWithinLimits d → (who : Activity) (want : Want) → InRange (length d.apps) (length d.windows) who → want_of d s who ≡ Some want → (p : Part) → IsAmong p (parts_by (seen_in s) want) → IsPart d p
unfolding want_of
parts_named d s h limits (runner (by.app m)) want lt wanted p =
    some_map (asks (by.app m)) _ want (λ z. AreParts d s h limits (λ w n. waits_by d s h w n (slice_get s.loopers w) refl) p z) wanted (λ x is. app_named d s h limits (λ w n. waits_by d s h w n (slice_get s.loopers w) refl) p m lt x (ap (option_map (asks (by.app m))) is))
parts_named d s h limits (runner (by.looper w)) want lt wanted p =
    some_map (looper_want d s w) (slice_get s.loopers w) want (λ z. AreParts d s h limits (λ w n. waits_by d s h w n (slice_get s.loopers w) refl) p z) wanted (λ l is. looper_named d s h limits (λ w n. waits_by d s h w n (slice_get s.loopers w) refl) p w lt l)
parts_named d s h limits (twin w) want lt wanted p =
    subst (λ z. AreParts d s h limits (λ w n. waits_by d s h w n (slice_get s.loopers w) refl) p z) (same_Some _ want wanted) (twin_named d s h limits (λ w n. waits_by d s h w n (slice_get s.loopers w) refl) p w lt (owes_notice s w))
parts_named d s h limits input want lt wanted p =
    some_map uses (slice_get d.input s.events) want (λ z. IsAmong p (parts_by (seen_in s) z) → IsPart d p) wanted (λ it is. event_named d s h.parts p it (all_at (is_event d) d.input s.events it limits.input is))
parts_named d s h limits closing want lt wanted p = subst (λ z. IsAmong p (parts_by (seen_in s) z) → IsPart d p) (same_Some stops want wanted) (λ k. absurd k)

-- What an application wants, by its cell, and by how full its buffer is where its instruction depends on that.
use Rattle.std.proofs.Common.{◌≡◌, ℕ, ◌<◌, true, false, List, length, Option, Some, None, ◌⊎◌, inl, inr, refl, sym, ap, ◌∙◌, subst}
use Rattle.std.specs.Prelude.{slice_get, option_map, IfSome}
use Rattle.std.specs.Option.{option_map_or}
use Rattle.std.proofs.lemmas.Option.{same_Some}
use Rattle.be_actor.specs.declared.Instruction.{Instruction}
use Rattle.be_actor.specs.declared.Place.{Place}
use Rattle.be_actor.specs.Wishes.{wish_at}
use Rattle.be_asking.proofs.InHand.{cell_read, buffer_read, is_held, not_held}
use Rattle.be_asking.specs.Counts.{IsCount, IsLacking}
use Rattle.be_asking.specs.declared.activity.Runner.TheVariants as by
use Rattle.be_asking.specs.declared.want.Request.{Request}
use Rattle.be_asking.specs.declared.want.Want.TheVariants as want
use Rattle.be_asking.specs.declared.want.Wanted.TheVariants.{Wants, Nothing}
use Rattle.be_asking.specs.Wants.{IsWanted, wish_in}
use Rattle.be_hall.specs.Hands.{meant, part_at}
use Rattle.be_hall.specs.Machine.{Fits, SomeFits}
use Rattle.be_link.specs.Queues.{Buffer}
use Rattle.be_machine.proofs.ProgressAfter.{IsSettled, settled_after}
use Rattle.be_machine.proofs.ProgressLocks.{Follows, HasPlace}
use Rattle.be_machine.specs.Activities.{runner, app, activity_of}
use Rattle.be_machine.specs.Program.{app_program, lock_before, lock_of}
use Rattle.be_machine.specs.State.{State, App}
use Rattle.be_machine.specs.Touched as part
use Rattle.be_machine.specs.Wants.{asks, want_of}
use Rattle.be_message.specs.Messages.{Message}
use Rattle.be_parts.specs.declared.part.Part.{Part}
use Rattle.be_parts.specs.Parts.{meaning_of}
use Rattle.be_rules.proofs.Lawfully.{state, back, whole}
use Rattle.be_rules.proofs.NeedsLooper.{needs_looper}
use Rattle.be_rules.proofs.WantBy.{any_count, app_want_is, count_in}
use Rattle.be_rules.specs.Found.{NeedsPart, OwnHeld}
use Rattle.be_rules.specs.Own.{reads_buffer, step_of}
use Rattle.be_rules.specs.Places.{place_of}
use Rattle.be_rules.specs.Rules.{IsSound, world_machine}
use Rattle.be_rules.specs.Slices.{Slice, app_in, buffer_in, state_of}
use Rattle.be_script.specs.Script.{Declared}

-- ---- the parts in hand

app_there : (o : Option App) (place : Place) → option_map (λ a. a.place) o ≡ Some place → (a : App) × (o ≡ Some a) × (a.place ≡ place)
app_there (Some a) place e = (a, refl, same_Some a.place place e)
app_there None place e = absurd (cc)

pub inside_by : {n : ℕ} (o : Option ℕ) {p : Option ℕ} → ((w : ℕ) → p ≡ Some w → w < n) → o ≡ p → IfSome o (λ w. w < n)
inside_by (Some w) known e = known w (sym e)
inside_by None known e = tt

-- how full the buffer is, where the instruction depends on it
abbrev pub Counted : Declared → List (ℕ × Part) → Option ℕ → Instruction → ℕ → Type 0
Counted d parts lock i n = (reads_buffer (Some i) ≡ false) ⊎ IsCount d parts lock n

module _ (d : Declared) (parts : List (ℕ × Part)) (m : ℕ) (y : Part) (place : Place) (lt : m < length d.apps) (at : part_at parts (place_of d (part.cell m)) ≡ Some y)
    (seen : option_map (λ (a : App). a.place) (app_in (meaning_of y)) ≡ Some place) where
  -- in one sound list
  module _ (all : List Slice) (sound : IsSound d all) (fits : Fits all (meant meaning_of parts)) where
    abbrev s : State
    s = state d all sound

    abbrev mine : (a : App) × (app_in (meaning_of y) ≡ Some a) × (a.place ≡ place)
    mine = app_there (app_in (meaning_of y)) place seen

    abbrev a : App
    a = mine.0

    read : slice_get s.apps m ≡ Some a
    read = cell_read d parts all sound fits y m lt at ∙ mine.1

    settled : IsSettled d s
    settled = settled_after d sound.history sound.limits sound.legal

    here : lock_of d m a ≡ lock_before None (app_program d m) place.step
    here = ap (λ (p : Place). lock_before None (app_program d m) p.step) mine.2

    step : (o : Option Instruction) → slice_get (app_program d m) place.step ≡ o → step_of d m a ≡ o
    step o e = ap (λ (p : Place). slice_get (app_program d m) p.step) mine.2 ∙ e

    -- its lock is a window's
    inside : (w : ℕ) → lock_before None (app_program d m) place.step ≡ Some w → w < length d.windows
    inside w e =
        let f : Follows d s.loopers m a = settled.locks.follows m a read in
        let is : f.lock ≡ Some w = f.placed ∙ here ∙ e in
        let w_in : HasPlace (length s.loopers) (Some w) = subst (HasPlace (length s.loopers)) is f.has.inside in
        subst (λ n. w < n) (whole d all sound).parts.loopers w_in

    count_by : (o : Option ℕ) (n : ℕ) → ((w : ℕ) → o ≡ Some w → w < length d.windows) → IsCount d parts o n → count_in s o ≡ n
    count_by (Some w) n known (z, there, full) = counted (buffer_in (meaning_of z)) full (buffer_read d parts all sound fits z w (known w refl) there)
      where
        counted : (b : Option Buffer) → option_map (λ (b : Buffer). length b.commands) b ≡ Some n → slice_get s.buffers w ≡ b → count_in s (Some w) ≡ n
        counted (Some b) e is = ap (λ (o : Option Buffer). option_map_or (λ b. length b.commands) o 0) is ∙ same_Some (length b.commands) n e
        counted None e is = absurd (cc)
    count_by None n known is = sym is

    wish_by : (i : Instruction) (n : ℕ) → Counted d parts (lock_before None (app_program d m) place.step) i n → option_map (asks (app m)) (option_map (wish_at a.place.part None (count_in s (lock_of d m a))) (Some i)) ≡ Some (asks (app m) (wish_at place.part None n i))
    wish_by i n (inl quiet) = any_count m a.place.part (count_in s (lock_of d m a)) n (Some i) quiet ∙ ap (λ (p : Place). Some (asks (app m) (wish_at p.part None n i))) mine.2
    wish_by i n (inr count) =
        ap (λ k. Some (asks (app m) (wish_at a.place.part None k i))) (ap (count_in s) here ∙ count_by (lock_before None (app_program d m) place.step) n inside count)
        ∙ ap (λ (p : Place). Some (asks (app m) (wish_at p.part None n i))) mine.2

    wants_it : (i : Instruction) (n : ℕ) → slice_get (app_program d m) place.step ≡ Some i → Counted d parts (lock_before None (app_program d m) place.step) i n → want_of d (state_of d all) (runner (app m)) ≡ Some (asks (app m) (wish_at place.part None n i))
    wants_it i n next count =
        ap (λ t. want_of d t (runner (app m))) (back d all sound)
        ∙ app_want_is d s m a settled.locks read
        ∙ ap (λ o. option_map (asks (app m)) (option_map (wish_at a.place.part None (count_in s (lock_of d m a))) o)) (step (Some i) next)
        ∙ wish_by i n count

    wants_nothing : slice_get (app_program d m) place.step ≡ None → want_of d (state_of d all) (runner (app m)) ≡ None
    wants_nothing past =
        ap (λ t. want_of d t (runner (app m))) (back d all sound)
        ∙ app_want_is d s m a settled.locks read
        ∙ ap (λ o. option_map (asks (app m)) (option_map (wish_at a.place.part None (count_in s (lock_of d m a))) o)) (step None past)

    same : (b : App) → slice_get (state_of d all).apps m ≡ Some b → a ≡ b
    same b there = same_Some a b (sym read ∙ ap (λ (t : State). slice_get t.apps m) (sym (back d all sound)) ∙ there)

    lock_held : (w n : ℕ) (o : Option ℕ) → IsCount d parts o n → o ≡ Some w → part.Part → (z : Part) × (part_at parts (place_of d (part.looper w)) ≡ Some z)
    lock_held w n (Some v) (z, there, full) e x = (z, ap (λ u. part_at parts (place_of d (part.looper u))) (sym (same_Some v w e)) ∙ there)
    lock_held w n None is e x = absurd (cc)

    own_by : (o : Option Instruction) (n : ℕ) → slice_get (app_program d m) place.step ≡ o → (reads_buffer o ≡ false) ⊎ IsCount d parts (lock_before None (app_program d m) place.step) n → OwnHeld d (meant meaning_of parts) all (runner (app m))
    own_by o n next (inl quiet) = (
      is_held parts (place_of d (part.cell m)) y at,
      λ b w there full lock.
          let never : true ≡ false = sym full ∙ ap (λ (x : App). reads_buffer (step_of d m x)) (sym (same b there)) ∙ ap reads_buffer (step o next) ∙ quiet in absurd (cc),
    )
    own_by o n next (inr count) = (
      is_held parts (place_of d (part.cell m)) y at,
      λ b w there full lock.
          let z = lock_held w n (lock_before None (app_program d m) place.step) count (sym here ∙ ap (λ (x : App). lock_of d m x) (same b there) ∙ lock) part.desk in
          is_held parts (place_of d (part.looper w)) z.0 z.1,
    )

  -- ---- in every one

  pub app_asks : (number : ℕ) (i : Instruction) (n : ℕ) (r : Request) → slice_get (app_program d m) place.step ≡ Some i → Counted d parts (lock_before None (app_program d m) place.step) i n → ((now : Option Message) → wish_in now r ≡ wish_at place.part now n i) → IsWanted d (meant meaning_of parts) number (runner (app m)) (Wants (want.Asks (by.App m) r))
  app_asks number i n r next count is all sound fits =
      (wants_it all sound fits i n next count ∙ ap (λ w. Some (asks (app m) w)) (sym (is None)), own_by all sound fits (Some i) n next count)

  pub app_ends : (number : ℕ) → slice_get (app_program d m) place.step ≡ None → IsWanted d (meant meaning_of parts) number (runner (app m)) Nothing
  app_ends number past all sound fits = (wants_nothing all sound fits past, own_by all sound fits None 0 past (inl refl))

  pub lock_inside : SomeFits (world_machine d) (meant meaning_of parts) → (w : ℕ) → lock_before None (app_program d m) place.step ≡ Some w → w < length d.windows
  lock_inside (all, sound, fits) w e = inside all sound fits w e

  looper_needed : SomeFits (world_machine d) (meant meaning_of parts) → (number w p : ℕ) (i : Instruction) → activity_of d number ≡ Some (runner (app m)) → slice_get (app_program d m) place.step ≡ Some i → reads_buffer (Some i) ≡ true → lock_before None (app_program d m) place.step ≡ Some w → p ≡ place_of d (part.looper w) → part_at parts p ≡ None → NeedsPart d (meant meaning_of parts) number p
  looper_needed (all, sound, fits) number w p i num next reads lock is out =
      subst (NeedsPart d (meant meaning_of parts) number) (sym is)
      (needs_looper d (meant meaning_of parts) all sound fits number m w (a all sound fits) i num (is_held parts (place_of d (part.cell m)) y at) (read all sound fits) (step all sound fits (Some i) next) reads (here all sound fits ∙ lock) (inside all sound fits w lock)
      (not_held parts (place_of d (part.looper w)) (ap (part_at parts) (sym is) ∙ out)))

  lacking_by : SomeFits (world_machine d) (meant meaning_of parts) → (number p : ℕ) (i : Instruction) (o : Option ℕ) → activity_of d number ≡ Some (runner (app m)) → slice_get (app_program d m) place.step ≡ Some i → reads_buffer (Some i) ≡ true → lock_before None (app_program d m) place.step ≡ o → IsLacking d parts o p → NeedsPart d (meant meaning_of parts) number p
  lacking_by fitting number p i (Some w) num next reads lock (is, out) = looper_needed fitting number w p i num next reads lock is out
  lacking_by fitting number p i None num next reads lock out = absurd out

  pub lock_needed : SomeFits (world_machine d) (meant meaning_of parts) → (number p : ℕ) (i : Instruction) → activity_of d number ≡ Some (runner (app m)) → slice_get (app_program d m) place.step ≡ Some i → reads_buffer (Some i) ≡ true → IsLacking d parts (lock_before None (app_program d m) place.step) p → NeedsPart d (meant meaning_of parts) number p
  lock_needed fitting number p i num next reads lacks = lacking_by fitting number p i (lock_before None (app_program d m) place.step) num next reads refl lacks

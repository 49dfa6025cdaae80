-- An application at a lock: it needs the looper, waits while that isn't free, and locks it when it is.
use Rattle.std.proofs.Common.{◌≡◌, ℕ, ◌<◌, true, false, List, length, Some, None, inl, inr, refl, sym, ap, subst, ◌∙◌}
use Rattle.std.specs.Prelude.{slice_get, option_map, option_and_then}
use Rattle.std.proofs.lemmas.Option.{same_Some}
use Rattle.be_actor.specs.declared.Instruction.TheVariants as instruction
use Rattle.be_actor.specs.declared.Wish.TheVariants as wish
use Rattle.be_actor.specs.Wishes.{wish_at}
use Rattle.be_hall.specs.Machine.{Fits, IsHeld}
use Rattle.be_script.specs.Script.{Declared}
use Rattle.be_machine.specs.Activities.{runner, app}
use Rattle.be_machine.specs.declared.Act.TheVariants as act
use Rattle.be_machine.specs.Legal.{legal_act, want_act, wish_act}
use Rattle.be_machine.specs.Looper.{lock_act}
use Rattle.be_machine.specs.Program.{lock_of}
use Rattle.be_machine.specs.State.{State, App, Looper, free}
use Rattle.be_machine.specs.Touched as part
use Rattle.be_machine.specs.Wants.{Want, asks, want_of}
use Rattle.be_machine.proofs.ProgressAfter.{IsSettled, settled_after}
use Rattle.be_machine.proofs.ProgressNumbers.{app_number}
use Rattle.be_rules.specs.Found.{OwnHeld, CanAct, CannotAct, NeedsPart}
use Rattle.be_rules.specs.Own.{reads_buffer, step_of}
use Rattle.be_rules.specs.Places.{place_of, IsPart}
use Rattle.be_rules.specs.Rules.{IsSound}
use Rattle.be_rules.specs.Slices.{Slice}
use Rattle.be_rules.specs.Sure.{seen_in, parts_by, IsAmong}
use Rattle.be_rules.proofs.Everywhere.{same_in_hand, wants_same, needs_part, cannot_act}
use Rattle.be_rules.proofs.Lawfully.{state, back}
use Rattle.be_rules.proofs.WantBy.{app_want_is, count_in}

module _ (d : Declared) (held : List (ℕ × Slice)) (all : List Slice) (sound : IsSound d all) (fits : Fits all held) (m w : ℕ) (a : App) (lt : m < length d.apps)
    (own : IsHeld held (place_of d (part.cell m))) (read : slice_get (state d all sound).apps m ≡ Some a) (step : step_of d m a ≡ Some (instruction.Lock w)) where
  abbrev s : State
  s = state d all sound

  abbrev want : Want
  want = asks (app m) (wish.Lock w)

  wanted : want_of d s (runner (app m)) ≡ Some want
  wanted =
      let settled : IsSettled d s = settled_after d sound.history sound.limits sound.legal in
      app_want_is d s m a settled.locks read ∙ ap (λ o. option_map (asks (app m)) (option_map (wish_at a.place.part None (count_in s (lock_of d m a))) o)) step

  own_held : OwnHeld d held all (runner (app m))
  own_held = (
    own,
    λ b v there full lock.
        let same : a ≡ b = same_Some a b (sym read ∙ ap (λ (t : State). slice_get t.apps m) (sym (back d all sound)) ∙ there) in
        let quiet : reads_buffer (step_of d m b) ≡ false = ap (λ (x : App). reads_buffer (step_of d m x)) (sym same) ∙ ap reads_buffer step in
        let never : true ≡ false = sym full ∙ quiet in absurd (cc),
  )

  pub lock_needs : IsPart d (part.looper w) → (IsHeld held (place_of d (part.looper w)) → ⊥) → NeedsPart d held m (place_of d (part.looper w))
  lock_needs there out = needs_part d held all sound fits m (runner (app m)) want (part.looper w) (app_number d m lt) own_held wanted there (inr (inl refl)) out

  parts_held : IsHeld held (place_of d (part.looper w)) → (p : part.Part) → IsAmong p (parts_by (seen_in s) want) → IsHeld held (place_of d p)
  parts_held h p (inl is) = subst (λ q. IsHeld held (place_of d q)) (sym is) own
  parts_held h p (inr (inl is)) = subst (λ q. IsHeld held (place_of d q)) (sym is) h
  parts_held h p (inr (inr nobody)) = absurd nobody

  -- somebody has it
  pub lock_waits : (l : Looper) → IsHeld held (place_of d (part.looper w)) → slice_get s.loopers w ≡ Some l → lock_act w l ≡ None → CannotAct d held m
  unfolding want_act wish_act
  lock_waits l h looper taken = cannot_act d held all sound fits m (runner (app m)) want (app_number d m lt) own_held wanted (λ is. absurd (cc)) (parts_held h) (ap (option_and_then (lock_act w)) looper ∙ taken)

  -- nobody has it
  pub can_lock : IsHeld held (place_of d (part.looper w)) → slice_get s.loopers w ≡ Some free → CanAct d held m (act.Lock w)
  unfolding legal_act want_act wish_act
  can_lock h looper other sound' fits' =
      let r : State = state d other sound' in
      let same : part.SamePart s r (part.looper w) = same_in_hand d held all other sound sound' fits fits' (part.looper w) h in
      ap (λ t. legal_act d t m) (back d other sound')
      ∙ ap (λ o. option_and_then (want_act d r) (option_and_then (want_of d r) o)) (app_number d m lt)
      ∙ ap (option_and_then (want_act d r)) (wants_same d held all other sound sound' fits fits' (runner (app m)) own_held ∙ wanted)
      ∙ ap (option_and_then (lock_act w)) (same.0 ∙ looper)

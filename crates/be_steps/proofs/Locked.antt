-- Claims and locks as steps.
use Rattle.std.proofs.Common.{◌≡◌, ℕ, false, [], ◌∷◌, Option, Some, None, ◌⊎◌, inl, inr, ⊎_elim, refl, sym, ap, ◌∙◌, subst}
use Rattle.std.specs.Prelude.{option_and_then, option_map, slice_get}
use Rattle.be_actor.specs.declared.Place.{Place}
use Rattle.be_actor.specs.declared.Wish.TheVariants as wish
use Rattle.be_asking.specs.Acts.{OwnsWindow}
use Rattle.be_asking.specs.Wants.{activity_in, message_of, wish_in}
use Rattle.be_asking.specs.declared.activity.Activity.TheVariants as who
use Rattle.be_asking.specs.declared.activity.Runner.TheVariants.{App}
use Rattle.be_asking.specs.declared.want.Request.TheVariants as request
use Rattle.be_asking.specs.declared.want.Request.{Request}
use Rattle.be_asking.specs.declared.want.Want.TheVariants as want
use Rattle.be_hall.proofs.Holding.{with_other}
use Rattle.be_hall.specs.Hands.{Hand, part_at, with_part}
use Rattle.be_machine.proofs.Found.{locked_there}
use Rattle.be_machine.specs.Activities as machine
use Rattle.be_machine.specs.declared.Act.{Act}
use Rattle.be_machine.specs.declared.Act.TheVariants as act
use Rattle.be_machine.specs.Legal.{want_act, wish_act}
use Rattle.be_machine.specs.Legal as legal
use Rattle.std.specs.Option.{option_map_or}
use Rattle.be_machine.specs.Looper.{claim_act, freed, lock_act, with_looper}
use Rattle.be_machine.specs.Program.{moved_on, window_of}
use Rattle.be_machine.specs.State.{App as Application, Looper as Owner, State, free, handling, locked}
use Rattle.be_machine.specs.Step.{granted, is_accepted_wish, met}
use Rattle.be_machine.specs.Touched as part
use Rattle.be_message.specs.Messages.{Message}
use Rattle.be_parts.specs.Effects.{app_told, looper_with}
use Rattle.be_parts.specs.Kept.{Kept, Logged}
use Rattle.be_parts.specs.Parts.{hand_with}
use Rattle.be_parts.specs.declared.part.Part.{Part}
use Rattle.be_parts.specs.declared.part.Part.TheVariants as kinds
use Rattle.be_reply.specs.Cells as reply
use Rattle.be_rules.proofs.Lawfully.{back}
use Rattle.be_rules.specs.Places.{IsPart, place_of}
use Rattle.be_rules.specs.Slices.{cell, looper, looper_in, slice_of}
use Rattle.be_rules.specs.Sure.{IsAmong, maybe}
use Rattle.be_script.specs.Script.{Declared}
use Rattle.be_steps.proofs.Apart.{apart}
use Rattle.be_steps.proofs.Gone.{own_is, own_made, own_there}
use Rattle.be_steps.proofs.Making.{all, done, fits_now, granted_now, meets, now, read, so, then_is, there}
use Rattle.be_steps.proofs.Moved.{asks, at_map, grant, own_right, past_told}
use Rattle.be_steps.specs.Going.{HasGone, HasGoneFrom, IsPast}
use Rattle.be_steps.specs.Made.{AreMade}
use Rattle.be_steps.specs.Steps.{IsAllowed, IsDone}
use Rattle.be_steps.specs.There.{IsThere}

-- ---- claims

abbrev idle_app : Application → Application
idle_app x = record x { cell = reply.idle }

abbrev claimed_app : Application → Application
claimed_app x = record x { cell = reply.claimed x.cell }

claimed_by : (o : Option Application) (act : Message → Act) (a : Act) → option_map act (option_and_then reply.reply_in (option_map (λ (x : Application). x.cell) o)) ≡ Some a
    → option_map idle_app o ≡ option_map claimed_app o
claimed_by (Some x) act a is = by_cell x.cell is
  where
    told : reply.Cell → Option Application
    told c = Some (record { place = x.place; cell = c })

    by_cell : (c : reply.Cell) → option_map act (reply.reply_in c) ≡ Some a → told reply.idle ≡ told (reply.claimed c)
    by_cell (reply.replied m) e = refl
    by_cell reply.waiting e = absurd (cc)
    by_cell reply.idle e = absurd (cc)
claimed_by None act a is = refl

module _ (d : Declared) (old : Hand Part) (m : ℕ) (allowed : IsAllowed d old.parts (who.Runner (App m)) (want.Asks (App m) request.Claim)) where
  abbrev claims : State
  claims = now d old.parts (who.Runner (App m)) (want.Asks (App m) request.Claim) allowed

  claim_acts : claim_act claims (machine.app m) ≡ Some allowed.act
  unfolding want_act wish_act
  claim_acts = granted_now d old.parts (who.Runner (App m)) (want.Asks (App m) request.Claim) allowed

  claimed_cell : slice_of (grant d old.parts (App m) request.Claim allowed) (part.cell m) ≡ app_told reply.claimed (slice_of claims (part.cell m))
  unfolding granted
  claimed_cell = ap (cell m) (at_map claims.apps m idle_app ∙ claimed_by (slice_get claims.apps m) _ allowed.act claim_acts)

  pub claimed : (place : Place)
      → ((k : Kept) → part_at old.parts (place_of d (part.cell m)) ≡ Some (kinds.Cell k) → (message : Option Message) → IsPast d (App m) k.slice false (wish_in message request.Claim) place)
      → (new : Hand Part) → HasGoneFrom d (App m) (app_told reply.claimed) place old new → IsDone d (who.Runner (App m)) old new
  claimed place past new gone =
      let own = own_there d old.parts (App m) request.Claim allowed in
      done d old.parts (who.Runner (App m)) (want.Asks (App m) request.Claim) allowed old new ((part.cell m, kinds.Cell gone.1) ∷ [])
      refl (ap (λ (h : Hand Part). h.room) gone.3) (own_made d (App m) (app_told reply.claimed) place old new gone) (
        inr (
          own.reachable.there,
          own_right d old.parts (App m) request.Claim allowed (app_told reply.claimed gone.0.slice) gone.1.slice false place
              (claimed_cell ∙ ap (app_told reply.claimed) (own_is d old.parts (App m) request.Claim allowed gone.0 gone.2)) refl
              (past_told d m reply.claimed false wish.Claim gone.0.slice place (past gone.0 gone.2 None)) gone.4,
        ),
        tt,
      )
      (λ x touched. ⊎_elim (λ is. inl is) (λ never. absurd never) touched)

-- ---- an application, and the looper that it has or gets

cell_not_looper : (m w : ℕ) → part.cell m ≡ part.looper w → ⊥
cell_not_looper m w e = absurd (cc)

module _ (d : Declared) (old : Hand Part) (m w : ℕ) (q : Request) (f : Owner → Owner) (allowed : IsAllowed d old.parts (who.Runner (App m)) (want.Asks (App m) q))
    (looper_there : IsPart d (part.looper w))
    (granted_is : grant d old.parts (App m) q allowed ≡ with_looper (now d old.parts (who.Runner (App m)) (want.Asks (App m) q) allowed) w f)
    (refused : is_accepted_wish (now d old.parts (who.Runner (App m)) (want.Asks (App m) q) allowed) (machine.app m) (asks d old.parts (App m) q allowed) ≡ false)
    (covers : (x : part.Part) → part.Touches (now d old.parts (who.Runner (App m)) (want.Asks (App m) q) allowed) (then_is d old.parts (who.Runner (App m)) (want.Asks (App m) q) allowed) (meets d old.parts (who.Runner (App m)) (want.Asks (App m) q) allowed) x → (x ≡ part.cell m) ⊎ (x ≡ part.looper w)) where
  abbrev s : State
  s = now d old.parts (who.Runner (App m)) (want.Asks (App m) q) allowed

  abbrev later : State
  later = then_is d old.parts (who.Runner (App m)) (want.Asks (App m) q) allowed

  cell_there : IsPart d (part.cell m)
  cell_there = (own_there d old.parts (App m) q allowed).reachable.there

  looper_later : slice_of later (part.looper w) ≡ looper_with f (slice_of s (part.looper w))
  unfolding met moved_on
  looper_later = ap (λ (t : State). slice_of t (part.looper w)) granted_is ∙ ap (λ o. looper w o (slice_get s.buffers w)) (at_map s.loopers w f)

  module _ (pl : ℕ) (spot : pl ≡ place_of d (part.looper w)) where
    pub cell_stays : (l : Kept) → part_at (with_part old.parts pl (kinds.Looper l)) (place_of d (part.cell m)) ≡ part_at old.parts (place_of d (part.cell m))
    cell_stays l = with_other old.parts pl (place_of d (part.cell m)) (kinds.Looper l) (λ same. apart d (part.cell m) (part.looper w) cell_there looper_there (cell_not_looper m w) (same ∙ spot))

    pub owned_step : (was is : Kept) (place : Place) (new : Hand Part) → part_at old.parts pl ≡ Some (kinds.Looper was) → is.slice ≡ looper_with f was.slice → is.log ≡ was.log
        → ((k : Kept) → part_at old.parts (place_of d (part.cell m)) ≡ Some (kinds.Cell k) → (message : Option Message) → IsPast d (App m) k.slice false (wish_in message q) place)
        → HasGone d (App m) place (hand_with old pl (kinds.Looper is)) new → IsDone d (who.Runner (App m)) old new
    owned_step was is place new at slice log past gone =
        let mid : Hand Part = hand_with old pl (kinds.Looper is) in
        let own_at : part_at old.parts (place_of d (part.cell m)) ≡ Some (kinds.Cell gone.0) = sym (cell_stays is) ∙ gone.2 in
        let looper_at : part_at old.parts (place_of d (part.looper w)) ≡ Some (kinds.Looper was) = ap (part_at old.parts) (sym spot) ∙ at in
        done d old.parts (who.Runner (App m)) (want.Asks (App m) q) allowed old new ((part.looper w, kinds.Looper is) ∷ (part.cell m, kinds.Cell gone.1) ∷ [])
        refl (ap (λ (h : Hand Part). h.room) gone.3)
        (kinds.Looper was, looper_at, ap (λ (l : Logged). Some l) log, subst (λ p. AreMade d ((part.cell m, kinds.Cell gone.1) ∷ []) (with_part old.parts p (kinds.Looper is)) new.parts) spot (own_made d (App m) (λ k. k) place mid new gone)) (
          inr (looper_there, looper_later ∙ ap (looper_with f) (read d old.parts (who.Runner (App m)) (want.Asks (App m) q) allowed (part.looper w) (kinds.Looper was) looper_there looper_at) ∙ sym slice),
          (
            inr (
              cell_there,
              own_right d old.parts (App m) q allowed gone.0.slice gone.1.slice false place
                  (ap (λ (t : State). slice_of t (part.cell m)) granted_is ∙ own_is d old.parts (App m) q allowed gone.0 own_at) refused
                  (past gone.0 own_at (message_of s (activity_in (who.Runner (App m))))) gone.4,
            ),
            tt,
          ),
        )
        (λ x touched. ⊎_elim (λ is. inr (inl is)) (λ is. inl is) (covers x touched))

-- ---- locks

free_by : (w : ℕ) (o : Option Owner) (a : Act) → option_and_then (lock_act w) o ≡ Some a → o ≡ Some free
free_by w (Some free) a is = refl
free_by w (Some (locked n)) a is = absurd (cc)
free_by w (Some (handling hand stage)) a is = absurd (cc)
free_by w None a is = absurd (cc)

module _ (d : Declared) (old : Hand Part) (m w : ℕ) (allowed : IsAllowed d old.parts (who.Runner (App m)) (want.Asks (App m) (request.Lock w))) where
  abbrev locks : State
  locks = now d old.parts (who.Runner (App m)) (want.Asks (App m) (request.Lock w)) allowed

  lock_acts : option_and_then (lock_act w) (slice_get locks.loopers w) ≡ Some allowed.act
  unfolding want_act wish_act
  lock_acts = granted_now d old.parts (who.Runner (App m)) (want.Asks (App m) (request.Lock w)) allowed

  pub lock_there : IsThere d old.parts (part.looper w)
  lock_there = there d old.parts (who.Runner (App m)) (want.Asks (App m) (request.Lock w)) allowed (part.looper w) (inr (inl refl))

  pub lock_free : (pl : ℕ) (k : Kept) → pl ≡ place_of d (part.looper w) → part_at old.parts pl ≡ Some (kinds.Looper k) → looper_in k.slice ≡ Some free
  lock_free pl k spot at =
      ap looper_in (sym (read d old.parts (who.Runner (App m)) (want.Asks (App m) (request.Lock w)) allowed (part.looper w) (kinds.Looper k) lock_there.reachable.there (ap (part_at old.parts) (sym spot) ∙ at)))
      ∙ free_by w (slice_get locks.loopers w) allowed.act lock_acts

  locked_is : grant d old.parts (App m) (request.Lock w) allowed ≡ with_looper locks w (λ _. locked m)
  unfolding granted
  locked_is = refl

  module _ (pl : ℕ) (spot : pl ≡ place_of d (part.looper w)) where
    pub lock_cell : (l : Kept) → part_at (with_part old.parts pl (kinds.Looper l)) (place_of d (part.cell m)) ≡ part_at old.parts (place_of d (part.cell m))
    lock_cell = cell_stays d old m w (request.Lock w) (λ _. locked m) allowed lock_there.reachable.there locked_is refl (λ x t. t) pl spot

    pub lock_step : (was is : Kept) (place : Place) (new : Hand Part) → part_at old.parts pl ≡ Some (kinds.Looper was) → is.slice ≡ looper_with (λ _. locked m) was.slice → is.log ≡ was.log
        → ((k : Kept) → part_at old.parts (place_of d (part.cell m)) ≡ Some (kinds.Cell k) → (message : Option Message) → IsPast d (App m) k.slice false (wish_in message (request.Lock w)) place)
        → HasGone d (App m) place (hand_with old pl (kinds.Looper is)) new → IsDone d (who.Runner (App m)) old new
    lock_step = owned_step d old m w (request.Lock w) (λ _. locked m) allowed lock_there.reachable.there locked_is refl (λ x t. t) pl spot

-- ---- unlocks

no_act : {X : Type 0} (f : ℕ → Option X) (o : Option ℕ) (a : X) → option_and_then f o ≡ Some a → o ≡ None → ⊥
no_act f o a is none = never (sym (ap (option_and_then f) none) ∙ is)
  where
    never : {X : Type 0} {a : X} → None ≡ Some a → ⊥
    never e = absurd (cc)

module _ (d : Declared) (old : Hand Part) (m : ℕ) (allowed : IsAllowed d old.parts (who.Runner (App m)) (want.Asks (App m) request.Unlock)) where
  abbrev unlocks : State
  unlocks = now d old.parts (who.Runner (App m)) (want.Asks (App m) request.Unlock) allowed

  unlock_acts : legal.in_own unlocks (machine.app m) (λ w. Some (act.Unlock w)) ≡ Some allowed.act
  unfolding want_act wish_act
  unlock_acts = granted_now d old.parts (who.Runner (App m)) (want.Asks (App m) request.Unlock) allowed

  window_in : (o : Option ℕ) → OwnsWindow d old.parts (App m) o → window_of unlocks (machine.app m) ≡ o
  window_in o owns =
      let sound = so d old.parts (who.Runner (App m)) (want.Asks (App m) request.Unlock) allowed in
      let every = all d old.parts (who.Runner (App m)) (want.Asks (App m) request.Unlock) allowed in
      subst (λ (t : State). window_of t (machine.app m) ≡ o) (back d every sound) (owns.1 every sound (fits_now d old.parts (who.Runner (App m)) (want.Asks (App m) request.Unlock) allowed))

  -- it has one
  pub unlock_owns : OwnsWindow d old.parts (App m) None → ⊥
  unlock_owns owns = no_act (λ w. Some (act.Unlock w)) (window_of unlocks (machine.app m)) allowed.act unlock_acts (window_in None owns)

  module _ (w : ℕ) (owns : OwnsWindow d old.parts (App m) (Some w)) where
    window_is : window_of unlocks (machine.app m) ≡ Some w
    window_is = window_in (Some w) owns

    pub unlock_there : IsThere d old.parts (part.looper w)
    unlock_there = there d old.parts (who.Runner (App m)) (want.Asks (App m) request.Unlock) allowed (part.looper w) (inr (subst (λ o. IsAmong (part.looper w) (maybe part.looper o)) (sym window_is) (inl refl)))

    pub unlock_locked : (pl : ℕ) (k : Kept) → pl ≡ place_of d (part.looper w) → part_at old.parts pl ≡ Some (kinds.Looper k) → looper_in k.slice ≡ Some (locked m)
    unlock_locked pl k spot at =
        ap looper_in (sym (read d old.parts (who.Runner (App m)) (want.Asks (App m) request.Unlock) allowed (part.looper w) (kinds.Looper k) unlock_there.reachable.there (ap (part_at old.parts) (sym spot) ∙ at)))
        ∙ locked_there unlocks m w window_is

    unlocked_is : grant d old.parts (App m) request.Unlock allowed ≡ with_looper unlocks w (λ _. free)
    unfolding granted
    unlocked_is = ap (λ o. option_map_or (freed unlocks) o unlocks) window_is

    unlock_covers : (x : part.Part) → part.Touches unlocks (then_is d old.parts (who.Runner (App m)) (want.Asks (App m) request.Unlock) allowed) (meets d old.parts (who.Runner (App m)) (want.Asks (App m) request.Unlock) allowed) x → (x ≡ part.cell m) ⊎ (x ≡ part.looper w)
    unlock_covers x touched = ⊎_elim (λ is. inl is) (λ of. inr (subst (λ o. part.IsOf part.looper o x) window_is of)) touched

    module _ (pl : ℕ) (spot : pl ≡ place_of d (part.looper w)) where
      pub unlock_cell : (l : Kept) → part_at (with_part old.parts pl (kinds.Looper l)) (place_of d (part.cell m)) ≡ part_at old.parts (place_of d (part.cell m))
      unlock_cell = cell_stays d old m w request.Unlock (λ _. free) allowed unlock_there.reachable.there unlocked_is refl unlock_covers pl spot

      pub unlock_step : (was is : Kept) (place : Place) (new : Hand Part) → part_at old.parts pl ≡ Some (kinds.Looper was) → is.slice ≡ looper_with (λ _. free) was.slice → is.log ≡ was.log
          → ((k : Kept) → part_at old.parts (place_of d (part.cell m)) ≡ Some (kinds.Cell k) → (message : Option Message) → IsPast d (App m) k.slice false (wish_in message request.Unlock) place)
          → HasGone d (App m) place (hand_with old pl (kinds.Looper is)) new → IsDone d (who.Runner (App m)) old new
      unlock_step = owned_step d old m w request.Unlock (λ _. free) allowed unlock_there.reachable.there unlocked_is refl unlock_covers pl spot

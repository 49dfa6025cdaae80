-- What is told to who waits for the reply to the letter in a looper's hand.
use Rattle.std.proofs.Common.{◌≡◌, ℕ, List, [], ◌∷◌, Option, Some, None, ◌⊎◌, inl, inr, ⊎_elim, refl, sym, ap, ◌∙◌, subst}
use Rattle.std.specs.Prelude.{option_map, option_and_then, slice_get}
use Rattle.be_asking.specs.declared.activity.Activity.TheVariants as who
use Rattle.be_asking.specs.declared.activity.Runner.TheVariants as by
use Rattle.be_asking.specs.declared.want.Want.{Want}
use Rattle.be_hall.proofs.Holding.{with_other}
use Rattle.be_hall.specs.Hands.{Hand, part_at, with_part}
use Rattle.be_looper.specs.Duties.{Hand as Handled, waiter}
use Rattle.be_machine.specs.Looper.{told, with_looper}
use Rattle.be_machine.specs.Program.{hand_at, hand_in}
use Rattle.be_machine.specs.State.{Looper, State, free, handling, locked}
use Rattle.be_machine.specs.Touched as part
use Rattle.be_machine.specs.Touched.{IsOf, Touches}
use Rattle.be_message.specs.Messages.{Message}
use Rattle.be_parts.specs.Effects.{app_told, looper_with}
use Rattle.be_parts.specs.Kept.{Kept, Logged}
use Rattle.be_parts.specs.Loopers.{hand_of}
use Rattle.be_parts.specs.Parts.{hand_with}
use Rattle.be_parts.specs.declared.part.Part.{Part}
use Rattle.be_parts.specs.declared.part.Part.TheVariants as kinds
use Rattle.be_reply.specs.Cells.{with_reply}
use Rattle.be_rules.specs.Places.{place_of}
use Rattle.be_rules.specs.Slices.{cell, looper, looper_in, slice_of}
use Rattle.be_rules.specs.Sure.{IsAmong, Seen, maybe, parts_by, seen_in, waiter_in}
use Rattle.be_script.specs.Script.{Declared}
use Rattle.be_steps.proofs.Apart.{apart}
use Rattle.be_steps.proofs.Making.{done, meets, now, read, then_is, there}
use Rattle.be_steps.proofs.Moved.{at_map}
use Rattle.be_steps.proofs.Owned.{as_looper}
use Rattle.be_steps.specs.Steps.{IsAllowed, IsDone}
use Rattle.be_steps.specs.There.{IsThere}
use Rattle.be_steps.specs.Waiters.{HasWaiter, IsTold, IsWaiter, waiter_of}

-- ---- in the machine

-- who waits finds what is told
pub told_cell : (s : State) (message : Message) (m : ℕ) → slice_of (told message (Some m) s) (part.cell m) ≡ app_told (with_reply message) (slice_of s (part.cell m))
told_cell s message m = ap (cell m) (at_map s.apps m (λ a. record a { cell = with_reply message a.cell }))

-- a looper that is changed
pub changed_looper : (s : State) (w : ℕ) (f : Looper → Looper) → slice_of (with_looper s w f) (part.looper w) ≡ looper_with f (slice_of s (part.looper w))
changed_looper s w f = ap (λ l. looper w l (slice_get s.buffers w)) (at_map s.loopers w f)

-- loopers stay where somebody is told
pub told_looper : (s : State) (w : ℕ) (message : Message) (waits : Option ℕ) → slice_of (told message waits s) (part.looper w) ≡ slice_of s (part.looper w)
told_looper s w message (Some m) = refl
told_looper s w message None = refl

-- ---- who waits

-- of the part at this place
pub waiter_at : (d : Declared) (parts : List (ℕ × Part)) (w lp : ℕ) → lp ≡ place_of d (part.looper w) → (is : Kept) → part_at parts lp ≡ Some (kinds.Looper is) → (waits : Option ℕ) → waiter_of is.slice ≡ waits → IsWaiter d parts w waits
waiter_at d parts w lp spot is at waits known = as_looper d (by.Looper w) w lp (λ r k. waiter_of k.slice ≡ waits) parts refl spot is at known

by_duty : (o : Option Looper) → option_and_then waiter_in o ≡ option_and_then waiter (option_map (λ (hand : Handled Message). hand.duty) (option_and_then hand_in o))
by_duty (Some (handling hand stage)) = refl
by_duty (Some (locked m)) = refl
by_duty (Some free) = refl
by_duty None = refl

by_hand : (o : Option (Handled Message)) → option_and_then (λ hand. waiter hand.duty) o ≡ option_and_then waiter (option_map (λ hand. hand.duty) o)
by_hand (Some hand) = refl
by_hand None = refl

module _ (d : Declared) (old : Hand Part) (w : ℕ) (want : Want) (allowed : IsAllowed d old.parts (who.Runner (by.Looper w)) want)
    (shape : (x : Seen) → parts_by x (meets d old.parts (who.Runner (by.Looper w)) want allowed) ≡ part.looper w ∷ maybe part.cell (x.waits w)) where
  abbrev s : State
  s = now d old.parts (who.Runner (by.Looper w)) want allowed

  abbrev later : State
  later = then_is d old.parts (who.Runner (by.Looper w)) want allowed

  pub looper_there : IsThere d old.parts (part.looper w)
  looper_there = there d old.parts (who.Runner (by.Looper w)) want allowed (part.looper w) (subst (IsAmong (part.looper w)) (sym (shape (seen_in s))) (inl refl))

  pub looper_is : (k : Kept) → part_at old.parts (place_of d (part.looper w)) ≡ Some (kinds.Looper k) → slice_of s (part.looper w) ≡ k.slice
  looper_is k at = read d old.parts (who.Runner (by.Looper w)) want allowed (part.looper w) (kinds.Looper k) looper_there.reachable.there at

  -- the hand is the machine's
  pub hand_is : (k : Kept) → part_at old.parts (place_of d (part.looper w)) ≡ Some (kinds.Looper k) → hand_at s w ≡ hand_of k.slice
  hand_is k at = ap (λ x. option_and_then hand_in (looper_in x)) (looper_is k at)

  pub waits_is : (k : Kept) → part_at old.parts (place_of d (part.looper w)) ≡ Some (kinds.Looper k) → option_and_then (λ hand. waiter hand.duty) (hand_at s w) ≡ waiter_of k.slice
  waits_is k at = ap (option_and_then (λ hand. waiter hand.duty)) (hand_is k at) ∙ by_hand (hand_of k.slice)

  seen_waits : (k : Kept) → part_at old.parts (place_of d (part.looper w)) ≡ Some (kinds.Looper k) → (seen_in s).waits w ≡ waiter_of k.slice
  seen_waits k at = ap (λ x. option_and_then waiter_in (looper_in x)) (looper_is k at) ∙ by_duty (looper_in k.slice)

  cell_there : (k : Kept) (m : ℕ) → part_at old.parts (place_of d (part.looper w)) ≡ Some (kinds.Looper k) → waiter_of k.slice ≡ Some m → IsThere d old.parts (part.cell m)
  cell_there k m at is = there d old.parts (who.Runner (by.Looper w)) want allowed (part.cell m) (subst (IsAmong (part.cell m)) (sym (shape (seen_in s) ∙ ap (λ o. part.looper w ∷ maybe part.cell o) (seen_waits k at ∙ is))) (inr (inl refl)))

  pub waiter_there : ((k : Kept) × (part_at old.parts (place_of d (part.looper w)) ≡ Some (kinds.Looper k))) → (m : ℕ) → IsWaiter d old.parts w (Some m) → IsThere d old.parts (part.cell m)
  waiter_there has m waits = cell_there has.0 m has.1 (waits has.0 has.1)

  module _ (k : Kept) (at : part_at old.parts (place_of d (part.looper w)) ≡ Some (kinds.Looper k)) where
    places_differ : (m : ℕ) → waiter_of k.slice ≡ Some m → place_of d (part.cell m) ≡ place_of d (part.looper w) → ⊥
    places_differ m is = apart d (part.cell m) (part.looper w) (cell_there k m at is).reachable.there looper_there.reachable.there (λ e. absurd (cc))

    -- the part of who waits stays where the looper is changed
    stays : (y : Part) (m : ℕ) → waiter_of k.slice ≡ Some m → part_at (with_part old.parts (place_of d (part.looper w)) y) (place_of d (part.cell m)) ≡ part_at old.parts (place_of d (part.cell m))
    stays y m is = with_other old.parts (place_of d (part.looper w)) (place_of d (part.cell m)) y (places_differ m is)

    waiter_by : (lp : ℕ) (y : Part) (waits : Option ℕ) → lp ≡ place_of d (part.looper w) → waiter_of k.slice ≡ waits → HasWaiter d old.parts waits → HasWaiter d (with_part old.parts lp y) waits
    waiter_by lp y (Some m) spot is has = (has.0, ap (λ n. part_at (with_part old.parts n y) (place_of d (part.cell m))) spot ∙ stays y m is ∙ has.1)
    waiter_by lp y None spot is has = tt

    pub waiter_stays : (lp : ℕ) (y : Part) (waits : Option ℕ) → lp ≡ place_of d (part.looper w) → IsWaiter d old.parts w waits → HasWaiter d old.parts waits → HasWaiter d (with_part old.parts lp y) waits
    waiter_stays lp y waits spot is has = waiter_by lp y waits spot (is k at) has

    module _ (is : Kept) (log : is.log ≡ k.log) (right : slice_of later (part.looper w) ≡ is.slice) (message : Message)
        (told_right : (m : ℕ) → waiter_of k.slice ≡ Some m → slice_of later (part.cell m) ≡ app_told (with_reply message) (slice_of s (part.cell m)))
        (covers : (x : part.Part) → Touches s later (meets d old.parts (who.Runner (by.Looper w)) want allowed) x → (x ≡ part.looper w) ⊎ IsOf part.cell (waiter_of k.slice) x)
        (mid : Hand Part) (mid_is : mid ≡ hand_with old (place_of d (part.looper w)) (kinds.Looper is)) (new : Hand Part) where
      -- the looper was changed, and then who waits was told
      pub told_done : (waits : Option ℕ) → waiter_of k.slice ≡ waits → IsTold d message waits mid new → IsDone d (who.Runner (by.Looper w)) old new
      told_done (Some m) waits tell =
          let cell_at : part_at old.parts (place_of d (part.cell m)) ≡ Some (kinds.Cell tell.0) = sym (stays (kinds.Looper is) m waits) ∙ ap (λ (h : Hand Part). part_at h.parts (place_of d (part.cell m))) (sym mid_is) ∙ tell.2 in
          let its = (cell_there k m at waits).reachable.there in
          done d old.parts (who.Runner (by.Looper w)) want allowed old new ((part.looper w, kinds.Looper is) ∷ (part.cell m, kinds.Cell tell.1) ∷ [])
          refl (ap (λ (h : Hand Part). h.room) tell.3 ∙ ap (λ (h : Hand Part). h.room) mid_is) (
            kinds.Looper k,
            at,
            ap (λ (l : Logged). Some l) log,
            (
              kinds.Cell tell.0,
              ap (λ (h : Hand Part). part_at h.parts (place_of d (part.cell m))) (sym mid_is) ∙ tell.2,
              ap (λ (l : Logged). Some l) tell.5,
              ap (λ (h : Hand Part). h.parts) tell.3 ∙ ap (λ (h : Hand Part). with_part h.parts (place_of d (part.cell m)) (kinds.Cell tell.1)) mid_is,
            ),
          ) (
            inr (looper_there.reachable.there, right),
            (
              inr (
                its,
                told_right m waits
                    ∙ ap (app_told (with_reply message)) (read d old.parts (who.Runner (by.Looper w)) want allowed (part.cell m) (kinds.Cell tell.0) its cell_at)
                    ∙ sym tell.4,
              ),
              tt,
            ),
          )
          (λ x touched. ⊎_elim (λ own. inl own) (λ other. inr (inl (subst (λ o. IsOf part.cell o x) waits other))) (covers x touched))
      told_done None waits tell =
          done d old.parts (who.Runner (by.Looper w)) want allowed old new ((part.looper w, kinds.Looper is) ∷ [])
          refl (ap (λ (h : Hand Part). h.room) (tell ∙ mid_is))
          (kinds.Looper k, at, ap (λ (l : Logged). Some l) log, ap (λ (h : Hand Part). h.parts) (tell ∙ mid_is))
          (inr (looper_there.reachable.there, right), tt)
          (λ x touched. ⊎_elim (λ own. inl own) (λ other. absurd (subst (λ o. IsOf part.cell o x) waits other)) (covers x touched))

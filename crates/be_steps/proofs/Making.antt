-- Parts in hand of which those that an entry touches were changed to what they are after it.
use Rattle.std.proofs.Common.{◌≡◌, ℕ, ◌+◌, ◌<◌, Bool, true, false, List, [], ◌∷◌, map, Option, Some, ◌⊎◌, inl, inr, ⊎_elim, refl, sym, ap, ◌∙◌, subst, arith}
use Rattle.std.specs.Prelude.{◌==◌, ◌&&◌, nat_lt, option_and_then, if◌then◌else◌}
use Rattle.std.specs.Option.{option_map_or}
use Rattle.std.proofs.lemmas.Bool.Decides.{nat_tests}
use Rattle.std.proofs.lemmas.Option.{same_Some}
use mathlib.Core.Logic.{dite}
use mathlib.Core.Option.{some}
use native.Mathlib.Decide.{ℕ_discrete}
use lib.ListN.{get_elem?}
use Rattle.be_facts.proofs.Numbers.{eq_false_tells, eq_tells}
use Rattle.be_asking.proofs.Asked.{fits, reach, s, settled, sound, wanted, wish}
use Rattle.be_asking.proofs.InHand.{slice_read}
use Rattle.be_asking.proofs.Spotted.{spot}
use Rattle.be_asking.specs.Wants.{activity_in}
use Rattle.be_asking.specs.declared.activity.Activity.{Activity}
use Rattle.be_asking.specs.declared.want.Want.{Want}
use Rattle.be_hall.proofs.Holding.{fits_at, meant_with, same_places, with_here, with_other}
use Rattle.be_hall.specs.Hands.{Hand, meant, part_at, places_of, rises_from, with_part}
use Rattle.be_hall.specs.Machine.{Fits, IsHeld}
use Rattle.be_machine.specs.Activities.{activity_of}
use Rattle.be_machine.specs.Activities as machine
use Rattle.be_machine.proofs.Histories.{in_range}
use Rattle.be_machine.proofs.LegalEntries.{maker_is}
use Rattle.be_machine.proofs.ProgressAfter.{IsSettled}
use Rattle.be_machine.specs.declared.Entry.{Entry}
use Rattle.be_machine.specs.Legal.{IsLegal, legal_act, want_act}
use Rattle.be_machine.specs.State.{State}
use Rattle.be_machine.specs.Step.{met, step}
use Rattle.be_machine.specs.Touched.{Touches}
use Rattle.be_machine.specs.Touched as part
use Rattle.be_machine.specs.Wants as wants
use Rattle.be_machine.specs.Wants.{want_of}
use Rattle.be_parts.specs.Kept.{Logged}
use Rattle.be_parts.specs.Parts.{log_of, logged_of, meaning_of, notes_of, spare_of}
use Rattle.be_parts.specs.declared.part.Part.{Part}
use Rattle.be_rules.proofs.Keepers.{own_of, kept_there, kept_touched}
use Rattle.be_rules.proofs.Known.{leaves_at}
use Rattle.be_rules.proofs.Lawfully.{back, world_lawful}
use Rattle.be_rules.proofs.ListLemmas.{cons_not_nil, elem_map, first_same, rest_same}
use Rattle.be_rules.proofs.Local.{at_place}
use Rattle.be_rules.specs.Places.{IsPart, place_of}
use Rattle.be_rules.specs.Rules.{IsSound, TouchesAt, TouchesPlace, kept_at}
use Rattle.be_rules.specs.Slices.{Slice, all_parts, slice_of, slices, state_of}
use Rattle.be_rules.proofs.SureParts.{sure}
use Rattle.be_rules.specs.Sure.{IsAmong, parts_by, seen_in}
use Rattle.be_script.specs.Script.{Declared}
use Rattle.be_steps.specs.Made.{AreIn, AreMade, IsMade}
use Rattle.be_steps.specs.Steps.{IsAllowed, IsDone, LeavesAt}
use Rattle.be_steps.specs.There.{IsThere}

-- ---- lists

pub by_place_test : (Q : Bool → Type 0) (a b : ℕ) → (a ≡ b → Q true) → ((a ≡ b → ⊥) → Q false) → Q (a == b)
by_place_test Q a b same other = by (a == b) refl
  where
    by : (c : Bool) → (a == b) ≡ c → Q c
    by true e = same (eq_tells a b e)
    by false e = other (eq_false_tells a b e)

-- the place is that of one of them
abbrev IsKey : Declared → List (part.Part × Part) → ℕ → Type 0
IsKey d [] p = ⊥
IsKey d (made ∷ rest) p = (p ≡ place_of d made.0) ⊎ IsKey d rest p

key_or : (d : Declared) (changes : List (part.Part × Part)) (p : ℕ) → IsKey d changes p ⊎ (IsKey d changes p → ⊥)
key_or d [] p = inr (λ h. h)
key_or d (made ∷ rest) p = dite (ℕ_discrete p (place_of d made.0)) (λ is. inl (inl is)) (λ other. ⊎_elim (λ later. inl (inr later)) (λ never. inr (λ h. ⊎_elim (λ is. other is) (λ later. never later) h)) (key_or d rest p))

pub made_key : (d : Declared) (changes : List (part.Part × Part)) (x : part.Part) (p : ℕ) → p ≡ place_of d x → IsMade x changes → IsKey d changes p
made_key d [] x p at h = h
made_key d (made ∷ rest) x p at (inl is) = inl (at ∙ ap (place_of d) is)
made_key d (made ∷ rest) x p at (inr later) = inr (made_key d rest x p at later)

-- a part of a state is at its place
pub slice_there : (d : Declared) (t : State) (x : part.Part) → IsPart d x → get_elem? (slices d t) (place_of d x) ≡ some (slice_of t x)
slice_there d t x there = elem_map (slice_of t) (all_parts d) (place_of d x) x (at_place d x there)

module _ (d : Declared) (all : List Slice) where
  -- a part in hand has its meaning in the list, or is still to be made
  abbrev Mixed : List (part.Part × Part) → List (ℕ × Part) → Type 0
  Mixed changes parts = (p : ℕ) (y : Part) → part_at parts p ≡ Some y → (get_elem? all p ≡ some (meaning_of y)) ⊎ IsKey d changes p

  one_made : (made : part.Part × Part) (rest : List (part.Part × Part)) (parts : List (ℕ × Part)) (was : Part) → part_at parts (place_of d made.0) ≡ Some was → IsMade made.0 rest ⊎ (get_elem? all (place_of d made.0) ≡ some (meaning_of made.1)) → Mixed (made ∷ rest) parts → Mixed rest (with_part parts (place_of d made.0) made.1)
  one_made made rest parts was there right mixed p y at = dite (ℕ_discrete p (place_of d made.0))
      (λ is.
      let here : part_at (with_part parts (place_of d made.0) made.1) (place_of d made.0) ≡ Some made.1 = with_here parts (place_of d made.0) was made.1 there in
      let same : made.1 ≡ y = same_Some made.1 y (sym here ∙ ap (part_at (with_part parts (place_of d made.0) made.1)) (sym is) ∙ at) in
      ⊎_elim
      (λ again. inr (made_key d rest made.0 p is again))
      (λ good. inl (ap (get_elem? all) is ∙ good ∙ ap (λ (z : Part). some (meaning_of z)) same))
      right)
      (λ other.
      let before : part_at parts p ≡ Some y = sym (with_other parts (place_of d made.0) p made.1 other) ∙ at in
      ⊎_elim (λ good. inl good) (λ key. ⊎_elim (λ is. absurd (other is)) (λ later. inr later) key) (mixed p y before))

  all_made : (changes : List (part.Part × Part)) (t : State) (old new : List (ℕ × Part)) → slices d t ≡ all → AreMade d changes old new → AreIn d t changes → Mixed changes old → Mixed [] new
  all_made [] t old new is made right mixed = subst (Mixed []) (sym made) mixed
  all_made (made ∷ rest) t old new is steps right mixed =
      all_made rest t (with_part old (place_of d made.0) made.1) new is steps.3 right.1
      (one_made made rest old steps.0 steps.1 (⊎_elim (λ again. inl again) (λ good. inr (ap (λ l. get_elem? l (place_of d made.0)) (sym is) ∙ slice_there d t made.0 good.0 ∙ ap (λ z. some z) good.1)) right.0) mixed)

  -- where each part in hand has its meaning in the list, the list has them
  test_and : (a b : Bool) → (a && b) ≡ true → (a ≡ true) × (b ≡ true)
  test_and true true e = (refl, refl)
  test_and true false e = absurd (cc)
  test_and false b e = absurd (cc)

  above : (low p : ℕ) (parts : List (ℕ × Part)) (y : Part) → rises_from low (places_of parts) ≡ true → part_at parts p ≡ Some y → p < low → ⊥
  above low p [] y rises at under = absurd (cc)
  above low p (x ∷ xs) y rises at under =
      let both = test_and (nat_lt low (x.0 + 1)) (rises_from (x.0 + 1) (places_of xs)) rises in
      by_place_test (λ b. (if b then Some x.1 else part_at xs p) ≡ Some y → ⊥) x.0 p
      (λ is h. let lt : low < x.0 + 1 = nat_lt_true low (x.0 + 1) both.0 in absurd (omega arith))
      (λ other h. let lt : low < x.0 + 1 = nat_lt_true low (x.0 + 1) both.0 in above (x.0 + 1) p xs y both.1 h (omega arith)) at
    where
      nat_lt_true : (a b : ℕ) → nat_lt a b ≡ true → a < b
      nat_lt_true a b e = grind (arith, nat_tests)

  fits_each : (low : ℕ) (parts : List (ℕ × Part)) → rises_from low (places_of parts) ≡ true → ((p : ℕ) (y : Part) → part_at parts p ≡ Some y → get_elem? all p ≡ some (meaning_of y)) → Fits all (meant meaning_of parts)
  fits_each low [] rises each = tt
  fits_each low (x ∷ xs) rises each =
      let both = test_and (nat_lt low (x.0 + 1)) (rises_from (x.0 + 1) (places_of xs)) rises in (
        each x.0 x.1 (by_place_test (λ b. (if b then Some x.1 else part_at xs x.0) ≡ Some x.1) x.0 x.0 (λ is. refl) (λ other. absurd (other refl))),
        fits_each (x.0 + 1) xs both.1 (λ p y at. each p y (by_place_test (λ b. (if b then Some x.1 else part_at xs p) ≡ Some y) x.0 p (λ is. absurd (above (x.0 + 1) p xs y both.1 at (omega arith))) (λ other. at))),
      )

-- ---- logs and places

made_places : (d : Declared) (changes : List (part.Part × Part)) (old new : List (ℕ × Part)) → AreMade d changes old new → places_of new ≡ places_of old
made_places d [] old new made = ap places_of made
made_places d (made ∷ rest) old new steps = made_places d rest (with_part old (place_of d made.0) made.1) new steps.3 ∙ same_places old (place_of d made.0) made.1

made_logs : {A : Type 0} (f : Option Logged → A) (d : Declared) (changes : List (part.Part × Part)) (old new : List (ℕ × Part)) → AreMade d changes old new → meant (λ y. f (logged_of y)) new ≡ meant (λ y. f (logged_of y)) old
made_logs f d [] old new made = ap (meant (λ y. f (logged_of y))) made
made_logs f d (made ∷ rest) old new steps =
    made_logs f d rest (with_part old (place_of d made.0) made.1) new steps.3
    ∙ meant_with (λ y. f (logged_of y)) old (place_of d made.0) steps.0 made.1 steps.1 (ap f steps.2)

-- ---- the entry

module _ (d : Declared) (inhand : List (ℕ × Part)) (who : Activity) (want : Want) (allowed : IsAllowed d inhand who want) where
  abbrev held : List (ℕ × Slice)
  held = meant meaning_of inhand

  abbrev pub all : List Slice
  all = allowed.asked.fitting.0

  abbrev pub so : IsSound d all
  so = sound d inhand allowed.number who want allowed.asked

  -- the state of one list that has the parts
  abbrev pub now : State
  now = s d inhand allowed.number who want allowed.asked

  -- what is wanted in it
  abbrev pub meets : wants.Want
  meets = wish d inhand allowed.number who want allowed.asked

  -- and the state in which that is met
  abbrev pub then_is : State
  then_is = met d now meets

  pub wanted_now : want_of d now (activity_in who) ≡ Some meets
  wanted_now = wanted d inhand allowed.number who want allowed.asked

  pub fits_now : Fits all held
  fits_now = fits d inhand allowed.number who want allowed.asked

  asked_now : option_and_then (want_of d now) (activity_of d allowed.number) ≡ Some meets
  asked_now = ap (option_and_then (want_of d now)) allowed.asked.number ∙ wanted_now

  stepped : (e : Entry) → activity_of d e.actor ≡ Some (activity_in who) → step d now e ≡ then_is
  unfolding step
  stepped e number = ap (λ o. option_map_or (met d now) o now) (ap (option_and_then (want_of d now)) number ∙ wanted_now)

  abbrev mine : Entry
  mine = record { actor = allowed.number; act = allowed.act }

  abbrev legal : IsLegal d (state_of d all) mine
  legal = (allowed.ready all so fits_now).0

  -- the act with which it is met
  pub granted_now : want_act d now meets ≡ Some allowed.act
  unfolding legal_act
  granted_now = sym (ap (option_and_then (want_act d now)) asked_now) ∙ subst (λ t. IsLegal d t mine) (back d all so) legal

  leaves_mine : slices d (step d (state_of d all) mine) ≡ slices d then_is
  leaves_mine = ap (λ t. slices d (step d t mine)) (back d all so) ∙ ap (slices d) (stepped mine allowed.asked.number)

  -- the entry of any number of this activity leads to the same
  same_number_step : (e : Entry) → activity_of d e.actor ≡ Some (activity_in who) → (t : State) → step d t e ≡ step d t mine
  unfolding step
  same_number_step e number t = ap (λ o. option_map_or (met d t) (option_and_then (want_of d t) o) t) (number ∙ sym allowed.asked.number)

  touched : (p : ℕ) → TouchesPlace d (state_of d all) mine p → IsHeld held p
  touched p t = (allowed.ready all so fits_now).1 p (inr t)

  -- what is in hand after the entry in one list is so in each
  pub everywhere : (e : Entry) → activity_of d e.actor ≡ Some (activity_in who) → (other : List Slice) (sound' : IsSound d other) → Fits other held → (p : ℕ) → IsHeld held p → get_elem? (slices d (step d (state_of d other) e)) p ≡ get_elem? (slices d then_is) p
  everywhere e number other sound' fits' p h =
      ap (λ t. get_elem? (slices d t) p) (same_number_step e number (state_of d other))
      ∙ leaves_at d mine held all other so sound' fits_now fits' legal touched p (get_elem? (all_parts d) p) refl h
      ∙ ap (λ l. get_elem? l p) leaves_mine

  held_all : (new : List (ℕ × Part)) (low : List (ℕ × Slice)) → places_of new ≡ map (λ x. x.0) low → ((p : ℕ) → IsHeld low p → IsHeld held p) → (a b : List Slice) → ((p : ℕ) → IsHeld held p → get_elem? b p ≡ get_elem? a p) → Fits a (meant meaning_of new) → Fits b (meant meaning_of new)
  held_all [] low places inside a b same f = tt
  held_all (x ∷ xs) [] places inside a b same f = absurd (cons_not_nil (sym places))
  held_all (x ∷ xs) (y ∷ ys) places inside a b same f = (
    same x.0 (inside x.0 (inl (sym (first_same places)))) ∙ f.0,
    held_all xs ys (rest_same places) (λ p h. inside p (inr h)) a b same f.1,
  )

  pub after_mine : (p : ℕ) (v : Slice) → LeavesAt d inhand who p v → get_elem? (slices d then_is) p ≡ some v
  after_mine p v leaves = ap (λ l. get_elem? l p) (sym leaves_mine) ∙ (leaves mine allowed.asked.number all so fits_now).0

  pub settled_now : IsSettled d now
  settled_now = settled d inhand allowed.number who want allowed.asked

  -- ---- the parts that a step needs

  touches_now : (x : part.Part) → IsPart d x → Touches now then_is meets x → TouchesPlace d now mine (place_of d x)
  touches_now x is_part t = record {
    part = x;
    there = at_place d x is_part;
    want = meets;
    wanted = asked_now;
    touched = subst (λ (r : State). Touches now r meets x) (sym (stepped mine allowed.asked.number)) t;
  }

  -- what is touched is in hand
  pub held_there : (x : part.Part) → IsPart d x → Touches now then_is meets x → IsHeld held (place_of d x)
  held_there x is_part t = touched (place_of d x) (subst (λ z. TouchesPlace d z mine (place_of d x)) (sym (back d all so)) (touches_now x is_part t))

  -- so is what is told of the want
  pub there : (x : part.Part) → IsAmong x (parts_by (seen_in now) meets) → IsThere d inhand x
  there x among =
      let r = reach d inhand allowed.number who want allowed.asked x among in
      record { reachable = r; held = held_there x r.there (sure now then_is meets x among) }

  -- what a part in hand tells of the state
  pub read : (x : part.Part) (y : Part) → IsPart d x → part_at inhand (place_of d x) ≡ Some y → slice_of now x ≡ meaning_of y
  read x y is_part at = slice_read d inhand all so fits_now y x is_part at

  -- where the parts that were made are what they are when the want is met, and so are the others in hand
  pub done_as : (old new : Hand Part) (changes : List (part.Part × Part)) → old.parts ≡ inhand → new.room ≡ old.room → AreMade d changes inhand new.parts → AreIn d then_is changes → Mixed d (slices d then_is) changes inhand → IsDone d who old new
  done_as old new changes is room made right start = record {
    room = room;
    places = places ∙ ap places_of (sym is);
    after = λ e number other sound' fits'.
        held_all new.parts held (places ∙ sym (map_map inhand)) (λ p h. h) (slices d then_is) (slices d (step d (state_of d other) e))
        (λ p h. everywhere e number other sound' (subst (λ l. Fits other (meant meaning_of l)) is fits') p h) fitted;
    logs = made_logs (λ o. option_map_or (λ (log : Logged). log.pairs) o []) d changes inhand new.parts made ∙ ap (meant log_of) (sym is);
    spare = made_logs (λ o. option_map_or (λ (log : Logged). log.spare) o 0) d changes inhand new.parts made ∙ ap (meant spare_of) (sym is);
    notes = made_logs (λ o. option_map_or (λ (log : Logged). log.notes) o []) d changes inhand new.parts made ∙ ap (meant notes_of) (sym is);
  }
    where
      places : places_of new.parts ≡ places_of inhand
      places = made_places d changes inhand new.parts made

      map_map : (parts : List (ℕ × Part)) → map (λ x. x.0) (meant meaning_of parts) ≡ places_of parts
      map_map [] = refl
      map_map (x ∷ xs) = ap (λ l. x.0 ∷ l) (map_map xs)

      fitted : Fits (slices d then_is) (meant meaning_of new.parts)
      fitted = fits_each d (slices d then_is) 0 new.parts (ap (rises_from 0) places ∙ allowed.ascending) (λ p y at. ⊎_elim (λ good. good) (λ nobody. absurd nobody) (all_made d (slices d then_is) changes then_is inhand new.parts refl made right start p y at))

  -- where the parts that the want touches were made what they are when it is met
  pub done : (old new : Hand Part) (changes : List (part.Part × Part)) → old.parts ≡ inhand → new.room ≡ old.room → AreMade d changes inhand new.parts → AreIn d then_is changes → ((x : part.Part) → Touches now then_is meets x → IsMade x changes) → IsDone d who old new
  done old new changes is room made right covers = done_as old new changes is room made right start
    where
      in_state : (p : ℕ) → (IsKey d changes p → ⊥) → TouchesPlace d now mine p → ⊥
      in_state p never t =
          let same : t.want ≡ meets = same_Some t.want meets (sym t.wanted ∙ asked_now) in
          let there : Touches now then_is meets t.part = subst (λ (r : State). Touches now r meets t.part) (stepped mine allowed.asked.number) (subst (λ (w : wants.Want). Touches now (step d now mine) w t.part) same t.touched) in
          never (made_key d changes t.part p (spot d p t.part t.there) (covers t.part there))

      own : (p : ℕ) → (IsKey d changes p → ⊥) → p ≡ kept_at d (activity_of d allowed.number) → ⊥
      own p never is =
          let granted = granted_now in
          let there : Touches now then_is meets (own_of (activity_in who)) = subst (λ (m : machine.Activity). Touches now then_is meets (own_of m)) (maker_is d now (activity_in who) meets wanted_now) (kept_touched d now then_is meets allowed.act granted) in
          let at : p ≡ place_of d (own_of (activity_in who)) = is ∙ ap (kept_at d) allowed.asked.number ∙ spot d (kept_at d (Some (activity_in who))) (own_of (activity_in who)) (kept_there d (activity_in who) (in_range d allowed.number (activity_in who) allowed.asked.number)) in
          never (made_key d changes (own_of (activity_in who)) p at (covers (own_of (activity_in who)) there))

      untouched : (p : ℕ) → (IsKey d changes p → ⊥) → TouchesAt d (state_of d all) mine p → ⊥
      untouched p never (inl is) = own p never is
      untouched p never (inr t) = in_state p never (subst (λ z. TouchesPlace d z mine p) (back d all so) t)

      start : Mixed d (slices d then_is) changes inhand
      start p y at = ⊎_elim
          (λ key. inr key)
          (λ never. inl (ap (λ l. get_elem? l p) (sym leaves_mine) ∙ (world_lawful d).elsewhere all mine p so legal (untouched p never) ∙ fits_at meaning_of all p inhand y at fits_now))
          (key_or d changes p)

-- What is known of an entry by the parts in hand alone.
use Rattle.std.proofs.Common.{◌≡◌, ℕ, ◌+◌, ◌<◌, List, [], ◌∷◌, map, length, ◌⊎◌, inl, inr, ⊎_elim, refl, sym, ap, ◌∙◌, subst}
use Rattle.std.specs.Prelude.{option_and_then}
use mathlib.Core.Option as opt
use mathlib.Core.Option.{some, none, some-injective, some-ne-none}
use lib.ListN.{get_elem?}
use Rattle.std.proofs.lemmas.Option.{same_Some}
use Rattle.be_hall.specs.Machine.{Fits, HeldFit, IsHeld, IsReady}
use Rattle.be_script.specs.Script.{Declared}
use Rattle.be_machine.specs.declared.Entry.{Entry}
use Rattle.be_machine.specs.Laws.{IsWantOf}
use Rattle.be_machine.specs.Legal.{IsLegal}
use Rattle.be_machine.specs.State.{State}
use Rattle.be_machine.specs.Step.{step}
use Rattle.be_machine.specs.Touched.{Part, SamePart, Touches}
use Rattle.be_machine.specs.Wants.{want_of}
use Rattle.be_machine.proofs.HasParts.{HasParts, step_parts}
use Rattle.be_machine.proofs.LegalEntries.{IsMet, met_by}
use Rattle.be_machine.proofs.ReadsEntries.{IsReadIn, read_by}
use Rattle.std.proofs.lemmas.List.{length-map}
use Rattle.be_rules.specs.Rules.{IsNext, IsSound, SliceFits, TouchesPlace, TouchesAt, world_machine}
use Rattle.be_rules.specs.Slices.{Slice, slice_of, all_parts, slices, state_of}
use Rattle.be_rules.proofs.Cut.{IsWhole}
use Rattle.be_rules.proofs.Lawfully.{state, whole, back, after_is, legal_there, slice_fits_after}
use Rattle.be_machine.proofs.NumbersSteps.{grows_step}
use Rattle.be_rules.proofs.ListLemmas.{elem_map, none_map, same_elements, there_in, slice_or, or_there, some_there, cons_not_nil, first_same, rest_same}
use Rattle.be_rules.specs.Places.{place_of, IsPart}
use Rattle.be_rules.proofs.Local.{is_part, at_place, part_by, others_same}
use Rattle.be_rules.proofs.Same.{same_slice}

-- a part in hand has this meaning
get_held : (all : List Slice) (held : List (ℕ × Slice)) (p : ℕ) → Fits all held → IsHeld held p → (m : Slice) × (get_elem? all p ≡ some m)
get_held all [] p f h = absurd h
get_held all (x ∷ xs) p f h = ⊎_elim (λ is. (x.1, ap (get_elem? all) (sym is) ∙ f.0)) (λ later. get_held all xs p f.1 later) h

-- lists that have the same parts in hand have the same there
same_held : (all other : List Slice) (held : List (ℕ × Slice)) (p : ℕ) → Fits all held → Fits other held → IsHeld held p → get_elem? all p ≡ get_elem? other p
same_held all other [] p f g h = absurd h
same_held all other (x ∷ xs) p f g h = ⊎_elim (λ is. ap (get_elem? all) (sym is) ∙ f.0 ∙ sym g.0 ∙ ap (get_elem? other) is) (λ later. same_held all other xs p f.1 g.1 later) h

-- two sound lists that have the same parts in hand, and an entry that is permitted in the first and touches them alone
module _ (d : Declared) (e : Entry) (held : List (ℕ × Slice))
    (all other : List Slice) (sound : IsSound d all) (sound' : IsSound d other) (fits : Fits all held) (fits' : Fits other held)
    (legal : IsLegal d (state_of d all) e) (touched : (p : ℕ) → TouchesPlace d (state_of d all) e p → IsHeld held p) where
  abbrev s : State
  s = state d all sound

  abbrev r : State
  r = state d other sound'

  abbrev now : IsLegal d s e
  now = legal_there d all sound e legal

  abbrev met : IsMet d s e
  met = met_by d s e now

  wanted : IsWantOf d s e met.want
  wanted = ap (option_and_then (want_of d s)) met.numbered ∙ met.wanted

  -- the parts that are in hand are the same in both
  held_same : (x : Part) → IsPart d x → IsHeld held (place_of d x) → SamePart s r x
  held_same x there h = part_by d s r (whole d all sound) (whole d other sound') x (same_elements (slice_of r x) (slice_of s x) (
      sym (elem_map (slice_of r) (all_parts d) (place_of d x) x (at_place d x there))
      ∙ sym (ap (λ l. get_elem? l (place_of d x)) sound'.is)
      ∙ sym (same_held all other held (place_of d x) fits fits' h)
      ∙ ap (λ l. get_elem? l (place_of d x)) sound.is
      ∙ elem_map (slice_of s) (all_parts d) (place_of d x) x (at_place d x there)))

  same_by : (x : Part) → Touches s (step d s e) met.want x → IsPart d x ⊎ (IsPart d x → ⊥) → SamePart s r x
  same_by x t (inl there) = held_same x there (touched (place_of d x) (subst (λ z. TouchesPlace d z e (place_of d x)) (sym (back d all sound)) (record { part = x; there = at_place d x there; want = met.want; wanted = wanted; touched = t })))
  same_by x t (inr out) = others_same d s r (whole d all sound) (whole d other sound') x out

  reads : IsReadIn d s r e met.want
  reads = read_by d sound.history sound'.history e met.want sound.limits sound.legal sound'.legal now wanted (λ x t. same_by x t (is_part d x))

  pub permits_too : IsLegal d (state_of d other) e
  permits_too = subst (λ z. IsLegal d z e) (sym (back d other sound')) reads.legal

  -- it touches the same places
  pub touches_too : (p : ℕ) → TouchesPlace d (state_of d other) e p → IsHeld held p
  touches_too p t =
      let there : TouchesPlace d r e p = subst (λ z. TouchesPlace d z e p) (back d other sound') t in
      let same_want : there.want ≡ met.want = same_Some there.want met.want (sym there.wanted ∙ reads.wanted) in
      let is : Touches r (step d r e) met.want there.part = subst (λ want. Touches r (step d r e) want there.part) same_want there.touched in
      touched p (subst (λ z. TouchesPlace d z e p) (sym (back d all sound)) (record { part = there.part; there = there.there; want = met.want; wanted = wanted; touched = (reads.touches there.part).1 is }))

  -- a part that is the same after the entry is the same slice
  same_after : (x : Part) → SamePart (step d s e) (step d r e) x → slice_of (step d r e) x ≡ slice_of (step d s e) x
  same_after x kept =
      let old : IsWhole d s = whole d all sound in
      let one : HasParts d (step d s e) = step_parts d s e now old.parts in
      let two : HasParts d (step d r e) = step_parts d r e reads.legal (whole d other sound').parts in
      same_slice (step d s e) (step d r e) x (subst (λ n. 0 < n) (sym one.width) old.wide) (two.width ∙ sym one.width) (two.screen ∙ sym one.screen) kept

  -- and leaves the same in hand
  pub leaves_same : (x : Part) → IsPart d x → IsHeld held (place_of d x) → get_elem? (slices d (step d (state_of d other) e)) (place_of d x) ≡ get_elem? (slices d (step d (state_of d all) e)) (place_of d x)
  leaves_same x there h =
      let kept : SamePart (step d s e) (step d r e) x = reads.kept x (held_same x there h) in
      let is : slice_of (step d r e) x ≡ slice_of (step d s e) x = same_after x kept in
      ap (λ l. get_elem? l (place_of d x)) (ap (λ z. slices d (step d z e)) (back d other sound'))
      ∙ elem_map (slice_of (step d r e)) (all_parts d) (place_of d x) x (at_place d x there)
      ∙ ap (λ y. some y) is
      ∙ sym (elem_map (slice_of (step d s e)) (all_parts d) (place_of d x) x (at_place d x there))
      ∙ sym (ap (λ l. get_elem? l (place_of d x)) (after_is d all sound e legal))

  -- at any place in hand
  held_at : (p : ℕ) (x : Part) → get_elem? (all_parts d) p ≡ some x → IsHeld held p → SamePart s r x
  held_at p x there h = part_by d s r (whole d all sound) (whole d other sound') x (same_elements (slice_of r x) (slice_of s x) (
      sym (elem_map (slice_of r) (all_parts d) p x there)
      ∙ sym (ap (λ l. get_elem? l p) sound'.is)
      ∙ sym (same_held all other held p fits fits' h)
      ∙ ap (λ l. get_elem? l p) sound.is
      ∙ elem_map (slice_of s) (all_parts d) p x there))

  pub leaves_at : (p : ℕ) (o : opt.Option Part) → get_elem? (all_parts d) p ≡ o → IsHeld held p → get_elem? (slices d (step d (state_of d other) e)) p ≡ get_elem? (slices d (step d (state_of d all) e)) p
  leaves_at p none there h =
      ap (λ l. get_elem? l p) (ap (λ z. slices d (step d z e)) (back d other sound'))
      ∙ none_map (slice_of (step d r e)) (all_parts d) p there
      ∙ sym (none_map (slice_of (step d s e)) (all_parts d) p there)
      ∙ sym (ap (λ l. get_elem? l p) (after_is d all sound e legal))
  leaves_at p (some x) there h =
      let kept : SamePart (step d s e) (step d r e) x = reads.kept x (held_at p x there h) in
      let is : slice_of (step d r e) x ≡ slice_of (step d s e) x = same_after x kept in
      ap (λ l. get_elem? l p) (ap (λ z. slices d (step d z e)) (back d other sound'))
      ∙ elem_map (slice_of (step d r e)) (all_parts d) p x there
      ∙ ap (λ y. some y) is
      ∙ sym (elem_map (slice_of (step d s e)) (all_parts d) p x there)
      ∙ sym (ap (λ l. get_elem? l p) (after_is d all sound e legal))

-- so it is enough to look at one list
pub ready_by : (d : Declared) (e : Entry) (held : List (ℕ × Slice)) (all : List Slice) (sound : IsSound d all) → Fits all held → IsLegal d (state_of d all) e → ((p : ℕ) → TouchesAt d (state_of d all) e p → IsHeld held p) → IsReady (world_machine d) held e
ready_by d e held all sound fits legal touched other sound' fits' =
    let far : (p : ℕ) → TouchesPlace d (state_of d all) e p → IsHeld held p = λ p t. touched p (inr t) in
    (permits_too d e held all other sound sound' fits fits' legal far, λ p t. ⊎_elim (λ is. touched p (inl is)) (λ there. touches_too d e held all other sound sound' fits fits' legal far p there) t)

-- ---- what the entry makes of the parts in hand

-- the places, each with its slice in the list
abbrev cut_at : (after : List Slice) (held : List (ℕ × Slice)) → List (ℕ × Slice)
cut_at after [] = []
cut_at after (x ∷ xs) = (x.0, slice_or x.1 (get_elem? after x.0)) ∷ cut_at after xs

cut_fits : (after : List Slice) (held : List (ℕ × Slice)) → ((p : ℕ) → IsHeld held p → p < length after) → Fits after (cut_at after held)
cut_fits after [] h = tt
cut_fits after (x ∷ xs) h = (or_there (get_elem? after x.0) x.1 (some_there after x.0 (h x.0 (inl refl))), cut_fits after xs (λ p k. h p (inr k)))

fits_as : (a b : List Slice) (cut held : List (ℕ × Slice)) → map (λ x. x.0) cut ≡ map (λ x. x.0) held → ((p : ℕ) → IsHeld held p → get_elem? b p ≡ get_elem? a p) → Fits a cut → Fits b cut
fits_as a b [] held e same f = tt
fits_as a b (x ∷ xs) [] e same f = absurd (cons_not_nil (sym e))
fits_as a b (x ∷ xs) (y ∷ ys) e same f = (same x.0 (inl (sym (first_same e))) ∙ f.0, fits_as a b xs ys (rest_same e) (λ p h. same p (inr h)) f.1)

cut_places : (after : List Slice) (held : List (ℕ × Slice)) → map (λ x. x.0) (cut_at after held) ≡ map (λ x. x.0) held
cut_places after [] = refl
cut_places after (x ∷ xs) = ap (λ l. x.0 ∷ l) (cut_places after xs)

held_below : (all : List Slice) (held : List (ℕ × Slice)) (p : ℕ) → Fits all held → IsHeld held p → p < length all
held_below all held p f h = let m = get_held all held p f h in there_in all p m.0 m.1

-- what comes of the parts in hand is determined by them
pub next_there : (d : Declared) (e : Entry) (held : List (ℕ × Slice)) (all : List Slice) → IsSound d all → Fits all held → IsReady (world_machine d) held e → (next : List (ℕ × Slice)) × IsNext d held e next
next_there d e held all sound fits ready =
    let both = ready all sound fits in
    let far : (p : ℕ) → TouchesPlace d (state_of d all) e p → IsHeld held p = λ p t. both.1 p (inr t) in
    let after : List Slice = slices d (step d (state_of d all) e) in
    let long : length all ≡ length after = ap length sound.is ∙ length-map (all_parts d) (slice_of (state d all sound)) ∙ sym (length-map (all_parts d) (slice_of (step d (state_of d all) e))) in
    let cut : Fits after (cut_at after held) = cut_fits after held (λ p h. subst (λ n. p < n) long (held_below all held p fits h)) in
    (cut_at after held, (cut_places after held, λ other sound' fits'. fits_as after (slices d (step d (state_of d other) e)) (cut_at after held) held (cut_places after held) (λ p h. leaves_at d e held all other sound sound' fits fits' both.0 far p (get_elem? (all_parts d) p) refl h) cut))

-- ---- how far the parts in hand are

fits_from : (d : Declared) (n : ℕ) (e : Entry) (all : List Slice) (sound : IsSound d all) (p : ℕ) (o : opt.Option Part) (m k : Slice) → get_elem? (all_parts d) p ≡ o → get_elem? all p ≡ some m → get_elem? (slices d (step d (state_of d all) e)) p ≡ some k → IsLegal d (state_of d all) e → SliceFits n m → SliceFits (n + 1) k
fits_from d n e all sound p none m k there here next legal f = absurd (some-ne-none m (sym here ∙ ap (λ l. get_elem? l p) sound.is ∙ none_map (slice_of (state d all sound)) (all_parts d) p there))
fits_from d n e all sound p (some x) m k there here next legal f =
    let s : State = state d all sound in
    let old : m ≡ slice_of s x = same_elements m (slice_of s x) (sym here ∙ ap (λ l. get_elem? l p) sound.is ∙ elem_map (slice_of s) (all_parts d) p x there) in
    let new : k ≡ slice_of (step d s e) x = same_elements k (slice_of (step d s e) x) (sym next ∙ ap (λ l. get_elem? l p) (after_is d all sound e legal) ∙ elem_map (slice_of (step d s e)) (all_parts d) p x there) in
    subst (SliceFits (n + 1)) (sym new) (slice_fits_after n s (step d s e) x (grows_step d s e) (subst (SliceFits n) old f))

held_fits_by : (d : Declared) (n : ℕ) (e : Entry) (all : List Slice) (sound : IsSound d all) (held next : List (ℕ × Slice)) → map (λ x. x.0) next ≡ map (λ x. x.0) held → Fits all held → Fits (slices d (step d (state_of d all) e)) next → IsLegal d (state_of d all) e → HeldFit SliceFits n held → HeldFit SliceFits (n + 1) next
held_fits_by d n e all sound held [] same f g legal h = tt
held_fits_by d n e all sound [] (y ∷ ys) same f g legal h = absurd (cons_not_nil (sym same))
held_fits_by d n e all sound (x ∷ xs) (y ∷ ys) same f g legal h = (
  fits_from d n e all sound x.0 (get_elem? (all_parts d) x.0) x.1 y.1 refl f.0 (ap (get_elem? (slices d (step d (state_of d all) e))) (sym (first_same same)) ∙ g.0) legal h.0,
  held_fits_by d n e all sound xs ys (rest_same same) f.1 g.1 legal h.1,
)

-- parts in hand that fit n fit one more after the entry
pub held_fits : (d : Declared) (n : ℕ) (e : Entry) (held next : List (ℕ × Slice)) (all : List Slice) → IsSound d all → Fits all held → IsReady (world_machine d) held e → IsNext d held e next → HeldFit SliceFits n held → HeldFit SliceFits (n + 1) next
held_fits d n e held next all sound fits ready is h = held_fits_by d n e all sound held next is.0 fits (is.1 all sound fits) (ready all sound fits).0 h

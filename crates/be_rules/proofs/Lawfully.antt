-- The rules of the world keep the laws of parts.
use Rattle.std.proofs.Common.{◌≡◌, ℕ, ◌+◌, ◌*◌, ◌<◌, ◌≤◌, List, [], ◌∷◌, ◌++◌, map, length, Option, Some, None, inl, inr, refl, sym, ap, ◌∙◌, subst, arith}
use Rattle.std.specs.Prelude.{slice_get, option_and_then}
use Rattle.std.proofs.lemmas.List.{length-map}
use Rattle.std.proofs.lemmas.Option.{same_Some}
use mathlib.Core.Option as opt
use mathlib.Core.Option.{some, none, some-injective, some-ne-none}
use lib.ListN.{get_elem?}
use Rattle.be_hall.specs.Machine.{AllFit, Lawful}
use Rattle.be_hall.specs.Numbers.{total}
use Rattle.be_link.specs.Queues.{Buffer}
use Rattle.be_message.specs.Messages.{Message}
use Rattle.be_port.specs.Ports.{Port}
use Rattle.be_script.specs.Limits.{IsWithinLimits}
use Rattle.be_script.specs.Script.{Declared}
use Rattle.be_machine.specs.Activities.{activity_of}
use Rattle.be_machine.specs.declared.Entry.{Entry}
use Rattle.be_machine.specs.History.{IsLegalHistory, state_after}
use Rattle.be_machine.specs.Laws.{IsWantOf}
use Rattle.be_machine.specs.Legal.{IsLegal}
use Rattle.be_machine.specs.State.{State, opening_state}
use Rattle.be_machine.specs.Step.{step}
use Rattle.be_machine.specs.Touched.{Part, SamePart, Touches}
use Rattle.be_machine.specs.Touched as part
use Rattle.be_machine.specs.Wants.{want_of}
use Rattle.be_machine.proofs.HasParts.{HasParts, step_parts}
use Rattle.be_machine.proofs.Histories.{in_range, legal_more, parts_after, state_more}
use Rattle.be_machine.proofs.LegalEntries.{IsMet, met_by, maker, maker_is}
use Rattle.be_machine.proofs.NumbersGrow.{Grows}
use Rattle.be_machine.proofs.NumbersSteps.{grows_step}
use Rattle.be_machine.proofs.PixelHistory.{desktop_after}
use Rattle.be_machine.proofs.TouchedEntries.{untouched}
use Rattle.be_machine.proofs.WorkFalls.{potential_falls}
use Rattle.be_machine.proofs.WorkHistory.{shape_after}
use Rattle.be_machine.specs.Shares.{potential}
use Rattle.be_rules.specs.Rules.{IsSound, TouchesPlace, TouchesAt, kept_at, PortFits, BufferFits, SliceFits, world_machine}
use Rattle.be_rules.specs.Shares.{share}
use Rattle.be_rules.specs.Slices as sl
use Rattle.be_rules.specs.Slices.{Slice, slice_of, all_parts, slices, state_of}
use Rattle.be_rules.proofs.Cut.{IsWhole, put_together}
use Rattle.be_rules.proofs.Keepers.{own_of, kept_there, kept_touched}
use Rattle.be_rules.proofs.ListLemmas.{elem_map, none_map, there_in}
use Rattle.be_rules.proofs.Same.{same_slice}
use Rattle.be_rules.proofs.Sum.{sum_is}

-- ---- what holds after every legal history

pub whole_after : (d : Declared) (h : List Entry) → IsWithinLimits d → IsLegalHistory d h → IsWhole d (state_after d h)
whole_after d h limits legal = record { parts = parts_after d h legal; wide = let w = limits.counts.width.0 in omega arith; desktop = λ x y. desktop_after d h x y legal }

-- ---- a sound list

module _ (d : Declared) (all : List Slice) (sound : IsSound d all) where
  abbrev pub state : State
  state = state_after d sound.history

  pub whole : IsWhole d state
  whole = whole_after d sound.history sound.limits sound.legal

  pub back : state_of d all ≡ state
  back = ap (state_of d) sound.is ∙ put_together d state whole

  module _ (e : Entry) (legal : IsLegal d (state_of d all) e) where
    pub legal_there : IsLegal d state e
    legal_there = subst (λ s. IsLegal d s e) back legal

    abbrev pub longer : List Entry
    longer = sound.history ++ e ∷ []

    pub legal_longer : IsLegalHistory d longer
    legal_longer = legal_more d (opening_state d) sound.history e sound.legal legal_there

    pub after_is : slices d (step d (state_of d all) e) ≡ slices d (step d state e)
    after_is = ap (λ s. slices d (step d s e)) back

    unfoldable pub sound_after : IsSound d (slices d (step d (state_of d all) e))
    sound_after = record { limits = sound.limits; history = longer; legal = legal_longer; is = after_is ∙ ap (slices d) (sym (state_more d (opening_state d) sound.history e)) }

    pub whole_next : IsWhole d (step d state e)
    whole_next = subst (IsWhole d) (state_more d (opening_state d) sound.history e) (whole_after d longer sound.limits legal_longer)

    falls_here : total (share d) (slices d (step d (state_of d all) e)) < total (share d) all
    falls_here =
        let before : total (share d) all ≡ potential d state = ap (total (share d)) sound.is ∙ sum_is d state whole.parts in
        let now : total (share d) (slices d (step d (state_of d all) e)) ≡ potential d (step d state e) = ap (total (share d)) after_is ∙ sum_is d (step d state e) whole_next.parts in
        let falls : potential d (step d state e) < potential d state = potential_falls d state e sound.limits (shape_after d sound.history) legal_there in
        omega (arith, before, now, falls)

    -- ---- what isn't touched

    abbrev met : IsMet d state e
    met = met_by d state e legal_there

    wanted : IsWantOf d state e met.want
    wanted = ap (option_and_then (want_of d state)) met.numbered ∙ met.wanted

    same_at : (p : ℕ) (o : opt.Option Part) → get_elem? (all_parts d) p ≡ o → (TouchesPlace d state e p → ⊥) → get_elem? (slices d (step d state e)) p ≡ get_elem? (slices d state) p
    same_at p (some x) there out =
        let new : HasParts d (step d state e) = step_parts d state e legal_there whole.parts in
        let same : SamePart state (step d state e) x = untouched d state e met.want x legal_there wanted (λ t. out (record { part = x; there = there; want = met.want; wanted = wanted; touched = t })) in
        let is : slice_of (step d state e) x ≡ slice_of state x = same_slice state (step d state e) x (subst (λ n. 0 < n) (sym whole.parts.width) whole.wide) (new.width ∙ sym whole.parts.width) (new.screen ∙ sym whole.parts.screen) same in
        elem_map (slice_of (step d state e)) (all_parts d) p x there ∙ ap (λ y. some y) is ∙ sym (elem_map (slice_of state) (all_parts d) p x there)
    same_at p none there out = none_map (slice_of (step d state e)) (all_parts d) p there ∙ sym (none_map (slice_of state) (all_parts d) p there)

    elsewhere_here : (p : ℕ) → (TouchesPlace d (state_of d all) e p → ⊥) → get_elem? (slices d (step d (state_of d all) e)) p ≡ get_elem? all p
    elsewhere_here p out =
        ap (λ l. get_elem? l p) after_is
        ∙ same_at p (get_elem? (all_parts d) p) refl (subst (λ s. TouchesPlace d s e p → ⊥) back out)
        ∙ sym (ap (λ l. get_elem? l p) sound.is)

    keeper_here : TouchesPlace d (state_of d all) e (kept_at d (activity_of d e.actor))
    keeper_here =
        let made : maker met.want ≡ met.who = maker_is d state met.who met.want met.wanted in
        let here : TouchesPlace d state e (kept_at d (activity_of d e.actor)) = record {
          part = own_of met.who;
          there = ap (λ o. get_elem? (all_parts d) (kept_at d o)) met.numbered ∙ kept_there d met.who (in_range d e.actor met.who met.numbered);
          want = met.want;
          wanted = wanted;
          touched = subst (λ who. Touches state (step d state e) met.want (own_of who)) made (kept_touched d state (step d state e) met.want e.act met.granted);
        } in
        subst (λ s. TouchesPlace d s e (kept_at d (activity_of d e.actor))) (sym back) here

-- ---- how far parts are

port_fits_after : (n : ℕ) (s t : State) (w : ℕ) (o p : Option (Port Message)) → Grows 2 1 1 s t → slice_get s.ports w ≡ o → slice_get t.ports w ≡ p → PortFits n o → PortFits (n + 1) p
port_fits_after n s t w o None g read now f = tt
port_fits_after n s t w (Some x) (Some y) g read now f = omega (arith, g.arrived w (2 * n) (2 * n + 2) (omega arith) (λ z e. subst (λ (q : Port Message). length q.arrived ≤ 2 * n) (same_Some x z (sym read ∙ e)) f) y now)
port_fits_after n s t w None (Some y) g read now f = omega (arith, g.arrived w (2 * n) (2 * n + 2) (omega arith) (λ z e. let no : None ≡ Some z = sym read ∙ e in absurd (cc)) y now)

buffer_fits_after : (n : ℕ) (s t : State) (w : ℕ) (o p : Option Buffer) → Grows 2 1 1 s t → slice_get s.buffers w ≡ o → slice_get t.buffers w ≡ p → BufferFits n o → BufferFits (n + 1) p
buffer_fits_after n s t w o None g read now f = tt
buffer_fits_after n s t w (Some x) (Some y) g read now f = omega (arith, g.made w n (n + 1) (omega arith) (λ z e. subst (λ (q : Buffer). q.made ≤ n) (same_Some x z (sym read ∙ e)) f) y now)
buffer_fits_after n s t w None (Some y) g read now f = omega (arith, g.made w n (n + 1) (omega arith) (λ z e. let no : None ≡ Some z = sym read ∙ e in absurd (cc)) y now)

pub slice_fits_after : (n : ℕ) (s t : State) (p : Part) → Grows 2 1 1 s t → SliceFits n (slice_of s p) → SliceFits (n + 1) (slice_of t p)
slice_fits_after n s t part.desk g f = tt
slice_fits_after n s t part.input g f = omega (arith, g.used, f)
slice_fits_after n s t (part.cell m) g f = tt
slice_fits_after n s t (part.looper w) g f = buffer_fits_after n s t w (slice_get s.buffers w) (slice_get t.buffers w) g refl refl f
slice_fits_after n s t (part.port w) g f = port_fits_after n s t w (slice_get s.ports w) (slice_get t.ports w) g refl refl f
slice_fits_after n s t (part.link w) g f = tt
slice_fits_after n s t (part.pane w) g f = tt

all_fit_after : (n : ℕ) (s t : State) (ps : List Part) → Grows 2 1 1 s t → AllFit SliceFits n (map (slice_of s) ps) → AllFit SliceFits (n + 1) (map (slice_of t) ps)
all_fit_after n s t [] g f = tt
all_fit_after n s t (p ∷ ps) g f = (slice_fits_after n s t p g f.0, all_fit_after n s t ps g f.1)

port_fits_more : (n k : ℕ) (o : Option (Port Message)) → n ≤ k → PortFits n o → PortFits k o
port_fits_more n k (Some p) le f = omega (arith, f)
port_fits_more n k None le f = tt

buffer_fits_more : (n k : ℕ) (o : Option Buffer) → n ≤ k → BufferFits n o → BufferFits k o
buffer_fits_more n k (Some b) le f = omega (arith, f)
buffer_fits_more n k None le f = tt

fits_more_here : (n k : ℕ) (m : Slice) → n ≤ k → SliceFits n m → SliceFits k m
fits_more_here n k (sl.desk x) le f = tt
fits_more_here n k (sl.input i b) le f = omega (arith, f)
fits_more_here n k (sl.cell m a) le f = tt
fits_more_here n k (sl.looper w l b) le f = buffer_fits_more n k b le f
fits_more_here n k (sl.port w p) le f = port_fits_more n k p le f
fits_more_here n k (sl.link w l) le f = tt
fits_more_here n k (sl.pane w p) le f = tt

touched_in : (d : Declared) (all : List Slice) (s : IsSound d all) (e : Entry) → IsLegal d (state_of d all) e → (q : ℕ) → TouchesAt d (state_of d all) e q → q < length (all_parts d)
touched_in d all s e p q (inl is) = let t : TouchesPlace d (state_of d all) e (kept_at d (activity_of d e.actor)) = keeper_here d all s e p in subst (λ n. n < length (all_parts d)) (sym is) (there_in (all_parts d) _ t.part t.there)
touched_in d all s e p q (inr t) = there_in (all_parts d) q t.part t.there

pub world_lawful : (d : Declared) → Lawful (world_machine d)
world_lawful d = record {
  as_many = λ all s. ap length s.is ∙ length-map (all_parts d) (slice_of (state_after d s.history));
  stays_sound = λ all e s p. sound_after d all s e p;
  falls = λ all e s p. falls_here d all s e p;
  elsewhere = λ all e q s p out. elsewhere_here d all s e p q (λ t. out (inr t));
  touched_below = λ all e q s p t. touched_in d all s e p q t;
  keeper_touched = λ all e s p. inl refl;
  fits_more = fits_more_here;
  fits_after = λ n all e s p f. subst (AllFit SliceFits (n + 1)) (sym (after_is d all s e p)) (all_fit_after n (state_after d s.history) (step d (state_after d s.history) e) (all_parts d) (grows_step d (state_after d s.history) e) (subst (AllFit SliceFits n) s.is f));
}

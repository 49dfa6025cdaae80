-- The panes of a plan that was made with the parts in hand.
use Rattle.std.proofs.Common.{◌≡◌, ℕ, zero, suc, ◌<◌, ℤ, List, [], ◌∷◌, map, Some, Ok, ◌⊎◌, inl, inr, refl, sym, ap, ◌∙◌, subst, ⊎_elim, arith}
use Rattle.std.specs.Prelude.{slice_get, slice_index_or}
use Rattle.std.proofs.lemmas.Option.{same_Some}
use Rattle.be_facts.proofs.Lists.{get_map}
use Rattle.be_asking.proofs.Asked.{here}
use Rattle.be_asking.specs.declared.activity.Activity.{Activity}
use Rattle.be_asking.specs.declared.want.Want.{Want}
use Rattle.be_changes.proofs.PanesChanged.{map_got, pane_apart}
use Rattle.be_changes.proofs.PartLists.{among_panes}
use Rattle.be_changes.proofs.PlanTold.{after, pane_changed, window_of_pane}
use Rattle.be_changes.specs.Panes.{IsEachOnce, IsToChange, PanesAreToChange, pane_places}
use Rattle.be_changes.specs.Planned.{HasDesk, HasPaneOf, IsPlannedIn, places_of_panes}
use Rattle.be_desk.specs.Changes.{Desk, desk_after}
use Rattle.be_desk.specs.Plans.{AreAscending, IsPlanOf, Planned}
use Rattle.be_geom.specs.Numbers.{is_number}
use Rattle.be_geom.proofs.Numbered.{differs}
use Rattle.be_hall.specs.Hands.{part_at}
use Rattle.be_machine.proofs.Lists as lists
use Rattle.be_machine.specs.Pixels.{owner_in}
use Rattle.be_machine.specs.State.{State}
use Rattle.be_machine.specs.Touched as part
use Rattle.be_machine.specs.Touched.{TouchesPanes}
use Rattle.be_machine.specs.Windows.{changed}
use Rattle.be_pane.specs.declared.pane.Pane.{Pane}
use Rattle.be_parts.specs.Changed.{HasSpansOf, IsChanged}
use Rattle.be_parts.specs.Kept.{Kept}
use Rattle.be_parts.specs.Stands.{PaneIs, PaneShows}
use Rattle.be_parts.specs.declared.part.Part.{Part}
use Rattle.be_parts.specs.declared.part.Part.TheVariants as kinds
use Rattle.be_rules.proofs.Cut.{IsWhole}
use Rattle.be_rules.proofs.Lawfully.{whole}
use Rattle.be_rules.proofs.ListLemmas.{there_below}
use Rattle.be_rules.specs.Far.{windows_behind}
use Rattle.be_rules.specs.Places.{IsPart, place_of}
use Rattle.be_rules.specs.Slices.{Slice, desk, desk_in, pane, shown_of, slice_of}
use Rattle.be_rules.specs.Sure.{IsAmong}
use Rattle.be_script.specs.Script.{Declared}
use Rattle.be_stack.specs.Owner.{owner_at}
use Rattle.be_stack.specs.Windows.{Windows}
use Rattle.be_steps.proofs.Leaving.{left, left_is}
use Rattle.be_steps.proofs.Making.{all, now, read, so, then_is}
use Rattle.be_steps.specs.Steps.{IsAllowed, LeavesAt}
use Rattle.be_steps.specs.There.{IsThere}

-- ---- panes in order

got_at : (xs : List Pane) (k : ℕ) (x default : Pane) → slice_get xs k ≡ Some x → slice_index_or xs k default ≡ x
got_at [] k x default at = absurd (cc)
got_at (y ∷ ys) zero x default at = same_Some y x at
got_at (y ∷ ys) (suc k) x default at = got_at ys k x default at

rising : (xs : List Pane) → AreAscending xs → (k j : ℕ) (p q : Pane) → k < j → slice_get xs k ≡ Some p → slice_get xs j ≡ Some q → p.window < q.window
rising xs rises k j p q less at_k at_j =
    let lt : (slice_index_or xs k p).window < (slice_index_or xs j p).window = rises k j p less (there_below xs j q at_j) in
    subst (λ (x : Pane). x.window < q.window) (got_at xs k p p at_k) (subst (λ (x : Pane). (slice_index_or xs k p).window < x.window) (got_at xs j q p at_j) lt)

three : (k j : ℕ) → (k < j) ⊎ ((k ≡ j) ⊎ (j < k))
three zero zero = inr (inl refl)
three zero (suc j) = inl (omega arith)
three (suc k) zero = inr (inr (omega arith))
three (suc k) (suc j) = ⊎_elim (λ less. inl (let lt : k < j = less in omega arith)) (λ more. inr (⊎_elim (λ same. inl (ap suc same)) (λ less. inr (let lt : j < k = less in omega arith)) more)) (three k j)

module _ (d : Declared) (inhand : List (ℕ × Part)) (who : Activity) (want : Want) (allowed : IsAllowed d inhand who want) (known : Desk) (at_desk : HasDesk d inhand known) where
  abbrev s : State
  s = now d inhand who want allowed

  abbrev later : State
  later = then_is d inhand who want allowed

  pub the_whole : IsWhole d s
  the_whole = whole d (all d inhand who want allowed) (so d inhand who want allowed)

  pub desk_is : s.desk ≡ known
  desk_is = same_Some s.desk known (ap desk_in (read d inhand who want allowed part.desk (kinds.Desk (desk known)) tt at_desk))

  -- what is told of a part afterwards is what it is in the state afterwards
  pub told_later : (x : part.Part) (v : Slice) → IsPart d x → LeavesAt d inhand who (place_of d x) v → v ≡ slice_of later x
  told_later x v is_part leaves = left_is d inhand who want allowed x is_part v leaves

  pub leaves_as : (x : part.Part) (v : Slice) → IsThere d inhand x → slice_of later x ≡ v → LeavesAt d inhand who (place_of d x) v
  leaves_as x v is same = subst (λ (z : Slice). LeavesAt d inhand who (place_of d x) z) same (left d inhand who want allowed x is.reachable.there is.held)

module _ (d : Declared) (inhand : List (ℕ × Part)) (who : Activity) (want : Want) (allowed : IsAllowed d inhand who want) (plan : Planned) (places : List ℕ) (planned : IsPlannedIn d inhand plan places) where
  abbrev before : State
  before = now d inhand who want allowed

  abbrev afterwards : State
  afterwards = then_is d inhand who want allowed

  whole_before : IsWhole d before
  whole_before = the_whole d inhand who want allowed planned.known planned.at_desk

  desk_before : before.desk ≡ planned.known
  desk_before = desk_is d inhand who want allowed planned.known planned.at_desk

  plan_is : IsPlanOf plan before.desk planned.panes
  plan_is = subst (λ (k : Desk). IsPlanOf plan k planned.panes) (sym desk_before) planned.planned

  pane_part : (k : ℕ) (p : Pane) → slice_get planned.panes k ≡ Some p → IsPart d (part.pane p.window)
  pane_part k p got = window_of_pane d before whole_before.parts plan planned.panes plan_is k p got

  slice_was : (k : ℕ) (p : Pane) (got : slice_get planned.panes k ≡ Some p) → pane p.window (shown_of before p.window) ≡ (planned.stand k p got).0.slice
  slice_was k p got = read d inhand who want allowed (part.pane p.window) (kinds.Pane (planned.stand k p got).0) (pane_part k p got) (planned.stand k p got).1

  shows : (k : ℕ) (p : Pane) → slice_get planned.panes k ≡ Some p → PaneShows p.window (shown_of before p.window) p
  shows k p got = subst (λ (z : Slice). PaneIs z p) (sym (slice_was k p got)) (planned.stand k p got).2

  pub after_desk : (a : Desk) × (desk_after before.desk plan.window plan.change ≡ Ok a)
  after_desk = after d before whole_before.parts whole_before.desktop plan planned.panes plan_is shows

  abbrev windows : List ℕ
  windows = map (λ (p : Pane). p.window) planned.panes

  panes_places : places ≡ pane_places d windows
  panes_places = planned.of_panes ∙ by planned.panes
    where
      by : (panes : List Pane) → places_of_panes d panes ≡ pane_places d (map (λ (p : Pane). p.window) panes)
      by [] = refl
      by (p ∷ ps) = ap (λ l. place_of d (part.pane p.window) ∷ l) (by ps)

  -- each window stands once, as they rise
  windows_once : IsEachOnce windows
  windows_once k j u at_k at_j =
      let p = map_got (λ (p : Pane). p.window) planned.panes k u at_k in
      let q = map_got (λ (p : Pane). p.window) planned.panes j u at_j in
      ⊎_elim
      (λ less. absurd (let lt : p.0.window < q.0.window = rising planned.panes planned.ascending k j p.0 q.0 less p.1 q.1 in let a : u ≡ p.0.window = p.2 in let b : u ≡ q.0.window = q.2 in omega arith))
      (λ more. ⊎_elim
      (λ same. same)
      (λ less. absurd (let lt : q.0.window < p.0.window = rising planned.panes planned.ascending j k q.0 p.0 less q.1 p.1 in let a : u ≡ p.0.window = p.2 in let b : u ≡ q.0.window = q.2 in omega arith))
      more)
      (three k j)

  -- ---- ready to be changed

  module _ (pane_later : (u : ℕ) → slice_of afterwards (part.pane u) ≡ pane u (shown_of (changed before plan.window plan.change) u)) where
    spans_of : (k : ℕ) (p : Pane) → slice_get planned.panes k ≡ Some p → (v : Slice) → v ≡ slice_of afterwards (part.pane p.window) → (was : Kept) → pane p.window (shown_of before p.window) ≡ was.slice → HasSpansOf plan k was.slice v
    spans_of k p got v is was same =
        let these : lists.IsThere plan.spans k = lists.there plan.spans k (subst (λ n. k < n) (sym plan_is.each) (there_below planned.panes k p got)) in (
          these.element,
          these.read,
          subst (λ (a : Slice). IsChanged plan.windows plan.window plan.change these.element a v) same
              (subst (λ (b : Slice). IsChanged plan.windows plan.window plan.change these.element (pane p.window (shown_of before p.window)) b) (sym (is ∙ pane_later p.window))
              (pane_changed d before whole_before.parts whole_before.desktop plan planned.panes plan_is shows k p these.element got these.read)),
        )

    -- while no pane was touched
    module _ (parts : List (ℕ × Part)) (stay : (u : ℕ) → IsPart d (part.pane u) → part_at parts (place_of d (part.pane u)) ≡ part_at inhand (place_of d (part.pane u))) where
      pane_ready : (k u : ℕ) (p : Pane) → slice_get planned.panes k ≡ Some p → u ≡ p.window → IsToChange d inhand parts who plan k u
      pane_ready k u p got is =
          subst (λ n. IsToChange d inhand parts who plan k n) (sym is)
          (record {
            there = pane_part k p got;
            held = here d inhand allowed.number who want allowed.asked (part.pane p.window) (kinds.Pane (planned.stand k p got).0) (planned.stand k p got).1;
            was = (planned.stand k p got).0;
            at_place = stay p.window (pane_part k p got) ∙ (planned.stand k p got).1;
            leads = λ v leaves. spans_of k p got v (told_later d inhand who want allowed planned.known planned.at_desk (part.pane p.window) v (pane_part k p got) leaves) (planned.stand k p got).0 (slice_was k p got);
          })

      -- what the loop over the panes asks for
      pub panes_ready : PanesAreToChange d inhand parts who plan places
      panes_ready = (windows, panes_places, windows_once, λ k u low at_k. let p = map_got (λ (p : Pane). p.window) planned.panes k u at_k in pane_ready k u p.0 p.1 p.2)

  -- ---- what was changed

  module _ (windows_later : afterwards.desk.windows ≡ windows_behind planned.known plan.window plan.change) (named : List ℕ) (places_are : places ≡ pane_places d named) where
    -- a pane that the plan has is made
    pane_made : (u : ℕ) → HasPaneOf planned.panes u → IsAmong (part.pane u) (map part.pane named)
    pane_made u (k, p, got, is) =
        let at_place : slice_get (pane_places d named) k ≡ Some (place_of d (part.pane u)) = ap (λ (l : List ℕ). slice_get l k) (sym places_are ∙ planned.of_panes) ∙ get_map (λ (p' : Pane). place_of d (part.pane p'.window)) planned.panes k p got ∙ ap (λ n. Some (place_of d (part.pane n))) is in
        let v = map_got (λ n. place_of d (part.pane n)) named k (place_of d (part.pane u)) at_place in
        among_panes named k u (v.1 ∙ ap (λ n. Some n) (sym (pane_apart d u v.0 v.2)))

    -- each pane that is touched is made
    pub stirred_made : (x : part.Part) → TouchesPanes before afterwards plan.window x → IsAmong x (map part.pane named)
    stirred_made x (u, is, stirs) = subst (λ (y : part.Part). IsAmong y (map part.pane named)) (sym is) (by stirs)
      where
        by : (u ≡ plan.window) ⊎ ((x : ℤ) × (y : ℤ) × ((owner_in before x y ≡ Some u) ⊎ (owner_in afterwards x y ≡ Some u)) × (owner_in afterwards x y ≡ owner_in before x y → ⊥)) → IsAmong (part.pane u) (map part.pane named)
        by (inl own) = pane_made u (planned.stirred u (inl own))
        by (inr (i, j, owns, other)) =
            pane_made u (planned.stirred u (inr (λ same.
            differs u (owner_in before i j) (owner_in afterwards i j) owns other
            (ap (λ (k : Desk). is_number u (owner_at k.windows i j)) desk_before ∙ same i j ∙ ap (λ (ws : Windows). is_number u (owner_at ws i j)) (sym windows_later)))))

-- The begin of an update as a step.
use Rattle.std.proofs.Common.{◌≡◌, ℕ, ◌≤◌, length, Bool, true, false, List, [], ◌∷◌, map, Option, Some, None, inl, inr, refl, sym, ap, ◌∙◌, subst, ⊎_elim}
use Rattle.std.specs.Prelude.{◌↔◌, slice_get}
use Rattle.std.proofs.lemmas.Option.{same_Some}
use Rattle.be_actor.specs.Wishes.{first_place}
use Rattle.be_asking.specs.declared.activity.Activity.{Activity}
use Rattle.be_asking.specs.declared.activity.Activity.TheVariants as who
use Rattle.be_asking.specs.declared.activity.Runner.TheVariants as by
use Rattle.be_asking.specs.declared.want.Want.{Want}
use Rattle.be_asking.specs.declared.want.Want.TheVariants as want
use Rattle.be_geom.specs.declared.rect.Rect.{Rect}
use Rattle.be_geom.proofs.Numbered.{number_is}
use Rattle.be_hall.specs.Hands.{Hand, part_at, with_part}
use Rattle.be_looper.specs.Duties as duties
use Rattle.be_machine.proofs.PixelExposed.{owned_cell_after}
use Rattle.be_machine.specs.KeptLimits.{NoSessionAtBegin}
use Rattle.be_machine.specs.Pixels.{owner_in}
use Rattle.be_machine.specs.State.{State, beginning, ending, handling, in_update}
use Rattle.be_machine.specs.Touched as part
use Rattle.be_machine.specs.Update.{at_stage, begun, listing_of}
use Rattle.be_machine.specs.Windows.{dirty_of, owned}
use Rattle.be_message.specs.Messages.{Message}
use Rattle.be_pane.specs.Owed.{IsClean}
use Rattle.be_pane.specs.declared.pane.Pane.{Pane}
use Rattle.be_parts.proofs.Begun.{are_dirty, as_owned, begun_views}
use Rattle.be_parts.specs.Begun.{IsBegun, IsPassed}
use Rattle.be_parts.specs.Changed.{cells_in}
use Rattle.be_parts.specs.Effects.{looper_with}
use Rattle.be_parts.specs.Kept.{Kept, Logged}
use Rattle.be_parts.specs.Panes.{IsFull}
use Rattle.be_parts.specs.Parts.{hand_with, meaning_of}
use Rattle.be_parts.specs.Stands.{PaneIs, PaneShows}
use Rattle.be_parts.specs.declared.part.Part.{Part}
use Rattle.be_parts.specs.declared.part.Part.TheVariants as kinds
use Rattle.be_rules.specs.Places.{place_of}
use Rattle.be_rules.specs.Slices.{Slice, pane, shown_of, slice_of}
use Rattle.be_script.specs.Script.{Declared}
use Rattle.be_steps.proofs.BeginStates.{begun_is, begun_pane, has_begun, link_kept, looper_open, looper_passed}
use Rattle.be_steps.proofs.FewViews.{few_listed}
use Rattle.be_steps.proofs.Leaving.{left_is}
use Rattle.be_steps.proofs.Making.{done, now, read, so, then_is, there, wanted_now}
use Rattle.be_steps.proofs.Stays.{part_held, stays, two_made, with_itself}
use Rattle.be_steps.specs.Made.{AreMade}
use Rattle.be_steps.specs.Steps.{IsAllowed, IsDone, LeavesAt}
use Rattle.be_steps.specs.Surveyed.{HasTree, IsFoundIn, IsSurveyedIn}
use Rattle.be_steps.specs.There.{IsThere}
use Rattle.be_update.specs.Laws.{BegunAsTheMachine, FoundAsTheMachine, ListedAsDirty}
use Rattle.be_update.specs.Sessions.{is_any}
use Rattle.be_update.specs.Surveys.{Surveyed}
use Rattle.be_views.specs.Whole.{IsTree}
use Rattle.be_machine.proofs.KeptSessions.{begins_there}

not_clean : (b : Bool) (P : Type 0) → (P → ⊥) → (P ↔ (b ≡ false)) → b ≡ true
not_clean true P waits both = refl
not_clean false P waits both = absurd (waits (both.1 refl))

-- the tree of the pane that is looked at
pub has_tree : (parts : List (ℕ × Part)) (place : ℕ) (kept : Kept) (p : Pane) → part_at parts place ≡ Some (kinds.Pane kept) → PaneIs kept.slice p → IsTree p.tree → HasTree parts place
has_tree parts place kept p at stands tree k here =
    let same : kept.slice ≡ k.slice = ap meaning_of (same_Some (kinds.Pane kept) (kinds.Pane k) (sym at ∙ here)) in
    (p, subst (λ (o : Slice). PaneIs o p) same stands, tree)

module _ (d : Declared) (old : Hand Part) (w : ℕ) (allowed : IsAllowed d old.parts (who.Runner (by.Looper w)) (want.Begins w)) where
  abbrev me : Activity
  me = who.Runner (by.Looper w)

  abbrev it : Want
  it = want.Begins w

  abbrev s : State
  s = now d old.parts me it allowed

  abbrev later : State
  later = then_is d old.parts me it allowed

  pub looper_there : IsThere d old.parts (part.looper w)
  looper_there = there d old.parts me it allowed (part.looper w) (inl refl)

  link_there : IsThere d old.parts (part.link w)
  link_there = there d old.parts me it allowed (part.link w) (inr (inl refl))

  pub pane_there : IsThere d old.parts (part.pane w)
  pane_there = there d old.parts me it allowed (part.pane w) (inr (inr (inl refl)))

  full : IsFull s w
  full x y mine = let sound = so d old.parts me it allowed in owned_cell_after d sound.history w x y sound.legal (number_is w (owner_in s x y) mine)

  link_was : (y : Part) × (part_at old.parts (place_of d (part.link w)) ≡ Some y)
  link_was = part_held old.parts (place_of d (part.link w)) link_there.held

  module _ (pp qp : ℕ) (pane_spot : pp ≡ place_of d (part.pane w)) (looper_spot : qp ≡ place_of d (part.looper w)) where
    pane_is : (k : Kept) → part_at old.parts pp ≡ Some (kinds.Pane k) → pane w (shown_of s w) ≡ k.slice
    pane_is k at = read d old.parts me it allowed (part.pane w) (kinds.Pane k) pane_there.reachable.there (ap (part_at old.parts) (sym pane_spot) ∙ at)

    pub pane_in : (k : Kept) × (part_at old.parts (place_of d (part.pane w)) ≡ Some (kinds.Pane k)) → (k : Kept) × (part_at old.parts pp ≡ Some (kinds.Pane k))
    pane_in has = (has.0, ap (part_at old.parts) pane_spot ∙ has.1)

    looper_stays : (y : Kept) → part_at (with_part old.parts pp (kinds.Pane y)) qp ≡ part_at old.parts qp
    looper_stays y = stays d old.parts (part.pane w) (part.looper w) pane_there.reachable.there looper_there.reachable.there (λ same. absurd (cc)) pp qp pane_spot looper_spot (kinds.Pane y)

    pub looper_in : (y : Kept) → (k : Kept) × (part_at old.parts (place_of d (part.looper w)) ≡ Some (kinds.Looper k)) → (k : Kept) × (part_at (with_part old.parts pp (kinds.Pane y)) qp ≡ Some (kinds.Looper k))
    looper_in y has = (has.0, looper_stays y ∙ ap (part_at old.parts) looper_spot ∙ has.1)

    looper_is : (y l : Kept) → part_at (with_part old.parts pp (kinds.Pane y)) qp ≡ Some (kinds.Looper l) → slice_of s (part.looper w) ≡ l.slice
    looper_is y l at = read d old.parts me it allowed (part.looper w) (kinds.Looper l) looper_there.reachable.there (ap (part_at old.parts) (sym looper_spot) ∙ sym (looper_stays y) ∙ at)

    told : (b : Hand Part) (v : Slice) → b ≡ old → LeavesAt d b.parts me pp v → v ≡ slice_of later (part.pane w)
    told b v copy leaves = left_is d old.parts me it allowed (part.pane w) pane_there.reachable.there v (subst (λ n. LeavesAt d old.parts me n v) pane_spot (subst (λ (h : Hand Part). LeavesAt d h.parts me pp v) copy leaves))

    after : (b : Hand Part) (v : Slice) → b ≡ old → LeavesAt d b.parts me pp v → v ≡ pane w (shown_of (begun s w) w)
    after b v copy leaves = told b v copy leaves ∙ ap (λ (r : State). pane w (shown_of r w)) (begun_is d s w)

    -- all is done once the pane and the looper are what they are then
    begin_done : (was is l m : Kept) (v : Slice) (b : Hand Part) → b ≡ old → part_at old.parts pp ≡ Some (kinds.Pane was) → LeavesAt d b.parts me pp v → is.slice ≡ v → is.log ≡ was.log
        → part_at (with_part old.parts pp (kinds.Pane is)) qp ≡ Some (kinds.Looper l) → slice_of later (part.looper w) ≡ m.slice → m.log ≡ l.log
        → IsDone d me old (hand_with (hand_with old pp (kinds.Pane is)) qp (kinds.Looper m))
    begin_done was is l m v b copy at leaves slice log at_looper looper_later log_later =
        let new : Hand Part = hand_with (hand_with old pp (kinds.Pane is)) qp (kinds.Looper m) in
        let rest : List (part.Part × Part) = (part.pane w, kinds.Pane is) ∷ (part.looper w, kinds.Looper m) ∷ [] in
        let two : AreMade d rest old.parts new.parts = two_made d old (part.pane w) (part.looper w) pp qp pane_spot looper_spot (kinds.Pane was) (kinds.Looper l) (kinds.Pane is) (kinds.Looper m) at at_looper (ap (λ (g : Logged). Some g) log) (ap (λ (g : Logged). Some g) log_later) in
        done d old.parts me it allowed old new ((part.link w, link_was.0) ∷ rest) refl refl
        (link_was.0, link_was.1, refl, subst (λ (l : List (ℕ × Part)). AreMade d rest l new.parts) (sym (with_itself old.parts (place_of d (part.link w)) link_was.0 link_was.1)) two) (
          inr (link_there.reachable.there, link_kept d s w ∙ read d old.parts me it allowed (part.link w) link_was.0 link_there.reachable.there link_was.1),
          (
            inr (pane_there.reachable.there, sym (told b v copy leaves) ∙ sym slice),
            (inr (looper_there.reachable.there, looper_later), tt),
          ),
        )
        (λ x touched. ⊎_elim (λ looper. inr (inr (inl looper))) (λ others. ⊎_elim (λ link. inl link) (λ pane. inr (inl pane)) others) touched)

    module _ (survey : Option Surveyed) (surveyed : IsSurveyedIn d old.parts w survey) where
      shows : PaneShows w (shown_of s w) surveyed.pane
      shows = subst (λ (o : Slice). PaneIs o surveyed.pane) (sym (pane_is surveyed.kept (ap (part_at old.parts) pane_spot ∙ surveyed.there))) surveyed.stands

      dirty_is : FoundAsTheMachine → ListedAsDirty → IsClean surveyed.pane.spans ↔ (is_any (dirty_of s w) ≡ false)
      dirty_is found listed = (found surveyed.pane w shows.corner shows.kept shows.tree (owned s w) (cells_in s) (dirty_of s w) (as_owned s w full surveyed.pane shows) (are_dirty s w full listed)).1

      -- ---- where a pixel waits

      module _ (found : FoundAsTheMachine) (listed : ListedAsDirty) (views : Surveyed) (some : survey ≡ Some views) where
        found_some : IsFoundIn (Some views) surveyed.pane
        found_some = subst (λ (o : Option Surveyed). IsFoundIn o surveyed.pane) some surveyed.found

        dirty : is_any (dirty_of s w) ≡ true
        dirty = not_clean (is_any (dirty_of s w)) (IsClean surveyed.pane.spans) found_some.1 (dirty_is found listed)

        pub is_begun : (was : Kept) (v : Slice) (b : Hand Part) → b ≡ old → part_at old.parts pp ≡ Some (kinds.Pane was) → LeavesAt d b.parts me pp v → IsBegun views was.slice v
        is_begun was v b copy at leaves = record {
          state = s;
          window = w;
          example = surveyed.pane;
          full = full;
          shows = shows;
          surveyed = found_some.0;
          dirty = dirty;
          before = sym (pane_is was at);
          after_is = after b v copy leaves;
        }

        views_are : BegunAsTheMachine → (was : Kept) (v : Slice) (b : Hand Part) → b ≡ old → part_at old.parts pp ≡ Some (kinds.Pane was) → LeavesAt d b.parts me pp v → views.views ≡ listing_of s w
        unfolding is_begun
        views_are begins was v b copy at leaves =
            begun_views views was.slice v surveyed.pane (begun_pane views surveyed.pane) (is_begun was v b copy at leaves) (subst (λ (o : Slice). PaneIs o surveyed.pane) (pane_is was at) shows) (has_begun views surveyed.pane) begins listed

        pub few_views : BegunAsTheMachine → HasTree old.parts pp → (drawn : List (ℕ × Rect)) → drawn ≡ views.views → (was : Kept) (v : Slice) (b : Hand Part) → b ≡ old → part_at old.parts pp ≡ Some (kinds.Pane was) → LeavesAt d b.parts me pp v → length drawn ≤ 32
        few_views begins has drawn are was v b copy at leaves =
            let tree = has was at in
            let other : PaneShows w (shown_of s w) tree.0 = subst (λ (o : Slice). PaneIs o tree.0) (sym (pane_is was at)) tree.1 in
            let same : tree.0.tree ≡ shows.tree = other.stands.views ∙ same_Some other.tree shows.tree (sym other.is_tree ∙ shows.is_tree) in
            subst (λ (l : List (ℕ × Rect)). length l ≤ 32) (sym (are ∙ views_are begins was v b copy at leaves))
            (few_listed s w shows.corner shows.tree shows.is_corner shows.is_tree (subst IsTree same tree.2))

        pub open_done : BegunAsTheMachine → (was is l m : Kept) (v : Slice) (b : Hand Part) (drawn : List (ℕ × Rect)) → b ≡ old → part_at old.parts pp ≡ Some (kinds.Pane was) → LeavesAt d b.parts me pp v → is.slice ≡ v → is.log ≡ was.log
            → drawn ≡ views.views → part_at (with_part old.parts pp (kinds.Pane is)) qp ≡ Some (kinds.Looper l) → m.slice ≡ looper_with (at_stage (in_update (map (λ p. p.0) drawn) first_place)) l.slice → m.log ≡ l.log
            → IsDone d me old (hand_with (hand_with old pp (kinds.Pane is)) qp (kinds.Looper m))
        open_done begins was is l m v b drawn copy at leaves slice log are at_looper drawing log_later =
            begin_done was is l m v b copy at leaves slice log at_looper
            (looper_open d s w shows.corner dirty shows.is_corner
            ∙ ap (looper_with (at_stage (in_update (map (λ p. p.0) (listing_of s w)) first_place))) (looper_is is l at_looper)
            ∙ ap (λ (listing : List (ℕ × Rect)). looper_with (at_stage (in_update (map (λ p. p.0) listing) first_place)) l.slice) (sym (are ∙ views_are begins was v b copy at leaves))
            ∙ sym drawing)
            log_later

      -- ---- where none does

      module _ (found : FoundAsTheMachine) (listed : ListedAsDirty) (none : survey ≡ None) where
        clean : is_any (dirty_of s w) ≡ false
        clean = (dirty_is found listed).0 (subst (λ (o : Option Surveyed). IsFoundIn o surveyed.pane) none surveyed.found)

        pub is_passed : NoSessionAtBegin → (was : Kept) (v : Slice) (b : Hand Part) → b ≡ old → part_at old.parts pp ≡ Some (kinds.Pane was) → LeavesAt d b.parts me pp v → IsPassed was.slice v
        is_passed law was v b copy at leaves =
            let sound = so d old.parts me it allowed in
            let hand : (hand : duties.Hand Message) × (slice_get s.loopers w ≡ Some (handling hand beginning)) = begins_there d s w (wanted_now d old.parts me it allowed) in
            record {
              state = s;
              window = w;
              full = full;
              clean = clean;
              closed = λ k at_pane. (law d sound.history w hand.0 k sound.limits sound.legal hand.1 at_pane).1;
              before = sym (pane_is was at);
              after_is = after b v copy leaves;
            }

        pub pass_done : (was is l m : Kept) (v : Slice) (b : Hand Part) → b ≡ old → part_at old.parts pp ≡ Some (kinds.Pane was) → LeavesAt d b.parts me pp v → is.slice ≡ v → is.log ≡ was.log
            → part_at (with_part old.parts pp (kinds.Pane is)) qp ≡ Some (kinds.Looper l) → m.slice ≡ looper_with (at_stage ending) l.slice → m.log ≡ l.log
            → IsDone d me old (hand_with (hand_with old pp (kinds.Pane is)) qp (kinds.Looper m))
        pass_done was is l m v b copy at leaves slice log at_looper ended log_later =
            begin_done was is l m v b copy at leaves slice log at_looper (looper_passed d s w clean ∙ ap (looper_with (at_stage ending)) (looper_is is l at_looper) ∙ sym ended) log_later

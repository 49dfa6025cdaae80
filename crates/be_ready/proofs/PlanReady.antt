-- A change of a window is planned with the panes of the windows that it stirs.
use Rattle.std.proofs.Common.{◌≡◌, ℕ, ◌<◌, List, [], ◌∷◌, length, map, Some, Result, Ok, inl, inr, ⊎_elim, refl, sym, ap, ◌∙◌, subst}
use Rattle.std.specs.List.{Contains}
use Rattle.std.specs.Prelude.{slice_get}
use Rattle.std.proofs.lemmas.Option.{same_Some}
use Rattle.be_asking.proofs.InHand.{desk_read, slice_read}
use Rattle.be_desk.specs.Affected.{AreAffected, HasAltered, OwnsTheSame}
use Rattle.be_desk.specs.Changes.{Desk, desk_after}
use Rattle.be_desk.specs.Desks.{IsTaken}
use Rattle.be_desk.specs.Plans.{AreAscending, ArePanesOf, IsPaneOf, IsPlanOf, Planned}
use Rattle.be_geom.specs.declared.change.Change.{Change}
use Rattle.be_geom.proofs.Numbered.{number_is}
use Rattle.be_hall.specs.Hands.{meant, part_at}
use Rattle.be_hall.specs.Machine.{Fits}
use Rattle.be_input.specs.Pointing.{corner_of}
use Rattle.be_machine.proofs.PixelExposed.{owned_cell_after}
use Rattle.be_machine.specs.Pixels.{owner_in}
use Rattle.be_machine.specs.State.{State}
use Rattle.be_machine.specs.Touched as part
use Rattle.be_machine.specs.Windows.{owned}
use Rattle.be_pane.specs.declared.pane.Pane.{Pane}
use Rattle.be_parts.proofs.Looking.{has_owned}
use Rattle.be_parts.specs.Kept.{Kept}
use Rattle.be_parts.specs.Panes.{IsFull}
use Rattle.be_parts.specs.Parts.{meaning_of}
use Rattle.be_parts.specs.Stands.{PaneIs, PaneShows}
use Rattle.be_parts.specs.declared.part.Part.{Part}
use Rattle.be_parts.specs.declared.part.Part.TheVariants as kinds
use Rattle.be_rules.proofs.Lawfully.{state}
use Rattle.be_rules.specs.Far.{windows_or}
use Rattle.be_rules.specs.Places.{place_of}
use Rattle.be_rules.specs.Rules.{IsSound}
use Rattle.be_rules.specs.Slices.{Slice, desk, shown_of}
use Rattle.be_script.specs.Script.{Declared}
use Rattle.be_stack.specs.declared.fault.ChangeFault.{ChangeFault}
use Rattle.be_desk.proofs.TakenLemmas.{taken_as}
use Rattle.be_steps.specs.There.{IsThere}
use Rattle.be_ready.proofs.LentPanes.{got_there, lent_at, lent_for, rising, there_got, windows_are}
use Rattle.be_ready.specs.Lent.{AreLent, IsLent}
use Rattle.be_ready.specs.Plannable.{IsPlannable}
use Rattle.be_changes.specs.Planned.{HasPaneOf, IsPlannedIn, IsStirredBy, StandsIn, places_of_panes}

-- a pane that stands for what is shown of its window is one of the desk
is_pane_of : (s : State) (u : ℕ) → IsFull s u → (p : Pane) → PaneShows u (shown_of s u) p → 0 < length p.tree → IsPaneOf s.desk p
is_pane_of s u full p shows rooted = record {
  place = ap (corner_of s.desk.windows) shows.stands.number ∙ shows.is_corner ∙ ap (λ z. Some z) (sym shows.stands.place);
  views = ap (slice_get s.desk.pointing.trees) shows.stands.number ∙ shows.is_tree ∙ ap (λ z. Some z) (sym shows.stands.views);
  rooted = rooted;
  colored = shows.whole.colored;
  drawn = shows.whole.drawn;
  pixels = λ x y. shows.stands.pixels x y ∙ has_owned s u full x y ∙ ap (λ n. owned s n x y) (sym shows.stands.number);
}

module _ (d : Declared) (parts : List (ℕ × Part)) (known : Desk) (w : ℕ) (change : Change) (can : IsPlannable d parts known w change) where
  abbrev all : List Slice
  all = can.fitting.0

  abbrev sound : IsSound d all
  sound = can.fitting.1

  abbrev fits : Fits all (meant meaning_of parts)
  fits = can.fitting.2

  -- the state of one list that has the parts
  abbrev s : State
  s = state d all sound

  desk_is : s.desk ≡ known
  desk_is = same_Some s.desk known (desk_read d parts all sound fits (kinds.Desk (desk known)) can.at_desk)

  full : (u : ℕ) → IsFull s u
  full u x y mine = owned_cell_after d sound.history u x y sound.legal (number_is u (owner_in s x y) mine)

  module _ (names : List ℕ) (taken : IsTaken (desk_after known w change)) (named : (after : Desk) → desk_after known w change ≡ Ok after → AreAffected known.windows after.windows w names) where
    abbrev after : (k : Desk) × (desk_after known w change ≡ Ok k)
    after = taken_as (desk_after known w change) taken

    -- the windows that are named are those that are stirred
    name_stirred : (u : ℕ) → Contains names u → IsStirredBy known w change u
    name_stirred u there =
        ⊎_elim (λ same. inl same)
        (λ other. inr (subst (λ (r : Result Desk ChangeFault). OwnsTheSame known.windows (windows_or known.windows r) u → ⊥) (sym after.1) other))
        (((named after.0 after.1).named u).0 there)

    stirred_named : (u : ℕ) → IsStirredBy known w change u → Contains names u
    stirred_named u (inl own) = ((named after.0 after.1).named u).1 (inl own)
    stirred_named u (inr other) =
        ((named after.0 after.1).named u).1 (inr (subst (λ (r : Result Desk ChangeFault). OwnsTheSame known.windows (windows_or known.windows r) u → ⊥) after.1 other))

    pub each_there : (u : ℕ) → Contains names u → IsThere d parts (part.pane u)
    each_there u there = can.there u (name_stirred u there)

    -- ---- with the panes

    shows : (u : ℕ) (p : Pane) → Contains names u → IsLent d parts u p → PaneShows u (shown_of s u) p
    shows u p there l =
        subst (λ (o : Slice). PaneIs o p) (sym (slice_read d parts all sound fits (kinds.Pane l.kept) (part.pane u) (each_there u there).reachable.there l.there)) l.stands

    window_of : (u : ℕ) (p : Pane) → Contains names u → IsLent d parts u p → p.window ≡ u
    window_of u p there l = (shows u p there l).stands.number

    one_of : (u : ℕ) (p : Pane) → Contains names u → IsLent d parts u p → IsPaneOf known p
    one_of u p there l = subst (λ (k : Desk). IsPaneOf k p) desk_is (is_pane_of s u (full u) p (shows u p there l) l.tree.some)

    module _ (panes : List Pane) (lent : AreLent d parts names panes) where
      named_as : map (λ (p : Pane). p.window) panes ≡ names
      named_as = windows_are d parts names panes window_of lent

      pub panes_of : ArePanesOf known panes
      panes_of k p at = let l = lent_at d parts names panes lent k p at in one_of l.0 p (got_there names k l.0 l.1) l.2

      pub ascending : AreAscending panes
      ascending = rising panes names named_as (named after.0 after.1).ascending

      pub has_altered : (then_desk : Desk) → desk_after known w change ≡ Ok then_desk → HasAltered known.windows then_desk.windows (map (λ (p : Pane). p.window) panes)
      has_altered then_desk is u other = subst (λ (us : List ℕ). Contains us u) (sym named_as) (((named then_desk is).named u).1 (inr other))

      stands_in : (k : ℕ) (p : Pane) → slice_get panes k ≡ Some p → StandsIn d parts p
      stands_in k p at =
          let l = lent_at d parts names panes lent k p at in
          let one : IsLent d parts l.0 p = l.2 in
          subst (λ n. (x : Kept) × (part_at parts (place_of d (part.pane n)) ≡ Some (kinds.Pane x)) × PaneIs x.slice p) (sym (window_of l.0 p (got_there names k l.0 l.1) one)) (one.kept, one.there, one.stands)

      stirred : (u : ℕ) → IsStirredBy known w change u → HasPaneOf panes u
      stirred u by =
          let there : Contains names u = stirred_named u by in
          let at = there_got names u there in
          let l = lent_for d parts names panes lent at.0 u at.1 in
          (at.0, l.0, l.1, window_of u l.0 there l.2)

      places_by : (ps : List Pane) → map (λ u. place_of d (part.pane u)) (map (λ (p : Pane). p.window) ps) ≡ places_of_panes d ps
      places_by [] = refl
      places_by (p ∷ ps) = ap (λ l. place_of d (part.pane p.window) ∷ l) (places_by ps)

      pub planned_in : (plan : Planned) (places : List ℕ) → plan.window ≡ w → plan.change ≡ change → IsPlanOf plan known panes → places ≡ map (λ u. place_of d (part.pane u)) names → IsPlannedIn d parts plan places
      planned_in plan places window is planned are = record {
        known = known;
        at_desk = can.at_desk;
        panes = panes;
        ascending = ascending;
        stand = stands_in;
        of_panes = are ∙ ap (map (λ u. place_of d (part.pane u))) (sym named_as) ∙ places_by panes;
        planned = planned;
        stirred = λ u by. stirred u (subst (λ n. IsStirredBy known n change u) window (subst (λ c. IsStirredBy known plan.window c u) is by));
      }

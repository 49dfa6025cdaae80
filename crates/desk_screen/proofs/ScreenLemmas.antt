-- A screen names each window that a change alters, and stays one.
use Rattle.std.specs.Prelude.{slice_get, slice_set, Contains, map}
use Rattle.std.proofs.Common.{◌≡◌, ℕ, ◌<◌, List, [], length, Some, Ok, inl, inr, sym, ap, ◌∙◌, subst, arith}
use Rattle.std.proofs.Common.{◌++◌, take, drop, get_or}
use Rattle.std.proofs.Math.Seq.{take-append_seam}
use Rattle.std.proofs.lemmas.Bool.{cases_eq, cases_lt}
use Rattle.std.proofs.lemmas.Option.{same_Some, slice_get-get_or}
use Rattle.be_facts.proofs.Lists.{element, set_length, set_other}
use Rattle.be_color.specs.declared.colors.Color.{Color}
use Rattle.be_geom.specs.declared.change.Change.{Change}
use Rattle.be_geom.specs.declared.rect.Rect.{Rect}
use Rattle.be_input.specs.Pointing.{corner_of}
use Rattle.be_pane.specs.declared.pane.Pane.{Pane}
use Rattle.be_region.specs.Regions.{region_has}
use Rattle.be_views.specs.Trees.{Tree}
use Rattle.be_desk.specs.Affected.{HasAltered}
use Rattle.be_desk.specs.Changes.{Desk, desk_after, owns}
use Rattle.be_desk.specs.Desks.{IsPaired}
use Rattle.be_desk.specs.Plans.{AreAscending, IsPaneOf}
use Rattle.be_desk.proofs.AffectedLemmas.{past_owns_none}
use Rattle.be_desk.proofs.DeskLemmas.{is_after}
use Rattle.be_desk.proofs.OthersLemmas.{others_stay}
use Rattle.be_desk.proofs.PairedLemmas.{set_there}
use Rattle.be_desk.proofs.PlanLemmas.{listed_name}
use Rattle.desk_screen.specs.Screens.{IsRecolored, IsScreen}

-- each window that a change alters has its pane
pub all_named : (before after : Desk) (panes : List Pane) (w : ℕ) (change : Change) → IsScreen before panes → desk_after before w change ≡ Ok after → HasAltered before.windows after.windows (map (λ pane. pane.window) panes)
all_named before after panes w change screen taken u differs =
    let stay = others_stay before.windows after.windows w change (is_after before after w change taken).windows in
    let many = stay.many in
    let each = screen.each in
    elim (cases_lt u (length panes)) [
      | inl less ↦
          let pane = element panes u less in
          subst (λ (n : ℕ). Contains (map (λ (p : Pane). p.window) panes) n) (screen.numbered u pane.0 pane.1) (listed_name panes u pane.0 pane.1)
      | inr above ↦
          absurd (differs (λ x y. past_owns_none before.windows u (omega arith) x y ∙ sym (past_owns_none after.windows u (omega arith) x y)))
    ]

-- and the panes are in order of their windows' numbers
pub ascending : (desk : Desk) (panes : List Pane) → IsScreen desk panes → AreAscending panes
ascending desk panes screen i j pane before within =
    let first = screen.numbered i (get_or panes i pane) (slice_get-get_or panes i pane (omega arith)) in
    let second = screen.numbered j (get_or panes j pane) (slice_get-get_or panes j pane within) in
    omega arith

-- ---- other cells

recolored_pane : (desk : Desk) (old new : Pane) → IsPaneOf desk old → IsRecolored old new → IsPaneOf desk new
recolored_pane desk old new of same = record {
  place = ap (corner_of desk.windows) same.window ∙ of.place ∙ ap (λ p. Some p) (sym same.place);
  views = ap (slice_get desk.pointing.trees) same.window ∙ of.views ∙ ap (λ t. Some t) (sym same.views);
  rooted = subst (λ (t : Tree). 0 < length t) (sym same.views) of.rooted;
  colored = ap (λ (l : List Color). length l) same.colors ∙ of.colored ∙ ap (λ (t : Tree). length t) (sym same.views);
  drawn = ap (λ l. length l) same.states ∙ of.drawn ∙ ap (λ (t : Tree). length t) (sym same.views);
  pixels = λ x y. ap (λ (r : List Rect). region_has r x y) same.pixels ∙ of.pixels x y ∙ ap (λ n. owns desk n x y) (sym same.window);
}

-- a screen stays one where a pane has other cells
pub recolored : (desk : Desk) (panes : List Pane) (w : ℕ) (old new : Pane) → slice_get panes w ≡ Some old → IsRecolored old new → IsScreen desk panes → IsScreen desk (slice_set panes w new)
recolored desk panes w old new there_old same screen =
    let there_new = set_there panes w new old there_old in
    record {
      paired = screen.paired;
      panes_of = λ k pane got.
          elim (cases_eq k w) [
            | inl here ↦
                subst (λ (p : Pane). IsPaneOf desk p) (same_Some new pane (sym there_new ∙ ap (slice_get (slice_set panes w new)) (sym here) ∙ got)) (recolored_pane desk old new (screen.panes_of w old there_old) same)
            | inr other ↦ screen.panes_of k pane (sym (set_other panes w k new other) ∙ got)
          ];
      each = set_length panes w new ∙ screen.each;
      numbered = λ k pane got.
          elim (cases_eq k w) [
            | inl here ↦
                ap (λ (p : Pane). p.window) (same_Some pane new (sym got ∙ ap (slice_get (slice_set panes w new)) here ∙ there_new)) ∙ same.window ∙ screen.numbered w old there_old ∙ sym here
            | inr other ↦ screen.numbered k pane (sym (set_other panes w k new other) ∙ got)
          ];
    }

-- as the list is written back
pub written_back : (desk : Desk) (panes new : List Pane) (n : ℕ) → IsScreen desk panes → n ≡ length panes → IsScreen desk new → IsScreen desk (take n (new ++ drop (length new) panes))
written_back desk panes new n screen long then_screen =
    let many = screen.each in
    let as_many = then_screen.each in
    let same : n ≡ length new = omega arith in
    subst (λ (l : List Pane). IsScreen desk l) (sym (ap (λ m. take m (new ++ drop (length new) panes)) same ∙ take-append_seam new (drop (length new) panes))) then_screen

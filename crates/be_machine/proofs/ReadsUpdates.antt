-- A notice, and the begin of an update, read only what they touch.
use Rattle.std.proofs.Common.{◌≡◌, ℕ, false, List, Some, None, inl, inr, refl, sym, ap, subst, ◌∙◌}
use Rattle.std.specs.Prelude.{◌+◌, [], slice_get, map, unwrap_or, option_map, option_and_then, length, ◌==◌, if◌then◌else◌}
use Rattle.std.specs.Option.{option_map_or}
use Rattle.be_actor.specs.Wishes.{first_place}
use Rattle.be_geom.specs.declared.point.Point.{Point}
use Rattle.be_geom.specs.declared.rect.Rect.{Rect}
use Rattle.be_port.specs.Ports.{with_letter}
use Rattle.be_script.specs.Script.{Declared}
use Rattle.be_span.specs.Screen.{each_cell}
use Rattle.be_update.specs.Listing.{listed_views}
use Rattle.be_update.specs.Sessions.{is_any, session_of, with_session, with_notice, passed, cleaned_cell}
use Rattle.be_machine.specs.Activities.{twin}
use Rattle.be_machine.specs.declared.Act.TheVariants as act
use Rattle.be_machine.specs.Legal.{want_act}
use Rattle.be_machine.specs.Lists.{at, with_both}
use Rattle.be_machine.specs.Port.{notice, notified}
use Rattle.be_machine.specs.State.{State, in_update}
use Rattle.be_machine.specs.Step.{met}
use Rattle.be_machine.specs.Touched.{SamePart}
use Rattle.be_machine.specs.Touched as part
use Rattle.be_machine.specs.Update.{listing_of, at_stage, opened, passed_by, begun}
use Rattle.be_machine.specs.Wants.{Want, notifies, executes, begins, want_of}
use Rattle.be_machine.specs.Windows.{width_of, owned, corner_at, tree_at, dirty_of}
use Rattle.be_machine.proofs.ReadsBoth.{Wanted, Reads}
use Rattle.be_machine.proofs.ReadsDirt.{same_owned, same_dirty, same_owes}
use Rattle.be_machine.proofs.ReadsLoopers.{looper_wants}
use Rattle.be_machine.proofs.ReadsParts.{Keeps, both_keep, found_keeps, tested_keeps, ports_keep, panes_keep, loopers_keep, screen_keeps}

-- ---- a notice

pub twin_wants : (d : Declared) (s r : State) (w : ℕ) (want : Want) → width_of r ≡ width_of s → SamePart s r (part.pane w) → want_of d s (twin w) ≡ Some want → want_of d r (twin w) ≡ Some want
unfolding want_of
twin_wants d s r w want width pane e = ap (λ b. Some (if b then notifies w else executes w)) (same_owes s r w width pane) ∙ e

pub reads_notice : (d : Declared) (s r : State) (w : ℕ) → Wanted d s r (notifies w) → Reads d s r (notifies w)
unfolding want_act met
reads_notice d s r w is =
    let port : SamePart s r (part.port w) = is.touched (part.port w) (inl refl) in
    record {
      wanted = twin_wants d s r w (notifies w) is.both.screens.width (is.touched (part.pane w) (inr refl)) is.wanted;
      granted = ap (option_map (λ p. act.Notify (length p.arrived + 1))) port;
      kept = both_keep s r (record s { ports = at s.ports w (with_letter (notice w)) }) (record r { ports = at r.ports w (with_letter (notice w)) }) (notified s w) (notified r w)
          (ports_keep s r w (with_letter (notice w))) (panes_keep (record s { ports = at s.ports w (with_letter (notice w)) }) (record r { ports = at r.ports w (with_letter (notice w)) }) w with_notice);
    }

-- ---- an update begins

same_listing : (s r : State) (w : ℕ) → dirty_of r w ≡ dirty_of s w → corner_at r w ≡ corner_at s w → tree_at r w ≡ tree_at s w → listing_of r w ≡ listing_of s w
unfolding listing_of
same_listing s r w dirty corner tree =
    ap (λ ps. unwrap_or (with_both (λ c t. Some (listed_views t (session_of c ps))) (corner_at r w) (tree_at r w)) []) dirty
    ∙ ap (λ o. unwrap_or (with_both (λ c t. Some (listed_views t (session_of c (dirty_of s w)))) o (tree_at r w)) []) corner
    ∙ ap (λ o. unwrap_or (with_both (λ c t. Some (listed_views t (session_of c (dirty_of s w)))) (corner_at s w) o) []) tree

-- what opens, by the pixels that wait and the views that are listed
abbrev opened_by : State → ℕ → Point → List Point → List (ℕ × Rect) → State
opened_by s w corner dirty listing = record s {
  panes = at s.panes w (with_session (session_of corner dirty));
  screen = each_cell (width_of s) (cleaned_cell (owned s w)) s.screen;
  loopers = at s.loopers w (at_stage (in_update (map (λ p. p.0) listing) first_place));
}

opened_by_keeps : (s r : State) (w : ℕ) (corner : Point) (dirty : List Point) (listing : List (ℕ × Rect)) → SamePart s r (part.pane w) → Keeps s r (opened_by s w corner dirty listing) (opened_by r w corner dirty listing)
opened_by_keeps s r w corner dirty listing (panes, pixels, corners, tree) =
    let s1 : State = record s { panes = at s.panes w (with_session (session_of corner dirty)) } in
    let r1 : State = record r { panes = at r.panes w (with_session (session_of corner dirty)) } in
    let s2 : State = record s1 { screen = each_cell (width_of s) (cleaned_cell (owned s w)) s.screen } in
    let r2 : State = record r1 { screen = each_cell (width_of r) (cleaned_cell (owned r w)) r.screen } in
    both_keep s r s2 r2 (opened_by s w corner dirty listing) (opened_by r w corner dirty listing)
    (both_keep s r s1 r1 s2 r2 (panes_keep s r w _) (screen_keeps s1 r1 (cleaned_cell (owned s w)) (cleaned_cell (owned r w)) (λ u same x y c own. ap (λ b. if b then record c { dirty = false } else c) (same_owned s r w x y pixels))))
    (loopers_keep s2 r2 w _)

opened_keeps : (s r : State) (w : ℕ) (corner : Point) → dirty_of r w ≡ dirty_of s w → listing_of r w ≡ listing_of s w → SamePart s r (part.pane w) → Keeps s r (opened s w corner) (opened r w corner)
opened_keeps s r w corner dirty listing pane =
    subst (λ ps. Keeps s r (opened s w corner) (opened_by r w corner ps (listing_of r w))) (sym dirty)
    (subst (λ vs. Keeps s r (opened s w corner) (opened_by r w corner (dirty_of s w) vs)) (sym listing) (opened_by_keeps s r w corner (dirty_of s w) (listing_of s w) pane))

passed_keeps : (s r : State) (w : ℕ) → Keeps s r (passed_by s w) (passed_by r w)
passed_keeps s r w =
    both_keep s r (record s { panes = at s.panes w passed }) (record r { panes = at r.panes w passed }) (passed_by s w) (passed_by r w)
    (panes_keep s r w passed) (loopers_keep (record s { panes = at s.panes w passed }) (record r { panes = at r.panes w passed }) w _)

begun_keeps : (s r : State) (w : ℕ) → dirty_of r w ≡ dirty_of s w → SamePart s r (part.pane w) → Keeps s r (begun s w) (begun r w)
unfolding begun
begun_keeps s r w dirty (panes, pixels, corner, tree) =
    subst (λ ps. Keeps s r (begun s w) (if is_any ps then option_map_or (opened r w) (corner_at r w) r else passed_by r w)) (sym dirty)
    (subst (λ o. Keeps s r (begun s w) (if is_any (dirty_of s w) then option_map_or (opened r w) o r else passed_by r w)) (sym corner)
    (tested_keeps s r (is_any (dirty_of s w)) (option_map_or (opened s w) (corner_at s w) s) (option_map_or (opened r w) (corner_at s w) r) (passed_by s w) (passed_by r w)
    (found_keeps s r (opened s w) (opened r w) (corner_at s w) (λ c e. opened_keeps s r w c dirty (same_listing s r w dirty corner tree) (panes, pixels, corner, tree)))
    (passed_keeps s r w)))

pub reads_begin : (d : Declared) (s r : State) (w : ℕ) → Wanted d s r (begins w) → Reads d s r (begins w)
unfolding want_act met
reads_begin d s r w is =
    let own : SamePart s r (part.looper w) = is.touched (part.looper w) (inl refl) in
    let link : SamePart s r (part.link w) = is.touched (part.link w) (inr (inl refl)) in
    let pane : SamePart s r (part.pane w) = is.touched (part.pane w) (inr (inr refl)) in
    let dirty : dirty_of r w ≡ dirty_of s w = same_dirty s r w is.both.screens.width pane.1 in
    record {
      wanted = looper_wants d s r w (begins w) own is.wanted;
      granted = ap (λ ps. option_and_then (λ l. if length l == 0 then Some (act.Begin (is_any ps)) else None) (slice_get r.links w)) dirty ∙ ap (option_and_then (λ l. if length l == 0 then Some (act.Begin (is_any (dirty_of s w))) else None)) link;
      kept = begun_keeps s r w dirty pane;
    }

-- After every legal history the roots cover their windows, and each view has a colour.
use Rattle.std.proofs.Common.{◌≡◌, ℕ, zero, suc, ◌+◌, Bool, true, false, List, [], ◌∷◌, map, length, length-set, Option, Some, None, Result, Ok, Err, refl, sym, ap, subst, ◌∙◌}
use Rattle.std.specs.Prelude.{slice_get, slice_set, option_map, option_and_then, if◌then◌else◌}
use Rattle.std.specs.List.{enumerate_from}
use Rattle.std.specs.Option.{option_map_or}
use Rattle.std.proofs.lemmas.List.{length-map}
use Rattle.std.proofs.lemmas.Option.{same_Some, slice_get-map}
use Rattle.be_bitmap.specs.Pictures.{Picture}
use Rattle.be_color.specs.declared.colors.Color.{Color}
use Rattle.be_command.specs.Effects.{Deed, Effect, at_view, changes, ends_update, effect_of}
use Rattle.be_desk.specs.Changes.{Desk, desk_after}
use Rattle.be_geom.specs.declared.change.Change.{Change}
use Rattle.be_geom.specs.declared.change.Change.TheVariants.{Activate}
use Rattle.be_geom.specs.declared.point.Point.{Point}
use Rattle.be_input.specs.Deliveries.{Delivery}
use Rattle.be_input.specs.declared.Event.TheVariants as event
use Rattle.be_pane.specs.Panes.{Pane, first_pane}
use Rattle.be_script.specs.declared.InputLine.{InputLine}
use Rattle.be_script.specs.declared.InputLine.TheVariants as line
use Rattle.be_script.specs.declared.WindowLine.{WindowLine}
use Rattle.be_script.specs.Script.{Declared}
use Rattle.be_script.specs.Windows.{view_lines, declared_view, root_view, tree_of, colors_of}
use Rattle.be_stack.specs.declared.fault.ChangeFault.{ChangeFault}
use Rattle.be_stack.specs.declared.window.Window.{Window}
use Rattle.be_stack.specs.Windows.{Windows}
use Rattle.be_twin.specs.Executed.{Sight, is_done, pane_by, pane_after, without_session}
use Rattle.be_twin.specs.Deeds.{deed_outcome}
use Rattle.be_update.specs.Sessions.{is_any, session_of, with_session, passed}
use Rattle.be_views.specs.Trees.{Tree}
use Rattle.be_machine.specs.Commands.{sight_at, with_effect, done_at_view, without_front, executed_command, executed}
use Rattle.be_machine.specs.declared.Entry.{Entry}
use Rattle.be_machine.specs.History.{AreLegalFrom, IsLegalHistory, state_from, state_after}
use Rattle.be_machine.specs.Input.{delivery_of, activated, with_delivery, with_event}
use Rattle.be_machine.specs.Legal.{IsLegal}
use Rattle.be_machine.specs.Lists.{set_at}
use Rattle.be_machine.specs.State.{State, opening_state, opening_window}
use Rattle.be_machine.specs.Step.{met, step}
use Rattle.be_machine.specs.Update.{begun, opened, passed_by}
use Rattle.be_machine.specs.Wants.{Want, asks, takes, begins, flushes, draws_end, ends, notifies, executes, uses, stops}
use Rattle.be_machine.specs.Windows.{corner_at, dirty_of, changed, changed_to, view_colors}
use Rattle.be_machine.proofs.Fitted.{SetRead, here, elsewhere, set_read, IsFit, AreFit}
use Rattle.be_machine.proofs.FittedDesk.{FitAfter, desk_fit}
use Rattle.be_machine.proofs.Found.{IsMapped, mapped}
use Rattle.be_machine.proofs.LegalEntries.{IsMet, met_by}
use Rattle.be_machine.proofs.PixelSteps.{IsShown, quiet_shown, is_quiet, colors_kept}
use Rattle.be_machine.proofs.ProgressCases.{by_test, by_option}

-- ---- what holds

-- a window has as many colours as views
abbrev pub AreColored : List (List Color) → List Tree → Type 0
AreColored colors trees = (w : ℕ) (own : List Color) (tree : Tree) → slice_get colors w ≡ Some own → slice_get trees w ≡ Some tree → length own ≡ length tree

pub record IsFitted (s : State) : Type 0 where
  pub fit : AreFit s.desk.windows.windows s.desk.pointing.trees
  pub colored : AreColored (view_colors s) s.desk.pointing.trees

-- ---- what shows nothing

fitted_by : (s r : State) → r.desk.windows.windows ≡ s.desk.windows.windows → r.desk.pointing.trees ≡ s.desk.pointing.trees → view_colors r ≡ view_colors s → IsFitted s → IsFitted r
fitted_by s r windows trees colors h = record {
  fit = λ w window tree read there. h.fit w window tree (sym (ap (λ l. slice_get l w) windows) ∙ read) (sym (ap (λ l. slice_get l w) trees) ∙ there);
  colored = λ w own tree read there. h.colored w own tree (sym (ap (λ l. slice_get l w) colors) ∙ read) (sym (ap (λ l. slice_get l w) trees) ∙ there);
}

shown_fitted : (s r : State) → IsShown s r → IsFitted s → IsFitted r
shown_fitted s r is h = fitted_by s r (ap (λ (x : Windows). x.windows) is.windows) is.trees is.colors h

-- ---- changes

changed_by : (s : State) (w : ℕ) (change : Change) (r : Result Desk ChangeFault) → FitAfter s.desk r → IsFitted s → IsFitted (changed_to s w change r)
changed_by s w change (Ok new) after h = record {
  fit = after.fit;
  colored = λ u own tree read there. let before = after.views u tree there in h.colored u own before.0 read before.1.0 ∙ sym before.1.1;
}
changed_by s w change (Err f) after h = h

pub changed_fitted : (s : State) (w : ℕ) (change : Change) → IsFitted s → IsFitted (changed s w change)
unfolding changed
changed_fitted s w change h = changed_by s w change (desk_after s.desk w change) (desk_fit s.desk w change h.fit) h

-- ---- commands

own_if : (b : Bool) (a c : Pane) → length a.colors ≡ length c.colors → length (if b then a else c).colors ≡ length c.colors
own_if true a c h = h
own_if false a c h = refl

as_many_colors : (pictures : List Picture) (deed : Deed) (v : ℕ) (o : Option Sight) (pane : Pane) → length (pane_after pictures deed v o pane).colors ≡ length pane.colors
unfolding pane_after
as_many_colors pictures deed v (Some sight) pane = own_if (is_done (deed_outcome pictures sight.reach.stack deed)) (pane_by pictures deed v sight pane) pane (length-set pane.colors v _)
as_many_colors pictures deed v None pane = refl

-- the colours of a window are as many as they were
own_before : (panes : List Pane) (w u : ℕ) (old new : Pane) (own : List Color) (pane : Pane) → slice_get panes w ≡ Some old → length new.colors ≡ length old.colors → SetRead panes w u new pane → pane.colors ≡ own → (x : Pane) × ((slice_get panes u ≡ Some x) × (length own ≡ length x.colors))
own_before panes w u old new own pane there same (here is is_pane) e = (old, (ap (slice_get panes) (sym is) ∙ there, ap (λ (l : List Color). length l) (sym e) ∙ ap (λ (p : Pane). length p.colors) (sym is_pane) ∙ same))
own_before panes w u old new own pane there same (elsewhere other read) e = (pane, (read, ap (λ (l : List Color). length l) (sym e)))

set_colors : (panes : List Pane) (trees : List Tree) (w : ℕ) (f : Pane → Pane) (o : Option Pane) → slice_get panes w ≡ o → ((pane : Pane) → length (f pane).colors ≡ length pane.colors) → AreColored (map (λ (pane : Pane). pane.colors) panes) trees → AreColored (map (λ (pane : Pane). pane.colors) (set_at panes w f o)) trees
set_colors panes trees w f (Some old) there same h u own tree read at_tree =
    let is : IsMapped (λ (pane : Pane). pane.colors) (slice_get (slice_set panes w (f old)) u) own = mapped (λ (pane : Pane). pane.colors) (slice_get (slice_set panes w (f old)) u) own (sym (slice_get-map (λ (pane : Pane). pane.colors) (slice_set panes w (f old)) u) ∙ read) in
    let before = own_before panes w u old (f old) own is.from there (same old) (set_read panes w u (f old) is.from is.read) is.is in
    before.1.1 ∙ h u before.0.colors tree (slice_get-map (λ (pane : Pane). pane.colors) panes u ∙ ap (option_map (λ (pane : Pane). pane.colors)) before.1.0) at_tree
set_colors panes trees w f None there same h u own tree read at_tree = h u own tree read at_tree

deed_fitted : (pictures : List Picture) (s : State) (w v : ℕ) (deed : Deed) (pane : Pane) → IsFitted s → IsFitted (done_at_view pictures s w v deed pane)
deed_fitted pictures s w v deed pane h = record {
  fit = h.fit;
  colored = set_colors s.panes s.desk.pointing.trees w (pane_after pictures deed v (sight_at s w v pane)) (slice_get s.panes w) refl (as_many_colors pictures deed v (sight_at s w v pane)) h.colored;
}

effect_fitted : (pictures : List Picture) (s : State) (w : ℕ) (effect : Effect) → IsFitted s → IsFitted (with_effect pictures s w effect)
effect_fitted pictures s w (at_view v deed) h = by_option IsFitted (done_at_view pictures s w v deed) s (slice_get s.panes w) h (λ pane. deed_fitted pictures s w v deed pane h)
effect_fitted pictures s w (changes change) h = changed_fitted s w change h
effect_fitted pictures s w ends_update h = fitted_by s (with_effect pictures s w ends_update) refl refl (colors_kept s.panes w without_session (λ pane. refl)) h

executed_fitted : (d : Declared) (s : State) (w : ℕ) → IsFitted s → IsFitted (executed d s w)
unfolding executed
executed_fitted d s w h = by_option IsFitted (executed_command d s w) s (option_and_then (λ link. slice_get link 0) (slice_get s.links w)) h (λ c. effect_fitted d.pictures (without_front s w) w (effect_of c.command) (record { fit = h.fit; colored = h.colored }))

-- ---- updates and input

opened_fitted : (s : State) (w : ℕ) (corner : Point) → IsFitted s → IsFitted (opened s w corner)
opened_fitted s w corner h = fitted_by s (opened s w corner) refl refl (colors_kept s.panes w (with_session (session_of corner (dirty_of s w))) (λ pane. refl)) h

begun_fitted : (s : State) (w : ℕ) → IsFitted s → IsFitted (begun s w)
unfolding begun
begun_fitted s w h =
    by_test IsFitted (is_any (dirty_of s w)) (option_map_or (opened s w) (corner_at s w) s) (passed_by s w)
    (by_option IsFitted (opened s w) s (corner_at s w) h (λ corner. opened_fitted s w corner h))
    (fitted_by s (passed_by s w) refl refl (colors_kept s.panes w passed (λ pane. refl)) h)

activated_fitted : (s : State) (o : Option ℕ) → IsFitted s → IsFitted (activated s o)
activated_fitted s (Some w) h = changed_fitted s w Activate h
activated_fitted s None h = h

delivery_fitted : (s : State) (x : Delivery) → IsFitted s → IsFitted (with_delivery s x)
delivery_fitted s x h = activated_fitted _ x.activate (record { fit = h.fit; colored = h.colored })

event_fitted : (s : State) (x : InputLine) → IsFitted s → IsFitted (with_event s x)
event_fitted s (line.Press p) h = delivery_fitted s (delivery_of s (event.Press p)) h
event_fitted s (line.Release p) h = delivery_fitted s (delivery_of s (event.Release p)) h
event_fitted s (line.Move p) h = delivery_fitted s (delivery_of s (event.Move p)) h
event_fitted s (line.Key key) h = delivery_fitted s (delivery_of s (event.Key key)) h
event_fitted s (line.After m) h = record { fit = h.fit; colored = h.colored }

-- ---- all wants

quiet_fitted : (d : Declared) (s : State) (want : Want) → is_quiet want ≡ true → IsFitted s → IsFitted (met d s want)
quiet_fitted d s want quiet h = shown_fitted s (met d s want) (quiet_shown d s want quiet) h

want_fitted : (d : Declared) (s : State) (want : Want) → IsFitted s → IsFitted (met d s want)
unfolding met
want_fitted d s (asks who x) h = quiet_fitted d s (asks who x) refl h
want_fitted d s (takes w) h = quiet_fitted d s (takes w) refl h
want_fitted d s (begins w) h = begun_fitted s w h
want_fitted d s (flushes w) h = quiet_fitted d s (flushes w) refl h
want_fitted d s (draws_end w) h = quiet_fitted d s (draws_end w) refl h
want_fitted d s (ends w) h = quiet_fitted d s (ends w) refl h
want_fitted d s (notifies w) h = quiet_fitted d s (notifies w) refl h
want_fitted d s (executes w) h = executed_fitted d s w h
want_fitted d s (uses x) h = event_fitted s x h
want_fitted d s stops h = quiet_fitted d s stops refl h

step_fitted : (d : Declared) (s : State) (e : Entry) → IsLegal d s e → IsFitted s → IsFitted (step d s e)
step_fitted d s e legal h =
    let is : IsMet d s e = met_by d s e legal in
    subst IsFitted (sym is.stepped) (want_fitted d s is.want h)

-- ---- histories

-- the windows, their trees and their colours come from the same lines
opening_fit : (d : Declared) (k w : ℕ) (lines : List WindowLine) (window : Window) (tree : Tree) → slice_get (map opening_window lines) w ≡ Some window → slice_get (map (λ (p : ℕ × WindowLine). tree_of d p.0 p.1) (enumerate_from k lines)) w ≡ Some tree → IsFit window tree
unfolding tree_of
opening_fit d k w [] window tree read there = cc
opening_fit d k zero (x ∷ xs) window tree read there =
    let fit : IsFit (opening_window x) (tree_of d k x) = record { root = root_view x; first = refl; orphan = refl; frame = refl } in
    subst (λ a. IsFit a tree) (same_Some (opening_window x) window read) (subst (IsFit (opening_window x)) (same_Some (tree_of d k x) tree there) fit)
opening_fit d k (suc w) (x ∷ xs) window tree read there = opening_fit d (k + 1) w xs window tree read there

pub as_many : (d : Declared) (k : ℕ) (x : WindowLine) → length (colors_of d k x) ≡ length (tree_of d k x)
unfolding tree_of colors_of
as_many d k x = ap suc (length-map (view_lines d k) (λ view. view.color) ∙ sym (length-map (view_lines d k) declared_view))

opening_colored : (d : Declared) (k w : ℕ) (lines : List WindowLine) (own : List Color) (tree : Tree) → slice_get (map (λ (pane : Pane). pane.colors) (map (λ (p : ℕ × WindowLine). first_pane (colors_of d p.0 p.1)) (enumerate_from k lines))) w ≡ Some own → slice_get (map (λ (p : ℕ × WindowLine). tree_of d p.0 p.1) (enumerate_from k lines)) w ≡ Some tree → length own ≡ length tree
opening_colored d k w [] own tree read there = cc
opening_colored d k zero (x ∷ xs) own tree read there =
    ap (λ (l : List Color). length l) (sym (same_Some (colors_of d k x) own read)) ∙ as_many d k x ∙ ap (λ (t : Tree). length t) (same_Some (tree_of d k x) tree there)
opening_colored d k (suc w) (x ∷ xs) own tree read there = opening_colored d (k + 1) w xs own tree read there

opening_fitted : (d : Declared) → IsFitted (opening_state d)
unfolding opening_state
opening_fitted d = record {
  fit = λ w window tree read there. opening_fit d 0 w d.windows window tree read there;
  colored = λ w own tree read there. opening_colored d 0 w d.windows own tree read there;
}

fitted_from : (d : Declared) (s : State) (h : List Entry) → AreLegalFrom d s h → IsFitted s → IsFitted (state_from d s h)
unfolding AreLegalFrom state_from
fitted_from d s [] legal is = is
fitted_from d s (e ∷ es) legal is = fitted_from d (step d s e) es legal.1 (step_fitted d s e legal.0 is)

pub fitted_after : (d : Declared) (h : List Entry) → IsLegalHistory d h → IsFitted (state_after d h)
fitted_after d h legal = fitted_from d (opening_state d) h legal (opening_fitted d)

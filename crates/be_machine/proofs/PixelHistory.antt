-- A pixel changes by its own window alone, and the desktop shows where no window is.
use Rattle.std.proofs.Common.{◌≡◌, ℕ, Bool, true, false, List, [], ◌∷◌, Option, Some, None, refl, sym, ap, subst, ◌∙◌}
use Rattle.std.specs.Prelude.{slice_get, if◌then◌else◌, Result, Ok, Err}
use Rattle.std.specs.Option.{option_map_or}
use Rattle.be_bitmap.specs.Pictures.{Picture}
use Rattle.be_command.specs.Effects.{Effect, at_view, changes, ends_update, effect_of}
use Rattle.be_desk.specs.Changes.{Desk, desk_after}
use Rattle.be_geom.specs.declared.change.Change.{Change}
use Rattle.be_geom.specs.declared.change.Change.TheVariants.{Activate}
use Rattle.be_link.specs.Queues.{Numbered}
use Rattle.be_pane.specs.Panes.{Pane}
use Rattle.be_script.specs.Script.{Declared}
use Rattle.be_stack.specs.declared.fault.ChangeFault.{ChangeFault}
use Rattle.be_machine.specs.Activities.{looper}
use Rattle.be_machine.specs.Commands.{with_effect, done_at_view, without_front, executed_command, executed}
use Rattle.be_machine.specs.Lists.{at}
use Rattle.be_machine.specs.State.{State}
use Rattle.be_machine.specs.Step.{met}
use Rattle.be_machine.specs.Update.{begun, opened}
use Rattle.be_machine.specs.Windows.{changed, changed_to}
use Rattle.be_input.specs.declared.Event.TheVariants as event
use Rattle.be_input.specs.Deliveries.{Delivery}
use Rattle.be_script.specs.declared.InputLine.{InputLine}
use Rattle.be_script.specs.declared.InputLine.TheVariants as line
use Rattle.be_machine.specs.declared.Entry.{Entry}
use Rattle.be_machine.specs.History.{AreLegalFrom, state_from}
use Rattle.be_machine.specs.Input.{delivery_of, activated, with_delivery, with_event}
use Rattle.be_machine.specs.Legal.{IsLegal}
use Rattle.be_machine.specs.Step.{step}
use Rattle.be_machine.specs.Wants.{Want, asks, takes, begins, flushes, draws_end, ends, notifies, executes, uses, stops}
use Rattle.be_machine.specs.Windows.{corner_at, dirty_of}
use Rattle.be_span.specs.Screen.{cell_at}
use Rattle.be_span.specs.Cells.{Lookup}
use Rattle.be_update.specs.Sessions.{is_any}
use Rattle.std.proofs.Common.{Result, Ok, Err}
use Rattle.std.specs.Prelude.{ℤ, option_map, option_and_then}
use Rattle.be_desk.specs.Changes.{changed_cell, still, motion_of}
use Rattle.be_span.specs.Cells.{desktop_cell}
use Rattle.be_span.specs.declared.Cell.{Cell}
use Rattle.be_span.specs.Screen.{each_cell}
use Rattle.be_stack.specs.Owner.{owner_at}
use Rattle.be_stack.specs.Windows.{Windows}
use Rattle.be_twin.specs.Executed.{executed_cell, without_session}
use Rattle.be_update.specs.Sessions.{passed, cleaned_cell}
use Rattle.be_machine.specs.Commands.{sight_at}
use Rattle.be_machine.specs.Pixels.{pixel_at, owner_in}
use Rattle.be_machine.specs.Windows.{owned, width_of, view_colors}
use Rattle.be_machine.proofs.PixelRules.{stays_by, executed_stays, cleaned_stays, changed_stays, still_stays}
use Rattle.std.specs.Prelude.{◌⊎◌, ◌+◌, ◌*◌, nat_lt, pos, negsuc, replicate}
use Rattle.be_command.specs.Effects.{Deed}
use Rattle.std.proofs.Common.{inl, inr}
use Rattle.be_command.specs.Limits.{is_drawing, is_drawing_effect, is_drawing_deed}
use Rattle.be_span.proofs.EachLemmas.{cell_by}
use Rattle.be_desk.proofs.StandLemmas.{no_owner}
use Rattle.be_machine.specs.Activities.{Activity, runner, twin, activity_of}
use Rattle.be_machine.specs.Update.{passed_by}
use Rattle.be_machine.specs.declared.Entry.{Entry}
use Rattle.be_machine.specs.History.{AreLegalFrom, IsLegalHistory, state_from, state_after}
use Rattle.be_machine.specs.Legal.{IsLegal}
use Rattle.be_machine.specs.Pixels.{Serves, Executes}
use Rattle.be_machine.specs.State.{opening_state}
use Rattle.be_machine.specs.Step.{step}
use Rattle.be_machine.specs.Wants.{want_of}
use Rattle.be_machine.proofs.LegalEntries.{IsMet, met_by, maker, maker_is}
use Rattle.be_machine.proofs.Opening.{repeated}
use Rattle.be_machine.proofs.PixelRules.{executed_mark}
use Rattle.be_machine.proofs.Sizes.{KeepsCounts, desk_sizes}
use Rattle.be_machine.proofs.PixelSteps.{Leaves, IsShown, IsDesktopAt, shown, shown_leaves, quiet_shown, colors_kept, own_leaves, once_desktop, rule_pixel}

-- ---- commands

refused_leaves : (s : State) (P : ℕ → Type 0) → Leaves s s P
refused_leaves s P = shown_leaves s s P (shown s)

change_leaves : (s : State) (w : ℕ) (change : Change) (r : Result Desk ChangeFault) (P : ℕ → Type 0) → KeepsCounts s.desk r → ((new : Desk) (u : ℕ) (old : Lookup) (x y : ℤ) (c : Cell) → (P u → ⊥) → owner_at s.desk.windows x y ≡ Some u → owner_at new.windows x y ≡ Some u → changed_cell s.desk new (view_colors s) w change old x y c ≡ c) → Leaves s (changed_to s w change r) P
change_leaves s w change (Err f) P sizes stays = refused_leaves s P
change_leaves s w change (Ok new) P sizes stays =
    let rule : Lookup → ℤ → ℤ → Cell → Cell = changed_cell s.desk new (view_colors s) w change in
    let at : (x y : ℤ) → cell_at new.windows.width (each_cell (width_of s) rule s.screen) x y ≡ cell_at (width_of s) (each_cell (width_of s) rule s.screen) x y = λ x y. ap (λ n. cell_at n (each_cell (width_of s) rule s.screen) x y) sizes.sizes.width in
    record {
      kept = λ u x y other was now. at x y ∙ stays_by (width_of s) rule s.screen x y (λ old c. stays new u old x y c other was now);
      desktop = λ x y h none.
          let same : cell_at new.windows.width (each_cell (width_of s) rule s.screen) x y ≡ option_map (λ _. desktop_cell) (cell_at (width_of s) s.screen x y) =
          at x y ∙ rule_pixel (width_of s) rule (λ _. desktop_cell) s.screen x y (λ old c. no_owner s.desk new (view_colors s) w change old x y c none) in
          same ∙ once_desktop (cell_at (width_of s) s.screen x y) ∙ sym (ap (option_map (λ _. desktop_cell)) same);
    }

pub own_change_leaves : (s : State) (w : ℕ) (change : Change) → Leaves s (changed s w change) (λ u. w ≡ u)
unfolding changed
own_change_leaves s w change = change_leaves s w change (desk_after s.desk w change) (λ u. w ≡ u) (desk_sizes s.desk w change) (λ new u old x y c other was now. changed_stays s.desk new (view_colors s) w u change old x y c (λ e. other (sym e)) was now)

-- one that neither moves nor resizes
pub still_leaves : (s : State) (w : ℕ) (change : Change) (P : ℕ → Type 0) → motion_of change ≡ still → Leaves s (changed s w change) P
unfolding changed
still_leaves s w change P is_still = change_leaves s w change (desk_after s.desk w change) P (desk_sizes s.desk w change) (λ new u old x y c other was now. still_stays s.desk new (view_colors s) w u change old x y c is_still was now)

found_leaves : {X : Type 0} (s : State) (f : X → State) (o : Option X) (P : ℕ → Type 0) → ((x : X) → Leaves s (f x) P) → Leaves s (option_map_or f o s) P
found_leaves s f (Some x) P each = each x
found_leaves s f None P each = refused_leaves s P

effect_leaves : (pictures : List Picture) (s : State) (w : ℕ) (effect : Effect) → Leaves s (with_effect pictures s w effect) (λ u. w ≡ u)
effect_leaves pictures s w (at_view v deed) =
    found_leaves s (done_at_view pictures s w v deed) (slice_get s.panes w) (λ u. w ≡ u) (λ pane.
    own_leaves s (done_at_view pictures s w v deed pane) w (executed_cell pictures (owned s w) pane.colors deed (sight_at s w v pane)) refl refl (λ old x y c unowned. executed_stays pictures (owned s w) pane.colors deed (sight_at s w v pane) old x y c unowned))
effect_leaves pictures s w (changes change) = own_change_leaves s w change
effect_leaves pictures s w ends_update = shown_leaves s _ (λ u. w ≡ u) (record { windows = refl; trees = refl; focus = refl; colors = colors_kept s.panes w without_session (λ pane. refl); screen = refl })

-- what comes after a state that shows the same
after_shown : (s r t : State) (P : ℕ → Type 0) → IsShown s r → Leaves r t P → Leaves s t P
after_shown s r t P is h =
    let first : Leaves s r P = shown_leaves s r P is in
    let same_owner : (x y : ℤ) → owner_in r x y ≡ owner_in s x y = λ x y. ap (λ (k : Windows). owner_at k x y) is.windows in
    record {
      kept = λ u x y other was now. h.kept u x y other (same_owner x y ∙ was) now ∙ first.kept u x y other was (same_owner x y ∙ was);
      desktop = λ x y before. h.desktop x y (first.desktop x y before);
    }

exec_leaves : (d : Declared) (s : State) (w : ℕ) → Leaves s (executed d s w) (λ u. w ≡ u)
unfolding executed
exec_leaves d s w =
    found_leaves s (executed_command d s w) (option_and_then (λ link. slice_get link 0) (slice_get s.links w)) (λ u. w ≡ u) (λ c.
    after_shown s (without_front s w) (executed_command d s w c) (λ u. w ≡ u) (record { windows = refl; trees = refl; focus = refl; colors = refl; screen = refl }) (effect_leaves d.pictures (without_front s w) w (effect_of c.command)))

-- ---- updates and input

begun_by : (s : State) (w : ℕ) (b : Bool) (x y : State) → Leaves s x (λ u. w ≡ u) → Leaves s y (λ u. w ≡ u) → Leaves s (if b then x else y) (λ u. w ≡ u)
begun_by s w true x y h k = h
begun_by s w false x y h k = k

begin_leaves : (s : State) (w : ℕ) → Leaves s (begun s w) (λ u. w ≡ u)
unfolding begun
begin_leaves s w =
    begun_by s w (is_any (dirty_of s w)) _ _
    (found_leaves s (opened s w) (corner_at s w) (λ u. w ≡ u) (λ corner. own_leaves s (opened s w corner) w (cleaned_cell (owned s w)) refl refl (λ old x y c unowned. cleaned_stays (owned s w) old x y c unowned)))
    (shown_leaves s (passed_by s w) (λ u. w ≡ u) (record { windows = refl; trees = refl; focus = refl; colors = colors_kept s.panes w passed (λ pane. refl); screen = refl }))

activated_leaves : (s : State) (o : Option ℕ) (P : ℕ → Type 0) → Leaves s (activated s o) P
activated_leaves s (Some w) P = still_leaves s w Activate P refl
activated_leaves s None P = refused_leaves s P

delivery_leaves : (s : State) (x : Delivery) (P : ℕ → Type 0) → Leaves s (with_delivery s x) P
delivery_leaves s x P = after_shown s _ (with_delivery s x) P (record { windows = refl; trees = refl; focus = refl; colors = refl; screen = refl }) (activated_leaves _ x.activate P)

event_leaves : (s : State) (x : InputLine) (P : ℕ → Type 0) → Leaves s (with_event s x) P
event_leaves s (line.Press p) P = delivery_leaves s (delivery_of s (event.Press p)) P
event_leaves s (line.Release p) P = delivery_leaves s (delivery_of s (event.Release p)) P
event_leaves s (line.Move p) P = delivery_leaves s (delivery_of s (event.Move p)) P
event_leaves s (line.Key key) P = delivery_leaves s (delivery_of s (event.Key key)) P
event_leaves s (line.After m) P = shown_leaves s (with_event s (line.After m)) P (record { windows = refl; trees = refl; focus = refl; colors = refl; screen = refl })

-- ---- all wants

-- the window that a want serves, if it may change its pixels
abbrev ServedBy : Want → ℕ → Type 0
ServedBy (begins w) u = w ≡ u
ServedBy (executes w) u = w ≡ u
ServedBy (asks who x) u = ⊥
ServedBy (takes w) u = ⊥
ServedBy (flushes w) u = ⊥
ServedBy (draws_end w) u = ⊥
ServedBy (ends w) u = ⊥
ServedBy (notifies w) u = ⊥
ServedBy (uses x) u = ⊥
ServedBy stops u = ⊥

want_leaves : (d : Declared) (s : State) (want : Want) → Leaves s (met d s want) (ServedBy want)
unfolding met
want_leaves d s (asks who x) = shown_leaves s _ (ServedBy (asks who x)) (quiet_shown d s (asks who x) refl)
want_leaves d s (takes w) = shown_leaves s _ (ServedBy (takes w)) (quiet_shown d s (takes w) refl)
want_leaves d s (begins w) = begin_leaves s w
want_leaves d s (flushes w) = shown_leaves s _ (ServedBy (flushes w)) (quiet_shown d s (flushes w) refl)
want_leaves d s (draws_end w) = shown_leaves s _ (ServedBy (draws_end w)) (quiet_shown d s (draws_end w) refl)
want_leaves d s (ends w) = shown_leaves s _ (ServedBy (ends w)) (quiet_shown d s (ends w) refl)
want_leaves d s (notifies w) = shown_leaves s _ (ServedBy (notifies w)) (quiet_shown d s (notifies w) refl)
want_leaves d s (executes w) = exec_leaves d s w
want_leaves d s (uses x) = event_leaves s x (ServedBy (uses x))
want_leaves d s stops = shown_leaves s _ (ServedBy stops) (quiet_shown d s stops refl)

served : (want : Want) (u : ℕ) → ServedBy want u → (maker want ≡ runner (looper u)) ⊎ (maker want ≡ twin u)
served (begins w) u e = inl (ap (λ n. runner (looper n)) e)
served (executes w) u e = inr (ap twin e)
served (asks who x) u e = absurd e
served (takes w) u e = absurd e
served (flushes w) u e = absurd e
served (draws_end w) u e = absurd e
served (ends w) u e = absurd e
served (notifies w) u e = absurd e
served (uses x) u e = absurd e
served stops u e = absurd e

serves : (d : Declared) (e : Entry) (who : Activity) (u : ℕ) → activity_of d e.actor ≡ Some who → (who ≡ runner (looper u)) ⊎ (who ≡ twin u) → Serves d u e
serves d e who u is (inl same) = inl (is ∙ ap Some same)
serves d e who u is (inr same) = inr (is ∙ ap Some same)

-- a legal entry leaves what its window doesn't own
pub step_leaves : (d : Declared) (s : State) (e : Entry) → IsLegal d s e → Leaves s (step d s e) (λ u. Serves d u e)
step_leaves d s e legal =
    let is : IsMet d s e = met_by d s e legal in
    let by : maker is.want ≡ is.who = maker_is d s is.who is.want is.wanted in
    let leaves : Leaves s (met d s is.want) (ServedBy is.want) = want_leaves d s is.want in
    subst (λ r. Leaves s r (λ u. Serves d u e)) (sym is.stepped) (record {
      kept = λ u x y other was now. leaves.kept u x y (λ served_by. other (serves d e (maker is.want) u (is.numbered ∙ ap Some (sym by)) (served is.want u served_by))) was now;
      desktop = leaves.desktop;
    })

-- ---- the desktop

opening_cell : (n i : ℕ) (o : Option Cell) → slice_get (replicate n desktop_cell) i ≡ o → o ≡ option_map (λ _. desktop_cell) o
opening_cell n i (Some c) e = ap Some (sym (repeated n i desktop_cell c e))
opening_cell n i None e = refl

cell_if : (b : Bool) (o : Option Cell) → o ≡ option_map (λ _. desktop_cell) o → (if b then o else None) ≡ option_map (λ _. desktop_cell) (if b then o else None)
cell_if true o h = h
cell_if false o h = refl

desktop_opening : (d : Declared) (x y : ℤ) → IsDesktopAt (opening_state d) x y
unfolding opening_state cell_at
desktop_opening d (pos x) (pos y) none = cell_if (nat_lt x d.width) (slice_get (replicate (d.width * d.height) desktop_cell) (y * d.width + x)) (opening_cell (d.width * d.height) (y * d.width + x) _ refl)
desktop_opening d (pos x) (negsuc y) none = refl
desktop_opening d (negsuc x) y none = refl

desktop_from : (d : Declared) (s : State) (h : List Entry) (x y : ℤ) → AreLegalFrom d s h → IsDesktopAt s x y → IsDesktopAt (state_from d s h) x y
unfolding AreLegalFrom state_from
desktop_from d s [] x y legal is = is
desktop_from d s (e ∷ es) x y legal is = desktop_from d (step d s e) es x y legal.1 ((step_leaves d s e legal.0).desktop x y is)

pub desktop_after : (d : Declared) (h : List Entry) (x y : ℤ) → IsLegalHistory d h → IsDesktopAt (state_after d h) x y
desktop_after d h x y legal = desktop_from d (opening_state d) h x y legal (desktop_opening d x y)

-- ---- one command

pub exec_step : (d : Declared) (s : State) (e : Entry) (w : ℕ) (c : Numbered) → Executes d s e w c → step d s e ≡ executed_command d s w c
unfolding step want_of met executed
exec_step d s e w c is =
    ap (λ o. option_map_or (met d s) (option_and_then (want_of d s) o) s) is.by_twin
    ∙ ap (met d s) is.wanted
    ∙ ap (λ o. option_map_or (executed_command d s w) o s) is.oldest

-- a rule of pixels for what a command does at a view, or none
record IsLaid (pictures : List Picture) (s r : State) (w : ℕ) (deed : Deed) : Type 0 where
  pub pixels : (x y : ℤ) → owned s w x y ≡ false → pixel_at r x y ≡ pixel_at s x y
  pub marks : is_drawing_deed deed ≡ true → (x y : ℤ) → option_map (λ cell. cell.dirty) (pixel_at r x y) ≡ option_map (λ cell. cell.dirty) (pixel_at s x y)

same_marks : (f : Cell → Cell) (o : Option Cell) → ((c : Cell) → (f c).dirty ≡ c.dirty) → option_map (λ cell. cell.dirty) (option_map f o) ≡ option_map (λ cell. cell.dirty) o
same_marks f (Some c) h = ap Some (h c)
same_marks f None h = refl

laid : (pictures : List Picture) (s : State) (w v : ℕ) (deed : Deed) (o : Option Pane) → IsLaid pictures s (option_map_or (done_at_view pictures s w v deed) o s) w deed
laid pictures s w v deed None = record { pixels = λ x y h. refl; marks = λ h x y. refl }
laid pictures s w v deed (Some pane) =
    let rule : Lookup → ℤ → ℤ → Cell → Cell = executed_cell pictures (owned s w) pane.colors deed (sight_at s w v pane) in
    record {
      pixels = λ x y h. stays_by (width_of s) rule s.screen x y (λ old c. executed_stays pictures (owned s w) pane.colors deed (sight_at s w v pane) old x y c h);
      marks = λ h x y.
          ap (option_map (λ (cell : Cell). cell.dirty)) (cell_by (width_of s) rule s.screen x y)
          ∙ same_marks (rule (cell_at (width_of s) s.screen) x y) (cell_at (width_of s) s.screen x y) (λ c. executed_mark pictures (owned s w) pane.colors deed (sight_at s w v pane) (cell_at (width_of s) s.screen) x y c h);
    }

laid_by : (d : Declared) (s : State) (e : Entry) (w v : ℕ) (c : Numbered) (deed : Deed) → Executes d s e w c → effect_of c.command ≡ at_view v deed → IsLaid d.pictures s (step d s e) w deed
laid_by d s e w v c deed is at =
    let after : step d s e ≡ with_effect d.pictures (without_front s w) w (at_view v deed) = exec_step d s e w c is ∙ ap (with_effect d.pictures (without_front s w) w) at in
    let h : IsLaid d.pictures (without_front s w) (with_effect d.pictures (without_front s w) w (at_view v deed)) w deed = laid d.pictures (without_front s w) w v deed (slice_get s.panes w) in
    subst (λ r. IsLaid d.pictures s r w deed) (sym after) (record { pixels = h.pixels; marks = h.marks })

pub stays_in_window : (d : Declared) (s : State) (e : Entry) (w v : ℕ) (c : Numbered) (deed : Deed) (x y : ℤ) → Executes d s e w c → effect_of c.command ≡ at_view v deed → owned s w x y ≡ false → pixel_at (step d s e) x y ≡ pixel_at s x y
stays_in_window d s e w v c deed x y is at h = (laid_by d s e w v c deed is at).pixels x y h

marks_by : (d : Declared) (s : State) (e : Entry) (w : ℕ) (c : Numbered) (effect : Effect) (x y : ℤ) → Executes d s e w c → effect_of c.command ≡ effect → is_drawing_effect effect ≡ true → option_map (λ cell. cell.dirty) (pixel_at (step d s e) x y) ≡ option_map (λ cell. cell.dirty) (pixel_at s x y)
marks_by d s e w c (at_view v deed) x y is at h = (laid_by d s e w v c deed is at).marks h x y
marks_by d s e w c (changes change) x y is at h = cc
marks_by d s e w c ends_update x y is at h = cc

pub leaves_marks : (d : Declared) (s : State) (e : Entry) (w : ℕ) (c : Numbered) (x y : ℤ) → Executes d s e w c → is_drawing c.command ≡ true → option_map (λ cell. cell.dirty) (pixel_at (step d s e) x y) ≡ option_map (λ cell. cell.dirty) (pixel_at s x y)
unfolding is_drawing
leaves_marks d s e w c x y is h = marks_by d s e w c (effect_of c.command) x y is refl h

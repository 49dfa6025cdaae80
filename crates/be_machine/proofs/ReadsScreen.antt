-- The screen keeps its size and its pixels, whatever they show, and there are as many windows, view trees and focuses.
use Rattle.std.proofs.Common.{◌≡◌, ℕ, List, [], ◌∷◌, length, Option, Some, None, Result, Ok, Err, refl, sym, ap, subst, ◌∙◌}
use Rattle.std.specs.Prelude.{ℤ, slice_get, option_map, option_and_then}
use Rattle.be_bitmap.specs.Pictures.{Picture}
use Rattle.be_command.specs.Effects.{Effect, at_view, changes, ends_update, effect_of}
use Rattle.be_desk.specs.Changes.{Desk, desk_after, changed_cell}
use Rattle.be_geom.specs.declared.change.Change.{Change}
use Rattle.be_geom.specs.declared.change.Change.TheVariants.{Activate}
use Rattle.be_input.specs.declared.Event.TheVariants as event
use Rattle.be_input.specs.Deliveries.{Delivery}
use Rattle.be_script.specs.declared.InputLine.{InputLine}
use Rattle.be_script.specs.declared.InputLine.TheVariants as line
use Rattle.be_script.specs.Script.{Declared}
use Rattle.be_span.specs.Cells.{Lookup, desktop_cell}
use Rattle.be_span.specs.declared.Cell.{Cell}
use Rattle.be_span.specs.Screen.{cell_at, each_cell}
use Rattle.be_stack.specs.declared.fault.ChangeFault.{ChangeFault}
use Rattle.be_stack.specs.Windows.{Windows}
use Rattle.be_twin.specs.Executed.{executed_cell, without_session}
use Rattle.be_views.specs.Trees.{Tree}
use Rattle.be_span.proofs.EachLemmas.{ruled_length, cell_by}
use Rattle.be_update.specs.Sessions.{is_any, passed, cleaned_cell}
use Rattle.be_machine.specs.Commands.{with_effect, done_at_view, executed_command, executed, sight_at}
use Rattle.be_machine.specs.declared.Entry.{Entry}
use Rattle.be_machine.specs.History.{AreLegalFrom, state_from}
use Rattle.be_machine.specs.Input.{delivery_of, activated, with_delivery, with_event}
use Rattle.be_machine.specs.Legal.{IsLegal}
use Rattle.be_machine.specs.Pixels.{pixel_at}
use Rattle.be_machine.specs.State.{State}
use Rattle.be_machine.specs.Step.{met, step}
use Rattle.be_machine.specs.Update.{begun, opened, passed_by}
use Rattle.be_machine.specs.Wants.{Want, asks, takes, begins, flushes, draws_end, ends, notifies, executes, uses, stops}
use Rattle.be_machine.specs.Windows.{owned, width_of, view_colors, corner_at, dirty_of, changed, changed_to}
use Rattle.be_machine.proofs.LegalEntries.{IsMet, met_by}
use Rattle.be_machine.proofs.PixelSteps.{IsShown, shown, same_pixel, quiet_shown, colors_kept}
use Rattle.be_machine.proofs.ProgressCases.{by_test, by_option}
use Rattle.be_machine.proofs.Sizes.{IsAsMany, KeepsCounts, as_many, desk_sizes}

abbrev shape : Option Cell → Option Cell
shape o = option_map (λ _. desktop_cell) o

-- A pixel is on the one screen where it is on the other, and the screens are as large; there are as many windows, trees
-- and focuses.
pub record SameScreen (s r : State) : Type 0 where
  pub width : width_of r ≡ width_of s
  pub pixels : (x y : ℤ) → option_map (λ _. desktop_cell) (pixel_at r x y) ≡ option_map (λ _. desktop_cell) (pixel_at s x y)
  pub height : r.desk.windows.height ≡ s.desk.windows.height
  pub cells : length r.screen ≡ length s.screen
  pub windows : length r.desk.windows.windows ≡ length s.desk.windows.windows
  pub trees : length r.desk.pointing.trees ≡ length s.desk.pointing.trees
  pub focus : length r.desk.pointing.focus ≡ length s.desk.pointing.focus

pub same_screens : (s r t : State) → SameScreen s r → SameScreen r t → SameScreen s t
same_screens s r t h k = record {
  width = k.width ∙ h.width;
  pixels = λ x y. k.pixels x y ∙ h.pixels x y;
  height = k.height ∙ h.height;
  cells = k.cells ∙ h.cells;
  windows = k.windows ∙ h.windows;
  trees = k.trees ∙ h.trees;
  focus = k.focus ∙ h.focus;
}

pub other_way : (s r : State) → SameScreen s r → SameScreen r s
other_way s r h = record {
  width = sym h.width;
  pixels = λ x y. sym (h.pixels x y);
  height = sym h.height;
  cells = sym h.cells;
  windows = sym h.windows;
  trees = sym h.trees;
  focus = sym h.focus;
}

shown_screen : (s r : State) → IsShown s r → SameScreen s r
shown_screen s r is = record {
  width = ap (λ (w : Windows). w.width) is.windows;
  pixels = λ x y. ap shape (same_pixel s r x y is);
  height = ap (λ (w : Windows). w.height) is.windows;
  cells = ap (λ (cells : List Cell). length cells) is.screen;
  windows = ap (λ (w : Windows). length w.windows) is.windows;
  trees = ap (λ (trees : List Tree). length trees) is.trees;
  focus = ap (λ (focus : List (Option ℕ)). length focus) is.focus;
}

same_shape : (f : Cell → Cell) (o : Option Cell) → shape (option_map f o) ≡ shape o
same_shape f (Some c) = refl
same_shape f None = refl

ruled_screen : (s r : State) (rule : Lookup → ℤ → ℤ → Cell → Cell) → IsAsMany s.desk r.desk → r.screen ≡ each_cell (width_of s) rule s.screen → SameScreen s r
ruled_screen s r rule desk screen = record {
  width = desk.sizes.width;
  height = desk.sizes.height;
  windows = desk.sizes.windows;
  trees = desk.trees;
  focus = desk.focus;
  cells = ap (λ (cells : List Cell). length cells) screen ∙ ruled_length (width_of s) rule s.screen;
  pixels = λ x y.
      ap (λ n. shape (cell_at n r.screen x y)) desk.sizes.width
      ∙ ap (λ cells. shape (cell_at (width_of s) cells x y)) screen
      ∙ ap shape (cell_by (width_of s) rule s.screen x y)
      ∙ same_shape (rule (pixel_at s) x y) (pixel_at s x y);
}

changed_screen_by : (s : State) (w : ℕ) (change : Change) (o : Result Desk ChangeFault) → KeepsCounts s.desk o → SameScreen s (changed_to s w change o)
changed_screen_by s w change (Ok desk) sizes = ruled_screen s (changed_to s w change (Ok desk)) (changed_cell s.desk desk (view_colors s) w change) sizes refl
changed_screen_by s w change (Err f) sizes = shown_screen s s (shown s)

changed_screen : (s : State) (w : ℕ) (change : Change) → SameScreen s (changed s w change)
unfolding changed
changed_screen s w change = changed_screen_by s w change (desk_after s.desk w change) (desk_sizes s.desk w change)

again : (s : State) → SameScreen s s
again s = shown_screen s s (shown s)

effect_screen : (pictures : List Picture) (s : State) (w : ℕ) (effect : Effect) → SameScreen s (with_effect pictures s w effect)
effect_screen pictures s w (at_view v deed) =
    by_option (SameScreen s) (done_at_view pictures s w v deed) s (slice_get s.panes w) (again s) (λ pane.
    ruled_screen s (done_at_view pictures s w v deed pane) (executed_cell pictures (owned s w) pane.colors deed (sight_at s w v pane)) (as_many s.desk) refl)
effect_screen pictures s w (changes change) = changed_screen s w change
effect_screen pictures s w ends_update = shown_screen s _ (record { windows = refl; trees = refl; focus = refl; colors = colors_kept s.panes w without_session (λ pane. refl); screen = refl })

executed_screen : (d : Declared) (s : State) (w : ℕ) → SameScreen s (executed d s w)
unfolding executed
executed_screen d s w =
    by_option (SameScreen s) (executed_command d s w) s (option_and_then (λ link. slice_get link 0) (slice_get s.links w)) (again s) (λ c.
    let t : SameScreen _ _ = effect_screen d.pictures _ w (effect_of c.command) in
    record { width = t.width; pixels = t.pixels; height = t.height; cells = t.cells; windows = t.windows; trees = t.trees; focus = t.focus })

begun_screen : (s : State) (w : ℕ) → SameScreen s (begun s w)
unfolding begun
begun_screen s w =
    by_test (SameScreen s) (is_any (dirty_of s w)) _ _
    (by_option (SameScreen s) (opened s w) s (corner_at s w) (again s) (λ corner. ruled_screen s (opened s w corner) (cleaned_cell (owned s w)) (as_many s.desk) refl))
    (shown_screen s (passed_by s w) (record { windows = refl; trees = refl; focus = refl; colors = colors_kept s.panes w passed (λ pane. refl); screen = refl }))

activated_screen : (s : State) (o : Option ℕ) → SameScreen s (activated s o)
activated_screen s (Some w) = changed_screen s w Activate
activated_screen s None = again s

delivery_screen : (s : State) (x : Delivery) → SameScreen s (with_delivery s x)
delivery_screen s x = let t : SameScreen _ _ = activated_screen _ x.activate in record { width = t.width; pixels = t.pixels; height = t.height; cells = t.cells; windows = t.windows; trees = t.trees; focus = t.focus }

event_screen : (s : State) (x : InputLine) → SameScreen s (with_event s x)
event_screen s (line.Press p) = delivery_screen s (delivery_of s (event.Press p))
event_screen s (line.Release p) = delivery_screen s (delivery_of s (event.Release p))
event_screen s (line.Move p) = delivery_screen s (delivery_of s (event.Move p))
event_screen s (line.Key key) = delivery_screen s (delivery_of s (event.Key key))
event_screen s (line.After m) = shown_screen s _ (record { windows = refl; trees = refl; focus = refl; colors = refl; screen = refl })

want_screen : (d : Declared) (s : State) (want : Want) → SameScreen s (met d s want)
unfolding met
want_screen d s (asks who x) = shown_screen s _ (quiet_shown d s (asks who x) refl)
want_screen d s (takes w) = shown_screen s _ (quiet_shown d s (takes w) refl)
want_screen d s (begins w) = begun_screen s w
want_screen d s (flushes w) = shown_screen s _ (quiet_shown d s (flushes w) refl)
want_screen d s (draws_end w) = shown_screen s _ (quiet_shown d s (draws_end w) refl)
want_screen d s (ends w) = shown_screen s _ (quiet_shown d s (ends w) refl)
want_screen d s (notifies w) = shown_screen s _ (quiet_shown d s (notifies w) refl)
want_screen d s (executes w) = executed_screen d s w
want_screen d s (uses x) = event_screen s x
want_screen d s stops = shown_screen s _ (quiet_shown d s stops refl)

pub step_screen : (d : Declared) (s : State) (e : Entry) → IsLegal d s e → SameScreen s (step d s e)
step_screen d s e legal =
    let is : IsMet d s e = met_by d s e legal in
    subst (SameScreen s) (sym is.stepped) (want_screen d s is.want)

-- after a legal history the screen has the pixels with which it started
pub screen_from : (d : Declared) (s : State) (h : List Entry) → AreLegalFrom d s h → SameScreen s (state_from d s h)
unfolding AreLegalFrom state_from
screen_from d s [] legal = again s
screen_from d s (e ∷ es) legal = same_screens s (step d s e) (state_from d (step d s e) es) (step_screen d s e legal.0) (screen_from d (step d s e) es legal.1)

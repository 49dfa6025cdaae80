-- A command that is executed adds at most what it may expose.
use Rattle.std.proofs.Common.{◌≡◌, ℕ, ◌+◌, ◌≤◌, Bool, true, false, List, length, Option, Some, None, refl, ◌∙◌, arith}
use Rattle.std.specs.Prelude.{slice_get, Result, Ok, Err, if◌then◌else◌}
use Rattle.std.specs.Option.{option_map_or}
use Rattle.be_bitmap.specs.Pictures.{Picture}
use Rattle.be_command.specs.Effects.{Deed, draws, sets, colors, saves, restores, copies, invalidates, Effect, at_view, changes, ends_update}
use Rattle.be_command.specs.Limits.{is_drawing_deed}
use Rattle.be_desk.specs.Changes.{Desk, desk_unless, desk_after}
use Rattle.be_geom.specs.declared.change.Change.{Change}
use Rattle.be_geom.specs.declared.change.Change.TheVariants.{Show, Hide, MoveTo, MoveBy, ResizeTo, Activate, Behind, Focus, Close}
use Rattle.be_pane.specs.Panes.{Pane}
use Rattle.be_script.specs.Script.{Declared}
use Rattle.be_script.specs.Work.{updates_cost}
use Rattle.be_stack.specs.Changes.{windows_after, changed_at, is_gone}
use Rattle.be_stack.specs.declared.fault.ChangeFault.{ChangeFault}
use Rattle.be_stack.specs.declared.fault.ChangeFault.TheVariants.{Gone}
use Rattle.be_stack.specs.declared.window.Window.{Window}
use Rattle.be_stack.specs.Windows.{Windows}
use Rattle.be_twin.specs.Executed.{pane_after, without_session}
use Rattle.be_machine.specs.Commands.{sight_at, done_at_view, with_effect}
use Rattle.be_machine.specs.State.{State}
use Rattle.be_machine.specs.Windows.{changed, changed_to, view_colors}
use Rattle.be_machine.proofs.Lists.{length_at}
use Rattle.be_machine.proofs.WorkDirt.{dirt_bound, dirt_fewer}
use Rattle.be_machine.proofs.WorkMarks.{drawing_keeps, focus_keeps, panes_quiet, pane_after_quiet}
use Rattle.be_machine.specs.Shares.{exposure, change_exposure, deed_exposure, dirt_share}

-- the dirt of a state
abbrev pub dirt_in : Declared → State → ℕ
dirt_in d s = dirt_share d s.desk s.screen s.panes

drawing_adds : (d : Declared) (pictures : List Picture) (s : State) (w v : ℕ) (deed : Deed) (pane : Pane) → is_drawing_deed deed ≡ true → dirt_in d (done_at_view pictures s w v deed pane) ≤ dirt_in d s
drawing_adds d pictures s w v deed pane h =
    let t : State = done_at_view pictures s w v deed pane in
    omega (
      arith,
      dirt_fewer d s.desk s.desk s.screen t.screen t.panes (λ u e. drawing_keeps pictures s.desk w u pane.colors deed (sight_at s w v pane) s.screen h e),
      panes_quiet d s.desk s.screen s.panes w (pane_after pictures deed v (sight_at s w v pane)) (λ x. pane_after_quiet pictures deed v (sight_at s w v pane) x),
    )

exposing_adds : (d : Declared) (pictures : List Picture) (s : State) (w v : ℕ) (deed : Deed) (pane : Pane) → length s.panes ≡ length d.windows → dirt_in d (done_at_view pictures s w v deed pane) ≤ dirt_in d s + updates_cost d
exposing_adds d pictures s w v deed pane panes =
    let t : State = done_at_view pictures s w v deed pane in
    omega (arith, dirt_bound d s.desk t.screen t.panes (length_at s.panes w (pane_after pictures deed v (sight_at s w v pane)) ∙ panes))

deed_adds : (d : Declared) (pictures : List Picture) (s : State) (w v : ℕ) (deed : Deed) (pane : Pane) → length s.panes ≡ length d.windows → dirt_in d (done_at_view pictures s w v deed pane) ≤ dirt_in d s + deed_exposure (updates_cost d) deed
deed_adds d pictures s w v (draws figure) pane panes = omega (arith, drawing_adds d pictures s w v (draws figure) pane refl)
deed_adds d pictures s w v (sets setting) pane panes = omega (arith, drawing_adds d pictures s w v (sets setting) pane refl)
deed_adds d pictures s w v (colors color) pane panes = omega (arith, drawing_adds d pictures s w v (colors color) pane refl)
deed_adds d pictures s w v saves pane panes = omega (arith, drawing_adds d pictures s w v saves pane refl)
deed_adds d pictures s w v restores pane panes = omega (arith, drawing_adds d pictures s w v restores pane refl)
deed_adds d pictures s w v (copies source target) pane panes = exposing_adds d pictures s w v (copies source target) pane panes
deed_adds d pictures s w v (invalidates r) pane panes = exposing_adds d pictures s w v (invalidates r) pane panes

view_adds : (d : Declared) (pictures : List Picture) (s : State) (w v : ℕ) (deed : Deed) (o : Option Pane) → length s.panes ≡ length d.windows → dirt_in d (option_map_or (done_at_view pictures s w v deed) o s) ≤ dirt_in d s + deed_exposure (updates_cost d) deed
view_adds d pictures s w v deed (Some pane) panes = deed_adds d pictures s w v deed pane panes
view_adds d pictures s w v deed None panes = omega arith

-- ---- changes

moving_adds : (d : Declared) (s : State) (w : ℕ) (c : Change) (r : Result Desk ChangeFault) → length s.panes ≡ length d.windows → dirt_in d (changed_to s w c r) ≤ dirt_in d s + updates_cost d
moving_adds d s w c (Ok desk) panes = omega (arith, dirt_bound d desk (changed_to s w c (Ok desk)).screen s.panes panes)
moving_adds d s w c (Err fault) panes = omega arith

pub change_adds_updates : (d : Declared) (s : State) (w : ℕ) (c : Change) → length s.panes ≡ length d.windows → dirt_in d (changed s w c) ≤ dirt_in d s + updates_cost d
unfolding changed
change_adds_updates d s w c panes = moving_adds d s w c (desk_after s.desk w c) panes

-- a focus leaves the windows
WithWindows : Windows → Result Desk ChangeFault → Type 0
WithWindows windows (Ok desk) = desk.windows ≡ windows
WithWindows windows (Err fault) = Unit {0}

focus_if : (desk : Desk) (w : ℕ) (view : Option ℕ) (b : Bool) (o : Option Window) → WithWindows desk.windows (desk_unless desk w (Focus view) (if b then Err Gone else changed_at desk.windows w o (Focus view)))
unfolding WithWindows
focus_if desk w view true o = tt
focus_if desk w view false (Some window) = refl
focus_if desk w view false None = tt

focus_windows : (desk : Desk) (w : ℕ) (view : Option ℕ) → WithWindows desk.windows (desk_after desk w (Focus view))
unfolding desk_after windows_after
focus_windows desk w view = focus_if desk w view (is_gone desk.windows.windows w (Focus view)) (slice_get desk.windows.windows w)

focus_by : (d : Declared) (s : State) (w : ℕ) (view : Option ℕ) (r : Result Desk ChangeFault) → WithWindows s.desk.windows r → dirt_in d (changed_to s w (Focus view) r) ≤ dirt_in d s
unfolding WithWindows
focus_by d s w view (Ok desk) same = dirt_fewer d s.desk desk s.screen (changed_to s w (Focus view) (Ok desk)).screen s.panes (λ u e. focus_keeps s.desk desk (view_colors s) w u view s.screen same e)
focus_by d s w view (Err fault) same = omega arith

focus_adds : (d : Declared) (s : State) (w : ℕ) (view : Option ℕ) → dirt_in d (changed s w (Focus view)) ≤ dirt_in d s
unfolding changed
focus_adds d s w view = focus_by d s w view (desk_after s.desk w (Focus view)) (focus_windows s.desk w view)

change_adds : (d : Declared) (s : State) (w : ℕ) (c : Change) → length s.panes ≡ length d.windows → dirt_in d (changed s w c) ≤ dirt_in d s + change_exposure (updates_cost d) c
change_adds d s w (Focus view) panes = omega (arith, focus_adds d s w view)
change_adds d s w Show panes = change_adds_updates d s w Show panes
change_adds d s w Hide panes = change_adds_updates d s w Hide panes
change_adds d s w (MoveTo corner) panes = change_adds_updates d s w (MoveTo corner) panes
change_adds d s w (MoveBy dx dy) panes = change_adds_updates d s w (MoveBy dx dy) panes
change_adds d s w (ResizeTo width height) panes = change_adds_updates d s w (ResizeTo width height) panes
change_adds d s w Activate panes = change_adds_updates d s w Activate panes
change_adds d s w (Behind front) panes = change_adds_updates d s w (Behind front) panes
change_adds d s w Close panes = change_adds_updates d s w Close panes

-- ---- all

pub effect_adds : (d : Declared) (pictures : List Picture) (s : State) (w : ℕ) (e : Effect) → length s.panes ≡ length d.windows → dirt_in d (with_effect pictures s w e) ≤ dirt_in d s + exposure (updates_cost d) e
effect_adds d pictures s w (at_view v deed) panes = view_adds d pictures s w v deed (slice_get s.panes w) panes
effect_adds d pictures s w (changes c) panes = change_adds d s w c panes
effect_adds d pictures s w ends_update panes = omega (arith, panes_quiet d s.desk s.screen s.panes w without_session (λ pane. refl))

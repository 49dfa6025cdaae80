-- A pixel that a window comes to own without going is marked.
use Rattle.std.proofs.Common.{◌≡◌, ℕ, ◌*◌, Bool, true, false, List, length, Option, Some, None, Result, Ok, Err, refl, sym, ap, subst, ◌∙◌, arith}
use Rattle.std.specs.Prelude.{ℤ, ◌-ℤ◌, ◌==◌, slice_get, option_map, option_and_then, if◌then◌else◌}
use Rattle.std.specs.Option.{option_map_or}
use Rattle.std.proofs.lemmas.Int.{ints}
use Rattle.be_facts.proofs.Numbers.{eq_tells}
use Rattle.be_color.specs.declared.colors.Color.{Color}
use Rattle.be_color.specs.declared.colors.Color.TheVariants.{Solid, Clear}
use Rattle.be_command.specs.Effects.{Effect, at_view, changes, ends_update, effect_of}
use Rattle.be_desk.specs.Changes.{Desk, Motion, still, moving, resizing, motion_of, desk_after, view_here, color_of, owns, way_from, way_of, brought, own_cell, cell_of, changed_cell}
use Rattle.be_geom.specs.declared.change.Change.{Change}
use Rattle.be_geom.specs.declared.change.Change.TheVariants.{Activate}
use Rattle.be_geom.specs.declared.point.Point.{Point}
use Rattle.be_geom.proofs.Numbered.{number_is}
use Rattle.be_input.specs.Pointing.{corner_of}
use Rattle.be_input.specs.Deliveries.{Delivery}
use Rattle.be_input.specs.declared.Event.TheVariants as event
use Rattle.be_bitmap.specs.Pictures.{Picture}
use Rattle.be_script.specs.declared.InputLine.{InputLine}
use Rattle.be_script.specs.declared.InputLine.TheVariants as line
use Rattle.be_script.specs.Script.{Declared}
use Rattle.be_span.specs.Cells.{Lookup, exposed_cell, exposed_as}
use Rattle.be_span.specs.declared.Cell.{Cell}
use Rattle.be_span.specs.Screen.{cell_at, each_cell}
use Rattle.be_span.proofs.EachLemmas.{cell_by}
use Rattle.be_stack.specs.declared.fault.ChangeFault.{ChangeFault}
use Rattle.be_stack.specs.Owner.{is_on_screen, owner_at}
use Rattle.be_stack.specs.Windows.{Windows}
use Rattle.be_machine.specs.Commands.{with_effect, done_at_view, without_front, executed_command, executed}
use Rattle.be_machine.specs.declared.Entry.{Entry}
use Rattle.be_machine.specs.History.{IsLegalHistory, state_after}
use Rattle.be_machine.specs.Input.{used, ports_with, with_under, delivery_of, activated, with_delivery, with_event}
use Rattle.be_machine.specs.Legal.{IsLegal}
use Rattle.be_machine.specs.Pixels.{pixel_at, mark_at, owner_in}
use Rattle.be_machine.specs.State.{State}
use Rattle.be_machine.specs.Step.{met, step}
use Rattle.be_machine.specs.Update.{begun, opened, passed_by}
use Rattle.be_machine.specs.Wants.{Want, asks, takes, begins, flushes, draws_end, ends, notifies, executes, uses, stops}
use Rattle.be_machine.specs.Windows.{width_of, corner_at, dirty_of, view_colors, changed, changed_to}
use Rattle.be_update.specs.Sessions.{is_any}
use Rattle.be_machine.proofs.FittedSteps.{IsFitted, fitted_after}
use Rattle.be_machine.proofs.Histories.{parts_after}
use Rattle.be_machine.proofs.LegalEntries.{IsMet, met_by}
use Rattle.be_machine.proofs.PixelExposed.{IsSized, sized, sized_again, cell_on, change_color}
use Rattle.be_machine.proofs.PixelSteps.{quiet_shown, is_quiet}
use Rattle.be_machine.proofs.PixelViews.{IsCovered, covered}
use Rattle.be_machine.proofs.ProgressCases.{by_test, by_option}
use Rattle.be_machine.proofs.Sizes.{KeepsCounts, desk_sizes}

-- ---- a pixel that a window comes to own

marked : (color : Color) (c : Cell) → (exposed_cell color c).dirty ≡ true
marked (Solid rgb) c = refl
marked Clear c = refl

marked_as : (o : Option Color) (color : Color) (c : Cell) → o ≡ Some color → (exposed_as o c).dirty ≡ true
marked_as (Some other) color c e = marked other c
marked_as None color c e = cc

fresh_still : (before after : Desk) (colors : List (List Color)) (u : ℕ) (old : Lookup) (x y : ℤ) (c : Cell) (color : Color) (b : Bool) → owns before u x y ≡ b → b ≡ false → color_of colors u (view_here after u x y) ≡ Some color → (own_cell before after colors u still old x y c).dirty ≡ true
fresh_still before after colors u old x y c color true e lost is = cc
fresh_still before after colors u old x y c color false e lost is = rw e (marked_as (color_of colors u (view_here after u x y)) color c is)

-- a window that didn't go brings each pixel to itself
same_way : (old new : Option Point) (before : Desk) (u : ℕ) (look : Lookup) (x y : ℤ) → new ≡ old → owns before u x y ≡ false → brought before u look x y (way_from old new) ≡ None
same_way (Some p) (Some q) before u look x y e h =
    let same : q ≡ p = cc in
    let across : x -ℤ (q.x -ℤ p.x) ≡ x = ap (λ (k : Point). x -ℤ (k.x -ℤ p.x)) same ∙ omega (arith, ints) in
    let down : y -ℤ (q.y -ℤ p.y) ≡ y = ap (λ (k : Point). y -ℤ (k.y -ℤ p.y)) same ∙ omega (arith, ints) in
    let unowned : owns before u (x -ℤ (q.x -ℤ p.x)) (y -ℤ (q.y -ℤ p.y)) ≡ false = (λ i. owns before u (across i) (down i)) ∙ h in
    rw unowned refl
same_way (Some p) None before u look x y e h = refl
same_way None new before u look x y e h = refl

fresh_moving : (before after : Desk) (colors : List (List Color)) (u : ℕ) (old : Lookup) (x y : ℤ) (c : Cell) (color : Color) (o : Option Cell) → brought before u old x y (way_of before after u) ≡ o → o ≡ None → color_of colors u (view_here after u x y) ≡ Some color → (own_cell before after colors u moving old x y c).dirty ≡ true
fresh_moving before after colors u old x y c color (Some other) e lost is = cc
fresh_moving before after colors u old x y c color None e lost is = rw e (marked_as (color_of colors u (view_here after u x y)) color c is)

fresh_resizing : (before after : Desk) (colors : List (List Color)) (u : ℕ) (old : Lookup) (x y : ℤ) (c : Cell) (color : Color) (b : Bool) → owns before u x y ≡ b → b ≡ false → color_of colors u (view_here after u x y) ≡ Some color → (own_cell before after colors u resizing old x y c).dirty ≡ true
fresh_resizing before after colors u old x y c color true e lost is = cc
fresh_resizing before after colors u old x y c color false e lost is = rw e (marked_as (color_of colors u (view_here after u x y)) color c is)

fresh_own : (before after : Desk) (colors : List (List Color)) (u : ℕ) (motion : Motion) (old : Lookup) (x y : ℤ) (c : Cell) (color : Color) → owns before u x y ≡ false → corner_of after.windows u ≡ corner_of before.windows u → color_of colors u (view_here after u x y) ≡ Some color → (own_cell before after colors u motion old x y c).dirty ≡ true
fresh_own before after colors u still old x y c color lost corner is = fresh_still before after colors u old x y c color (owns before u x y) refl lost is
fresh_own before after colors u moving old x y c color lost corner is =
    fresh_moving before after colors u old x y c color (brought before u old x y (way_of before after u)) refl (same_way (corner_of before.windows u) (corner_of after.windows u) before u old x y corner lost) is
fresh_own before after colors u resizing old x y c color lost corner is = fresh_resizing before after colors u old x y c color (owns before u x y) refl lost is

fresh_by : (before after : Desk) (colors : List (List Color)) (w u : ℕ) (motion : Motion) (old : Lookup) (x y : ℤ) (c : Cell) (color : Color) (b : Bool) → (u == w) ≡ b → owns before u x y ≡ false → corner_of after.windows u ≡ corner_of before.windows u → color_of colors u (view_here after u x y) ≡ Some color → (if b then own_cell before after colors w motion old x y c else own_cell before after colors u still old x y c).dirty ≡ true
fresh_by before after colors w u motion old x y c color true e lost corner is =
    subst (λ k. (own_cell before after colors k motion old x y c).dirty ≡ true) (eq_tells u w e) (fresh_own before after colors u motion old x y c color lost corner is)
fresh_by before after colors w u motion old x y c color false e lost corner is = fresh_own before after colors u still old x y c color lost corner is

fresh_cell : (before after : Desk) (colors : List (List Color)) (w u : ℕ) (change : Change) (old : Lookup) (x y : ℤ) (c : Cell) (color : Color) → owner_at after.windows x y ≡ Some u → owns before u x y ≡ false → corner_of after.windows u ≡ corner_of before.windows u → color_of colors u (view_here after u x y) ≡ Some color → (changed_cell before after colors w change old x y c).dirty ≡ true
unfolding changed_cell
fresh_cell before after colors w u change old x y c color owner lost corner is =
    ap (λ o. (cell_of before after colors w (motion_of change) o old x y c).dirty) owner
    ∙ fresh_by before after colors w u (motion_of change) old x y c color (u == w) refl lost corner is

-- ---- states

-- what a window comes to own without going is marked
abbrev IsFreshAt : State → State → ℕ → ℤ → ℤ → Type 0
IsFreshAt s r u x y = corner_at r u ≡ corner_at s u → (owner_in s x y ≡ Some u → ⊥) → owner_in r x y ≡ Some u → mark_at r x y ≡ Some true

not_owned : (s : State) (u : ℕ) (x y : ℤ) (b : Bool) → owns s.desk u x y ≡ b → (owner_in s x y ≡ Some u → ⊥) → owns s.desk u x y ≡ false
not_owned s u x y true e other = absurd (other (number_is u (owner_in s x y) e))
not_owned s u x y false e other = e

fresh_changed : (d : Declared) (s : State) (w u : ℕ) (change : Change) (x y : ℤ) (r : Result Desk ChangeFault) → IsSized d s → IsFitted s → desk_after s.desk w change ≡ r → KeepsCounts s.desk r → IsFreshAt s (changed_to s w change r) u x y
fresh_changed d s w u change x y (Ok new) parts fitted e sizes corner other owner =
    let is : IsCovered new.windows u x y = covered new.windows u x y owner in
    let long : length s.screen ≡ width_of s * s.desk.windows.height = parts.screen ∙ (λ i. sym parts.width i * sym parts.height i) in
    let cell : (c : Cell) × (pixel_at s x y ≡ Some c) = cell_on (width_of s) s.desk.windows.height s.screen x y long (subst (λ n. is_on_screen n x ≡ true) sizes.sizes.width is.column) (subst (λ n. is_on_screen n y ≡ true) sizes.sizes.height is.row) in
    let color : (color : Color) × (color_of (view_colors s) u (view_here new u x y) ≡ Some color) = change_color d s w u change new x y parts fitted e owner in
    let rule : Lookup → ℤ → ℤ → Cell → Cell = changed_cell s.desk new (view_colors s) w change in
    let now : cell_at new.windows.width (each_cell (width_of s) rule s.screen) x y ≡ Some (rule (pixel_at s) x y cell.0) =
    ap (λ n. cell_at n (each_cell (width_of s) rule s.screen) x y) sizes.sizes.width ∙ cell_by (width_of s) rule s.screen x y ∙ ap (option_map (rule (pixel_at s) x y)) cell.1 in
    ap (option_map (λ (c : Cell). c.dirty)) now
    ∙ ap Some (fresh_cell s.desk new (view_colors s) w u change (pixel_at s) x y cell.0 color.0 owner (not_owned s u x y (owns s.desk u x y) refl other) corner color.1)
fresh_changed d s w u change x y (Err f) parts fitted e sizes corner other owner = absurd (other owner)

changed_fresh : (d : Declared) (s : State) (w u : ℕ) (change : Change) (x y : ℤ) → IsSized d s → IsFitted s → IsFreshAt s (changed s w change) u x y
unfolding changed
changed_fresh d s w u change x y parts fitted = fresh_changed d s w u change x y (desk_after s.desk w change) parts fitted refl (desk_sizes s.desk w change)

same_fresh : (s r : State) (u : ℕ) (x y : ℤ) → r.desk.windows ≡ s.desk.windows → IsFreshAt s r u x y
same_fresh s r u x y same corner other owner = absurd (other (sym (ap (λ (k : Windows). owner_at k x y) same) ∙ owner))

-- ---- wants

effect_fresh : (d : Declared) (pictures : List Picture) (s : State) (w u : ℕ) (effect : Effect) (x y : ℤ) → IsSized d s → IsFitted s → IsFreshAt s (with_effect pictures s w effect) u x y
effect_fresh d pictures s w u (at_view v deed) x y parts fitted = by_option (λ r. IsFreshAt s r u x y) (done_at_view pictures s w v deed) s (slice_get s.panes w) (same_fresh s s u x y refl) (λ pane. same_fresh s (done_at_view pictures s w v deed pane) u x y refl)
effect_fresh d pictures s w u (changes change) x y parts fitted = changed_fresh d s w u change x y parts fitted
effect_fresh d pictures s w u ends_update x y parts fitted = same_fresh s (with_effect pictures s w ends_update) u x y refl

executed_fresh : (d : Declared) (s : State) (w u : ℕ) (x y : ℤ) → IsSized d s → IsFitted s → IsFreshAt s (executed d s w) u x y
unfolding executed
executed_fresh d s w u x y parts fitted =
    by_option (λ r. IsFreshAt s r u x y) (executed_command d s w) s (option_and_then (λ link. slice_get link 0) (slice_get s.links w)) (same_fresh s s u x y refl) (λ c.
    effect_fresh d d.pictures (without_front s w) w u (effect_of c.command) x y (sized_again d s (without_front s w) refl refl refl refl parts) (record { fit = fitted.fit; colored = fitted.colored }))

begun_fresh : (s : State) (w u : ℕ) (x y : ℤ) → IsFreshAt s (begun s w) u x y
unfolding begun
begun_fresh s w u x y =
    by_test (λ r. IsFreshAt s r u x y) (is_any (dirty_of s w)) (option_map_or (opened s w) (corner_at s w) s) (passed_by s w)
    (by_option (λ r. IsFreshAt s r u x y) (opened s w) s (corner_at s w) (same_fresh s s u x y refl) (λ corner. same_fresh s (opened s w corner) u x y refl))
    (same_fresh s (passed_by s w) u x y refl)

activated_fresh : (d : Declared) (s : State) (o : Option ℕ) (u : ℕ) (x y : ℤ) → IsSized d s → IsFitted s → IsFreshAt s (activated s o) u x y
activated_fresh d s (Some w) u x y parts fitted = changed_fresh d s w u Activate x y parts fitted
activated_fresh d s None u x y parts fitted = same_fresh s s u x y refl

delivery_fresh : (d : Declared) (s : State) (delivery : Delivery) (u : ℕ) (x y : ℤ) → IsSized d s → IsFitted s → IsFreshAt s (with_delivery s delivery) u x y
delivery_fresh d s delivery u x y parts fitted =
    activated_fresh d (record (used s) { ports = ports_with (ports_with s.ports delivery.first) delivery.second; desk = with_under delivery s.desk }) delivery.activate u x y
    (sized_again d s (record (used s) { ports = ports_with (ports_with s.ports delivery.first) delivery.second; desk = with_under delivery s.desk }) refl refl refl refl parts) (record { fit = fitted.fit; colored = fitted.colored })

event_fresh : (d : Declared) (s : State) (event : InputLine) (u : ℕ) (x y : ℤ) → IsSized d s → IsFitted s → IsFreshAt s (with_event s event) u x y
event_fresh d s (line.Press p) u x y parts fitted = delivery_fresh d s (delivery_of s (event.Press p)) u x y parts fitted
event_fresh d s (line.Release p) u x y parts fitted = delivery_fresh d s (delivery_of s (event.Release p)) u x y parts fitted
event_fresh d s (line.Move p) u x y parts fitted = delivery_fresh d s (delivery_of s (event.Move p)) u x y parts fitted
event_fresh d s (line.Key key) u x y parts fitted = delivery_fresh d s (delivery_of s (event.Key key)) u x y parts fitted
event_fresh d s (line.After m) u x y parts fitted = same_fresh s (with_event s (line.After m)) u x y refl

quiet_fresh : (d : Declared) (s : State) (want : Want) (u : ℕ) (x y : ℤ) → is_quiet want ≡ true → IsFreshAt s (met d s want) u x y
quiet_fresh d s want u x y quiet = same_fresh s (met d s want) u x y (quiet_shown d s want quiet).windows

want_fresh : (d : Declared) (s : State) (want : Want) (u : ℕ) (x y : ℤ) → IsSized d s → IsFitted s → IsFreshAt s (met d s want) u x y
unfolding met
want_fresh d s (asks who wish) u x y parts fitted = quiet_fresh d s (asks who wish) u x y refl
want_fresh d s (takes w) u x y parts fitted = quiet_fresh d s (takes w) u x y refl
want_fresh d s (begins w) u x y parts fitted = begun_fresh s w u x y
want_fresh d s (flushes w) u x y parts fitted = quiet_fresh d s (flushes w) u x y refl
want_fresh d s (draws_end w) u x y parts fitted = quiet_fresh d s (draws_end w) u x y refl
want_fresh d s (ends w) u x y parts fitted = quiet_fresh d s (ends w) u x y refl
want_fresh d s (notifies w) u x y parts fitted = quiet_fresh d s (notifies w) u x y refl
want_fresh d s (executes w) u x y parts fitted = executed_fresh d s w u x y parts fitted
want_fresh d s (uses event) u x y parts fitted = event_fresh d s event u x y parts fitted
want_fresh d s stops u x y parts fitted = quiet_fresh d s stops u x y refl

step_fresh : (d : Declared) (s : State) (e : Entry) (u : ℕ) (x y : ℤ) → IsLegal d s e → IsSized d s → IsFitted s → IsFreshAt s (step d s e) u x y
step_fresh d s e u x y legal parts fitted =
    let is : IsMet d s e = met_by d s e legal in
    subst (λ r. IsFreshAt s r u x y) (sym is.stepped) (want_fresh d s is.want u x y parts fitted)

pub exposed_marked : (d : Declared) (h : List Entry) (e : Entry) (u : ℕ) (x y : ℤ) → IsLegalHistory d h → IsLegal d (state_after d h) e → corner_at (step d (state_after d h) e) u ≡ corner_at (state_after d h) u → (owner_in (state_after d h) x y ≡ Some u → ⊥) → owner_in (step d (state_after d h) e) x y ≡ Some u → mark_at (step d (state_after d h) e) x y ≡ Some true
exposed_marked d h e u x y legal now = step_fresh d (state_after d h) e u x y now (sized d (state_after d h) (parts_after d h legal)) (fitted_after d h legal)

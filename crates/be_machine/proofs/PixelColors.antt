-- Which entries change colours, and which pixels a change leaves.
use Rattle.std.proofs.Common.{◌≡◌, ℕ, Bool, true, false, Option, Some, None, ◌⊎◌, inl, inr, refl, sym, ap, ◌∙◌}
use Rattle.std.specs.Prelude.{ℤ, ◌+◌, slice_get, option_map, option_and_then, if◌then◌else◌}
use Rattle.std.specs.Option.{option_map_or}
use Rattle.std.proofs.lemmas.Option.{same_Some}
use Rattle.be_command.specs.Effects.{changes, effect_of}
use Rattle.be_desk.specs.Changes.{still, motion_of}
use Rattle.be_geom.specs.declared.change.Change.{Change}
use Rattle.be_geom.specs.declared.point.Point.{Point}
use Rattle.be_link.specs.Queues.{Numbered}
use Rattle.be_pane.specs.Panes.{Pane}
use Rattle.be_script.specs.declared.InputLine.{InputLine}
use Rattle.be_script.specs.declared.InputLine.TheVariants as line
use Rattle.be_script.specs.Script.{Declared}
use Rattle.be_span.specs.Screen.{cell_at}
use Rattle.be_span.specs.declared.Cell.{Cell}
use Rattle.be_span.proofs.EachLemmas.{cell_by}
use Rattle.be_update.specs.Sessions.{is_any, cleaned_cell}
use Rattle.be_machine.specs.Commands.{effect_outcome, without_front, with_effect}
use Rattle.be_machine.specs.declared.Act.{Act}
use Rattle.be_machine.specs.declared.Act.TheVariants as act
use Rattle.be_machine.specs.declared.Entry.{Entry}
use Rattle.be_machine.specs.Input.{event_act}
use Rattle.be_machine.specs.Legal.{want_act, IsLegal}
use Rattle.be_machine.specs.PixelLaws.{is_painting}
use Rattle.be_machine.specs.Pixels.{pixel_at, color_at, owner_in, Executes}
use Rattle.be_machine.specs.Program.{has_ended}
use Rattle.be_machine.specs.State.{State}
use Rattle.be_machine.specs.Step.{met, step}
use Rattle.be_machine.specs.Update.{begun, opened, passed_by}
use Rattle.be_machine.specs.Wants.{Want, asks, takes, begins, flushes, draws_end, ends, notifies, executes, uses, stops}
use Rattle.be_machine.specs.Windows.{width_of, owned, corner_at, dirty_of, changed}
use Rattle.be_machine.proofs.Found.{IsJoined, joined, IsTested, tested}
use Rattle.be_machine.proofs.LegalEntries.{IsMet, met_by}
use Rattle.be_machine.proofs.PixelHistory.{own_change_leaves, still_leaves, exec_step}
use Rattle.be_machine.proofs.PixelSteps.{same_pixel, quiet_shown, is_quiet}

-- ---- colours

same_color : (s r : State) (x y : ℤ) → pixel_at r x y ≡ pixel_at s x y → color_at r x y ≡ color_at s x y
same_color s r x y same = ap (option_map (λ (cell : Cell). cell.rgb)) same

quiet_color : (d : Declared) (s : State) (want : Want) (x y : ℤ) → is_quiet want ≡ true → color_at (met d s want) x y ≡ color_at s x y
quiet_color d s want x y quiet = same_color s (met d s want) x y (same_pixel s (met d s want) x y (quiet_shown d s want quiet))

cleaned_rgb : (b : Bool) (c : Cell) → (if b then record c { dirty = false } else c).rgb ≡ c.rgb
cleaned_rgb true c = refl
cleaned_rgb false c = refl

same_colors : (f : Cell → Cell) (o : Option Cell) → ((c : Cell) → (f c).rgb ≡ c.rgb) → option_map (λ (cell : Cell). cell.rgb) (option_map f o) ≡ option_map (λ cell. cell.rgb) o
same_colors f (Some c) h = ap Some (h c)
same_colors f None h = refl

opened_color : (s : State) (w : ℕ) (corner : Point) (x y : ℤ) → color_at (opened s w corner) x y ≡ color_at s x y
opened_color s w corner x y =
    ap (option_map (λ (cell : Cell). cell.rgb)) (cell_by (width_of s) (cleaned_cell (owned s w)) s.screen x y)
    ∙ same_colors (cleaned_cell (owned s w) (cell_at (width_of s) s.screen) x y) (cell_at (width_of s) s.screen x y) (λ c. cleaned_rgb (owned s w x y) c)

opened_or : (s : State) (w : ℕ) (o : Option Point) (x y : ℤ) → color_at (option_map_or (opened s w) o s) x y ≡ color_at s x y
opened_or s w (Some corner) x y = opened_color s w corner x y
opened_or s w None x y = refl

begun_by : (s r t : State) (b : Bool) (x y : ℤ) → color_at r x y ≡ color_at s x y → color_at t x y ≡ color_at s x y → color_at (if b then r else t) x y ≡ color_at s x y
begun_by s r t true x y h k = h
begun_by s r t false x y h k = k

-- an update takes marks, and leaves the colours
begun_color : (s : State) (w : ℕ) (x y : ℤ) → color_at (begun s w) x y ≡ color_at s x y
unfolding begun
begun_color s w x y = begun_by s (option_map_or (opened s w) (corner_at s w) s) (passed_by s w) (is_any (dirty_of s w)) x y (opened_or s w (corner_at s w) x y) refl

-- ---- commands and events

paints : (a b : Act) → is_painting a ≡ true → a ≡ b → is_painting b ≡ false → ⊥
paints a b does same quiet_act = let never : true ≡ false = sym does ∙ ap is_painting same ∙ quiet_act in cc

exec_paints : (d : Declared) (s : State) (w : ℕ) (a : Act) → want_act d s (executes w) ≡ Some a → is_painting a ≡ false → ⊥
unfolding want_act
exec_paints d s w a e quiet_act =
    let at : IsJoined (λ pane c. Some (act.Exec c.number (effect_outcome d.pictures s w (effect_of c.command) pane))) (slice_get s.panes w) (option_and_then (λ link. slice_get link 0) (slice_get s.links w)) a =
    joined (λ (pane : Pane) (c : Numbered). Some (act.Exec c.number (effect_outcome d.pictures s w (effect_of c.command) pane))) (slice_get s.panes w) (option_and_then (λ link. slice_get link 0) (slice_get s.links w)) a e in
    paints (act.Exec at.second.number (effect_outcome d.pictures s w (effect_of at.second.command) at.first)) a refl (same_Some (act.Exec at.second.number (effect_outcome d.pictures s w (effect_of at.second.command) at.first)) a at.is) quiet_act

event_by : (d : Declared) (s : State) (x : InputLine) (a : Act) → event_act d s x ≡ Some a → is_painting a ≡ false → ⊥
event_by d s (line.Press p) a e quiet_act = paints _ a refl (same_Some _ a e) quiet_act
event_by d s (line.Release p) a e quiet_act = paints _ a refl (same_Some _ a e) quiet_act
event_by d s (line.Move p) a e quiet_act = paints _ a refl (same_Some _ a e) quiet_act
event_by d s (line.Key key) a e quiet_act = paints _ a refl (same_Some _ a e) quiet_act
event_by d s (line.After m) a e quiet_act =
    let is : IsTested (has_ended d s m) (act.Event (s.events + 1) None None) a = tested (has_ended d s m) (act.Event (s.events + 1) None None) a e in
    paints (act.Event (s.events + 1) None None) a refl is.is quiet_act

event_paints : (d : Declared) (s : State) (x : InputLine) (a : Act) → want_act d s (uses x) ≡ Some a → is_painting a ≡ false → ⊥
unfolding want_act
event_paints d s x a e quiet_act = event_by d s x a e quiet_act

want_color : (d : Declared) (s : State) (want : Want) (a : Act) (x y : ℤ) → want_act d s want ≡ Some a → is_painting a ≡ false → color_at (met d s want) x y ≡ color_at s x y
unfolding met
want_color d s (asks who wish) a x y e quiet_act = quiet_color d s (asks who wish) x y refl
want_color d s (takes w) a x y e quiet_act = quiet_color d s (takes w) x y refl
want_color d s (begins w) a x y e quiet_act = begun_color s w x y
want_color d s (flushes w) a x y e quiet_act = quiet_color d s (flushes w) x y refl
want_color d s (draws_end w) a x y e quiet_act = quiet_color d s (draws_end w) x y refl
want_color d s (ends w) a x y e quiet_act = quiet_color d s (ends w) x y refl
want_color d s (notifies w) a x y e quiet_act = quiet_color d s (notifies w) x y refl
want_color d s (executes w) a x y e quiet_act = absurd (exec_paints d s w a e quiet_act)
want_color d s (uses event) a x y e quiet_act = absurd (event_paints d s event a e quiet_act)
want_color d s stops a x y e quiet_act = quiet_color d s stops x y refl

pub colors_stay : (d : Declared) (s : State) (e : Entry) (x y : ℤ) → IsLegal d s e → is_painting e.act ≡ false → color_at (step d s e) x y ≡ color_at s x y
colors_stay d s e x y legal quiet_act =
    let is : IsMet d s e = met_by d s e legal in
    ap (λ r. color_at r x y) is.stepped ∙ want_color d s is.want e.act x y is.granted quiet_act

-- ---- changes

pub change_step : (d : Declared) (s : State) (e : Entry) (w : ℕ) (c : Numbered) (change : Change) → Executes d s e w c → effect_of c.command ≡ changes change → step d s e ≡ changed (without_front s w) w change
change_step d s e w c change is at = exec_step d s e w c is ∙ ap (with_effect d.pictures (without_front s w) w) at

kept_by : (s : State) (w u : ℕ) (change : Change) (x y : ℤ) → (motion_of change ≡ still) ⊎ (u ≡ w → ⊥) → owner_in s x y ≡ Some u → owner_in (changed s w change) x y ≡ Some u → pixel_at (changed s w change) x y ≡ pixel_at s x y
kept_by s w u change x y (inl is_still) was now = (still_leaves s w change (λ _. ⊥) is_still).kept u x y (λ never. never) was now
kept_by s w u change x y (inr other) was now = (own_change_leaves s w change).kept u x y (λ same. other (sym same)) was now

pub kept_stay : (d : Declared) (s : State) (e : Entry) (w u : ℕ) (c : Numbered) (change : Change) (x y : ℤ) → Executes d s e w c → effect_of c.command ≡ changes change → (motion_of change ≡ still) ⊎ (u ≡ w → ⊥) → owner_in s x y ≡ Some u → owner_in (step d s e) x y ≡ Some u → pixel_at (step d s e) x y ≡ pixel_at s x y
kept_stay d s e w u c change x y is at how was now =
    let after : step d s e ≡ changed (without_front s w) w change = change_step d s e w c change is at in
    ap (λ r. pixel_at r x y) after ∙ kept_by (without_front s w) w u change x y how was (sym (ap (λ r. owner_in r x y) after) ∙ now)

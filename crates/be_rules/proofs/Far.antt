-- The pane of a window that owns other pixels after a change is touched, in every sound list with the parts in hand.
use Rattle.std.proofs.Common.{◌≡◌, ℕ, List, Option, Some, Result, Ok, Err, inr, refl, sym, ap, subst, ◌∙◌}
use Rattle.std.specs.Prelude.{slice_get, option_and_then}
use Rattle.std.specs.Option.{option_map_or}
use Rattle.std.proofs.lemmas.Option.{same_Some}
use Rattle.be_command.specs.Effects.{Effect, changes, effect_of}
use Rattle.be_desk.specs.Affected.{OwnsTheSame}
use Rattle.be_desk.specs.Changes.{Desk, desk_after, desk_unless}
use Rattle.be_geom.specs.declared.change.Change.{Change}
use Rattle.be_geom.specs.declared.change.Change.TheVariants.{Activate}
use Rattle.be_hall.specs.Machine.{Fits, IsHeld}
use Rattle.be_input.specs.Deliveries.{Delivery, delivered}
use Rattle.be_input.specs.declared.Event.{Event}
use Rattle.be_input.specs.declared.Event.TheVariants as event
use Rattle.be_link.specs.Queues.{Numbered}
use Rattle.be_script.specs.declared.InputLine.{InputLine}
use Rattle.be_script.specs.declared.InputLine.TheVariants as line
use Rattle.be_script.specs.Script.{Declared}
use Rattle.be_stack.specs.Changes.{windows_after}
use Rattle.be_stack.specs.declared.fault.ChangeFault.{ChangeFault}
use Rattle.be_stack.specs.Windows.{Windows}
use Rattle.be_machine.specs.Activities.{Activity, activity_of, input, twin}
use Rattle.be_machine.specs.Commands.{executed, executed_command, with_effect, without_front}
use Rattle.be_machine.specs.declared.Entry.{Entry}
use Rattle.be_machine.specs.Input.{activated, delivery_of, ports_with, used, with_delivery, with_event, with_under}
use Rattle.be_machine.specs.Laws.{IsWantOf}
use Rattle.be_machine.specs.State.{State}
use Rattle.be_machine.specs.Step.{met, step}
use Rattle.be_machine.specs.Touched.{Part, Touches, TouchesActive, TouchesDelivered, TouchesEvent, TouchesFor, TouchesOldest, TouchesPanes, pane}
use Rattle.be_machine.specs.Touched as part
use Rattle.be_machine.specs.Wants.{Want, executes, uses, want_of}
use Rattle.be_machine.specs.Windows.{changed, changed_to}
use Rattle.be_machine.proofs.Sizes.{IsAsLarge, IsAsMany, KeepsCounts, as_many, desk_sizes}
use Rattle.be_rules.specs.Far.{IsAltered, event_in, windows_behind, windows_or}
use Rattle.be_rules.specs.Found.{NeedsPart, OwnHeld}
use Rattle.be_rules.specs.Places.{IsPart, place_of}
use Rattle.be_rules.specs.Rules.{IsSound, TouchesPlace}
use Rattle.be_rules.specs.Slices.{Slice}
use Rattle.be_rules.proofs.Everywhere.{same_in_hand, wants_same}
use Rattle.be_rules.proofs.Lawfully.{state, back}
use Rattle.be_rules.proofs.Local.{at_place}
use Rattle.be_rules.proofs.Spots.{changes_hands}

-- ---- the windows behind a change

pub windows_changed : (s : State) (w : ℕ) (change : Change) → (changed s w change).desk.windows ≡ windows_behind s.desk w change
unfolding changed
windows_changed s w change = by_result (desk_after s.desk w change)
  where
    by_result : (r : Result Desk ChangeFault) → (changed_to s w change r).desk.windows ≡ windows_or s.desk.windows r
    by_result (Ok new) = refl
    by_result (Err f) = refl

pub as_large : (desk : Desk) (w : ℕ) (change : Change) → IsAsLarge desk.windows (windows_behind desk w change)
as_large desk w change = by_result (desk_after desk w change) (desk_sizes desk w change)
  where
    by_result : (r : Result Desk ChangeFault) → KeepsCounts desk r → IsAsLarge desk.windows (windows_or desk.windows r)
    by_result (Ok new) is = is.sizes
    by_result (Err f) is = let same : IsAsMany desk desk = as_many desk in same.sizes

-- the pane of a window that is altered, where the state after has the windows behind the change
altered : (s r : State) (w u : ℕ) (change : Change) → r.desk.windows ≡ windows_behind s.desk w change → IsAltered s.desk w change u → TouchesPanes s r w (pane u)
altered s r w u change is other =
    let large : IsAsLarge s.desk.windows (windows_behind s.desk w change) = as_large s.desk w change in
    let large' : IsAsLarge s.desk.windows r.desk.windows = subst (IsAsLarge s.desk.windows) (sym is) large in
    let at = changes_hands s.desk.windows r.desk.windows large'.width large'.height u (λ same. other (subst (λ x. OwnsTheSame s.desk.windows x u) is same)) in
    (u, refl, inr (at.0, at.1, at.2, at.3))

-- ---- by a command

front_changes : (d : Declared) (s : State) (w : ℕ) (change : Change) (o : Option Numbered) (c : Numbered) → o ≡ Some c → effect_of c.command ≡ changes change → (option_map_or (executed_command d s w) o s).desk.windows ≡ windows_behind s.desk w change
front_changes d s w change o c front effect =
    ap (λ x. (option_map_or (executed_command d s w) x s).desk.windows) front
    ∙ ap (λ (x : Effect). (with_effect d.pictures (without_front s w) w x).desk.windows) effect
    ∙ windows_changed (without_front s w) w change

exec_touches : (d : Declared) (s : State) (e : Entry) (w u : ℕ) (c : Numbered) (change : Change) → IsWantOf d s e (executes w) → option_and_then (λ l. slice_get l 0) (slice_get s.links w) ≡ Some c → effect_of c.command ≡ changes change → IsAltered s.desk w change u → Touches s (step d s e) (executes w) (pane u)
unfolding step met executed
exec_touches d s e w u c change wanted front effect other =
    let r : State = step d s e in
    let stepped : r ≡ executed d s w = ap (λ o. option_map_or (met d s) o s) wanted in
    let windows : r.desk.windows ≡ windows_behind s.desk w change = ap (λ (t : State). t.desk.windows) stepped ∙ front_changes d s w change (option_and_then (λ l. slice_get l 0) (slice_get s.links w)) c front effect in
    let touched : TouchesFor s r w (changes change) (pane u) = inr (inr (altered s r w u change windows other)) in
    inr (subst (λ o. TouchesOldest s r w o (pane u)) (sym front) (subst (λ x. TouchesFor s r w x (pane u)) (sym effect) touched))

-- ---- by an event

-- what is remembered of the pointer changes no windows
pub under_same : (x : Delivery) (desk : Desk) (w : ℕ) → windows_behind (with_under x desk) w Activate ≡ windows_behind desk w Activate
unfolding desk_after
under_same x desk w = by_result (windows_after desk.windows w Activate)
  where
    by_result : (r : Result Windows ChangeFault) → windows_or desk.windows (desk_unless (with_under x desk) w Activate r) ≡ windows_or desk.windows (desk_unless desk w Activate r)
    by_result (Ok windows) = refl
    by_result (Err f) = refl

pub activates : (s : State) (x : Delivery) (w : ℕ) → x.activate ≡ Some w → (with_delivery s x).desk.windows ≡ windows_behind s.desk w Activate
activates s x w is =
    let posted : State = record (used s) { ports = ports_with (ports_with s.ports x.first) x.second; desk = with_under x s.desk } in
    ap (λ o. (activated posted o).desk.windows) is ∙ windows_changed posted w Activate ∙ under_same x s.desk w

-- what happens with an event of mouse or key
record IsEvent (s : State) (it : InputLine) (x : Delivery) : Type 0 where
  pub leaves : with_event s it ≡ with_delivery s x
  pub touches : (r : State) (p : Part) → TouchesDelivered s r x p → TouchesEvent s r it p

event_touches : (d : Declared) (s : State) (e : Entry) (it : InputLine) (x : Delivery) (w u : ℕ) → IsWantOf d s e (uses it) → IsEvent s it x → x.activate ≡ Some w → IsAltered s.desk w Activate u → Touches s (step d s e) (uses it) (pane u)
unfolding step met
event_touches d s e it x w u wanted is active other =
    let r : State = step d s e in
    let stepped : r ≡ with_event s it = ap (λ o. option_map_or (met d s) o s) wanted in
    let windows : r.desk.windows ≡ windows_behind s.desk w Activate = ap (λ (t : State). t.desk.windows) (stepped ∙ is.leaves) ∙ activates s x w active in
    let touched : TouchesActive s r (Some w) (pane u) = altered s r w u Activate windows other in
    inr (is.touches r (pane u) (inr (inr (inr (subst (λ o. TouchesActive s r o (pane u)) (sym active) touched)))))

-- ---- in every list

-- A part that is touched after each history is needed where it isn't in hand, while the want is known by the own parts.
needs_touched : (d : Declared) (held : List (ℕ × Slice)) (all : List Slice) (sound : IsSound d all) → Fits all held → (a : ℕ) (who : Activity) (want : Want) (p : Part) → activity_of d a ≡ Some who → OwnHeld d held all who → want_of d (state d all sound) who ≡ Some want → IsPart d p → (IsHeld held (place_of d p) → ⊥) → ((other : List Slice) (sound' : IsSound d other) → Fits other held → (e : Entry) → IsWantOf d (state d other sound') e want → Touches (state d other sound') (step d (state d other sound') e) want p) → NeedsPart d held a (place_of d p)
needs_touched d held all sound fits a who want p number own wanted there out touches = (
  out,
  λ e by other sound' fits'.
      let r : State = state d other sound' in
      let wants : IsWantOf d r e want = ap (λ n. option_and_then (want_of d r) (activity_of d n)) by ∙ ap (option_and_then (want_of d r)) number ∙ wants_same d held all other sound sound' fits fits' who own ∙ wanted in
      inr (subst (λ t. TouchesPlace d t e (place_of d p)) (sym (back d other sound')) (record { part = p; there = at_place d p there; want = want; wanted = wants; touched = touches other sound' fits' e wants })),
)

-- with the desk and the link in hand, the panes that a change at its front alters
pub needs_altered : (d : Declared) (held : List (ℕ × Slice)) (all : List Slice) (sound : IsSound d all) → Fits all held → (a w u : ℕ) (c : Numbered) (change : Change) → activity_of d a ≡ Some (twin w) → OwnHeld d held all (twin w) → IsHeld held (place_of d part.desk) → IsHeld held (place_of d (part.link w)) → want_of d (state d all sound) (twin w) ≡ Some (executes w) → option_and_then (λ l. slice_get l 0) (slice_get (state d all sound).links w) ≡ Some c → effect_of c.command ≡ changes change → IsAltered (state d all sound).desk w change u → IsPart d (pane u) → (IsHeld held (place_of d (pane u)) → ⊥) → NeedsPart d held a (place_of d (pane u))
needs_altered d held all sound fits a w u c change number own desk link wanted front effect other there out =
    needs_touched d held all sound fits a (twin w) (executes w) (pane u) number own wanted there out (λ more sound' fits' e wants.
    let r : State = state d more sound' in
    let same : r.desk ≡ (state d all sound).desk = same_in_hand d held all more sound sound' fits fits' part.desk desk in
    let queue : slice_get r.links w ≡ slice_get (state d all sound).links w = same_in_hand d held all more sound sound' fits fits' (part.link w) link in
    exec_touches d r e w u c change wants (ap (option_and_then (λ l. slice_get l 0)) queue ∙ front) effect (subst (λ k. IsAltered k w change u) (sym same) other))

-- with the desk in hand, those of the windows that own other pixels once an event activates its window
event_needs : (d : Declared) (held : List (ℕ × Slice)) (all : List Slice) (sound : IsSound d all) → Fits all held → (a w u : ℕ) (it : InputLine) (ev : Event) → ((s : State) → IsEvent s it (delivery_of s ev)) → activity_of d a ≡ Some input → OwnHeld d held all input → IsHeld held (place_of d part.desk) → want_of d (state d all sound) input ≡ Some (uses it) → (delivery_of (state d all sound) ev).activate ≡ Some w → IsAltered (state d all sound).desk w Activate u → IsPart d (pane u) → (IsHeld held (place_of d (pane u)) → ⊥) → NeedsPart d held a (place_of d (pane u))
event_needs d held all sound fits a w u it ev is number own desk wanted active other there out =
    needs_touched d held all sound fits a input (uses it) (pane u) number own wanted there out (λ more sound' fits' e wants.
    let r : State = state d more sound' in
    let same : r.desk ≡ (state d all sound).desk = same_in_hand d held all more sound sound' fits fits' part.desk desk in
    event_touches d r e it (delivery_of r ev) w u wants (is r) (ap (λ (k : Desk). (delivered k.windows k.pointing ev).activate) same ∙ active) (subst (λ k. IsAltered k w Activate u) (sym same) other))

is_event : (it : InputLine) (ev : Event) → event_in it ≡ Some ev → (s : State) → IsEvent s it (delivery_of s ev)
is_event (line.Press at) ev e s = subst (λ v. IsEvent s (line.Press at) (delivery_of s v)) (same_Some (event.Press at) ev e) (record { leaves = refl; touches = λ r p h. h })
is_event (line.Release at) ev e s = subst (λ v. IsEvent s (line.Release at) (delivery_of s v)) (same_Some (event.Release at) ev e) (record { leaves = refl; touches = λ r p h. h })
is_event (line.Move at) ev e s = subst (λ v. IsEvent s (line.Move at) (delivery_of s v)) (same_Some (event.Move at) ev e) (record { leaves = refl; touches = λ r p h. h })
is_event (line.Key key) ev e s = subst (λ v. IsEvent s (line.Key key) (delivery_of s v)) (same_Some (event.Key key) ev e) (record { leaves = refl; touches = λ r p h. h })
is_event (line.After m) ev e s = absurd (cc)

pub needs_activated : (d : Declared) (held : List (ℕ × Slice)) (all : List Slice) (sound : IsSound d all) → Fits all held → (a w u : ℕ) (it : InputLine) (ev : Event) → event_in it ≡ Some ev → activity_of d a ≡ Some input → OwnHeld d held all input → IsHeld held (place_of d part.desk) → want_of d (state d all sound) input ≡ Some (uses it) → (delivery_of (state d all sound) ev).activate ≡ Some w → IsAltered (state d all sound).desk w Activate u → IsPart d (pane u) → (IsHeld held (place_of d (pane u)) → ⊥) → NeedsPart d held a (place_of d (pane u))
needs_activated d held all sound fits a w u it ev is = event_needs d held all sound fits a w u it ev (is_event it ev is)

-- The table of touched parts holds of every legal entry.
use Rattle.be_machine.specs.Port.{with_letter_in_hand}
use Rattle.be_machine.specs.Commands.{drawn, executed}
use Rattle.be_machine.specs.Looper.{with_looper}
use Rattle.std.proofs.Common.{◌≡◌, ℕ, Option, Some, None, refl, sym, ap, ◌∙◌, ◌⊎◌, inl, inr, subst}
use Rattle.std.specs.Prelude.{slice_get, ℤ, option_and_then}
use Rattle.std.specs.Option.{option_map_or}
use Rattle.be_actor.specs.declared.Wish.{Wish}
use Rattle.be_geom.specs.declared.change.Change.TheVariants.{Activate}
use Rattle.be_script.specs.Script.{Declared}
use Rattle.be_machine.specs.Activities.{Runner, activity_of}
use Rattle.be_machine.specs.Program.{moved_on}
use Rattle.be_machine.specs.State.{State, ending}
use Rattle.be_machine.specs.Step.{granted, step, is_accepted_wish, met}
use Rattle.be_machine.specs.Pixels.{owner_in}
use Rattle.be_machine.specs.Windows.{changed}
use Rattle.be_machine.specs.Lists.{at}
use Rattle.be_machine.specs.Touched.{Part, SamePart, TouchesBy, own_part, TouchesPanes, TouchesFor, IsPostTo, TouchesActive, TouchesDelivered, TouchesEvent, Touches}
use Rattle.be_machine.specs.declared.Entry.{Entry}
use Rattle.be_machine.specs.Legal.{IsLegal}
use Rattle.be_machine.specs.Update.{at_stage}
use Rattle.be_machine.specs.Wants.{want_of, Want, asks, takes, begins, flushes, draws_end, ends, notifies, executes, uses, stops}
use Rattle.be_command.specs.Effects.{changes}
use Rattle.be_machine.proofs.TouchedParts.{Alters, both_alter, wider, none_alters, found_alters, ports_alter, loopers_alter, buffers_alter}
use Rattle.be_machine.proofs.TouchedSteps.{granted_alters, moved_alters, flushed_alters}
use Rattle.be_input.specs.Deliveries.{Post, Delivery}
use Rattle.be_machine.specs.Input.{ports_with, used, with_under, activated, delivery_of, with_delivery, with_event}
use Rattle.be_script.specs.declared.InputLine.TheVariants as line
use Rattle.be_input.specs.declared.Event.TheVariants as event
use Rattle.be_machine.proofs.TouchedWants.{taken_alters, notified_alters, ended_alters, changed_alters, oldest_alters, begun_alters}
use Rattle.be_command.specs.declared.Command.TheVariants.{EndUpdate}
use Rattle.be_script.specs.declared.InputLine.{InputLine}
use Rattle.be_machine.specs.Touched as part

-- ---- input

used_alters : (s : State) → Alters s (used s) (λ p. p ≡ part.input)
used_alters s part.desk other = refl
used_alters s part.input other = absurd (other refl)
used_alters s (part.cell m) other = refl
used_alters s (part.looper w) other = (refl, refl)
used_alters s (part.port w) other = refl
used_alters s (part.link w) other = refl
used_alters s (part.pane w) other = (refl, λ x y o. (refl, refl), refl, refl)

under_alters : (s : State) (x : Delivery) → Alters s (record s { desk = with_under x s.desk }) (λ p. p ≡ part.desk)
under_alters s x part.desk other = absurd (other refl)
under_alters s x part.input other = (refl, refl)
under_alters s x (part.cell m) other = refl
under_alters s x (part.looper w) other = (refl, refl)
under_alters s x (part.port w) other = refl
under_alters s x (part.link w) other = refl
under_alters s x (part.pane w) other = (refl, λ a b o. (refl, refl), refl, refl)

post_to_alters : (s : State) (post : Option Post) → Alters s (record s { ports = ports_with s.ports post }) (IsPostTo post)
post_to_alters s (Some post) = ports_alter s post.window _
post_to_alters s None = none_alters s (IsPostTo None)

pub active_alters : (s : State) (o : Option ℕ) → Alters s (activated s o) (λ p. (p ≡ part.desk) ⊎ TouchesActive s (activated s o) o p)
active_alters s (Some w) = wider s (changed s w Activate) (TouchesFor s (changed s w Activate) w (changes Activate)) (λ p. (p ≡ part.desk) ⊎ TouchesPanes s (changed s w Activate) w p) (λ p e. of_active p e) (changed_alters s w Activate)
  where
    of_active : (p : Part) → TouchesFor s (changed s w Activate) w (changes Activate) p → (p ≡ part.desk) ⊎ TouchesPanes s (changed s w Activate) w p
    of_active p (inl e) = inl e
    of_active p (inr (inl e)) = absurd e
    of_active p (inr (inr e)) = inr e
active_alters s None = none_alters s _

same_panes : (s t r : State) (o : Option ℕ) (p : Part) → ((x y : ℤ) → owner_in t x y ≡ owner_in s x y) → TouchesActive t r o p → TouchesActive s r o p
same_panes s t r (Some w) p same (u, is, inl e) = (u, is, inl e)
same_panes s t r (Some w) p same (u, is, inr (x, y, inl was, differs)) = (u, is, inr (x, y, inl (sym (same x y) ∙ was), λ e. differs (e ∙ sym (same x y))))
same_panes s t r (Some w) p same (u, is, inr (x, y, inr now, differs)) = (u, is, inr (x, y, inr now, λ e. differs (e ∙ sym (same x y))))
same_panes s t r None p same e = e

active_in : (s : State) (x : Delivery) (p : Part) → (p ≡ part.desk) ⊎ TouchesActive (record (used s) { ports = ports_with (ports_with s.ports x.first) x.second; desk = with_under x s.desk }) (with_delivery s x) x.activate p → (p ≡ part.input) ⊎ TouchesDelivered s (with_delivery s x) x p
active_in s x p (inl e) = inr (inl e)
active_in s x p (inr e) = inr (inr (inr (inr (same_panes s (record (used s) { ports = ports_with (ports_with s.ports x.first) x.second; desk = with_under x s.desk }) (with_delivery s x) x.activate p (λ a b. refl) e))))

delivery_alters : (s : State) (x : Delivery) → Alters s (with_delivery s x) (λ p. (p ≡ part.input) ⊎ TouchesDelivered s (with_delivery s x) x p)
delivery_alters s x =
    let first : State = record (used s) { ports = ports_with s.ports x.first } in
    let second : State = record first { ports = ports_with first.ports x.second } in
    let third : State = record second { desk = with_under x second.desk } in
    let P : Part → Type 0 = λ p. (p ≡ part.input) ⊎ TouchesDelivered s (with_delivery s x) x p in
    both_alter s third (with_delivery s x) P (λ p. (p ≡ part.desk) ⊎ TouchesActive third (activated third x.activate) x.activate p) P (λ p e. e) (λ p e. active_in s x p e)
    (both_alter s second third P (λ p. p ≡ part.desk) P (λ p e. e) (λ p e. inr (inl e))
    (both_alter s first second P (IsPostTo x.second) P (λ p e. e) (λ p e. inr (inr (inr (inl e))))
    (both_alter s (used s) first (λ p. p ≡ part.input) (IsPostTo x.first) P (λ p e. inl e) (λ p e. inr (inr (inl e))) (used_alters s) (post_to_alters (used s) x.first))
    (post_to_alters first x.second))
    (under_alters second x))
    (active_alters third x.activate)

event_alters : (s : State) (x : InputLine) → Alters s (with_event s x) (λ p. (p ≡ part.input) ⊎ TouchesEvent s (with_event s x) x p)
event_alters s (line.Press at) = delivery_alters s (delivery_of s (event.Press at))
event_alters s (line.Release at) = delivery_alters s (delivery_of s (event.Release at))
event_alters s (line.Move at) = delivery_alters s (delivery_of s (event.Move at))
event_alters s (line.Key key) = delivery_alters s (delivery_of s (event.Key key))
event_alters s (line.After m) = wider s (used s) (λ p. p ≡ part.input) (λ p. (p ≡ part.input) ⊎ (p ≡ part.cell m)) (λ p e. inl e) (used_alters s)

-- ---- all wants

asked_alters : (d : Declared) (s : State) (who : Runner) (x : Wish) → Alters s (moved_on d who (is_accepted_wish s who x) x (granted s who x)) (λ p. (p ≡ own_part who) ⊎ TouchesBy s who x p)
asked_alters d s who x =
    both_alter s (granted s who x) _ (λ p. (p ≡ own_part who) ⊎ TouchesBy s who x p) (λ p. p ≡ own_part who) (λ p. (p ≡ own_part who) ⊎ TouchesBy s who x p) (λ p e. e) (λ p e. inl e)
    (granted_alters s who x) (moved_alters d who (is_accepted_wish s who x) x (granted s who x))

draw_end_alters : (s : State) (w : ℕ) → Alters s (with_looper (drawn s w EndUpdate) w (at_stage ending)) (λ p. p ≡ part.looper w)
draw_end_alters s w =
    both_alter s (drawn s w EndUpdate) (with_looper (drawn s w EndUpdate) w (at_stage ending)) (λ p. p ≡ part.looper w) (λ p. p ≡ part.looper w) (λ p. p ≡ part.looper w) (λ p e. e) (λ p e. e)
    (buffers_alter s w _) (loopers_alter _ w (at_stage ending))

want_alters : (d : Declared) (s : State) (want : Want) → Alters s (met d s want) (Touches s (met d s want) want)
unfolding met executed
want_alters d s (asks who x) = asked_alters d s who x
want_alters d s (takes w) = found_alters s (with_letter_in_hand d s w) _ (λ p. (p ≡ part.looper w) ⊎ (p ≡ part.port w)) (λ x e. taken_alters d s w x)
want_alters d s (begins w) = begun_alters s w
want_alters d s (flushes w) = flushed_alters s w
want_alters d s (draws_end w) = draw_end_alters s w
want_alters d s (ends w) = ended_alters s w
want_alters d s (notifies w) = notified_alters s w
want_alters d s (executes w) = oldest_alters d s w (option_and_then (λ l. slice_get l 0) (slice_get s.links w))
want_alters d s (uses x) = event_alters s x
want_alters d s stops = λ p other. absurd (other tt)

pub untouched : (d : Declared) (s : State) (e : Entry) (want : Want) (p : Part) → IsLegal d s e → option_and_then (want_of d s) (activity_of d e.actor) ≡ Some want → (Touches s (step d s e) want p → ⊥) → SamePart s (step d s e) p
unfolding step
untouched d s e want p legal wants other =
    let after : step d s e ≡ met d s want = ap (λ o. option_map_or (met d s) o s) wants in
    subst (λ r. SamePart s r p) (sym after) (want_alters d s want p (λ h. other (subst (λ r. Touches s r want p) (sym after) h)))

-- Which parts a legal entry may change.
use Rattle.be_machine.specs.Port.{notice}
use Rattle.be_message.specs.Words.{not_understood_word, no_reply_word}
use Rattle.be_machine.specs.Commands.{sight_at}
use Rattle.be_update.specs.Sessions.{passed}
use Rattle.be_port.specs.Ports.{with_letter, Letter, front, Port}
use Rattle.be_machine.specs.Looper.{word_alone, freed, told_at_end, ended_hand}
use Rattle.be_machine.proofs.PixelRules.{executed_stays, cleaned_stays}
use Rattle.be_update.specs.Sessions.{with_session, session_of, is_any, cleaned_cell}
use Rattle.std.proofs.Common.{◌≡◌, ℕ, Bool, true, false, List, Option, Some, None, refl, sym, ap, ◌∙◌, Result, Ok, Err, ◌⊎◌, inl, inr, subst}
use Rattle.std.specs.Prelude.{slice_get, Result, Ok, Err, ℤ, ◌==◌, option_and_then, option_map}
use Rattle.std.specs.Option.{option_map_or}
use Rattle.be_desk.specs.Changes.{Desk, desk_after}
use Rattle.be_geom.specs.declared.change.Change.{Change}
use Rattle.be_geom.specs.declared.change.Change.TheVariants.{Show, Hide, MoveTo, MoveBy, ResizeTo, Activate, Behind, Focus, Close}
use Rattle.be_looper.specs.Duties.{Hand, waiter, end_telling}
use Rattle.be_message.specs.Messages.{Message}
use Rattle.be_port.specs.declared.Duty.{Duty}
use Rattle.be_script.specs.Script.{Declared}
use Rattle.be_stack.specs.declared.fault.ChangeFault.{ChangeFault}
use Rattle.be_machine.specs.Commands.{with_effect, done_at_view, without_front, executed_command}
use Rattle.be_machine.specs.Port.{with_letter_in_hand, notified}
use Rattle.be_machine.specs.Program.{hand_at}
use Rattle.be_machine.specs.State.{State}
use Rattle.be_span.specs.Screen.{each_cell}
use Rattle.be_span.specs.Cells.{Lookup}
use Rattle.be_span.specs.declared.Cell.{Cell}
use Rattle.be_machine.specs.Pixels.{pixel_at, owner_in}
use Rattle.be_machine.specs.Windows.{owned, width_of, changed, changed_to, ports_after, corner_at, dirty_of}
use Rattle.be_machine.specs.Lists.{at}
use Rattle.be_link.specs.Queues.{Numbered}
use Rattle.be_machine.specs.Touched.{Part, SamePixels, IsOf, TouchesPanes, TouchesPort, TouchesFor, TouchesOldest}
use Rattle.be_handler.specs.declared.Route.{Route}
use Rattle.be_handler.specs.declared.Route.TheVariants.{Skipped, Handler, Unknown}
use Rattle.be_machine.specs.Update.{passed_by, begun, opened}
use Rattle.be_machine.proofs.Lists.{at_elsewhere}
use Rattle.std.proofs.lemmas.Option.{same_Some}
use Rattle.be_facts.proofs.Numbers.{eq_tells, eq_false_tells}
use Rattle.be_bitmap.specs.Pictures.{Picture}
use Rattle.be_command.specs.Effects.{Effect, Deed, at_view, changes, ends_update, effect_of}
use Rattle.be_machine.proofs.PixelSteps.{Leaves, own_leaves}
use Rattle.be_machine.proofs.PixelHistory.{own_change_leaves}
use Rattle.be_machine.proofs.TouchedParts.{Alters, both_alter, none_alters, found_alters, tested_alters, ports_alter, loopers_alter, links_alter, panes_alter}
use Rattle.be_machine.proofs.TouchedSteps.{told_alters}
use Rattle.be_machine.proofs.TouchedOthers.{DeskKeepsOther, desk_keeps_other}
use Rattle.be_stack.specs.declared.window.Window.{Window}
use Rattle.be_views.specs.Trees.{left_top}
use Rattle.be_pane.specs.Panes.{Pane}
use Rattle.be_geom.specs.declared.point.Point.{Point}
use Rattle.be_port.specs.Ports as ports
use Rattle.be_machine.specs.Touched as part
use Rattle.be_port.specs.declared.Duty.TheVariants as duty

-- ---- letters

abbrev taken_off : Port Message → Port Message
taken_off = ports.without_front

pub taken_alters : (d : Declared) (s : State) (v : ℕ) (x : Letter Message) → Alters s (with_letter_in_hand d s v x) (λ p. (p ≡ part.looper v) ⊎ (p ≡ part.port v))
taken_alters d s v x =
    both_alter s (record s { ports = at s.ports v taken_off }) (with_letter_in_hand d s v x) (λ p. p ≡ part.port v) (λ p. p ≡ part.looper v) (λ p. (p ≡ part.looper v) ⊎ (p ≡ part.port v)) (λ p e. inr e) (λ p e. inl e)
    (ports_alter s v taken_off) (loopers_alter _ v _)

pub notified_alters : (s : State) (v : ℕ) → Alters s (notified s v) (λ p. (p ≡ part.port v) ⊎ (p ≡ part.pane v))
notified_alters s v =
    both_alter s (record s { ports = at s.ports v (with_letter (notice v)) }) (notified s v) (λ p. p ≡ part.port v) (λ p. p ≡ part.pane v) (λ p. (p ≡ part.port v) ⊎ (p ≡ part.pane v)) (λ p e. inl e) (λ p e. inr e)
    (ports_alter s v (with_letter (notice v))) (panes_alter _ v _)

-- ---- the end of a message

told_end_alters : (s : State) (x : Duty) (route : Route) → Alters s (told_at_end (end_telling x route) s) (IsOf part.cell (waiter x))
told_end_alters s (duty.Owed m) Unknown = told_alters (word_alone not_understood_word) (Some m) s
told_end_alters s (duty.Owed m) Skipped = told_alters (word_alone no_reply_word) (Some m) s
told_end_alters s (duty.Owed m) (Handler target) = told_alters (word_alone no_reply_word) (Some m) s
told_end_alters s duty.Done route = none_alters s _
told_end_alters s duty.Free route = none_alters s _

pub ended_alters : (s : State) (v : ℕ) → Alters s (option_map_or (ended_hand s v) (hand_at s v) s) (λ p. (p ≡ part.looper v) ⊎ IsOf part.cell (option_and_then (λ hand. waiter hand.duty) (hand_at s v)) p)
ended_alters s v =
    found_alters s (ended_hand s v) (hand_at s v) (λ p. (p ≡ part.looper v) ⊎ IsOf part.cell (option_and_then (λ hand. waiter hand.duty) (hand_at s v)) p) (λ hand e.
    both_alter s (freed s v) (ended_hand s v hand) (λ p. p ≡ part.looper v) (IsOf part.cell (waiter hand.duty)) (λ p. (p ≡ part.looper v) ⊎ IsOf part.cell (option_and_then (λ hand. waiter hand.duty) (hand_at s v)) p) (λ p is. inl is)
    (λ p is. inr (subst (λ o. IsOf part.cell (option_and_then (λ (h : Hand Message). waiter h.duty) o) p) (sym e) is))
    (loopers_alter s v _) (told_end_alters (freed s v) hand.duty hand.route))

-- ---- the screen

one_owner : (s : State) (u : ℕ) (x y : ℤ) → (owner_in s x y ≡ Some u) ⊎ (owner_in s x y ≡ Some u) → owner_in s x y ≡ Some u
one_owner s u x y (inl was) = was
one_owner s u x y (inr was) = was

was_owner : (s r : State) (u : ℕ) (x y : ℤ) → owner_in r x y ≡ owner_in s x y → (owner_in s x y ≡ Some u) ⊎ (owner_in r x y ≡ Some u) → owner_in s x y ≡ Some u
was_owner s r u x y same (inl was) = was
was_owner s r u x y same (inr now) = sym same ∙ now

screen_alters : (s : State) (w : ℕ) (rule : Lookup → ℤ → ℤ → Cell → Cell) → ((old : Lookup) (x y : ℤ) (c : Cell) → owned s w x y ≡ false → rule old x y c ≡ c) → Alters s (record s { screen = each_cell (width_of s) rule s.screen }) (λ p. p ≡ part.pane w)
screen_alters s w rule stays part.desk other = refl
screen_alters s w rule stays part.input other = (refl, refl)
screen_alters s w rule stays (part.cell m) other = refl
screen_alters s w rule stays (part.looper v) other = (refl, refl)
screen_alters s w rule stays (part.port v) other = refl
screen_alters s w rule stays (part.link v) other = refl
screen_alters s w rule stays (part.pane u) other =
    let leaves : Leaves s (record s { screen = each_cell (width_of s) rule s.screen }) (λ v. w ≡ v) = own_leaves s (record s { screen = each_cell (width_of s) rule s.screen }) w rule refl refl stays in
    (refl, λ x y o. (refl, leaves.kept u x y (λ e. other (ap part.pane (sym e))) (one_owner s u x y o) (one_owner s u x y o)), refl, refl)

-- ---- changes

dec_some : (a b : ℕ) → (a ≡ b) ⊎ (a ≡ b → ⊥) → (Some a ≡ Some b) ⊎ (Some a ≡ Some b → ⊥)
dec_some a b (inl same) = inl (ap Some same)
dec_some a b (inr differs) = inr (λ e. differs (same_Some a b e))

dec_number : (a b : ℕ) (t : Bool) → (a == b) ≡ t → (a ≡ b) ⊎ (a ≡ b → ⊥)
dec_number a b true e = inl (eq_tells a b e)
dec_number a b false e = inr (eq_false_tells a b e)

pub dec_owner : (a b : Option ℕ) → (a ≡ b) ⊎ (a ≡ b → ⊥)
dec_owner None None = inl refl
dec_owner None (Some b) = inr (λ e. cc)
dec_owner (Some a) None = inr (λ e. cc)
dec_owner (Some a) (Some b) = dec_some a b (dec_number a b (a == b) refl)

ports_change : (s : State) (w v : ℕ) (change : Change) → (TouchesPort w change (part.port v) → ⊥) → slice_get (ports_after w change s.ports) v ≡ slice_get s.ports v
ports_change s w v Close other = at_elsewhere s.ports w v _ (λ e. other (ap part.port (sym e)))
ports_change s w v Show other = refl
ports_change s w v Hide other = refl
ports_change s w v (MoveTo corner) other = refl
ports_change s w v (MoveBy dx dy) other = refl
ports_change s w v (ResizeTo width height) other = refl
ports_change s w v Activate other = refl
ports_change s w v (Behind front) other = refl
ports_change s w v (Focus view) other = refl

-- a pixel of a window that isn't changed, and whose owner is the same
kept_pixel : (s r : State) (w u : ℕ) → Leaves s r (λ v. w ≡ v) → (TouchesPanes s r w (part.pane u) → ⊥) → SamePixels s r u
kept_pixel s r w u leaves other x y o = by_owner (dec_owner (owner_in r x y) (owner_in s x y))
  where
    by_owner : (owner_in r x y ≡ owner_in s x y) ⊎ (owner_in r x y ≡ owner_in s x y → ⊥) → (owner_in r x y ≡ owner_in s x y) × (pixel_at r x y ≡ pixel_at s x y)
    by_owner (inl same) = (same, leaves.kept u x y (λ e. other (u, refl, inl (sym e))) (was_owner s r u x y same o) (same ∙ was_owner s r u x y same o))
    by_owner (inr differs) = absurd (other (u, refl, inr (x, y, o, differs)))

change_alters : (s : State) (w : ℕ) (change : Change) (r : Result Desk ChangeFault) → Leaves s (changed_to s w change r) (λ v. w ≡ v) → ((u : ℕ) → (u ≡ w → ⊥) → DeskKeepsOther u s.desk r) → Alters s (changed_to s w change r) (TouchesFor s (changed_to s w change r) w (changes change))
change_alters s w change (Err f) leaves keeps p other = none_alters s (TouchesFor s s w (changes change)) p other
change_alters s w change (Ok new) leaves keeps part.desk other = absurd (other (inl refl))
change_alters s w change (Ok new) leaves keeps part.input other = (refl, refl)
change_alters s w change (Ok new) leaves keeps (part.cell m) other = refl
change_alters s w change (Ok new) leaves keeps (part.looper v) other = (refl, refl)
change_alters s w change (Ok new) leaves keeps (part.port v) other = ports_change s w v change (λ e. other (inr (inl e)))
change_alters s w change (Ok new) leaves keeps (part.link v) other = refl
change_alters s w change (Ok new) leaves keeps (part.pane u) other =
    let kept : DeskKeepsOther u s.desk (Ok new) = keeps u (λ e. other (inr (inr (u, refl, inl e)))) in
    (refl, kept_pixel s (changed_to s w change (Ok new)) w u leaves (λ e. other (inr (inr e))), ap (option_map (λ (window : Window). left_top window.frame)) kept.0, kept.1)

pub changed_alters : (s : State) (w : ℕ) (change : Change) → Alters s (changed s w change) (TouchesFor s (changed s w change) w (changes change))
unfolding changed
changed_alters s w change = change_alters s w change (desk_after s.desk w change) (own_change_leaves s w change) (λ u other. desk_keeps_other s.desk w u change other)

-- ---- commands

at_view_alters : (pictures : List Picture) (s : State) (w v : ℕ) (deed : Deed) (pane : Pane) → Alters s (done_at_view pictures s w v deed pane) (λ p. p ≡ part.pane w)
at_view_alters pictures s w v deed pane =
    both_alter s (record s { panes = at s.panes w _ }) (done_at_view pictures s w v deed pane) (λ p. p ≡ part.pane w) (λ p. p ≡ part.pane w) (λ p. p ≡ part.pane w) (λ p e. e) (λ p e. e)
    (panes_alter s w _) (screen_alters _ w _ (λ old x y c unowned. executed_stays pictures (owned s w) pane.colors deed (sight_at s w v pane) old x y c unowned))

effect_alters : (pictures : List Picture) (s : State) (w : ℕ) (effect : Effect) → Alters s (with_effect pictures s w effect) (TouchesFor s (with_effect pictures s w effect) w effect)
effect_alters pictures s w (at_view v deed) = found_alters s (done_at_view pictures s w v deed) (slice_get s.panes w) (λ p. p ≡ part.pane w) (λ pane e. at_view_alters pictures s w v deed pane)
effect_alters pictures s w (changes change) = changed_alters s w change
effect_alters pictures s w ends_update = panes_alter s w _

-- taking a command off the link changes no owner
pub same_touch : (s : State) (w : ℕ) (r : State) (effect : Effect) (p : Part) → TouchesFor (without_front s w) r w effect p → TouchesFor s r w effect p
same_touch s w r (at_view v deed) p e = e
same_touch s w r (changes change) p e = e
same_touch s w r ends_update p e = e

pub oldest_alters : (d : Declared) (s : State) (w : ℕ) (o : Option Numbered) → Alters s (option_map_or (executed_command d s w) o s) (λ p. (p ≡ part.link w) ⊎ TouchesOldest s (option_map_or (executed_command d s w) o s) w o p)
oldest_alters d s w (Some c) =
    both_alter s (without_front s w) (executed_command d s w c) (λ p. p ≡ part.link w) (TouchesFor (without_front s w) (executed_command d s w c) w (effect_of c.command)) (λ p. (p ≡ part.link w) ⊎ TouchesFor s (executed_command d s w c) w (effect_of c.command) p) (λ p e. inl e) (λ p e. inr (same_touch s w (executed_command d s w c) (effect_of c.command) p e))
    (links_alter s w _) (effect_alters d.pictures (without_front s w) w (effect_of c.command))
oldest_alters d s w None = none_alters s _

-- ---- updates

opened_alters : (s : State) (w : ℕ) (corner : Point) → Alters s (opened s w corner) (λ p. (p ≡ part.looper w) ⊎ (p ≡ part.link w) ⊎ (p ≡ part.pane w))
opened_alters s w corner =
    let first : State = record s { panes = at s.panes w (with_session (session_of corner (dirty_of s w))) } in
    let second : State = record first { screen = each_cell (width_of s) (cleaned_cell (owned s w)) s.screen } in
    both_alter s second (opened s w corner) (λ p. p ≡ part.pane w) (λ p. p ≡ part.looper w) (λ p. (p ≡ part.looper w) ⊎ (p ≡ part.link w) ⊎ (p ≡ part.pane w)) (λ p e. inr (inr e)) (λ p e. inl e)
    (both_alter s first second (λ p. p ≡ part.pane w) (λ p. p ≡ part.pane w) (λ p. p ≡ part.pane w) (λ p e. e) (λ p e. e) (panes_alter s w _) (screen_alters first w (cleaned_cell (owned s w)) (λ old x y c unowned. cleaned_stays (owned s w) old x y c unowned)))
    (loopers_alter second w _)

passed_alters : (s : State) (w : ℕ) → Alters s (passed_by s w) (λ p. (p ≡ part.looper w) ⊎ (p ≡ part.link w) ⊎ (p ≡ part.pane w))
passed_alters s w =
    both_alter s (record s { panes = at s.panes w passed }) (passed_by s w) (λ p. p ≡ part.pane w) (λ p. p ≡ part.looper w) (λ p. (p ≡ part.looper w) ⊎ (p ≡ part.link w) ⊎ (p ≡ part.pane w)) (λ p e. inr (inr e)) (λ p e. inl e)
    (panes_alter s w passed) (loopers_alter _ w _)

pub begun_alters : (s : State) (w : ℕ) → Alters s (begun s w) (λ p. (p ≡ part.looper w) ⊎ (p ≡ part.link w) ⊎ (p ≡ part.pane w))
unfolding begun
begun_alters s w = tested_alters s (is_any (dirty_of s w)) _ _ _ (found_alters s (opened s w) (corner_at s w) _ (λ corner e. opened_alters s w corner)) (passed_alters s w)

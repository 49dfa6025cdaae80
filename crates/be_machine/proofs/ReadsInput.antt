-- An event reads only what it touches.
use Rattle.std.proofs.Common.{◌≡◌, ℕ, ◌+◌, false, List, Option, Some, None, ◌⊎◌, inl, inr, refl, sym, ap, subst, ◌∙◌}
use Rattle.std.specs.Prelude.{slice_get, option_map, option_and_then, if◌then◌else◌}
use Rattle.std.specs.Option.{option_map_or}
use Rattle.be_actor.specs.Wishes.{is_at_end}
use Rattle.be_desk.specs.Changes.{Desk}
use Rattle.be_geom.specs.declared.change.Change.TheVariants.{Activate}
use Rattle.be_input.specs.declared.Event.{Event}
use Rattle.be_input.specs.declared.Event.TheVariants as event
use Rattle.be_input.specs.Deliveries.{Post, Delivery, delivered}
use Rattle.be_message.specs.Messages.{Message}
use Rattle.be_port.specs.Ports.{Port, judged, posted}
use Rattle.be_script.specs.declared.InputLine.{InputLine}
use Rattle.be_script.specs.declared.InputLine.TheVariants as line
use Rattle.be_script.specs.Script.{Declared}
use Rattle.be_machine.specs.declared.Act.TheVariants as act
use Rattle.be_machine.specs.Input.{input_letter, ports_with, outcome_in, delivery_act, delivery_of, event_act, used, with_under, activated, with_delivery, with_event}
use Rattle.be_machine.specs.Legal.{want_act}
use Rattle.be_machine.specs.Program.{app_program, has_ended}
use Rattle.be_machine.specs.State.{State, App}
use Rattle.be_machine.specs.Step.{met}
use Rattle.be_machine.specs.Touched.{Part, SamePart, IsPostTo, TouchesActive, TouchesDelivered, TouchesEvent}
use Rattle.be_machine.specs.Touched as part
use Rattle.be_machine.specs.Wants.{uses, want_of}
use Rattle.be_machine.proofs.ReadsBoth.{Both, Wanted, Reads}
use Rattle.be_machine.proofs.ReadsChanges.{SameDesk, changed_keeps}
use Rattle.be_machine.proofs.ReadsScreen.{SameScreen}
use Rattle.be_machine.proofs.ReadsParts.{Keeps, both_keep, none_keeps, same_at, ports_keep, used_keeps, under_keeps}

-- ---- what is answered

same_outcome : (xs ys : List (Port Message)) (o : Option Post) → ((post : Post) → o ≡ Some post → slice_get ys post.window ≡ slice_get xs post.window) → option_and_then (outcome_in ys) o ≡ option_and_then (outcome_in xs) o
same_outcome xs ys (Some post) same = ap (option_map (λ p. (post.window, judged p 0))) (same post refl)
same_outcome xs ys None same = refl

same_ports_with : (xs ys : List (Port Message)) (o : Option Post) (v : ℕ) → slice_get ys v ≡ slice_get xs v → slice_get (ports_with ys o) v ≡ slice_get (ports_with xs o) v
same_ports_with xs ys (Some post) v same = same_at xs ys post.window v (posted (input_letter post)) same
same_ports_with xs ys None v same = same

post_to : (o : Option Post) (post : Post) → o ≡ Some post → IsPostTo o (part.port post.window)
post_to o post e = subst (λ k. IsPostTo k (part.port post.window)) (sym e) refl

same_delivery_act : (s r : State) (x : Delivery) → r.events ≡ s.events → ((p : Part) → IsPostTo x.first p ⊎ IsPostTo x.second p → SamePart s r p) → delivery_act r x ≡ delivery_act s x
same_delivery_act s r x events same =
    let first : option_and_then (outcome_in r.ports) x.first ≡ option_and_then (outcome_in s.ports) x.first = same_outcome s.ports r.ports x.first (λ post e. same (part.port post.window) (inl (post_to x.first post e))) in
    let second : option_and_then (outcome_in (ports_with r.ports x.first)) x.second ≡ option_and_then (outcome_in (ports_with s.ports x.first)) x.second =
    same_outcome (ports_with s.ports x.first) (ports_with r.ports x.first) x.second (λ post e. same_ports_with s.ports r.ports x.first post.window (same (part.port post.window) (inr (post_to x.second post e)))) in
    ap (λ n. act.Event (n + 1) (option_and_then (outcome_in r.ports) x.first) (option_and_then (outcome_in (ports_with r.ports x.first)) x.second)) events
    ∙ ap (λ o. act.Event (s.events + 1) o (option_and_then (outcome_in (ports_with r.ports x.first)) x.second)) first
    ∙ ap (act.Event (s.events + 1) (option_and_then (outcome_in s.ports) x.first)) second

same_ended : (d : Declared) (s r : State) (m : ℕ) → slice_get r.apps m ≡ slice_get s.apps m → has_ended d r m ≡ has_ended d s m
same_ended d s r m same = ap (λ (o : Option App). option_map_or (λ a. is_at_end (app_program d m) a.place) o false) same

-- ---- what it does

posted_keeps : (s r : State) (o : Option Post) → Keeps s r (record s { ports = ports_with s.ports o }) (record r { ports = ports_with r.ports o })
posted_keeps s r (Some post) = ports_keep s r post.window (posted (input_letter post))
posted_keeps s r None = none_keeps s r

activated_keeps : (s r : State) (o : Option ℕ) → SameDesk s r → ((p : Part) → TouchesActive s (activated s o) o p → SamePart s r p) → Keeps s r (activated s o) (activated r o)
activated_keeps s r (Some w) is touched = changed_keeps s r w Activate is touched
activated_keeps s r None is touched = none_keeps s r

-- nothing but the ports, the count of events and what is remembered of the pointer differ before a window is activated
abbrev before_active : State → Delivery → State
before_active s x = record (used s) { ports = ports_with (ports_with s.ports x.first) x.second; desk = with_under x s.desk }

before_keeps : (s r : State) (x : Delivery) → Keeps s r (before_active s x) (before_active r x)
before_keeps s r x =
    let s1 : State = record (used s) { ports = ports_with s.ports x.first } in
    let r1 : State = record (used r) { ports = ports_with r.ports x.first } in
    let s2 : State = record s1 { ports = ports_with s1.ports x.second } in
    let r2 : State = record r1 { ports = ports_with r1.ports x.second } in
    both_keep s r s2 r2 (before_active s x) (before_active r x)
    (both_keep s r s1 r1 s2 r2
    (both_keep s r (used s) (used r) s1 r1 (used_keeps s r) (posted_keeps (used s) (used r) x.first))
    (posted_keeps s1 r1 x.second))
    (under_keeps s2 r2 x)

active_touches : (s t : State) (x : Delivery) (o : Option ℕ) (p : Part) → TouchesActive (before_active s x) t o p → TouchesActive s t o p
active_touches s t x (Some w) p h = h
active_touches s t x None p h = h

delivery_keeps : (d : Declared) (s r : State) (x : Delivery) → Both d s r → r.desk ≡ s.desk → ((p : Part) → TouchesActive s (with_delivery s x) x.activate p → SamePart s r p) → Keeps s r (with_delivery s x) (with_delivery r x)
delivery_keeps d s r x both desk touched =
    let screens : SameScreen s r = both.screens in
    both_keep s r (before_active s x) (before_active r x) (with_delivery s x) (with_delivery r x) (before_keeps s r x)
    (activated_keeps (before_active s x) (before_active r x) x.activate
    (record { desk = ap (with_under x) desk; screens = record { width = screens.width; pixels = screens.pixels; height = screens.height; cells = screens.cells; windows = screens.windows; trees = screens.trees; focus = screens.focus }; one = λ a b. both.desktop_one a b; two = λ a b. both.desktop_two a b })
    (λ p h. before_keeps s r x p (touched p (active_touches s (with_delivery s x) x x.activate p h))))

-- ---- an event

record EventReads (d : Declared) (s r : State) (x : InputLine) : Type 0 where
  granted : event_act d r x ≡ event_act d s x
  kept : Keeps s r (with_event s x) (with_event r x)

delivery_reads : (d : Declared) (s r : State) (x y : Delivery) → Both d s r → y ≡ x → r.desk ≡ s.desk → r.events ≡ s.events → ((p : Part) → TouchesDelivered s (with_delivery s x) x p → SamePart s r p) → (Some (delivery_act r y) ≡ Some (delivery_act s x)) × Keeps s r (with_delivery s x) (with_delivery r y)
delivery_reads d s r x y both same desk events touched = (
  ap Some (ap (delivery_act r) same ∙ same_delivery_act s r x events (λ p h. touched p (posts p h))),
  subst (λ z. Keeps s r (with_delivery s x) (with_delivery r z)) (sym same) (delivery_keeps d s r x both desk (λ p h. touched p (inr (inr (inr h))))),
)
  where
    posts : (p : Part) → IsPostTo x.first p ⊎ IsPostTo x.second p → TouchesDelivered s (with_delivery s x) x p
    posts p (inl e) = inr (inl e)
    posts p (inr e) = inr (inr (inl e))

happened_reads : (d : Declared) (s r : State) (e : Event) → Both d s r → r.events ≡ s.events → ((p : Part) → TouchesDelivered s (with_delivery s (delivery_of s e)) (delivery_of s e) p → SamePart s r p) → (Some (delivery_act r (delivery_of r e)) ≡ Some (delivery_act s (delivery_of s e))) × Keeps s r (with_delivery s (delivery_of s e)) (with_delivery r (delivery_of r e))
happened_reads d s r e both events touched =
    let desk : r.desk ≡ s.desk = touched part.desk (inl refl) in
    delivery_reads d s r (delivery_of s e) (delivery_of r e) both (ap (λ (k : Desk). delivered k.windows k.pointing e) desk) desk events touched

event_reads : (d : Declared) (s r : State) (x : InputLine) → Both d s r → r.events ≡ s.events → ((p : Part) → TouchesEvent s (with_event s x) x p → SamePart s r p) → (event_act d r x ≡ event_act d s x) × Keeps s r (with_event s x) (with_event r x)
event_reads d s r (line.Press p) both events touched = happened_reads d s r (event.Press p) both events touched
event_reads d s r (line.Release p) both events touched = happened_reads d s r (event.Release p) both events touched
event_reads d s r (line.Move p) both events touched = happened_reads d s r (event.Move p) both events touched
event_reads d s r (line.Key key) both events touched = happened_reads d s r (event.Key key) both events touched
event_reads d s r (line.After m) both events touched = (
  ap (λ b. if b then Some (act.Event (r.events + 1) None None) else None) (same_ended d s r m (touched (part.cell m) refl))
      ∙ ap (λ n. if has_ended d s m then Some (act.Event (n + 1) None None) else None) events,
  used_keeps s r,
)

pub reads_event : (d : Declared) (s r : State) (x : InputLine) → Wanted d s r (uses x) → Reads d s r (uses x)
unfolding want_of want_act met
reads_event d s r x is =
    let own : SamePart s r part.input = is.touched part.input (inl refl) in
    let reads : (event_act d r x ≡ event_act d s x) × Keeps s r (with_event s x) (with_event r x) = event_reads d s r x is.both own.0 (λ p h. is.touched p (inr h)) in
    record {
      wanted = ap (λ n. option_map uses (slice_get d.input n)) own.0 ∙ is.wanted;
      granted = reads.0;
      kept = reads.1;
    }

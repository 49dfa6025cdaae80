-- What an entry touches is the same where what it touches is the same.
use Rattle.std.proofs.Common.{◌≡◌, ℕ, Option, Some, None, ◌⊎◌, inl, inr, refl, sym, ap, subst, ◌∙◌}
use Rattle.std.specs.Prelude.{◌↔◌, slice_get, option_and_then}
use Rattle.be_actor.specs.declared.Wish.{Wish}
use Rattle.be_actor.specs.declared.Wish.TheVariants as wish
use Rattle.be_command.specs.Effects.{Effect, at_view, changes, ends_update, effect_of}
use Rattle.be_desk.specs.Changes.{Desk}
use Rattle.be_input.specs.declared.Event.{Event}
use Rattle.be_input.specs.declared.Event.TheVariants as event
use Rattle.be_input.specs.Deliveries.{Delivery, delivered}
use Rattle.be_link.specs.Queues.{Numbered}
use Rattle.be_looper.specs.Duties.{Hand, waiter}
use Rattle.be_message.specs.Messages.{Message}
use Rattle.be_script.specs.declared.InputLine.{InputLine}
use Rattle.be_script.specs.declared.InputLine.TheVariants as line
use Rattle.be_script.specs.Script.{Declared}
use Rattle.be_stack.specs.Owner.{owner_at}
use Rattle.be_machine.specs.Activities.{Runner, app, looper}
use Rattle.be_machine.specs.Input.{delivery_of}
use Rattle.be_machine.specs.Pixels.{owner_in}
use Rattle.be_machine.specs.Program.{window_of, hand_of, hand_at, hand_in}
use Rattle.be_machine.specs.State.{State}
use Rattle.be_machine.specs.Step.{met}
use Rattle.be_machine.specs.Touched.{Part, SamePart, IsOf, TouchesBy, TouchesPanes, TouchesFor, TouchesOldest, TouchesActive, TouchesDelivered, TouchesEvent, Touches}
use Rattle.be_machine.specs.Touched as part
use Rattle.be_machine.specs.Wants.{Want, asks, takes, begins, flushes, draws_end, ends, notifies, executes, uses, stops}
use Rattle.be_machine.proofs.ReadsBoth.{Wanted, Reads}
use Rattle.be_machine.proofs.ReadsCommands.{oldest}
use Rattle.be_machine.proofs.ReadsLocks.{same_app}
use Rattle.be_machine.proofs.ReadsLoopers.{same_body}
use Rattle.be_machine.proofs.ReadsParts.{Keeps}
use Rattle.be_machine.proofs.ReadsWishes.{SameRunner}

-- ---- what the table looks at

-- the desks are the same before and after
abbrev SameDesks : State → State → State → State → Type 0
SameDesks s t r u = (r.desk ≡ s.desk) × (u.desk ≡ t.desk)

-- ... where a change is made
abbrev DesksFor : State → State → State → State → Effect → Type 0
DesksFor s t r u (at_view v deed) = Unit {0}
DesksFor s t r u (changes change) = SameDesks s t r u
DesksFor s t r u ends_update = Unit {0}

abbrev DesksOldest : State → State → State → State → Option Numbered → Type 0
DesksOldest s t r u (Some c) = DesksFor s t r u (effect_of c.command)
DesksOldest s t r u None = Unit {0}

-- ... where something is delivered
abbrev DesksEvent : State → State → State → State → InputLine → Type 0
DesksEvent s t r u (line.Press p) = SameDesks s t r u
DesksEvent s t r u (line.Release p) = SameDesks s t r u
DesksEvent s t r u (line.Move p) = SameDesks s t r u
DesksEvent s t r u (line.Key key) = SameDesks s t r u
DesksEvent s t r u (line.After m) = Unit {0}

-- what the table looks at is the same in the states before and after of both
abbrev SameTable : State → State → State → State → Want → Type 0
SameTable s t r u (asks who x) = SameRunner s r who
SameTable s t r u (takes w) = Unit {0}
SameTable s t r u (begins w) = Unit {0}
SameTable s t r u (flushes w) = Unit {0}
SameTable s t r u (draws_end w) = Unit {0}
SameTable s t r u (ends w) = hand_at r w ≡ hand_at s w
SameTable s t r u (notifies w) = Unit {0}
SameTable s t r u (executes w) = (oldest r w ≡ oldest s w) × DesksOldest s t r u (oldest s w)
SameTable s t r u (uses x) = DesksEvent s t r u x
SameTable s t r u stops = Unit {0}

-- ---- the other way

desks_back : (s t r u : State) → SameDesks s t r u → SameDesks r u s t
desks_back s t r u is = (sym is.0, sym is.1)

for_back : (s t r u : State) (effect : Effect) → DesksFor s t r u effect → DesksFor r u s t effect
for_back s t r u (at_view v deed) is = tt
for_back s t r u (changes change) is = desks_back s t r u is
for_back s t r u ends_update is = tt

oldest_back : (s t r u : State) (o : Option Numbered) → DesksOldest s t r u o → DesksOldest r u s t o
oldest_back s t r u (Some c) is = for_back s t r u (effect_of c.command) is
oldest_back s t r u None is = tt

event_back : (s t r u : State) (x : InputLine) → DesksEvent s t r u x → DesksEvent r u s t x
event_back s t r u (line.Press p) is = desks_back s t r u is
event_back s t r u (line.Release p) is = desks_back s t r u is
event_back s t r u (line.Move p) is = desks_back s t r u is
event_back s t r u (line.Key key) is = desks_back s t r u is
event_back s t r u (line.After m) is = tt

table_back : (s t r u : State) (want : Want) → SameTable s t r u want → SameTable r u s t want
table_back s t r u (asks who x) is = record { window = sym is.window; hand = sym is.hand }
table_back s t r u (takes w) is = tt
table_back s t r u (begins w) is = tt
table_back s t r u (flushes w) is = tt
table_back s t r u (draws_end w) is = tt
table_back s t r u (ends w) is = sym is
table_back s t r u (notifies w) is = tt
table_back s t r u (executes w) is = (sym is.0, subst (DesksOldest r u s t) (sym is.0) (oldest_back s t r u (oldest s w) is.1))
table_back s t r u (uses x) is = event_back s t r u x is
table_back s t r u stops is = tt

-- ---- what is touched

panes_again : (s t r u : State) (w : ℕ) (p : Part) → SameDesks s t r u → TouchesPanes s t w p → TouchesPanes r u w p
panes_again s t r u w p is (v, same, inl e) = (v, same, inl e)
panes_again s t r u w p is (v, same, inr (x, y, owns, differs)) =
    let before : owner_in r x y ≡ owner_in s x y = ap (λ (d : Desk). owner_at d.windows x y) is.0 in
    let after : owner_in u x y ≡ owner_in t x y = ap (λ (d : Desk). owner_at d.windows x y) is.1 in
    (v, same, inr (x, y, owned_again (owner_in s x y) (owner_in t x y) (owner_in r x y) (owner_in u x y) v before after owns, λ e. differs (sym after ∙ e ∙ before)))
  where
    owned_again : (a b c d : Option ℕ) (v : ℕ) → c ≡ a → d ≡ b → (a ≡ Some v) ⊎ (b ≡ Some v) → (c ≡ Some v) ⊎ (d ≡ Some v)
    owned_again a b c d v before after (inl e) = inl (before ∙ e)
    owned_again a b c d v before after (inr e) = inr (after ∙ e)

for_again : (s t r u : State) (w : ℕ) (effect : Effect) (p : Part) → DesksFor s t r u effect → TouchesFor s t w effect p → TouchesFor r u w effect p
for_again s t r u w (at_view v deed) p is h = h
for_again s t r u w (changes change) p is (inl e) = inl e
for_again s t r u w (changes change) p is (inr (inl e)) = inr (inl e)
for_again s t r u w (changes change) p is (inr (inr h)) = inr (inr (panes_again s t r u w p is h))
for_again s t r u w ends_update p is h = h

oldest_again : (s t r u : State) (w : ℕ) (o : Option Numbered) (p : Part) → DesksOldest s t r u o → TouchesOldest s t w o p → TouchesOldest r u w o p
oldest_again s t r u w (Some c) p is h = for_again s t r u w (effect_of c.command) p is h
oldest_again s t r u w None p is h = h

active_again : (s t r u : State) (o : Option ℕ) (p : Part) → SameDesks s t r u → TouchesActive s t o p → TouchesActive r u o p
active_again s t r u (Some w) p is h = panes_again s t r u w p is h
active_again s t r u None p is h = h

delivered_again : (s t r u : State) (x : Delivery) (p : Part) → SameDesks s t r u → TouchesDelivered s t x p → TouchesDelivered r u x p
delivered_again s t r u x p is (inl e) = inl e
delivered_again s t r u x p is (inr (inl e)) = inr (inl e)
delivered_again s t r u x p is (inr (inr (inl e))) = inr (inr (inl e))
delivered_again s t r u x p is (inr (inr (inr h))) = inr (inr (inr (active_again s t r u x.activate p is h)))

happened_again : (s t r u : State) (e : Event) (p : Part) → SameDesks s t r u → TouchesDelivered s t (delivery_of s e) p → TouchesDelivered r u (delivery_of r e) p
happened_again s t r u e p is h =
    let same : delivery_of r e ≡ delivery_of s e = ap (λ (d : Desk). delivered d.windows d.pointing e) is.0 in
    subst (λ x. TouchesDelivered r u x p) (sym same) (delivered_again s t r u (delivery_of s e) p is h)

event_again : (s t r u : State) (x : InputLine) (p : Part) → DesksEvent s t r u x → TouchesEvent s t x p → TouchesEvent r u x p
event_again s t r u (line.Press at) p is h = happened_again s t r u (event.Press at) p is h
event_again s t r u (line.Release at) p is h = happened_again s t r u (event.Release at) p is h
event_again s t r u (line.Move at) p is h = happened_again s t r u (event.Move at) p is h
event_again s t r u (line.Key key) p is h = happened_again s t r u (event.Key key) p is h
event_again s t r u (line.After m) p is h = h

waiter_again : (o q : Option (Hand Message)) (p : Part) → q ≡ o → IsOf part.cell (option_and_then (λ hand. waiter hand.duty) o) p → IsOf part.cell (option_and_then (λ hand. waiter hand.duty) q) p
waiter_again o q p same h = subst (λ (k : Option (Hand Message)). IsOf part.cell (option_and_then (λ hand. waiter hand.duty) k) p) (sym same) h

own_again : (part : ℕ → Part) (s r : State) (who : Runner) (p : Part) → SameRunner s r who → IsOf part (window_of s who) p → IsOf part (window_of r who) p
own_again part s r who p is h = subst (λ o. IsOf part o p) (sym is.window) h

by_again : (s r : State) (who : Runner) (x : Wish) (p : Part) → SameRunner s r who → TouchesBy s who x p → TouchesBy r who x p
by_again s r who (wish.Note word) p is h = h
by_again s r who (wish.Post w target message) p is h = h
by_again s r who (wish.Send w target message) p is h = h
by_again s r who (wish.Forward w target) p is h = h
by_again s r who (wish.Reply message) p is h = waiter_again (hand_of s who) (hand_of r who) p is.hand h
by_again s r who wish.Claim p is h = h
by_again s r who (wish.Lock w) p is h = h
by_again s r who wish.Unlock p is h = own_again part.looper s r who p is h
by_again s r who wish.Flush p is (inl h) = inl (own_again part.looper s r who p is h)
by_again s r who wish.Flush p is (inr h) = inr (own_again part.link s r who p is h)
by_again s r who wish.SyncDone p is h = own_again part.link s r who p is h
by_again s r who (wish.Draw command) p is h = own_again part.looper s r who p is h

again : (s t r u : State) (want : Want) (p : Part) → SameTable s t r u want → Touches s t want p → Touches r u want p
again s t r u (asks who x) p is (inl e) = inl e
again s t r u (asks who x) p is (inr h) = inr (by_again s r who x p is h)
again s t r u (takes w) p is h = h
again s t r u (begins w) p is h = h
again s t r u (flushes w) p is h = h
again s t r u (draws_end w) p is h = h
again s t r u (ends w) p is (inl e) = inl e
again s t r u (ends w) p is (inr h) = inr (waiter_again (hand_at s w) (hand_at r w) p is h)
again s t r u (notifies w) p is h = h
again s t r u (executes w) p is (inl e) = inl e
again s t r u (executes w) p is (inr h) = inr (subst (λ o. TouchesOldest r u w o p) (sym is.0) (oldest_again s t r u w (oldest s w) p is.1 h))
again s t r u (uses x) p is (inl e) = inl e
again s t r u (uses x) p is (inr h) = inr (event_again s t r u x p is h)
again s t r u stops p is h = h

-- ---- of two states

desks_for : (s t r u : State) (w : ℕ) (effect : Effect) → ((p : Part) → TouchesFor s t w effect p → SamePart s r p) → Keeps s r t u → DesksFor s t r u effect
desks_for s t r u w (at_view v deed) touched kept = tt
desks_for s t r u w (changes change) touched kept = let same : SamePart s r part.desk = touched part.desk (inl refl) in (same, kept part.desk same)
desks_for s t r u w ends_update touched kept = tt

desks_oldest : (s t r u : State) (w : ℕ) (o : Option Numbered) → ((p : Part) → TouchesOldest s t w o p → SamePart s r p) → Keeps s r t u → DesksOldest s t r u o
desks_oldest s t r u w (Some c) touched kept = desks_for s t r u w (effect_of c.command) touched kept
desks_oldest s t r u w None touched kept = tt

desks_event : (s t r u : State) (x : InputLine) → ((p : Part) → TouchesEvent s t x p → SamePart s r p) → Keeps s r t u → DesksEvent s t r u x
desks_event s t r u (line.Press p) touched kept = let same : SamePart s r part.desk = touched part.desk (inl refl) in (same, kept part.desk same)
desks_event s t r u (line.Release p) touched kept = let same : SamePart s r part.desk = touched part.desk (inl refl) in (same, kept part.desk same)
desks_event s t r u (line.Move p) touched kept = let same : SamePart s r part.desk = touched part.desk (inl refl) in (same, kept part.desk same)
desks_event s t r u (line.Key key) touched kept = let same : SamePart s r part.desk = touched part.desk (inl refl) in (same, kept part.desk same)
desks_event s t r u (line.After m) touched kept = tt

same_table : (d : Declared) (s r : State) (want : Want) → Wanted d s r want → Reads d s r want → SameTable s (met d s want) r (met d r want) want
same_table d s r (asks (app m) x) is reads = same_app d s r m x is
same_table d s r (asks (looper w) x) is reads = same_body d s r w x is
same_table d s r (takes w) is reads = tt
same_table d s r (begins w) is reads = tt
same_table d s r (flushes w) is reads = tt
same_table d s r (draws_end w) is reads = tt
same_table d s r (ends w) is reads = let own : SamePart s r (part.looper w) = is.touched (part.looper w) (inl refl) in ap (option_and_then hand_in) own.0
same_table d s r (notifies w) is reads = tt
same_table d s r (executes w) is reads =
    let link : SamePart s r (part.link w) = is.touched (part.link w) (inl refl) in
    (ap (option_and_then (λ l. slice_get l 0)) link, desks_oldest s (met d s (executes w)) r (met d r (executes w)) w (oldest s w) (λ p h. is.touched p (inr h)) reads.kept)
same_table d s r (uses x) is reads = desks_event s (met d s (uses x)) r (met d r (uses x)) x (λ p h. is.touched p (inr h)) reads.kept
same_table d s r stops is reads = tt

pub same_touches : (d : Declared) (s r : State) (want : Want) (p : Part) → Wanted d s r want → Reads d s r want → Touches s (met d s want) want p ↔ Touches r (met d r want) want p
same_touches d s r want p is reads =
    let t : State = met d s want in
    let u : State = met d r want in
    let same : SameTable s t r u want = same_table d s r want is reads in
    (again s t r u want p same, again r u s t want p (table_back s t r u want same))

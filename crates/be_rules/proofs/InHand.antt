-- What is seen in the parts in hand is so in each sound list, and the parts that it tells are touched in each.
use Rattle.std.proofs.Common.{◌≡◌, ℕ, Bool, true, false, List, [], ◌∷◌, ◌++◌, map, Option, Some, None, inl, inr, refl, sym, ap, subst, ◌∙◌}
use Rattle.std.specs.Prelude.{◌==◌, slice_get, option_map, option_and_then, if◌then◌else◌}
use Rattle.std.proofs.lemmas.Option.{same_Some}
use mathlib.Core.Option as opt
use mathlib.Core.Option.{some, none, some-ne-none}
use lib.ListN.{get_elem?}
use Rattle.be_facts.proofs.Numbers.{eq_tells}
use Rattle.be_actor.specs.declared.Wish.{Wish}
use Rattle.be_actor.specs.declared.Wish.TheVariants as wish
use Rattle.be_command.specs.Effects.{Effect}
use Rattle.be_desk.specs.Changes.{Desk}
use Rattle.be_hall.specs.Machine.{Fits}
use Rattle.be_input.specs.Deliveries.{Delivery, delivered}
use Rattle.be_input.specs.declared.Event.{Event}
use Rattle.be_input.specs.declared.Event.TheVariants as event
use Rattle.be_link.specs.Queues.{Numbered}
use Rattle.be_script.specs.declared.InputLine.{InputLine}
use Rattle.be_script.specs.declared.InputLine.TheVariants as line
use Rattle.be_script.specs.Script.{Declared}
use Rattle.be_machine.specs.Activities as by
use Rattle.be_machine.specs.Activities.{Activity, Runner, activity_of}
use Rattle.be_machine.specs.declared.Entry.{Entry}
use Rattle.be_machine.specs.Laws.{IsWantOf}
use Rattle.be_machine.specs.Program.{lock_of}
use Rattle.be_machine.specs.State.{State, App, Looper}
use Rattle.be_machine.specs.Step.{step}
use Rattle.be_machine.specs.Touched.{Part, Touches}
use Rattle.be_machine.specs.Touched as part
use Rattle.be_machine.specs.Wants.{Want, asks, takes, begins, flushes, draws_end, ends, notifies, executes, uses, stops}
use Rattle.be_machine.proofs.ProgressAfter.{IsSettled, settled_after}
use Rattle.be_machine.proofs.ProgressLocksMet.{IsLockedState}
use Rattle.be_rules.specs.Rules.{IsSound, TouchesPlace}
use Rattle.be_rules.specs.Slices.{Slice, slice_of, all_parts, slices, state_of, desk_in}
use Rattle.be_rules.specs.Sure.{Seen, seen_in, in_hand, app_of, looper_of, link_of, or_later, find_in, waiter_in, effect_in, maybe, owned_window, who_waits, parts_for, effect_parts, delivery_parts, event_parts, parts_by, IsAmong}
use Rattle.be_rules.proofs.Lawfully.{state, back}
use Rattle.be_rules.proofs.ListLemmas.{elem_map, none_map, same_elements}
use Rattle.be_rules.specs.Places.{place_of, IsPart}
use Rattle.be_rules.proofs.Local.{at_place}
use Rattle.be_rules.proofs.SureParts.{sure}
use Rattle.be_rules.proofs.WantBy.{lock_is}

-- ---- what is found in the parts in hand

by_element : {Y : Type 0} (s : State) (ps : List Part) (f : Slice → Option Y) (p : ℕ) (m : Slice) (y : Y) (P : Type 0) (o : opt.Option Part) → get_elem? ps p ≡ o → get_elem? (map (slice_of s) ps) p ≡ some m → f m ≡ Some y → ((x : Part) → f (slice_of s x) ≡ Some y → P) → P
by_element s ps f p m y P (some x) there here e h = let is : m ≡ slice_of s x = same_elements m (slice_of s x) (sym here ∙ elem_map (slice_of s) ps p x there) in h x (ap f (sym is) ∙ e)
by_element s ps f p m y P none there here e h = absurd (some-ne-none m (sym here ∙ none_map (slice_of s) ps p there))

by_later : {Y : Type 0} (o later : Option Y) (y : Y) (P : Type 0) → or_later o later ≡ Some y → (o ≡ Some y → P) → (later ≡ Some y → P) → P
by_later (Some z) later y P e h k = h e
by_later None later y P e h k = k e

-- it is found of a part of the state
pub found_in : {Y : Type 0} (d : Declared) (s : State) (f : Slice → Option Y) (held : List (ℕ × Slice)) (y : Y) (P : Type 0) → Fits (slices d s) held → find_in f held ≡ Some y → ((x : Part) → f (slice_of s x) ≡ Some y → P) → P
found_in d s f [] y P fits e h = absurd (cc)
found_in d s f (x ∷ xs) y P fits e h = by_later (f x.1) (find_in f xs) y P e (λ here. by_element s (all_parts d) f x.0 x.1 y P (get_elem? (all_parts d) x.0) refl fits.0 here h) (λ later. found_in d s f xs y P fits.1 later h)

if_same : {Y : Type 0} (n m : ℕ) (b : Bool) (g : ℕ → Option Y) (y : Y) → (n == m) ≡ b → (if b then g n else None) ≡ Some y → g m ≡ Some y
if_same n m true g y e is = subst (λ k. g k ≡ Some y) (eq_tells n m e) is
if_same n m false g y e is = absurd (cc)

pub app_there : (s : State) (m : ℕ) (a : App) (x : Part) → app_of m (slice_of s x) ≡ Some a → slice_get s.apps m ≡ Some a
app_there s m a (part.cell n) e = if_same n m (n == m) (slice_get s.apps) a refl e
app_there s m a part.desk e = absurd (cc)
app_there s m a part.input e = absurd (cc)
app_there s m a (part.looper w) e = absurd (cc)
app_there s m a (part.port w) e = absurd (cc)
app_there s m a (part.link w) e = absurd (cc)
app_there s m a (part.pane w) e = absurd (cc)

pub looper_there : (s : State) (w : ℕ) (l : Looper) (x : Part) → looper_of w (slice_of s x) ≡ Some l → slice_get s.loopers w ≡ Some l
looper_there s w l (part.looper n) e = if_same n w (n == w) (slice_get s.loopers) l refl e
looper_there s w l (part.cell n) e = absurd (cc)
looper_there s w l part.desk e = absurd (cc)
looper_there s w l part.input e = absurd (cc)
looper_there s w l (part.port n) e = absurd (cc)
looper_there s w l (part.link n) e = absurd (cc)
looper_there s w l (part.pane n) e = absurd (cc)

pub link_there : (s : State) (w : ℕ) (l : List Numbered) (x : Part) → link_of w (slice_of s x) ≡ Some l → slice_get s.links w ≡ Some l
link_there s w l (part.link n) e = if_same n w (n == w) (slice_get s.links) l refl e
link_there s w l (part.cell n) e = absurd (cc)
link_there s w l part.desk e = absurd (cc)
link_there s w l part.input e = absurd (cc)
link_there s w l (part.port n) e = absurd (cc)
link_there s w l (part.looper n) e = absurd (cc)
link_there s w l (part.pane n) e = absurd (cc)

desk_there : (s : State) (k : Desk) (x : Part) → desk_in (slice_of s x) ≡ Some k → s.desk ≡ k
desk_there s k part.desk e = same_Some s.desk k e
desk_there s k (part.link n) e = absurd (cc)
desk_there s k (part.cell n) e = absurd (cc)
desk_there s k part.input e = absurd (cc)
desk_there s k (part.port n) e = absurd (cc)
desk_there s k (part.looper n) e = absurd (cc)
desk_there s k (part.pane n) e = absurd (cc)

-- ---- less is seen, and the same

pub record IsLess (x y : Seen) : Type 0 where
  pub lock : (m n : ℕ) → x.lock m ≡ Some n → y.lock m ≡ Some n
  pub waits : (w n : ℕ) → x.waits w ≡ Some n → y.waits w ≡ Some n
  pub oldest : (w : ℕ) (e : Effect) → x.oldest w ≡ Some e → y.oldest w ≡ Some e
  pub delivery : (e : Event) (z : Delivery) → x.delivery e ≡ Some z → y.delivery e ≡ Some z
  pub known : (e : Event) → (z : Delivery) × (y.delivery e ≡ Some z)

some_of : {X Y : Type 0} (f : X → Option Y) (o : Option X) (y : Y) (P : Type 0) → option_and_then f o ≡ Some y → ((x : X) → o ≡ Some x → f x ≡ Some y → P) → P
some_of f (Some x) y P e h = h x refl e
some_of f None y P e h = absurd (cc)

mapped_of : {X Y : Type 0} (f : X → Y) (o : Option X) (y : Y) (P : Type 0) → option_map f o ≡ Some y → ((x : X) → o ≡ Some x → f x ≡ y → P) → P
mapped_of f (Some x) y P e h = h x refl (same_Some (f x) y e)
mapped_of f None y P e h = absurd (cc)

pub less : (d : Declared) (s : State) (held : List (ℕ × Slice)) → IsLockedState d s → Fits (slices d s) held → IsLess (in_hand d held) (seen_in s)
less d s held locks fits = record {
  lock = λ m n e. some_of (lock_of d m) (find_in (app_of m) held) n _ e (λ a found is. found_in d s (app_of m) held a _ fits found (λ x there. lock_is d s m a locks (app_there s m a x there) ∙ is));
  waits = λ w n e. some_of waiter_in (find_in (looper_of w) held) n _ e (λ l found is. found_in d s (looper_of w) held l _ fits found (λ x there. ap (option_and_then waiter_in) (looper_there s w l x there) ∙ is));
  oldest = λ w y e. some_of effect_in (find_in (link_of w) held) y _ e (λ l found is. found_in d s (link_of w) held l _ fits found (λ x there. ap (option_and_then effect_in) (link_there s w l x there) ∙ is));
  delivery = λ v z e. mapped_of (λ (k : Desk). delivered k.windows k.pointing v) (find_in desk_in held) z _ e (λ k found is. found_in d s desk_in held k _ fits found (λ x there. ap (λ (k : Desk). Some (delivered k.windows k.pointing v)) (desk_there s k x there) ∙ ap (λ q. Some q) is));
  known = λ v. (delivered s.desk.windows s.desk.pointing v, refl);
}

-- ---- so are the parts

-- what is told of a number, or of nothing
more_of : {X : Type 0} (g : Option X → List Part) (p : Part) (o q : Option X) → (IsAmong p (g None) → IsAmong p (g q)) → ((x : X) → o ≡ Some x → q ≡ Some x) → IsAmong p (g o) → IsAmong p (g q)
more_of g p (Some x) q h same k = subst (λ z. IsAmong p (g z)) (sym (same x refl)) k
more_of g p None q h same k = h k

among_by : (p : Part) (xs ys zs us : List Part) → (IsAmong p xs → IsAmong p zs) → (IsAmong p ys → IsAmong p us) → IsAmong p (xs ++ ys) → IsAmong p (zs ++ us)
among_by p [] ys zs us f g h = right p zs us (g h)
  where
    right : (p : Part) (xs ys : List Part) → IsAmong p ys → IsAmong p (xs ++ ys)
    right p [] ys h = h
    right p (x ∷ xs) ys h = inr (right p xs ys h)
among_by p (x ∷ xs) ys zs us f g (inl e) = left p zs us (f (inl e))
  where
    left : (p : Part) (xs ys : List Part) → IsAmong p xs → IsAmong p (xs ++ ys)
    left p [] ys h = absurd h
    left p (x ∷ xs) ys (inl e) = inl e
    left p (x ∷ xs) ys (inr h) = inr (left p xs ys h)
among_by p (x ∷ xs) ys zs us f g (inr h) = among_by p xs ys zs us (λ k. f (inr k)) g h

module _ (x y : Seen) (less : IsLess x y) (p : Part) where
  more_owned : (part : ℕ → Part) (who : Runner) → IsAmong p (maybe part (owned_window x who)) → IsAmong p (maybe part (owned_window y who))
  more_owned part (by.app m) h = more_of (maybe part) p (x.lock m) (y.lock m) (λ no. absurd no) (less.lock m) h
  more_owned part (by.looper w) h = h

  more_waits : (who : Runner) → IsAmong p (maybe part.cell (who_waits x who)) → IsAmong p (maybe part.cell (who_waits y who))
  more_waits (by.app m) h = h
  more_waits (by.looper w) h = more_of (maybe part.cell) p (x.waits w) (y.waits w) (λ no. absurd no) (less.waits w) h

  more_wish : (who : Runner) (wish : Wish) → IsAmong p (parts_for x who wish) → IsAmong p (parts_for y who wish)
  more_wish who (wish.Note word) h = h
  more_wish who (wish.Post w target message) h = h
  more_wish who (wish.Send w target message) h = h
  more_wish who (wish.Forward w target) h = h
  more_wish who (wish.Reply message) h = more_waits who h
  more_wish who wish.Claim h = h
  more_wish who (wish.Lock w) h = h
  more_wish who wish.Unlock h = more_owned part.looper who h
  more_wish who wish.Flush h = among_by p (maybe part.looper (owned_window x who)) (maybe part.link (owned_window x who)) (maybe part.looper (owned_window y who)) (maybe part.link (owned_window y who)) (more_owned part.looper who) (more_owned part.link who) h
  more_wish who wish.SyncDone h = more_owned part.link who h
  more_wish who (wish.Draw command) h = more_owned part.looper who h

  first_desk : (o : Option Delivery) → ((z : Delivery) × (o ≡ Some z)) → IsAmong p (delivery_parts None) → IsAmong p (delivery_parts o)
  first_desk (Some z) k (inl e) = inl e
  first_desk (Some z) k (inr nobody) = absurd nobody
  first_desk None k h = h

  more_delivery : (e : Event) → IsAmong p (delivery_parts (x.delivery e)) → IsAmong p (delivery_parts (y.delivery e))
  more_delivery e h = more_of delivery_parts p (x.delivery e) (y.delivery e) (first_desk (y.delivery e) (less.known e)) (less.delivery e) h

  more_event : (event : InputLine) → IsAmong p (event_parts x event) → IsAmong p (event_parts y event)
  more_event (line.Press at) h = more_delivery (event.Press at) h
  more_event (line.Release at) h = more_delivery (event.Release at) h
  more_event (line.Move at) h = more_delivery (event.Move at) h
  more_event (line.Key key) h = more_delivery (event.Key key) h
  more_event (line.After m) h = h

  pub more : (want : Want) → IsAmong p (parts_by x want) → IsAmong p (parts_by y want)
  more (asks who wish) (inl e) = inl e
  more (asks who wish) (inr h) = inr (more_wish who wish h)
  more (takes w) h = h
  more (begins w) h = h
  more (flushes w) h = h
  more (draws_end w) h = h
  more (ends w) (inl e) = inl e
  more (ends w) (inr h) = inr (more_of (maybe part.cell) p (x.waits w) (y.waits w) (λ no. absurd no) (less.waits w) h)
  more (notifies w) h = h
  more (executes w) (inl e) = inl e
  more (executes w) (inr h) = inr (more_of (effect_parts w) p (x.oldest w) (y.oldest w) (λ no. absurd no) (less.oldest w) h)
  more (uses event) (inl e) = inl e
  more (uses event) (inr h) = inr (more_event event h)
  more stops h = h

-- ---- touched in each sound list

-- a part that is told by the parts in hand is touched, whatever the others are
pub needs_by : (d : Declared) (all : List Slice) (sound : IsSound d all) (held : List (ℕ × Slice)) (e : Entry) (want : Want) (p : Part) → Fits all held → IsWantOf d (state_of d all) e want → IsPart d p → IsAmong p (parts_by (in_hand d held) want) → TouchesPlace d (state_of d all) e (place_of d p)
needs_by d all sound held e want p fits wanted there among =
    let s : State = state d all sound in
    let locks : IsSettled d s = settled_after d sound.history sound.limits sound.legal in
    let seen : IsLess (in_hand d held) (seen_in s) = less d s held locks.locks (subst (λ l. Fits l held) sound.is fits) in
    subst (λ z. TouchesPlace d z e (place_of d p)) (sym (back d all sound)) (record {
      part = p;
      there = at_place d p there;
      want = want;
      wanted = subst (λ z. IsWantOf d z e want) (back d all sound) wanted;
      touched = sure s (step d s e) want p (more (in_hand d held) (seen_in s) seen p want among);
    })

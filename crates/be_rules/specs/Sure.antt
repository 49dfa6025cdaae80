-- Which parts a want touches, computed from what is seen of a state.
use Rattle.std.specs.Prelude.{◌≡◌, ◌⊎◌, ℕ, ◌==◌, List, [], ◌∷◌, ◌++◌, Option, Some, None, slice_get}
use Rattle.std.specs.Prelude.{option_map, option_and_then, if◌then◌else◌}
use Rattle.be_actor.specs.declared.Wish.{Wish}
use Rattle.be_actor.specs.declared.Wish.TheVariants as wish
use Rattle.be_command.specs.Effects.{Effect, at_view, changes, ends_update, effect_of}
use Rattle.be_desk.specs.Changes.{Desk}
use Rattle.be_geom.specs.declared.change.Change.{Change}
use Rattle.be_geom.specs.declared.change.Change.TheVariants.{Show, Hide, MoveTo, MoveBy, ResizeTo}
use Rattle.be_geom.specs.declared.change.Change.TheVariants.{Activate, Behind, Focus, Close}
use Rattle.be_input.specs.declared.Event.{Event}
use Rattle.be_input.specs.declared.Event.TheVariants as event
use Rattle.be_input.specs.Deliveries.{Post, Delivery, delivered}
use Rattle.be_link.specs.Queues.{Numbered}
use Rattle.be_looper.specs.Duties.{waiter}
use Rattle.be_script.specs.declared.InputLine.{InputLine}
use Rattle.be_script.specs.declared.InputLine.TheVariants as line
use Rattle.be_script.specs.Script.{Declared}
use Rattle.be_machine.specs.Activities as by
use Rattle.be_machine.specs.Activities.{Runner}
use Rattle.be_machine.specs.Input.{delivery_of}
use Rattle.be_machine.specs.Program.{hand_in, locked_by, lock_of}
use Rattle.be_machine.specs.State.{State, App, Looper}
use Rattle.be_machine.specs.Touched.{Part, desk, input, cell, looper, port, link, pane, own_part}
use Rattle.be_machine.specs.Wants.{Want, asks, takes, begins, flushes, draws_end, ends, notifies}
use Rattle.be_machine.specs.Wants.{executes, uses, stops}
use Rattle.be_rules.specs.Slices as slice
use Rattle.be_rules.specs.Slices.{Slice}

-- what decides which parts are touched
pub record Seen : Type 0 where
  -- the window that an application has locked
  pub lock : ℕ → Option ℕ
  -- who waits for the reply to the letter that a looper handles
  pub waits : ℕ → Option ℕ
  -- what the command at the front of a link does
  pub oldest : ℕ → Option Effect
  pub delivery : Event → Option Delivery

abbrev pub waiter_in : Looper → Option ℕ
waiter_in l = option_and_then (λ hand. waiter hand.duty) (hand_in l)

abbrev pub effect_in : List Numbered → Option Effect
effect_in l = option_map (λ c. effect_of c.command) (slice_get l 0)

-- in a state
abbrev pub seen_in : State → Seen
seen_in s = record {
  lock = λ m. locked_by s m;
  waits = λ w. option_and_then waiter_in (slice_get s.loopers w);
  oldest = λ w. option_and_then effect_in (slice_get s.links w);
  delivery = λ e. Some (delivery_of s e);
}

-- ---- in the parts in hand

-- the slice is the application's
abbrev pub app_of : ℕ → Slice → Option App
app_of m (slice.cell n a) = if n == m then a else None
app_of m (slice.desk x) = None
app_of m (slice.input k b) = None
app_of m (slice.looper w l b) = None
app_of m (slice.port w p) = None
app_of m (slice.link w l) = None
app_of m (slice.pane w p) = None

abbrev pub looper_of : ℕ → Slice → Option Looper
looper_of w (slice.looper n l b) = if n == w then l else None
looper_of w (slice.cell m a) = None
looper_of w (slice.desk x) = None
looper_of w (slice.input k b) = None
looper_of w (slice.port n p) = None
looper_of w (slice.link n l) = None
looper_of w (slice.pane n p) = None

abbrev pub link_of : ℕ → Slice → Option (List Numbered)
link_of w (slice.link n l) = if n == w then l else None
link_of w (slice.looper n l b) = None
link_of w (slice.cell m a) = None
link_of w (slice.desk x) = None
link_of w (slice.input k b) = None
link_of w (slice.port n p) = None
link_of w (slice.pane n p) = None

abbrev pub or_later : {Y : Type 0} → Option Y → Option Y → Option Y
or_later (Some y) later = Some y
or_later None later = later

-- the first part in hand of which the test finds something
abbrev pub find_in : {Y : Type 0} → (Slice → Option Y) → List (ℕ × Slice) → Option Y
find_in f [] = None
find_in f (x ∷ xs) = or_later (f x.1) (find_in f xs)

abbrev pub in_hand : Declared → List (ℕ × Slice) → Seen
in_hand d held = record {
  lock = λ m. option_and_then (lock_of d m) (find_in (app_of m) held);
  waits = λ w. option_and_then waiter_in (find_in (looper_of w) held);
  oldest = λ w. option_and_then effect_in (find_in (link_of w) held);
  delivery =
      λ e. option_map (λ (x : Desk). delivered x.windows x.pointing e) (find_in slice.desk_in held);
}

-- ---- the parts

-- of the number, where there is one
abbrev pub maybe : (ℕ → Part) → Option ℕ → List Part
maybe part (Some n) = part n ∷ []
maybe part None = []

abbrev pub owned_window : Seen → Runner → Option ℕ
owned_window x (by.app m) = x.lock m
owned_window x (by.looper w) = Some w

abbrev pub who_waits : Seen → Runner → Option ℕ
who_waits x (by.app m) = None
who_waits x (by.looper w) = x.waits w

-- beside the runner's own
abbrev pub parts_for : Seen → Runner → Wish → List Part
parts_for x who (wish.Note word) = []
parts_for x who (wish.Post w target message) = port w ∷ []
parts_for x who (wish.Send w target message) = port w ∷ []
parts_for x who (wish.Forward w target) = port w ∷ []
parts_for x who (wish.Reply message) = maybe cell (who_waits x who)
parts_for x who wish.Claim = []
parts_for x who (wish.Lock w) = looper w ∷ []
parts_for x who wish.Unlock = maybe looper (owned_window x who)
parts_for x who wish.Flush = maybe looper (owned_window x who) ++ maybe link (owned_window x who)
parts_for x who wish.SyncDone = maybe link (owned_window x who)
parts_for x who (wish.Draw command) = maybe looper (owned_window x who)

abbrev pub port_for : ℕ → Change → List Part
port_for w Close = port w ∷ []
port_for w Show = []
port_for w Hide = []
port_for w (MoveTo corner) = []
port_for w (MoveBy dx dy) = []
port_for w (ResizeTo width height) = []
port_for w Activate = []
port_for w (Behind front) = []
port_for w (Focus view) = []

-- beside the link; of a change its own window's pane
abbrev pub effect_parts : ℕ → Option Effect → List Part
effect_parts w (Some (at_view v deed)) = pane w ∷ []
effect_parts w (Some (changes change)) = desk ∷ (port_for w change ++ pane w ∷ [])
effect_parts w (Some ends_update) = pane w ∷ []
effect_parts w None = []

abbrev pub post_parts : Option Post → List Part
post_parts (Some post) = port post.window ∷ []
post_parts None = []

-- where the desk isn't seen, it is needed first
abbrev pub delivery_parts : Option Delivery → List Part
delivery_parts (Some x) =
    desk ∷ (post_parts x.first ++ (post_parts x.second ++ maybe pane x.activate))
delivery_parts None = desk ∷ []

abbrev pub event_parts : Seen → InputLine → List Part
event_parts x (line.Press at) = delivery_parts (x.delivery (event.Press at))
event_parts x (line.Release at) = delivery_parts (x.delivery (event.Release at))
event_parts x (line.Move at) = delivery_parts (x.delivery (event.Move at))
event_parts x (line.Key key) = delivery_parts (x.delivery (event.Key key))
event_parts x (line.After m) = cell m ∷ []

-- in the order in which they are asked for
abbrev pub parts_by : Seen → Want → List Part
parts_by x (asks who wish) = own_part who ∷ parts_for x who wish
parts_by x (takes w) = looper w ∷ port w ∷ []
parts_by x (begins w) = looper w ∷ link w ∷ pane w ∷ []
parts_by x (flushes w) = looper w ∷ link w ∷ []
parts_by x (draws_end w) = looper w ∷ []
parts_by x (ends w) = looper w ∷ maybe cell (x.waits w)
parts_by x (notifies w) = pane w ∷ port w ∷ []
parts_by x (executes w) = link w ∷ effect_parts w (x.oldest w)
parts_by x (uses event) = input ∷ event_parts x event
parts_by x stops = []

abbrev pub IsAmong : Part → List Part → Type 0
IsAmong p [] = ⊥
IsAmong p (x ∷ xs) = (p ≡ x) ⊎ IsAmong p xs

-- The parts of a state, and which of them an entry may change (this project's own).
use Rattle.std.specs.Prelude.{◌≡◌, ◌⊎◌, ℕ, ℤ, Option, Some, None, slice_get, option_and_then}
use Rattle.be_actor.specs.declared.Wish.{Wish}
use Rattle.be_actor.specs.declared.Wish.TheVariants as wish
use Rattle.be_command.specs.Effects.{Effect, at_view, changes, ends_update, effect_of}
use Rattle.be_geom.specs.declared.change.Change.{Change}
use Rattle.be_geom.specs.declared.change.Change.TheVariants.{Show, Hide, MoveTo, MoveBy, ResizeTo}
use Rattle.be_geom.specs.declared.change.Change.TheVariants.{Activate, Behind, Focus, Close}
use Rattle.be_input.specs.Deliveries.{Post, Delivery}
use Rattle.be_input.specs.declared.Event.TheVariants as event
use Rattle.be_link.specs.Queues.{Numbered}
use Rattle.be_looper.specs.Duties.{waiter}
use Rattle.be_script.specs.declared.InputLine.{InputLine}
use Rattle.be_script.specs.declared.InputLine.TheVariants as line
use Rattle.be_machine.specs.Activities as by
use Rattle.be_machine.specs.Activities.{Runner}
use Rattle.be_machine.specs.Input.{delivery_of}
use Rattle.be_machine.specs.Pixels.{owner_in, pixel_at}
use Rattle.be_machine.specs.Program.{hand_of, hand_at, window_of}
use Rattle.be_machine.specs.State.{State}
use Rattle.be_machine.specs.Windows.{corner_at, tree_at}
use Rattle.be_machine.specs.Wants.{Want, asks, takes, begins, flushes, draws_end, ends, notifies}
use Rattle.be_machine.specs.Wants.{executes, uses, stops}

-- ---- parts

pub data Part : Type 0 where
  -- the windows, their views, the focus and the pointer
  desk : Part
  -- how many events were used, and whether the run has stopped
  input : Part
  -- an application's place and reply cell
  cell : ℕ → Part
  -- who has a window's looper, and its buffer
  looper : ℕ → Part
  port : ℕ → Part
  link : ℕ → Part
  -- what the server keeps of a window, its left top and its views, which pixels the window owns,
  -- and their cells
  pane : ℕ → Part

-- a pixel that one of the two states gives window u has the same cell, and the same owner, in both
abbrev pub SamePixels : State → State → ℕ → Type 0
SamePixels s r u =
    (x y : ℤ) → (owner_in s x y ≡ Some u) ⊎ (owner_in r x y ≡ Some u)
    → (owner_in r x y ≡ owner_in s x y) × (pixel_at r x y ≡ pixel_at s x y)

-- the part is the same in both states
abbrev pub SamePart : State → State → Part → Type 0
SamePart s r desk = r.desk ≡ s.desk
SamePart s r input = (r.events ≡ s.events) × (r.stopped ≡ s.stopped)
SamePart s r (cell m) = slice_get r.apps m ≡ slice_get s.apps m
SamePart s r (looper w) =
    (slice_get r.loopers w ≡ slice_get s.loopers w)
    × (slice_get r.buffers w ≡ slice_get s.buffers w)
SamePart s r (port w) = slice_get r.ports w ≡ slice_get s.ports w
SamePart s r (link w) = slice_get r.links w ≡ slice_get s.links w
SamePart s r (pane w) =
    (slice_get r.panes w ≡ slice_get s.panes w) × SamePixels s r w × (corner_at r w ≡ corner_at s w)
    × (tree_at r w ≡ tree_at s w)

-- ---- what instructions touch

-- something of the window that a runner owns, or of the application that waits for the message in
-- its hand
abbrev pub IsOf : (ℕ → Part) → Option ℕ → Part → Type 0
IsOf part (Some n) p = p ≡ part n
IsOf part None p = ⊥

-- beside the runner's own cell or looper
abbrev pub TouchesBy : State → Runner → Wish → Part → Type 0
TouchesBy s who (wish.Note word) p = ⊥
TouchesBy s who (wish.Post w target message) p = p ≡ port w
TouchesBy s who (wish.Send w target message) p = p ≡ port w
TouchesBy s who (wish.Forward w target) p = p ≡ port w
TouchesBy s who (wish.Reply message) p =
    IsOf cell (option_and_then (λ hand. waiter hand.duty) (hand_of s who)) p
TouchesBy s who wish.Claim p = ⊥
TouchesBy s who (wish.Lock w) p = p ≡ looper w
TouchesBy s who wish.Unlock p = IsOf looper (window_of s who) p
TouchesBy s who wish.Flush p = IsOf looper (window_of s who) p ⊎ IsOf link (window_of s who) p
TouchesBy s who wish.SyncDone p = IsOf link (window_of s who) p
TouchesBy s who (wish.Draw command) p = IsOf looper (window_of s who) p

-- the runner's own
abbrev pub own_part : Runner → Part
own_part (by.app m) = cell m
own_part (by.looper w) = looper w

-- ---- what changes and events touch

-- Window w's pane, and those of the windows whose pixels on the screen are others in the second
-- state.
abbrev pub TouchesPanes : State → State → ℕ → Part → Type 0
TouchesPanes s r w p =
    (u : ℕ) × (p ≡ pane u) × ((u ≡ w)
    ⊎ ((x : ℤ) × (y : ℤ) × ((owner_in s x y ≡ Some u) ⊎ (owner_in r x y ≡ Some u))
    × (owner_in r x y ≡ owner_in s x y → ⊥)))

-- a closed window's port is closed too
abbrev pub TouchesPort : ℕ → Change → Part → Type 0
TouchesPort w Close p = p ≡ port w
TouchesPort w Show p = ⊥
TouchesPort w Hide p = ⊥
TouchesPort w (MoveTo corner) p = ⊥
TouchesPort w (MoveBy dx dy) p = ⊥
TouchesPort w (ResizeTo width height) p = ⊥
TouchesPort w Activate p = ⊥
TouchesPort w (Behind front) p = ⊥
TouchesPort w (Focus view) p = ⊥

-- what a command touches beside the link
abbrev pub TouchesFor : State → State → ℕ → Effect → Part → Type 0
TouchesFor s r w (at_view v deed) p = p ≡ pane w
TouchesFor s r w (changes change) p = (p ≡ desk) ⊎ TouchesPort w change p ⊎ TouchesPanes s r w p
TouchesFor s r w ends_update p = p ≡ pane w

abbrev pub TouchesOldest : State → State → ℕ → Option Numbered → Part → Type 0
TouchesOldest s r w (Some c) p = TouchesFor s r w (effect_of c.command) p
TouchesOldest s r w None p = ⊥

-- the port of a message that input sends
abbrev pub IsPostTo : Option Post → Part → Type 0
IsPostTo (Some post) p = p ≡ port post.window
IsPostTo None p = ⊥

abbrev pub TouchesActive : State → State → Option ℕ → Part → Type 0
TouchesActive s r (Some w) p = TouchesPanes s r w p
TouchesActive s r None p = ⊥

abbrev pub TouchesDelivered : State → State → Delivery → Part → Type 0
TouchesDelivered s r delivery p =
    (p ≡ desk) ⊎ IsPostTo delivery.first p ⊎ IsPostTo delivery.second p
    ⊎ TouchesActive s r delivery.activate p

-- what an event touches beside the input
abbrev pub TouchesEvent : State → State → InputLine → Part → Type 0
TouchesEvent s r (line.Press at) p = TouchesDelivered s r (delivery_of s (event.Press at)) p
TouchesEvent s r (line.Release at) p = TouchesDelivered s r (delivery_of s (event.Release at)) p
TouchesEvent s r (line.Move at) p = TouchesDelivered s r (delivery_of s (event.Move at)) p
TouchesEvent s r (line.Key key) p = TouchesDelivered s r (delivery_of s (event.Key key)) p
TouchesEvent s r (line.After m) p = p ≡ cell m

-- ---- all wants

-- The parts that an entry may change that meets this want in state s, and leaves state r. Stop
-- touches all of them.
abbrev pub Touches : State → State → Want → Part → Type 0
Touches s r (asks who wish) p = (p ≡ own_part who) ⊎ TouchesBy s who wish p
Touches s r (takes w) p = (p ≡ looper w) ⊎ (p ≡ port w)
Touches s r (begins w) p = (p ≡ looper w) ⊎ (p ≡ link w) ⊎ (p ≡ pane w)
Touches s r (flushes w) p = (p ≡ looper w) ⊎ (p ≡ link w)
Touches s r (draws_end w) p = p ≡ looper w
Touches s r (ends w) p =
    (p ≡ looper w) ⊎ IsOf cell (option_and_then (λ hand. waiter hand.duty) (hand_at s w)) p
Touches s r (notifies w) p = (p ≡ port w) ⊎ (p ≡ pane w)
Touches s r (executes w) p =
    (p ≡ link w) ⊎ TouchesOldest s r w (option_and_then (λ l. slice_get l 0) (slice_get s.links w))
    p
Touches s r (uses event) p = (p ≡ input) ⊎ TouchesEvent s r event p
Touches s r stops p = Unit {0}

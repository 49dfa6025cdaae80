-- What is proved of single pixels, beside what Laws says of windows. Each statement is the contract
-- of a function in src/laws.
use Rattle.std.specs.Prelude.{◌≡◌, ◌⊎◌, ◌*◌, ℕ, ℤ, Bool, true, false, List, length, Some, Ok}
use Rattle.std.specs.Prelude.{slice_get}
use Rattle.be_color.specs.declared.colors.Color.{Color}
use Rattle.be_command.specs.Effects.{Deed, draws, sets, colors, saves, restores, copies}
use Rattle.be_command.specs.Effects.{invalidates, at_view, changes, effect_of}
use Rattle.be_desk.specs.Changes.{Desk, still, motion_of, view_here, color_of, place_here}
use Rattle.be_desk.specs.Changes.{desk_after}
use Rattle.be_geom.specs.declared.change.Change.{Change}
use Rattle.be_geom.specs.declared.point.Point.{Point}
use Rattle.be_geom.specs.Places.{at_pixel, less}
use Rattle.be_link.specs.Queues.{Numbered}
use Rattle.be_paint.specs.Reach.{session_has}
use Rattle.be_pane.specs.Panes.{Pane}
use Rattle.be_script.specs.Script.{Declared}
use Rattle.be_span.specs.declared.Cell.{Cell}
use Rattle.be_stack.specs.Owner.{owner_at}
use Rattle.be_state.specs.Stacks.{Stack, allows}
use Rattle.be_views.specs.Trees.{Tree, is_at_or_below}
use Rattle.be_machine.specs.declared.Act.{Act}
use Rattle.be_machine.specs.declared.Act.TheVariants as act
use Rattle.be_machine.specs.declared.Entry.{Entry}
use Rattle.be_machine.specs.History.{IsLegalHistory, state_after}
use Rattle.be_machine.specs.Legal.{IsLegal}
use Rattle.be_machine.specs.Pixels.{pixel_at, owner_in, mark_at, color_at, Executes}
use Rattle.be_machine.specs.State.{State}
use Rattle.be_machine.specs.Step.{step}
use Rattle.be_machine.specs.Windows.{width_of, corner_at, tree_at, view_colors}

-- ---- what each pixel has

-- the screen has its size, and a cell for each pixel
abbrev pub ScreenIsWhole : Type 0
ScreenIsWhole =
    (d : Declared) (h : List Entry) → IsLegalHistory d h
    → (width_of (state_after d h) ≡ d.width) × ((state_after d h).desk.windows.height ≡ d.height)
    × (length (state_after d h).screen ≡ d.width * d.height)

-- a pixel that a window owns has a cell
abbrev pub OwnedHaveCells : Type 0
OwnedHaveCells =
    (d : Declared) (h : List Entry) (w : ℕ) (x y : ℤ) → IsLegalHistory d h
    → owner_in (state_after d h) x y ≡ Some w
    → (cell : Cell) × (pixel_at (state_after d h) x y ≡ Some cell)

-- one of the window's views is at it
abbrev pub OwnedHaveViews : Type 0
OwnedHaveViews =
    (d : Declared) (h : List Entry) (w : ℕ) (x y : ℤ) → IsLegalHistory d h
    → owner_in (state_after d h) x y ≡ Some w
    → (v : ℕ) × (view_here (state_after d h).desk w x y ≡ Some v)

-- and that view has a colour
abbrev pub OwnedHaveColors : Type 0
OwnedHaveColors =
    (d : Declared) (h : List Entry) (w : ℕ) (x y : ℤ) → IsLegalHistory d h
    → owner_in (state_after d h) x y ≡ Some w
    → (color : Color) × (color_of (view_colors (state_after d h)) w
    (view_here (state_after d h).desk w x y) ≡ Some color)

-- So has each pixel that a window owns after any change: whatever a change exposes is given a
-- colour and a mark.
abbrev pub ExposedHaveColors : Type 0
ExposedHaveColors =
    (d : Declared) (h : List Entry) (w u : ℕ) (change : Change) (desk : Desk) (x y : ℤ)
    → IsLegalHistory d h
    → desk_after (state_after d h).desk w change ≡ Ok desk → owner_at desk.windows x y ≡ Some u
    → (color : Color) × (color_of (view_colors (state_after d h)) u (view_here desk u x y)
    ≡ Some color)

-- ---- what a command reaches

-- Window w owns the pixel and its view v is the one at it; each clip of the view has it, and so has
-- an open session.
pub record IsReachedAt (s : State) (w v : ℕ) (x y : ℤ) : Type 0 where
  pub pane : Pane
  pub kept : slice_get s.panes w ≡ Some pane
  -- the window's left top on the screen, and the view's in the window
  pub corner : Point
  pub begins : corner_at s w ≡ Some corner
  pub place : Point
  pub lies : place_here s.desk w v ≡ Some place
  pub stack : Stack
  pub drawn : slice_get pane.stacks v ≡ Some stack
  pub owner : owner_in s x y ≡ Some w
  pub view : view_here s.desk w x y ≡ Some v
  pub clips : allows stack (less (less (at_pixel x y) corner) place).x
      (less (less (at_pixel x y) corner) place).y ≡ true
  pub session : session_has pane.session (less (at_pixel x y) corner) ≡ true

-- whether a deed exposes pixels again, which goes past clips, sessions and the view's own pixels
abbrev pub is_invalidating : Deed → Bool
is_invalidating (invalidates r) = true
is_invalidating (draws figure) = false
is_invalidating (sets setting) = false
is_invalidating (colors color) = false
is_invalidating saves = false
is_invalidating restores = false
is_invalidating (copies source target) = false

-- a command at a view changes only pixels that it reaches: neither a child's, nor one past a clip
-- or a session
abbrev pub CommandsReachTheirView : Type 0
CommandsReachTheirView =
    (d : Declared) (s : State) (e : Entry) (w v : ℕ) (c : Numbered) (deed : Deed) (x y : ℤ)
    → Executes d s e w c
    → effect_of c.command ≡ at_view v deed → is_invalidating deed ≡ false
    → (pixel_at (step d s e) x y ≡ pixel_at s x y → ⊥)
    → IsReachedAt s w v x y

-- the window owns the pixel, and the view at it is view v or lies in it
pub record IsWithinView (s : State) (w v : ℕ) (x y : ℤ) : Type 0 where
  pub tree : Tree
  pub there : tree_at s w ≡ Some tree
  pub at : ℕ
  pub owner : owner_in s x y ≡ Some w
  pub view : view_here s.desk w x y ≡ Some at
  pub inside : is_at_or_below tree v at ≡ true

-- invalidating changes pixels of the view and of those in it alone
abbrev pub InvalidatingStaysInside : Type 0
InvalidatingStaysInside =
    (d : Declared) (s : State) (e : Entry) (w v : ℕ) (c : Numbered) (deed : Deed) (x y : ℤ)
    → Executes d s e w c
    → effect_of c.command ≡ at_view v deed → is_invalidating deed ≡ true
    → (pixel_at (step d s e) x y ≡ pixel_at s x y → ⊥)
    → IsWithinView s w v x y

-- ---- colours and marks

-- a command or an event
abbrev pub is_painting : Act → Bool
is_painting (act.Exec n outcome) = true
is_painting (act.Event k first second) = true
is_painting (act.Post w posted) = false
is_painting (act.Take n) = false
is_painting (act.Note word) = false
is_painting (act.Reply answer) = false
is_painting (act.Claim kind) = false
is_painting (act.Lock w) = false
is_painting (act.Unlock w) = false
is_painting (act.Draw w n) = false
is_painting (act.Flush w count) = false
is_painting (act.SyncDone w) = false
is_painting (act.Notify n) = false
is_painting (act.Begin opens) = false
is_painting (act.End answer) = false
is_painting act.Stop = false

-- no other entry changes a colour
abbrev pub ColorsChangeByFew : Type 0
ColorsChangeByFew =
    (d : Declared) (s : State) (e : Entry) (x y : ℤ) → IsLegal d s e → is_painting e.act ≡ false
    → color_at (step d s e) x y ≡ color_at s x y

-- where a command changes a window, each pixel that its owner keeps stays, unless the owner is
-- moved or resized
abbrev pub KeptPixelsStay : Type 0
KeptPixelsStay =
    (d : Declared) (s : State) (e : Entry) (w u : ℕ) (c : Numbered) (change : Change) (x y : ℤ)
    → Executes d s e w c
    → effect_of c.command ≡ changes change → (motion_of change ≡ still) ⊎ (u ≡ w → ⊥)
    → owner_in s x y ≡ Some u → owner_in (step d s e) x y ≡ Some u
    → pixel_at (step d s e) x y ≡ pixel_at s x y

-- A pixel that a window comes to own waits to be drawn, unless the window is moved: a move brings
-- its pixels along.
abbrev pub ExposedAreMarked : Type 0
ExposedAreMarked =
    (d : Declared) (h : List Entry) (e : Entry) (u : ℕ) (x y : ℤ) → IsLegalHistory d h
    → IsLegal d (state_after d h) e
    → corner_at (step d (state_after d h) e) u ≡ corner_at (state_after d h) u
    → (owner_in (state_after d h) x y ≡ Some u → ⊥)
    → owner_in (step d (state_after d h) e) x y ≡ Some u
    → mark_at (step d (state_after d h) e) x y ≡ Some true

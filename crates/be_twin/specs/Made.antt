-- What a deed makes of the server's pane (this project's own).
use Rattle.std.specs.Prelude.{◌≡◌, ℕ, ℤ, Bool, List, Option, Some, None, slice_get, slice_set}
use Rattle.std.specs.Prelude.{option_map}
use Rattle.be_geom.specs.declared.point.Point.{Point}
use Rattle.be_geom.specs.declared.rect.Rect.{Rect}
use Rattle.be_color.specs.declared.colors.Color.{Color}
use Rattle.be_bitmap.specs.Pictures.{Picture}
use Rattle.be_command.specs.Effects.{Deed, draws, sets, colors, saves, restores, copies}
use Rattle.be_command.specs.Effects.{invalidates, Effect, at_view, changes, ends_update}
use Rattle.be_paint.specs.Copies.{copied_cell, invalidated_cell}
use Rattle.be_paint.specs.Inks.{Ink, painted_cell}
use Rattle.be_paint.specs.Reach.{Reach}
use Rattle.be_pane.specs.SameStacks.{SameStacks}
use Rattle.be_region.specs.Sessions.{SameSession}
use Rattle.be_pane.specs.declared.pane.Pane.{Pane}
use Rattle.be_region.specs.Regions.{region_has}
use Rattle.be_span.specs.Cells.{Lookup}
use Rattle.be_span.specs.Spans.{cell_in}
use Rattle.be_span.specs.declared.Cell.{Cell}
use Rattle.be_state.specs.Stacks.{Stack, pushed, popped}
use Rattle.be_views.specs.Trees.{place_of}
use Rattle.be_twin.specs.Deeds.{ink_of, set_by, with_pen, popped_or_same}

-- number, place, pixels, views, session and notice stay
pub record IsSameWindow (old new : Pane) : Type 0 where
  pub number : new.window ≡ old.window
  pub place : new.place ≡ old.place
  pub region : new.spans.rects ≡ old.spans.rects
  pub tree : new.tree ≡ old.tree
  pub session : new.session ≡ old.session
  pub notice : new.notified ≡ old.notified

-- ---- drawing states and colours

-- the drawing states of a view are what the change makes of them, up to the rectangles of clips,
-- and all others stay
abbrev pub AreRestacked : ℕ → (Stack → Stack) → Pane → Pane → Type 0
AreRestacked v change old new =
    (s : Stack) → slice_get old.states.items v ≡ Some s
    → SameStacks new.states.items (slice_set old.states.items v (change s))

-- nothing else changes
pub record IsRestacked (v : ℕ) (change : Stack → Stack) (old new : Pane) : Type 0 where
  pub window : IsSameWindow old new
  pub cells : new.spans ≡ old.spans
  pub colors : new.colors.items ≡ old.colors.items
  pub stacks : AreRestacked v change old new

-- a view's colour changes, and nothing else
pub record IsRecolored (v : ℕ) (color : Color) (old new : Pane) : Type 0 where
  pub window : IsSameWindow old new
  pub cells : new.spans ≡ old.spans
  pub colors : new.colors.items ≡ slice_set old.colors.items v color
  pub stacks : new.states.items ≡ old.states.items

-- ---- cells

-- where a view of the pane may draw
pub record IsReachOf (pane : Pane) (v : ℕ) (seen : Reach) : Type 0 where
  pub window : seen.window ≡ pane.place
  pub place : place_of pane.tree v ≡ Some seen.place
  pub tree : seen.tree ≡ pane.tree
  pub view : seen.view ≡ v
  pub stack : slice_get pane.states.items v ≡ Some seen.stack
  pub session : SameSession pane.session seen.session

-- what becomes of a pixel, by who owns pixels, where the view may draw, and the old cells
abbrev pub Rule : Type 0
Rule = (ℤ → ℤ → Bool) → Reach → Lookup → ℤ → ℤ → Cell → Cell

-- each cell becomes what the rule makes of it
abbrev pub AreRepainted : ℕ → Rule → Pane → Pane → Type 0
AreRepainted v rule old new =
    (seen : Reach) → IsReachOf old v seen → (x y : ℤ) →
    cell_in new.spans x y ≡ option_map
    (rule (region_has old.spans.rects) seen (cell_in old.spans) x y) (cell_in old.spans x y)

-- nothing else changes
pub record IsRepainted (v : ℕ) (rule : Rule) (old new : Pane) : Type 0 where
  pub window : IsSameWindow old new
  pub cells : AreRepainted v rule old new
  pub colors : new.colors.items ≡ old.colors.items
  pub stacks : new.states.items ≡ old.states.items

-- the rule of drawing
abbrev pub painting : Ink → Rule
painting ink owned seen old x y c = painted_cell owned seen ink old x y c

-- of copying, at a view of this colour
abbrev pub copying : Rect → Point → Color → Rule
copying source target color owned seen old x y c =
    copied_cell owned seen source target color old x y c

-- of invalidating, where the window's views have these colours
abbrev pub invalidating : Rect → List Color → Rule
invalidating r all owned seen old x y c = invalidated_cell owned seen r all old x y c

-- an ink is laid on the pixels, and the pen is where the ink leaves it
pub record IsInked (v : ℕ) (ink : Ink) (old new : Pane) : Type 0 where
  pub window : IsSameWindow old new
  pub cells : AreRepainted v (painting ink) old new
  pub colors : new.colors.items ≡ old.colors.items
  pub stacks : AreRestacked v (λ s. with_pen s (Some ink)) old new

-- where there is an ink
abbrev pub IsInkedWith : ℕ → Option Ink → Pane → Pane → Type 0
IsInkedWith v (Some ink) old new = IsInked v ink old new
IsInkedWith v None old new = Unit {0}

-- ---- deeds

-- a deed that isn't refused, by what it does
abbrev pub IsDone : List Picture → ℕ → Deed → Pane → Pane → Type 0
IsDone pictures v (draws figure) old new =
    (s : Stack) → slice_get old.states.items v ≡ Some s
    → IsInkedWith v (ink_of pictures s.top.state figure) old new
IsDone pictures v (sets setting) old new = IsRestacked v (set_by setting) old new
IsDone pictures v (colors color) old new = IsRecolored v color old new
IsDone pictures v saves old new = IsRestacked v pushed old new
IsDone pictures v restores old new = IsRestacked v (λ s. popped_or_same s (popped s)) old new
IsDone pictures v (copies source target) old new =
    (color : Color) → slice_get old.colors.items v ≡ Some color
    → IsRepainted v (copying source target color) old new
IsDone pictures v (invalidates r) old new = IsRepainted v (invalidating r old.colors.items) old new

-- the update is over, and all else stays
abbrev pub without_update : Pane → Pane
without_update pane = record pane { session = None }

-- a command that isn't refused, by what it does; changes of the window are executed elsewhere
abbrev pub IsPerformed : List Picture → Effect → Pane → Pane → Type 0
IsPerformed pictures (at_view v deed) old new = IsDone pictures v deed old new
IsPerformed pictures (changes change) old new = Unit {0}
IsPerformed pictures ends_update old new = new ≡ without_update old

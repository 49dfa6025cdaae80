-- What is made ready of a change before it is carried out, and what it leaves then (this project's
-- own).
use Rattle.std.specs.Prelude.{◌≡◌, ◌<◌, ℕ, ℤ, true, List, length, map, Ok, slice_get}
use Rattle.std.specs.Prelude.{Option, Some, None}
use Rattle.std.specs.Borrow.{Bor}
use Rattle.std.specs.List.{AllPairs}
use Rattle.be_color.specs.declared.colors.Color.{Color}
use Rattle.be_geom.specs.declared.change.Change.{Change}
use Rattle.be_input.specs.Pointing.{corner_of}
use Rattle.be_pane.specs.StandsFor.{IsWhole}
use Rattle.be_pane.specs.declared.pane.Pane.{Pane}
use Rattle.be_geom.specs.declared.rect.Rect.{Rect}
use Rattle.be_region.specs.Regions.{region_has, SamePixels}
use Rattle.be_span.specs.Cells.{Lookup, desktop_cell}
use Rattle.be_span.specs.Spans.{Spans, cell_in}
use Rattle.be_span.specs.declared.Cell.{Cell}
use Rattle.be_stack.specs.Owner.{owner_at}
use Rattle.be_stack.specs.Windows.{Windows}
use Rattle.be_desk.specs.Changes.{Desk, owns, desk_after, changed_cell}
use Rattle.be_desk.specs.Shifts.{shifted}
use Rattle.be_desk.specs.declared.planned.Renewed.{Renewed}
use Rattle.be_desk.specs.declared.planned.Renewed.TheVariants.{Whole, InPlace}
use Rattle.be_desk.specs.Desks.{IsAsked, IsPaired, IsTaken}

-- ---- panes of a desk

-- A pane is of its window on the desk: where the window is, with its views, each of which has a
-- colour and drawing states, and with the pixels that the window owns.
pub record IsPaneOf (desk : Desk) (pane : Pane) : Type 0 where
  pub place : corner_of desk.windows pane.window ≡ Some pane.place
  pub views : slice_get desk.pointing.trees pane.window ≡ Some pane.tree
  pub rooted : 0 < length pane.tree
  pub colored : length pane.colors.items ≡ length pane.tree
  pub drawn : length pane.states.items ≡ length pane.tree
  pub pixels : (x y : ℤ) → region_has pane.spans.rects x y ≡ owns desk pane.window x y

-- all of them are
abbrev pub ArePanesOf : Desk → List Pane → Type 0
ArePanesOf desk panes = (k : ℕ) (pane : Pane) → slice_get panes k ≡ Some pane → IsPaneOf desk pane

-- the panes behind references
abbrev pub lent : List (Bor Pane) → List Pane
lent panes = map (λ pane. pane.now) panes

-- they are of different windows, in ascending order of number
abbrev pub AreAscending : List Pane → Type 0
AreAscending panes = AllPairs (λ pane other. pane.window < other.window) panes

-- A screen of which the panes have their windows' cells, and on which the desktop shows where no
-- window is. A cell is given for each pixel.
pub record IsScreenOf (cells : ℤ → ℤ → Cell) (desk : Desk) (panes : List Pane) : Type 0 where
  pub windows : (k : ℕ) (pane : Pane) → slice_get panes k ≡ Some pane → (x y : ℤ)
      → owns desk pane.window x y ≡ true → cell_in pane.spans x y ≡ Some (cells x y)
  pub desktop : (x y : ℤ) → owner_at desk.windows x y ≡ None → cells x y ≡ desktop_cell

-- a lookup has the screen's cells where the window owns the pixels
abbrev pub LooksUp : Lookup → Desk → ℕ → (ℤ → ℤ → Cell) → Type 0
LooksUp old desk w cells = (x y : ℤ) → owns desk w x y ≡ true → old x y ≡ Some (cells x y)

-- ---- a plan

-- a change of a window, the windows after it, and for each pane what becomes of its spans; none where
-- they are as before
pub record Planned : Type 0 where
  pub window : ℕ
  pub change : Change
  pub windows : Windows
  pub spans : List (Option Renewed)

-- a window's spans once they are renewed
abbrev pub renewed_spans : Renewed → Spans → Spans
renewed_spans (Whole spans) old = spans
renewed_spans (InPlace shift) old =
    shifted shift.dx shift.dy shift.next shift.fresh.items old

-- it was made ready for spans of these pixels
abbrev pub AreForPixels : Renewed → List Rect → Type 0
AreForPixels (Whole spans) rects = Unit {0}
AreForPixels (InPlace shift) rects = SamePixels shift.from rects

-- the pane's spans afterwards
abbrev pub then_spans : Option Renewed → Pane → Spans
then_spans (Some renewed) pane = renewed_spans renewed pane.spans
then_spans None pane = pane.spans

-- they were made ready for the pane
abbrev pub AreFor : Option Renewed → Pane → Type 0
AreFor (Some renewed) pane = AreForPixels renewed pane.spans.rects
AreFor None pane = Unit {0}

-- A pane's spans after a change of window w: the pixels that its window owns then, and on each
-- screen of the panes the cells that the change rule gives.
pub record AreChanged (before after : Desk) (w : ℕ) (change : Change) (panes : List Pane)
    (pane : Pane) (spans : Spans) : Type 0 where
  pub pixels : (x y : ℤ) → region_has spans.rects x y ≡ owns after pane.window x y
  pub cells : (cells : ℤ → ℤ → Cell) (colors : List (List Color)) (old : Lookup)
      → IsScreenOf cells before panes → slice_get colors pane.window ≡ Some pane.colors.items
      → LooksUp old before w cells → (x y : ℤ) → owns after pane.window x y ≡ true
      → cell_in spans x y ≡ Some (changed_cell before after colors w change old x y (cells x y))

-- what was made ready for a pane gives it the spans of after the change
pub record AreRenewed (before after : Desk) (w : ℕ) (change : Change) (panes : List Pane)
    (pane : Pane) (these : Option Renewed) : Type 0 where
  pub its : AreFor these pane
  pub changed : AreChanged before after w change panes pane (then_spans these pane)

-- a change of window w that may be asked of the desk and isn't refused, and the windows after it
pub record LeadsTo (desk : Desk) (w : ℕ) (change : Change) (windows : Windows) : Type 0 where
  pub asked : IsAsked desk w change
  pub taken : IsTaken (desk_after desk w change)
  pub then_windows : (after : Desk) → desk_after desk w change ≡ Ok after → after.windows ≡ windows

-- what the desk needs of a plan
abbrev pub IsDeskPlan : Planned → Desk → Type 0
IsDeskPlan plan desk = LeadsTo desk plan.window plan.change plan.windows

-- a plan for the desk, with the spans of each pane of the desk
pub record IsPlanOf (plan : Planned) (desk : Desk) (panes : List Pane) : Type 0 where
  pub on_desk : IsDeskPlan plan desk
  pub panes_of : ArePanesOf desk panes
  pub each : length plan.spans ≡ length panes
  pub changed : (after : Desk) → desk_after desk plan.window plan.change ≡ Ok after
      → (k : ℕ) (pane : Pane) (these : Option Renewed) → slice_get panes k ≡ Some pane
      → slice_get plan.spans k ≡ Some these
      → AreRenewed desk after plan.window plan.change panes pane these

-- ---- once it is carried out

-- the pane has these spans, is where its window is and has its views; all else stays
pub record IsCarried (after : Desk) (these : Spans) (old new : Pane) : Type 0 where
  pub window : new.window ≡ old.window
  pub place : corner_of after.windows old.window ≡ Some new.place
  pub spans : new.spans ≡ these
  pub views : slice_get after.pointing.trees old.window ≡ Some new.tree
  pub colors : new.colors.items ≡ old.colors.items
  pub states : new.states.items ≡ old.states.items
  pub session : new.session ≡ old.session
  pub notice : new.notified ≡ old.notified

-- What becomes of a pane on which a plan is carried out with these spans: whatever pane of the desk
-- it is, as long as they are right for it.
abbrev pub CarriesOver : Planned → Option Renewed → Pane → Pane → Type 0
CarriesOver plan these old new =
    (before after : Desk) (panes : List Pane) → IsPaired before
    → desk_after before plan.window plan.change ≡ Ok after → after.windows ≡ plan.windows →
    IsPaneOf before old → AreRenewed before after plan.window plan.change panes old these →
    IsPaneOf after new × IsWhole new × IsCarried after (then_spans these old) old new

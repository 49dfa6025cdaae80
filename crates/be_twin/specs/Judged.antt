-- What comes of each command but a change, at a window and by what its pane keeps (outcomes are
-- this project's own).
use Rattle.std.specs.Prelude.{◌≡◌, ℕ, List, Option, Some, None, slice_get}
use Rattle.be_geom.specs.declared.point.Point.{Point}
use Rattle.be_bitmap.specs.Pictures.{Picture}
use Rattle.be_command.specs.Effects.{Setting, high_color, low_color, drawing_mode, pen_size}
use Rattle.be_command.specs.Effects.{pen_place, origin, clipping, Deed, draws, sets, colors, saves}
use Rattle.be_command.specs.Effects.{restores, copies, invalidates, Effect, at_view, changes}
use Rattle.be_command.specs.Effects.{ends_update}
use Rattle.be_pane.specs.Panes.{Pane}
use Rattle.be_pane.specs.declared.pane.Pane as code
use Rattle.be_state.specs.Limits.{IsPenSize}
use Rattle.be_state.specs.Stacks.{Stack}
use Rattle.be_views.specs.Trees.{Tree}
use Rattle.be_views.specs.Whole.{IsTree}
use Rattle.be_twin.specs.declared.Outcome.{Outcome}
use Rattle.be_twin.specs.declared.Outcome.TheVariants.{Done, NoView}
use Rattle.be_twin.specs.Deeds.{deed_outcome}
use Rattle.be_twin.specs.Executed.{outcome_at, sight_of}

-- ---- which commands

-- the command is no change of its window
abbrev pub IsNoChange : Effect → Type 0
IsNoChange (at_view v deed) = Unit {0}
IsNoChange (changes change) = ⊥
IsNoChange ends_update = Unit {0}

-- a pen that is set has a size of 1 to 32
abbrev pub SetsPen : Setting → Type 0
SetsPen (pen_size size) = IsPenSize size
SetsPen (high_color color) = Unit {0}
SetsPen (low_color color) = Unit {0}
SetsPen (drawing_mode mode) = Unit {0}
SetsPen (pen_place at) = Unit {0}
SetsPen (origin at) = Unit {0}
SetsPen (clipping rects) = Unit {0}

-- the same where a deed sets one
abbrev pub DeedHasPen : Deed → Type 0
DeedHasPen (draws figure) = Unit {0}
DeedHasPen (sets setting) = SetsPen setting
DeedHasPen (colors color) = Unit {0}
DeedHasPen saves = Unit {0}
DeedHasPen restores = Unit {0}
DeedHasPen (copies source target) = Unit {0}
DeedHasPen (invalidates r) = Unit {0}

-- the same of an effect
abbrev pub HasPen : Effect → Type 0
HasPen (at_view v deed) = DeedHasPen deed
HasPen (changes change) = Unit {0}
HasPen ends_update = Unit {0}

-- ---- at a window

-- the outcome of an effect at a view is the machine's, and the end of an update is done
abbrev pub ComesOf : List Picture → Point → Tree → Pane → Effect → Outcome → Type 0
ComesOf pictures corner tree kept (at_view v deed) outcome =
    outcome ≡ outcome_at pictures deed (sight_of corner tree kept v)
ComesOf pictures corner tree kept (changes change) outcome = Unit {0}
ComesOf pictures corner tree kept ends_update outcome = outcome ≡ Done

-- ---- by what the pane keeps

-- the outcome of a deed by the view's states, where the view is there
abbrev pub by_states : Option Stack → (Stack → Outcome) → Outcome
by_states (Some stack) outcome = outcome stack
by_states None outcome = NoView

-- the same by what the pane keeps of a view, where the pane's views are a tree
pub record IsJudgedBy (pane : code.Pane) (v : ℕ) (by : Stack → Outcome) (outcome : Outcome) : Type 0
  where
    pub tree : IsTree pane.tree
    pub comes : outcome ≡ by_states (slice_get pane.states.items v) by

-- the outcome of an effect
abbrev pub IsJudged : List Picture → code.Pane → Effect → Outcome → Type 0
IsJudged pictures pane (at_view v deed) outcome =
    IsJudgedBy pane v (λ stack. deed_outcome pictures stack deed) outcome
IsJudged pictures pane (changes change) outcome = Unit {0}
IsJudged pictures pane ends_update outcome = outcome ≡ Done

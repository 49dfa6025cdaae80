-- What is proved of histories that are checked. Each statement is the contract of a function in
-- src/laws.rt.
use Rattle.std.specs.Prelude.{◌≡◌, ◌⊎◌, ℕ, ℤ, ◌≤◌, ◌-◌, List, length, take}
use Rattle.be_machine.specs.History.{IsFinished, state_after}
use Rattle.be_machine.specs.Pixels.{color_at}
use Rattle.be_machine.specs.declared.Entry.{Entry}
use Rattle.be_script.specs.Script.{Declared}
use Rattle.be_check.specs.Checking.{IsIllegalAt}
use Rattle.be_check.specs.Explaining.{last_change}

-- ---- finished or illegal

-- each history is finished, or illegal at one of its entries or at the one behind them
abbrev pub FinishedOrIllegal : Type 0
FinishedOrIllegal =
    (d : Declared) (h : List Entry) → IsFinished d h ⊎ ((number : ℕ) × IsIllegalAt d h number)

abbrev pub NotBoth : Type 0
NotBoth =
    (d : Declared) (h : List Entry) (number : ℕ) → IsIllegalAt d h number → ¬ IsFinished d h

-- at one alone
abbrev pub OneAlone : Type 0
OneAlone =
    (d : Declared) (h : List Entry) (one other : ℕ)
    → IsIllegalAt d h one → IsIllegalAt d h other → one ≡ other

-- ---- the entry that explains a pixel

-- it changed the pixel's colour
abbrev pub ItChanged : Type 0
ItChanged =
    (d : Declared) (h : List Entry) (x y : ℤ) → 1 ≤ last_change d h x y
    → ¬ (color_at (state_after d (take (last_change d h x y) h)) x y
    ≡ color_at (state_after d (take (last_change d h x y - 1) h)) x y)

-- none behind it did, nor any where there is none
abbrev pub NoneBehind : Type 0
NoneBehind =
    (d : Declared) (h : List Entry) (x y : ℤ) (k : ℕ) → last_change d h x y ≤ k → k ≤ length h
    → color_at (state_after d (take k h)) x y ≡ color_at (state_after d h) x y

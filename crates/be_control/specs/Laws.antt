-- The rule of buttons said with two letters, and that it is the same.
use Rattle.std.specs.Prelude.{◌≡◌, ◌↔◌, true, false, List, ◌∷◌, ◌++◌}
use Rattle.std.specs.List.{list_any}
use Rattle.be_geom.specs.declared.rect.Rect.{Rect}
use Rattle.be_control.specs.Buttons.{Heard, is_press, is_release, breaks, invokes}

-- a letter behind these invokes the button: it is a release, some earlier one is a press, and
-- nothing between them breaks it
pub record Invokes (bounds : Rect) (before : List Heard) (h : Heard) : Type 0 where
  pub earlier : List Heard
  pub press : Heard
  pub between : List Heard
  pub parts : before ≡ earlier ++ press ∷ between
  pub pressed : is_press bounds press ≡ true
  pub unbroken : list_any breaks between ≡ false
  pub released : is_release bounds h ≡ true

-- the rule that goes through the letters one by one says the same
abbrev pub SaidWithTwo : Type 0
SaidWithTwo =
    (bounds : Rect) (before : List Heard) (h : Heard)
    → ((invokes bounds before h ≡ true) ↔ Invokes bounds before h)

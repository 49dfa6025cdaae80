-- What a letter is to a button by itself (this project's own).
use Rattle.std.specs.Prelude.{◌≡◌, true, false}
use Rattle.be_geom.specs.declared.rect.Rect.{Rect}
use Rattle.be_control.specs.Buttons.{Heard, breaks, is_press, is_release}
use Rattle.be_control.specs.declared.button.Letter.{Letter}
use Rattle.be_control.specs.declared.button.Letter.TheVariants.{Press, Release, Break, Other}

abbrev pub IsLetter : Rect → Heard → Letter → Type 0
IsLetter bounds h Press = is_press bounds h ≡ true
IsLetter bounds h Release =
    (is_press bounds h ≡ false) × (is_release bounds h ≡ true) × (breaks h ≡ true)
IsLetter bounds h Break =
    (is_press bounds h ≡ false) × (is_release bounds h ≡ false) × (breaks h ≡ true)
IsLetter bounds h Other =
    (is_press bounds h ≡ false) × (is_release bounds h ≡ false) × (breaks h ≡ false)

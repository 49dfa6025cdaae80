use Rattle.std.specs.Prelude.{ℕ, ◌+◌, ◌-◌, ◌/◌, ◌==◌, ◌&&◌, Bool, true, false, min, max}
use Rattle.std.specs.Prelude.{if◌then◌else◌}
use Rattle.be_color.specs.declared.colors.Color.{Color}
use Rattle.be_color.specs.declared.colors.Color.TheVariants.{Solid, Clear}
use Rattle.be_color.specs.declared.colors.Rgb.{Rgb}
use Rattle.be_color.specs.declared.modes.Mode.{Mode}
use Rattle.be_color.specs.declared.modes.Mode.TheVariants.{Copy, Over, Erase, Invert, Add, Subtract}
use Rattle.be_color.specs.declared.modes.Mode.TheVariants.{Blend, Min, Max, Select}

-- These rules are this project's own. The Be Book has the names of the modes.

-- the colour that a bit of a pattern chooses: 1 is high; 0 is low in Copy, and transparent in every
-- other mode
abbrev pub picked : Mode → Bool → Color → Color → Color
picked mode true high low = high
picked Copy false high low = low
picked mode false high low = Clear

-- the colour each of whose components is this function of a source's and a pixel's
abbrev pub by_component : (ℕ → ℕ → ℕ) → Rgb → Rgb → Rgb
by_component f s d = record {
  red = f s.red d.red;
  green = f s.green d.green;
  blue = f s.blue d.blue;
}

-- whether a pixel has just this colour: no pixel has the transparent one
abbrev pub has_color : Rgb → Color → Bool
has_color d (Solid c) = (d.red == c.red) && (d.green == c.green) && (d.blue == c.blue)
has_color d Clear = false

-- low on a pixel that is high, high on one that is low, and any other as it is; where high is low
-- the two agree
abbrev pub selected : Rgb → Color → Color → Color
selected d high low =
    if has_color d high then low else (if has_color d low then high else Solid d)

-- what a mode paints with the source s on the pixel d: by component, but for Select, which takes
-- whole colours
abbrev pub drawn : Mode → Rgb → Rgb → Color → Color → Color
drawn Copy s d high low = Solid s
drawn Over s d high low = Solid s
drawn Erase s d high low = low
drawn Invert s d high low = Solid (by_component (λ s d. 255 - d) s d)
drawn Add s d high low = Solid (by_component (λ s d. min 255 (d + s)) s d)
drawn Subtract s d high low = Solid (by_component (λ s d. d - s) s d)
drawn Blend s d high low = Solid (by_component (λ s d. (s + d) / 2) s d)
drawn Min s d high low = Solid (by_component min s d)
drawn Max s d high low = Solid (by_component max s d)
drawn Select s d high low = selected d high low

-- what a pixel shows once a colour is laid on it: a transparent one leaves it
abbrev pub laid_on : Color → Rgb → Rgb
laid_on (Solid c) d = c
laid_on Clear d = d

-- the new colour of a pixel d: a transparent source leaves it in every mode, and so does a mode
-- that paints nothing
abbrev pub blended : Mode → Color → Rgb → Color → Color → Rgb
blended mode Clear d high low = d
blended mode (Solid s) d high low = laid_on (drawn mode s d high low) d

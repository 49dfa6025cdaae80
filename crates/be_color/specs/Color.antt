use Rattle.std.specs.Prelude.{ℕ}
use Rattle.be_color.specs.declared.colors.Color.{Color}
use Rattle.be_color.specs.declared.colors.Color.TheVariants.{Solid, Clear}

-- the red, green, blue and alpha of a colour: alpha is 255, and transparent is 777477 with alpha 0
-- (The Be Book's)
abbrev pub rgba_of : Color → ℕ × ℕ × ℕ × ℕ
rgba_of (Solid c) = (c.red, c.green, c.blue, 255)
rgba_of Clear = (0x77, 0x74, 0x77, 0)

-- Whole coordinates and their range (this project's own; The Be Book has floats).
use Rattle.std.specs.Prelude.{ℤ, Bool, pos, negsuc, ◌&&◌, int_le}

-- the number is neither below low nor above high
unfoldable pub between : ℤ → ℤ → ℤ → Bool
between low z high = int_le low z && int_le z high

-- a coordinate lies in -32768 to 32767
abbrev pub in_range : ℤ → Bool
in_range z = between (negsuc 32767) z (pos 32767)

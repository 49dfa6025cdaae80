-- The names of the activities of windows, two for each.
use Rattle.std.proofs.Common.{◌≡◌, ℕ, ◌*◌, List, [], ◌∷◌, length, map, flat_map, arith}
use Rattle.be_script.specs.declared.WindowLine.{WindowLine}
use Rattle.be_written.specs.Names.{window_actors}

abbrev pub names_of : List WindowLine → List (List ℕ)
names_of lines = map (λ line. line.name) lines

pub length_windows : (lines : List WindowLine) → length (flat_map window_actors lines) ≡ 2 * length lines
length_windows [] = omega arith
length_windows (line ∷ lines) = let rest = length_windows lines in omega arith

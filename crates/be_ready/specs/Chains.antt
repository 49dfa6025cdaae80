-- How messages find their handlers in the windows of a script.
use Rattle.std.specs.Prelude.{List, length, map}
use Rattle.std.specs.List.{range_with_len}
use Rattle.be_handler.specs.Routes.{Chain}
use Rattle.be_script.specs.Script.{Declared}
use Rattle.be_script.specs.Windows.{chain_of}

-- in each window, in order
abbrev pub chains_of : Declared → List Chain
chains_of d = map (chain_of d) (range_with_len 0 (length d.windows))

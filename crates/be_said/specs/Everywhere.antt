-- A name that the commands of each window may use (this project's own).
use Rattle.std.specs.Prelude.{ℕ, List, [], ◌∷◌, ◌++◌}
use Rattle.be_said.specs.declared.inside.Inside.{Inside}

abbrev pub with_bitmap : List ℕ → Inside → Inside
with_bitmap name inside =
    record inside { names = record inside.names { bitmaps = inside.names.bitmaps ++ name ∷ [] } }

abbrev pub with_window : List ℕ → Inside → Inside
with_window name inside =
    record inside { names = record inside.names { windows = inside.names.windows ++ name ∷ [] } }

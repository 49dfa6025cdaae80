-- The clips of a view's states, where the view's left top is at a corner of the screen.
use Rattle.std.specs.Prelude.{ℕ, ℤ, ◌-ℤ◌, Bool, take}
use Rattle.std.specs.List.{list_all}
use Rattle.be_state.specs.Stacks.{Stack, allows, clip_has, from_oldest}
use Rattle.be_descent.specs.declared.way.Way.{Way}

-- every clip holds the pixel of the screen
abbrev pub states_allow : Stack → Way → ℤ → ℤ → Bool
states_allow stack corner x y = allows stack (x -ℤ corner.right) (y -ℤ corner.down)

-- the clips of the first states do, the oldest of which comes first
abbrev pub first_hold : Stack → ℕ → Way → ℤ → ℤ → Bool
first_hold stack count corner x y =
    list_all (λ layer. clip_has layer.clip (x -ℤ corner.right) (y -ℤ corner.down))
    (take count (from_oldest stack))

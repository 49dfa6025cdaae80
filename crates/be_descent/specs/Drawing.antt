-- On which pixels of the screen a view may draw. Whether the window owns a pixel is not asked,
-- since a buffer has no other cells (The Be Book: a view never draws outside itself, nor on its
-- children).
use Rattle.std.specs.Prelude.{ℤ, ◌-ℤ◌, Bool, ◌&&◌, option_map}
use Rattle.be_state.specs.Stacks.{clip_has}
use Rattle.be_descent.specs.declared.reach.Reach.{Reach}
use Rattle.be_descent.specs.Clips.{states_allow}
use Rattle.be_descent.specs.Fronts.{shows}

-- the session has the pixel, if there is one
abbrev pub is_open : Reach → ℤ → ℤ → Bool
is_open reach x y =
    clip_has (option_map (λ r. r.now) reach.session) (x -ℤ reach.window.x) (y -ℤ reach.window.y)

-- the view is at the pixel, and every clip and the session have it
abbrev pub may_draw : Reach → ℤ → ℤ → Bool
may_draw reach x y =
    shows reach.tree.now reach.view reach.window x y
    && (states_allow reach.states.now reach.corner x y && is_open reach x y)

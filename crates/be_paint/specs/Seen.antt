-- What the code's reach stands for, and what it says of a pixel of the screen (this project's own).
use Rattle.std.specs.Prelude.{◌≡◌, ℕ, ℤ, ◌+ℤ◌, ◌-ℤ◌, Option, Some}
use Rattle.std.specs.Prelude.{option_map}
use Rattle.be_descent.specs.declared.way.Way.{Way}
use Rattle.be_geom.specs.Places.{at_pixel, IsNear}
use Rattle.be_region.specs.Sessions.{SameSession}
use Rattle.be_state.specs.Stacks.{base_of}
use Rattle.be_views.specs.Trees.{place_of}
use Rattle.be_views.specs.Pixels.{view_at}
use Rattle.be_paint.specs.Reach as reach
use Rattle.be_paint.specs.declared.reach.Reach.{Reach}
use Rattle.be_paint.specs.declared.reach.Site.{Site}

-- ---- what it stands for

-- the same window, view, place, tree and states, and a session of the same pixels
pub record IsSeenAs (given : Reach) (seen : reach.Reach) : Type 0 where
  pub window : seen.window ≡ given.window
  pub place : place_of given.tree.now given.view ≡ Some seen.place
  pub tree : seen.tree ≡ given.tree.now
  pub view : seen.view ≡ given.view
  pub stack : seen.stack ≡ given.states.now
  pub session : SameSession (option_map (λ r. r.now) given.session) seen.session

-- ---- what it says of a pixel

-- the view at it
abbrev pub view_on : Reach → ℤ → ℤ → Option ℕ
view_on given x y = view_at given.tree.now (x -ℤ given.window.x) (y -ℤ given.window.y)

-- as far from the window's left top as 32 frames can be
abbrev pub IsPlace : Way → Type 0
IsPlace place = IsNear 32 place.right × IsNear 32 place.down

-- ---- where it draws

-- where the view's left top is in the window, and from which pixel of the screen its drawing counts
pub record IsSite (given : Reach) (site : Site) : Type 0 where
  pub place : place_of given.tree.now given.view ≡ Some (at_pixel site.view.right site.view.down)
  pub across : site.origin.right
      ≡ given.window.x +ℤ site.view.right +ℤ (base_of given.states.now).x
  pub down : site.origin.down ≡ given.window.y +ℤ site.view.down +ℤ (base_of given.states.now).y

-- as far from the screen's left top as all of these together can be
abbrev pub IsOrigin : Way → Type 0
IsOrigin origin = IsNear 60 origin.right × IsNear 60 origin.down

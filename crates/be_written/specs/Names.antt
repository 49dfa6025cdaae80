-- The names by which a report speaks of what a script declares (this project's own).
use Rattle.std.specs.Prelude.{ℕ, List, [], ◌∷◌, ◌++◌, map, flat_map, slice_index_or, codes}
use Rattle.be_message.specs.declared.target.Target.{Target}
use Rattle.be_message.specs.declared.target.Target.TheVariants as target
use Rattle.be_script.specs.Limits.{plain_lines}
use Rattle.be_script.specs.Script.{Declared}
use Rattle.be_script.specs.Windows.{view_lines}
use Rattle.be_script.specs.declared.WindowLine.{WindowLine}

-- ---- what is declared

abbrev pub window_names : Declared → List (List ℕ)
window_names d = map (λ line. line.name) d.windows

abbrev pub window_name : Declared → ℕ → List ℕ
window_name d w = slice_index_or (window_names d) w []

abbrev pub app_names : Declared → List (List ℕ)
app_names d = map (λ line. line.name) d.apps

abbrev pub app_name : Declared → ℕ → List ℕ
app_name d m = slice_index_or (app_names d) m []

-- the views of a window, the root's first
abbrev pub view_names : Declared → ℕ → List (List ℕ)
view_names d w = codes "root" ∷ map (λ line. line.name) (view_lines d w)

abbrev pub view_name : Declared → ℕ → ℕ → List ℕ
view_name d w v = slice_index_or (view_names d w) v []

abbrev pub plain_names : Declared → ℕ → List (List ℕ)
plain_names d w = map (λ line. line.name) (plain_lines d w)

-- a handler of a window
abbrev pub target_name : Declared → ℕ → Target → List ℕ
target_name d w target.Window = codes "window"
target_name d w (target.View v) = view_name d w v
target_name d w (target.Plain h) = slice_index_or (plain_names d w) h []

-- ---- activities

abbrev pub app_actor : List ℕ → List ℕ
app_actor name = codes "app:" ++ name

abbrev pub looper_actor : List ℕ → List ℕ
looper_actor name = codes "loop:" ++ name

abbrev pub twin_actor : List ℕ → List ℕ
twin_actor name = codes "twin:" ++ name

-- a window's two
abbrev pub window_actors : WindowLine → List (List ℕ)
window_actors line = looper_actor line.name ∷ twin_actor line.name ∷ []

-- input, and the one that closes
abbrev pub last_actors : List (List ℕ)
last_actors = codes "input" ∷ codes "stop" ∷ []

-- all of them, by their numbers
unfoldable pub actor_names : Declared → List (List ℕ)
actor_names d = map app_actor (app_names d) ++ flat_map window_actors d.windows ++ last_actors

abbrev pub actor_name : Declared → ℕ → List ℕ
actor_name d a = slice_index_or (actor_names d) a []

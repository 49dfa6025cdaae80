-- What the code keeps of each window beside the lists (this project's own).
use Rattle.std.specs.Prelude.{◌≡◌, ℕ, ◌+◌, ◌*◌, ◌==◌, ◌<◌, ◌≤◌, ◌&&◌, ◌||◌, Bool, true, false}
use Rattle.std.specs.Prelude.{if◌then◌else◌, List, [], ◌∷◌, codes, filter, length, map, take, Some}
use Rattle.std.specs.Prelude.{None, slice_get}
use Rattle.std.specs.List.{list_any, range_with_len}
use Rattle.be_color.specs.declared.colors.Color.{Color}
use Rattle.be_handler.specs.Growth.{with_new_body}
use Rattle.be_handler.specs.Routes.{Chain}
use Rattle.be_said.specs.declared.inside.Inside.{Inside}
use Rattle.be_said.specs.Fits.{IsNew}
use Rattle.be_said.specs.Judging.{depths_of}
use Rattle.be_said.specs.SoFar.{SoFar, Begun, nothing, bitmap, handler_body, draw_body, program}
use Rattle.be_said.specs.SoFar.{app_names, bitmap_names, declared_in, known_in, plain_in}
use Rattle.be_said.specs.SoFar.{plain_names, views_in, window_names, window_of}
use Rattle.be_script.specs.Windows.{chain_of}

-- the chain of a window with the body that was begun: the code has it there before the lists have
-- it
abbrev pub with_begun : Begun → ℕ → Chain → Chain
with_begun nothing w c = c
with_begun (bitmap name width height colors) w c = c
with_begun (handler_body v target what steps) w c =
    if v == w then with_new_body c target what else c
with_begun (draw_body u v steps) w c = c
with_begun (program name lock steps) w c = c

-- the Draw body of this view of a window was begun
abbrev pub is_drawn_by : Begun → ℕ → ℕ → Bool
is_drawn_by nothing w v = false
is_drawn_by (bitmap name width height colors) w v = false
is_drawn_by (handler_body u target what steps) w v = false
is_drawn_by (draw_body u t steps) w v = u == w && t == v
is_drawn_by (program name lock steps) w v = false

-- the view has a Draw body, or it was begun
abbrev pub is_drawn : SoFar → ℕ → ℕ → Bool
is_drawn said w v =
    list_any (λ line. line.window == w && line.view == v) said.draws || is_drawn_by said.begun w v

-- what is kept of a window; the size of the screen is of no account to its chain
pub record IsInside (said : SoFar) (w : ℕ) (inside : Inside) : Type 0 where
  pub names : inside.names ≡ known_in said (Some w)
  pub plain : inside.plain.items ≡ plain_names said (Some w)
  pub few_plain : length inside.plain.items ≤ 16
  pub depths : inside.depths.items ≡ depths_of (views_in said w)
  pub chain : inside.chain ≡ with_begun said.begun w (chain_of (declared_in said (0, 0)) w)
  pub draws : inside.draws.items
      ≡ map (is_drawn said w) (range_with_len 0 (length inside.depths.items))

-- each of these names was new where it was declared
abbrev pub AreNew : List (List ℕ) → Type 0
AreNew names = (k : ℕ) (name : List ℕ) → slice_get names k ≡ Some name → IsNew (take k names) name

-- what is begun can be closed: there is room for it, its name is new, and a bitmap has whole rows,
-- and not all of them
abbrev pub CanClose : SoFar → Begun → Type 0
CanClose said nothing = Unit {0}
CanClose said (bitmap name width height colors) =
    (length said.bitmaps < 64) × IsNew (bitmap_names said) name × (width ≤ 256) × (height ≤ 256)
    × ((rows : ℕ) × ((rows < height) × (length colors ≡ rows * width)))
CanClose said (handler_body w target what steps) = Unit {0}
CanClose said (draw_body w v steps) = Unit {0}
CanClose said (program name lock steps) = (length said.apps < 16) × IsNew (app_names said) name

-- nothing is begun, and a bitmap with these whole rows may be
abbrev pub HasRows : SoFar → List ℕ → ℕ → ℕ → List Color → Type 0
HasRows said name width height colors =
    (said.begun ≡ nothing) × (length said.bitmaps < 64) × IsNew (bitmap_names said) name
    × (width ≤ 256) × (height ≤ 256)
    × ((rows : ℕ) × ((rows ≤ height) × (length colors ≡ rows * width)))

-- what is kept of a window as it is declared
pub record IsOpened (windows bitmaps : List (List ℕ)) (inside : Inside) : Type 0 where
  pub names : inside.names ≡ record {
    windows = windows;
    views = codes "root" ∷ [];
    bitmaps = bitmaps;
  }
  pub plain : inside.plain.items ≡ []
  pub depths : inside.depths.items ≡ 1 ∷ []
  pub chain : inside.chain ≡ record { parents = None ∷ []; nexts = []; filters = []; bodies = [] }
  pub draws : inside.draws.items ≡ false ∷ []

-- what is kept of all windows: of each that is there, and no line is of another
pub record AreInside (said : SoFar) (insides : List Inside) : Type 0 where
  pub count : length insides ≡ length said.windows
  pub small_screen : (size : ℕ × ℕ) → said.screen ≡ Some size → (size.0 ≤ 1024) × (size.1 ≤ 768)
  pub few_windows : length said.windows ≤ 32
  pub few_apps : length said.apps ≤ 16
  pub each : (w : ℕ) (inside : Inside) → slice_get insides w ≡ Some inside → IsInside said w inside
  pub no_views : (w : ℕ) → slice_get insides w ≡ None → views_in said w ≡ []
  pub no_plain : (w : ℕ) → slice_get insides w ≡ None → plain_in said w ≡ []
  pub begun_there : (w : ℕ) → window_of said.begun ≡ Some w → w < length insides
  pub few_bitmaps : length said.bitmaps ≤ 64
  pub new_windows : AreNew (window_names said)
  pub new_bitmaps : AreNew (bitmap_names said)
  pub no_filters : (w : ℕ) → slice_get insides w ≡ None
      → filter (λ line. line.window == w) said.filters ≡ []
  pub no_bodies : (w : ℕ) → slice_get insides w ≡ None
      → filter (λ line. line.window == w) said.bodies ≡ []
  pub drawn_there : (w v : ℕ) → is_drawn said w v ≡ true
      → (w < length insides) × (v < length (views_in said w) + 1)
  pub can_close : CanClose said said.begun

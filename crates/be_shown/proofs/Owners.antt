-- A pixel shows what the slice of its owner has, and where no slice has it the desktop.
use Rattle.std.proofs.Common.{◌≡◌, ℕ, zero, suc, ◌+◌, ◌<◌, Bool, true, false, List, [], ◌∷◌, ◌++◌, map, length, Option, Some, None, refl, sym, ap, ◌∙◌, subst, arith}
use Rattle.std.specs.Prelude.{ℤ, slice_get, option_map, if◌then◌else◌}
use Rattle.std.specs.List.{range_with_len}
use Rattle.std.proofs.lemmas.Option.{same_Some}
use Rattle.be_facts.proofs.Lists.{get_map, get_range}
use Rattle.be_script.specs.Script.{Declared}
use Rattle.be_span.specs.Cells.{desktop_cell}
use Rattle.be_span.specs.declared.Cell.{Cell}
use Rattle.be_machine.specs.Pixels.{owner_in, pixel_at}
use Rattle.be_machine.specs.State.{State}
use Rattle.be_machine.specs.Touched.{Part}
use Rattle.be_machine.specs.Touched as part
use Rattle.be_machine.specs.Windows.{width_of, owned}
use Rattle.be_machine.proofs.ReadsDirt.{is_owned}
use Rattle.be_rules.specs.Rules.{IsSound}
use Rattle.be_rules.specs.Slices.{Slice, all_parts, slice_of}
use Rattle.be_rules.proofs.Cut.{owner_there}
use Rattle.be_rules.proofs.Lawfully.{state, whole}
use Rattle.be_rules.proofs.Looks.{look_own}
use Rattle.be_shown.specs.Pixels.{pixel_in}

-- ---- lists

pub from_map : {X Y : Type 0} (f : X → Y) (xs : List X) (k : ℕ) (y : Y) → slice_get (map f xs) k ≡ Some y → (x : X) × (slice_get xs k ≡ Some x) × (y ≡ f x)
from_map f [] k y e = absurd (cc)
from_map f (x ∷ xs) zero y e = (x, refl, sym (same_Some (f x) y e))
from_map f (x ∷ xs) (suc k) y e = from_map f xs k y e

-- it stands at some place
abbrev Stands : {X : Type 0} → List X → X → Type 0
Stands xs x = (k : ℕ) × (slice_get xs k ≡ Some x)

behind : {X : Type 0} (xs ys : List X) (x : X) → Stands ys x → Stands (xs ++ ys) x
behind [] ys x h = h
behind (z ∷ xs) ys x h = let rest = behind xs ys x h in (suc rest.0, rest.1)

later : {X : Type 0} (z : X) (xs : List X) (x : X) → Stands xs x → Stands (z ∷ xs) x
later z xs x h = (suc h.0, h.1)

pane_stands : (n u : ℕ) → u < n → Stands (map part.pane (range_with_len 0 n)) (part.pane u)
pane_stands n u lt =
    let same : 0 + u ≡ u = omega arith in
    (u, get_map part.pane (range_with_len 0 n) u u (get_range 0 n u lt ∙ ap Some same))

-- the parts from each kind on
abbrev from_panes : Declared → List Part
from_panes d = map part.pane (range_with_len 0 (length d.windows))

abbrev from_links : Declared → List Part
from_links d = map part.link (range_with_len 0 (length d.windows)) ++ from_panes d

abbrev from_ports : Declared → List Part
from_ports d = map part.port (range_with_len 0 (length d.windows)) ++ from_links d

abbrev from_loopers : Declared → List Part
from_loopers d = map part.looper (range_with_len 0 (length d.windows)) ++ from_ports d

abbrev from_cells : Declared → List Part
from_cells d = map part.cell (range_with_len 0 (length d.apps)) ++ from_loopers d

pane_is_part : (d : Declared) (u : ℕ) → u < length d.windows → Stands (all_parts d) (part.pane u)
pane_is_part d u lt =
    let p : Part = part.pane u in
    let panes : Stands (from_panes d) p = pane_stands (length d.windows) u lt in
    let links : Stands (from_links d) p = behind (map part.link (range_with_len 0 (length d.windows))) (from_panes d) p panes in
    let ports : Stands (from_ports d) p = behind (map part.port (range_with_len 0 (length d.windows))) (from_links d) p links in
    let loopers : Stands (from_loopers d) p = behind (map part.looper (range_with_len 0 (length d.windows))) (from_ports d) p ports in
    let cells : Stands (from_cells d) p = behind (map part.cell (range_with_len 0 (length d.apps))) (from_loopers d) p loopers in
    later part.desk (part.input ∷ from_cells d) p (later part.input (from_cells d) p cells)

-- ---- one slice

shown_if : (b : Bool) (o : Option Cell) (c : Cell) → (if b then o else None) ≡ Some c → o ≡ Some c
shown_if true o c e = e
shown_if false o c e = absurd (cc)

pixel_of : (s : State) (p : Part) (x y : ℤ) (c : Cell) → pixel_in (slice_of s p) x y ≡ Some c → pixel_at s x y ≡ Some c
pixel_of s part.desk x y c e = absurd (cc)
pixel_of s part.input x y c e = absurd (cc)
pixel_of s (part.cell m) x y c e = absurd (cc)
pixel_of s (part.looper w) x y c e = absurd (cc)
pixel_of s (part.port w) x y c e = absurd (cc)
pixel_of s (part.link w) x y c e = absurd (cc)
pixel_of s (part.pane w) x y c e = shown_if (owned s w x y) (pixel_at s x y) c (sym (look_own (width_of s) (owned s w) s.screen x y) ∙ e)

-- ---- a sound list

module _ (d : Declared) (all : List Slice) (sound : IsSound d all) where
  abbrev s : State
  s = state d all sound

  -- the screen has what any slice has
  pub on_screen : (k : ℕ) (slice : Slice) (x y : ℤ) (c : Cell) → slice_get all k ≡ Some slice → pixel_in slice x y ≡ Some c → pixel_at (state d all sound) x y ≡ Some c
  on_screen k slice x y c there e =
      let found = from_map (slice_of s) (all_parts d) k slice (ap (λ l. slice_get l k) (sym sound.is) ∙ there) in
      pixel_of s found.0 x y c (ap (λ z. pixel_in z x y) (sym found.2) ∙ e)

  -- the slice of an owner has the pixel
  pub owner_shows : (u : ℕ) (x y : ℤ) (c : Cell) → owner_in s x y ≡ Some u → pixel_at s x y ≡ Some c → pixel_in (slice_of s (part.pane u)) x y ≡ Some c
  owner_shows u x y c owner e = look_own (width_of s) (owned s u) s.screen x y ∙ rw (is_owned s u x y owner) e

  pub owner_stands : (u : ℕ) (x y : ℤ) → owner_in s x y ≡ Some u → Stands all (slice_of s (part.pane u))
  owner_stands u x y owner =
      let lt : u < length d.windows = subst (λ n. u < n) (whole d all sound).parts.windows (owner_there s.desk.windows x y u owner) in
      let at = pane_is_part d u lt in
      (at.0, ap (λ l. slice_get l at.0) sound.is ∙ get_map (slice_of s) (all_parts d) at.0 (part.pane u) at.1)

  desktop_by : (o : Option ℕ) (x y : ℤ) (c : Cell) → owner_in s x y ≡ o → ((k : ℕ) (slice : Slice) → slice_get all k ≡ Some slice → pixel_in slice x y ≡ None) → pixel_at s x y ≡ Some c → c ≡ desktop_cell
  desktop_by (Some u) x y c owner none e =
      let there = owner_stands u x y owner in
      let shows : pixel_in (slice_of s (part.pane u)) x y ≡ Some c = owner_shows u x y c owner e in
      let hidden : pixel_in (slice_of s (part.pane u)) x y ≡ None = none there.0 (slice_of s (part.pane u)) there.1 in
      absurd (cc)
  desktop_by None x y c owner none e =
      same_Some c desktop_cell (sym e ∙ (whole d all sound).desktop x y owner ∙ ap (option_map (λ _. desktop_cell)) e)

  -- where no slice has a pixel of the screen it shows the desktop
  pub desktop_there : (x y : ℤ) (c : Cell) → ((k : ℕ) (slice : Slice) → slice_get all k ≡ Some slice → pixel_in slice x y ≡ None) → pixel_at (state d all sound) x y ≡ Some c → c ≡ desktop_cell
  desktop_there x y c none e = desktop_by (owner_in s x y) x y c refl none e

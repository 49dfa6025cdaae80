-- What a row of a told screen has, by what its parts have.
use Rattle.std.proofs.Common.{◌≡◌, ℕ, Bool, true, false, ◌+◌, ◌*◌, ◌<◌, ◌≤◌, List, map, length, take, Some, None, refl, sym, ap, ◌∙◌, subst, arith, replicate, get_or}
use Rattle.std.specs.Prelude.{nat_lt, slice_get, pos}
use Rattle.std.proofs.lemmas.Bool.Decides.{nat_tests}
use Rattle.std.proofs.lemmas.List.{length-replicate, take-replicate, get_or-replicate}
use Rattle.std.proofs.lemmas.Option.{same_Some, slice_get-get_or}
use Rattle.be_facts.proofs.Lists.{get_map}
use Rattle.be_parts.specs.declared.part.Part.{Part}
use Rattle.be_parts.specs.Parts.{meaning_of}
use Rattle.be_rules.proofs.ListLemmas.{there_below}
use Rattle.be_script.specs.Script.{Declared}
use Rattle.be_span.specs.Cells.{desktop_cell}
use Rattle.be_span.specs.declared.Cell.{Cell}
use Rattle.be_written.specs.Screens.{AreCellsOf}
use Rattle.be_shown.specs.Pixels.{HasCells, HasNone, pixel_in}
use Rattle.be_shown.specs.Standing.{IsTold, ScreenCells, screen_of}
use Rattle.be_shown.proofs.Owners.{from_map}
use Rattle.be_shown.proofs.Rows.{cells_are, cells_within, desktop_is, further}

-- a part at its place
pub part_there : (parts : List Part) (k : ℕ) (part : Part) → k < length parts → part ≡ get_or parts k part → slice_get parts k ≡ Some part
part_there parts k part lt is = slice_get-get_or parts k part lt ∙ ap Some (sym is)

none_by : (b : Bool) (parts : List Part) (i k : ℕ) (part p : Part) (x y count free less j : ℕ) → nat_lt k i ≡ b → slice_get parts i ≡ Some part → less ≤ count → less ≤ free → HasNone (meaning_of part) x y free → (k < i → HasNone (meaning_of p) x y count) → k < i + 1 → slice_get parts k ≡ Some p → j < less → pixel_in (meaning_of p) (pos (x + j)) (pos y) ≡ None
none_by true parts i k part p x y count free less j test there few fewer has before lt at below = before (grind (arith, nat_tests)) j (omega arith)
none_by false parts i k part p x y count free less j test there few fewer has before lt at below =
    let same : k ≡ i = grind (arith, nat_tests) in
    let is : p ≡ part = same_Some p part (sym at ∙ ap (slice_get parts) same ∙ there) in
    ap (λ q. pixel_in (meaning_of q) (pos (x + j)) (pos y)) is ∙ has j (omega arith)

-- one part more has none of the pixels
pub none_more : (parts : List Part) (i : ℕ) (part : Part) (x y count free less : ℕ) → slice_get parts i ≡ Some part → less ≤ count → less ≤ free → HasNone (meaning_of part) x y free → ((k : ℕ) (p : Part) → k < i → slice_get parts k ≡ Some p → HasNone (meaning_of p) x y count) → (k : ℕ) (p : Part) → k < i + 1 → slice_get parts k ≡ Some p → HasNone (meaning_of p) x y less
none_more parts i part x y count free less there few fewer has before k p lt at j below = none_by (nat_lt k i) parts i k part p x y count free less j refl there few fewer has (λ small. before k p small at) lt at below

module _ (d : Declared) (parts : List Part) (desktop : List Cell) (told : IsTold d parts desktop) (v : ScreenCells) (is : v ≡ screen_of d (map meaning_of parts)) where
  pub part_within : (k : ℕ) (part : Part) (x y : ℕ) (cells : List Cell) → slice_get parts k ≡ Some part → x < v.across → HasCells (meaning_of part) x y cells → x + length cells ≤ v.across
  part_within k part x y cells there inside has =
      let wide : v.across ≡ d.width = ap (λ z. z.across) is in
      subst (λ n. x + length cells ≤ n) (sym wide) (cells_within d (map meaning_of parts) told.sound k (meaning_of part) x y cells (subst (λ n. x < n) wide inside) (get_map meaning_of parts k part there) has)

  pub part_cells : (k : ℕ) (part : Part) (x y : ℕ) (cells : List Cell) → slice_get parts k ≡ Some part → HasCells (meaning_of part) x y cells → AreCellsOf v.cells (y * v.across + x) cells
  part_cells k part x y cells there has j lt =
      ap (λ z. slice_get z.cells (y * z.across + x + j)) is
      ∙ cells_are d (map meaning_of parts) told.sound k (meaning_of part) x y cells (get_map meaning_of parts k part there) has j lt

  -- so many of the row of desktop
  pub desktop_long : (n : ℕ) → n ≤ v.across → length (take n desktop) ≡ n
  desktop_long n few =
      let narrow : n ≤ d.width = subst (λ m. n ≤ m) (ap (λ z. z.across) is) few in
      ap (λ l. length (take n l)) told.desktop_is ∙ ap length (take-replicate n d.width desktop_cell narrow) ∙ length-replicate n desktop_cell

  pub desktop_cells : (x y n : ℕ) → y < v.down → x + n ≤ v.across → ((k : ℕ) (part : Part) → k < length parts → slice_get parts k ≡ Some part → HasNone (meaning_of part) x y n) → AreCellsOf v.cells (y * v.across + x) (take n desktop)
  desktop_cells x y n below few free j lt =
      let wide : v.across ≡ d.width = ap (λ z. z.across) is in
      let long : n ≤ v.across = omega arith in
      let narrow : n ≤ d.width = subst (λ m. n ≤ m) wide long in
      let small : j < n = subst (λ m. j < m) (desktop_long n long) lt in
      let within : x + n ≤ d.width = subst (λ m. x + n ≤ m) wide few in
      let inside : x + j < d.width = omega arith in
      let low : y < d.height = subst (λ m. y < m) (ap (λ z. z.down) is) below in
      let row : take n desktop ≡ replicate n desktop_cell = ap (take n) told.desktop_is ∙ take-replicate n d.width desktop_cell narrow in
      let filled : j < length (replicate n desktop_cell) = subst (λ m. j < m) (sym (length-replicate n desktop_cell)) small in
      ap (λ z. slice_get z.cells (y * z.across + x + j)) is
      ∙ ap (slice_get (screen_of d (map meaning_of parts)).cells) (further (y * d.width) x j)
      ∙ desktop_is d (map meaning_of parts) told.sound (x + j) y inside low (λ k slice at. let found = from_map meaning_of parts k slice at in ap (λ z. pixel_in z (pos (x + j)) (pos y)) found.2 ∙ free k found.0 (there_below parts k found.0 found.1) found.1 j small)
      ∙ sym (ap (λ l. slice_get l j) row ∙ slice_get-get_or (replicate n desktop_cell) j desktop_cell filled ∙ ap Some (get_or-replicate n j desktop_cell desktop_cell small))

-- The colours of a bitmap off the screen, row by row.
use Rattle.std.proofs.Common.{◌≡◌, ℕ, ◌+◌, ◌-◌, ◌*◌, ◌/◌, ◌%◌, ◌<◌, ◌≤◌, ℤ, pos}
use Rattle.std.proofs.Common.{◌+ℤ◌, ◌-ℤ◌}
use Rattle.std.proofs.Common.{true, List, ◌++◌, length, map, get_or, Some}
use Rattle.std.proofs.Common.{None, inl, inr, refl, sym, ap, ◌∙◌, subst, arith, take, drop}
use Rattle.std.specs.Prelude.{slice_get}
use Rattle.std.specs.List.{range_with_len}
use Rattle.std.proofs.lemmas.Bool.{and_parts, cases_lt}
use Rattle.std.proofs.lemmas.Int.{ints}
use Rattle.std.proofs.lemmas.List.{drop-append-le, drop_all, map-append, same_lists, take_all}
use Rattle.std.proofs.lemmas.List.FromFn.{get_or-map-range_with_len, length-map-range_with_len}
use Rattle.std.proofs.lemmas.List.FromFn.{take-map-range_with_len}
use Rattle.std.proofs.lemmas.Nat.{div-mul-add, mod-mul-add}
use Rattle.std.proofs.Math.Nat.{mul-le-mul_right}
use Rattle.std.proofs.lemmas.Option.{none-some, slice_get-get_or}
use Rattle.be_facts.proofs.Lists.{range_append}
use Rattle.be_color.specs.declared.colors.Color.{Color}
use Rattle.be_color.specs.declared.colors.Color.TheVariants.{Solid}
use Rattle.be_geom.specs.Points.{between}
use Rattle.be_geom.proofs.Between.{between_tells}
use Rattle.be_pane.specs.declared.pane.Pane as code
use Rattle.be_region.specs.Regions.{region_has}
use Rattle.be_span.specs.declared.Cell.{Cell}
use Rattle.be_span.specs.Runs.{HasRun}
use Rattle.be_span.specs.Spans.{Spans, cell_in}
use Rattle.be_picture.specs.OffScreens.{IsAtRest, IsRow, cells_of, or_black}
use Rattle.be_picture.proofs.Cells.{inside_side}

-- ---- as the buffer gives it

abbrev pub clause : Spans → List Cell → ℤ → Type 0
clause spans row y = (k : ℕ) → k < length row → cell_in spans (pos 0 +ℤ pos k) y ≡ slice_get row k

pub as_row : (spans : Spans) (y : ℕ) (row : List Cell) (z : ℤ) → z ≡ pos y
    → clause spans row z → cell_in spans (pos 0 +ℤ pos (length row)) z ≡ None
    → HasRun spans.rects (pos 0) z (length row) → IsRow spans y row
as_row spans y row z e cells ends run =
    let bare : (n : ℕ) → pos 0 +ℤ pos n ≡ pos n = λ n. (let same : 0 + n ≡ n = omega arith in ap pos same) in
    record {
      cells = λ k lt.
          ap (λ (x : ℤ). cell_in spans x (pos y)) (sym (bare k))
          ∙ ap (cell_in spans (pos 0 +ℤ pos k)) (sym e) ∙ cells k lt;
      ends =
          ap (λ (x : ℤ). cell_in spans x (pos y)) (sym (bare (length row)))
          ∙ ap (cell_in spans (pos 0 +ℤ pos (length row))) (sym e) ∙ ends;
      run = λ k lt.
          ap (λ (x : ℤ). region_has spans.rects x (pos y)) (sym (bare k))
          ∙ ap (region_has spans.rects (pos 0 +ℤ pos k)) (sym e) ∙ run k lt;
    }

-- ---- a row of cells

abbrev pub cell_number : ℕ → Spans → ℕ → Cell
cell_number w spans k = or_black (cell_in spans (pos (k % w)) (pos (k / w)))

has_column : (w h : ℕ) (pane : code.Pane) (y column : ℕ) → IsAtRest w h pane → y < h → column < w
    → region_has pane.spans.rects (pos column) (pos y) ≡ true
has_column w h pane y column rest below left =
    rest.shows.stands.pixels (pos column) (pos y)
    ∙ rw (inside_side w column left, inside_side h y below) refl

no_column : (w h : ℕ) (pane : code.Pane) (y column : ℕ) → IsAtRest w h pane → w ≤ column
    → region_has pane.spans.rects (pos column) (pos y) ≡ true → ⊥
no_column w h pane y column rest right has =
    let own = sym (rest.shows.stands.pixels (pos column) (pos y)) ∙ has in
    let across : between (pos 0) (pos column) (pos w -ℤ pos 1) ≡ true =
    (and_parts (between (pos 0) (pos column) (pos w -ℤ pos 1)) _ own).0 in
    grind (arith, ints, between_tells, rest.shows.sized.some_columns)

pub row_length : (w h : ℕ) (pane : code.Pane) (y : ℕ) (row : List Cell) → IsAtRest w h pane → y < h
    → IsRow pane.spans y row → length row ≡ w
row_length w h pane y row rest below r =
    elim (cases_lt (length row) w) [
      | inl few ↦
          let has = has_column w h pane y (length row) rest below few in
          let own = sym (rest.shows.stands.pixels (pos (length row)) (pos y)) ∙ has in
          let there = rest.shows.stands.shown (pos (length row)) (pos y) own in
          let gone : cell_in pane.spans (pos (length row)) (pos y) ≡ None = r.ends in
          absurd (none-some _ (sym gone ∙ there))
      | inr enough ↦
          elim (cases_lt w (length row)) [
            | inl more ↦
                absurd (no_column w h pane y w rest (omega arith) (r.run w more))
            | inr fits ↦ omega arith
          ]
    ]

pub row_is : (w h : ℕ) (pane : code.Pane) (y : ℕ) (row : List Cell) → IsAtRest w h pane → y < h
    → IsRow pane.spans y row
    → row ≡ map (cell_number w pane.spans) (range_with_len (y * w) w)
row_is w h pane y row rest below r =
    let len = row_length w h pane y row rest below r in
    let f = cell_number w pane.spans in
    same_lists row (map f (range_with_len (y * w) w))
    (len ∙ sym (length-map-range_with_len f (y * w) w)) (λ k d lt.
    let left : k < w = subst (λ (n : ℕ). k < n) len lt in
    let cell : cell_in pane.spans (pos k) (pos y) ≡ Some (get_or row k d) =
    r.cells k lt ∙ slice_get-get_or row k d lt in
    let is : f (y * w + k) ≡ get_or row k d =
    rw (mod-mul-add y w k left, div-mul-add y w k left) (ap or_black cell) in
    sym (get_or-map-range_with_len f (y * w) w k (y * w + k) d left refl ∙ is))

-- ---- the same of all cells

row_behind : (w h y more : ℕ) (spans : Spans) → w * h ≡ y * w + (w + more)
    → map (cell_number w spans) (range_with_len (y * w) w)
    ≡ take w (drop (y * w) (cells_of w h spans))
row_behind w h y more spans count =
    let f = cell_number w spans in
    let above : List Cell = map f (range_with_len 0 (y * w)) in
    let rest : List Cell = map f (range_with_len (y * w) (w + more)) in
    let at : 0 + y * w ≡ y * w = omega arith in
    let len : length above ≡ y * w = length-map-range_with_len f 0 (y * w) in
    let all : cells_of w h spans ≡ above ++ rest =
    ap (λ (n : ℕ). map f (range_with_len 0 n)) count
    ∙ ap (map f) (range_append 0 (y * w) (w + more)
    ∙ ap (λ (k : ℕ). range_with_len 0 (y * w) ++ range_with_len k (w + more)) at)
    ∙ map-append f (range_with_len 0 (y * w)) (range_with_len (y * w) (w + more)) in
    let behind : drop (y * w) (cells_of w h spans) ≡ rest =
    ap (drop (y * w)) all ∙ drop-append-le (y * w) above rest (omega (arith, len))
    ∙ ap (λ (cs : List Cell). cs ++ rest) (drop_all (y * w) above (omega (arith, len))) in
    sym (ap (take w) behind ∙ take-map-range_with_len f (y * w) (w + more) w (omega arith))

pub cells_in_row : (w h y : ℕ) (spans : Spans) → y < h
    → map (cell_number w spans) (range_with_len (y * w) w)
    ≡ take w (drop (y * w) (cells_of w h spans))
cells_in_row w h y spans below =
    let fits : (y + 1) * w ≤ h * w = mul-le-mul_right w (omega arith) in
    row_behind w h y (h * w - (y + 1) * w) spans (omega (arith, fits))

-- ---- rows one below the other

abbrev pub color_of : Cell → Color
color_of c = Solid c.rgb

first_rows : (w h n : ℕ) (spans : Spans) → n ≤ w * h
    → take n (cells_of w h spans) ≡ map (cell_number w spans) (range_with_len 0 n)
first_rows w h n spans few = take-map-range_with_len (cell_number w spans) 0 (w * h) n few

pub one_row_more : (w h : ℕ) (pane : code.Pane) (y : ℕ) (row : List Cell) → IsAtRest w h pane
    → y < h → IsRow pane.spans y row
    → map color_of (take (y * w) (cells_of w h pane.spans)) ++ map color_of row
    ≡ map color_of (take ((y + 1) * w) (cells_of w h pane.spans))
one_row_more w h pane y row rest below r =
    let f = cell_number w pane.spans in
    let all : (y + 1) * w ≤ h * w = mul-le-mul_right w (omega arith) in
    let few : y * w ≤ h * w = mul-le-mul_right w (omega arith) in
    let next : (y + 1) * w ≡ y * w + w = omega arith in
    let at : 0 + y * w ≡ y * w = omega arith in
    ap (λ (cs : List Cell). map color_of cs ++ map color_of row)
    (first_rows w h (y * w) pane.spans (omega (arith, few)))
    ∙ ap (λ (cs : List Cell). map color_of (map f (range_with_len 0 (y * w))) ++ map color_of cs)
    (row_is w h pane y row rest below r)
    ∙ sym (map-append color_of (map f (range_with_len 0 (y * w))) (map f (range_with_len (y * w) w)))
    ∙ ap (map color_of) (
    sym (map-append f (range_with_len 0 (y * w)) (range_with_len (y * w) w))
    ∙ ap (map f) (
    ap (λ (k : ℕ). range_with_len 0 (y * w) ++ range_with_len k w) (sym at)
    ∙ sym (range_append 0 (y * w) w)
    ∙ ap (range_with_len 0) (sym next))
    ∙ sym (first_rows w h ((y + 1) * w) pane.spans (omega (arith, all))))

pub all_rows : (w h : ℕ) (pane : code.Pane)
    → map color_of (take (h * w) (cells_of w h pane.spans)) ≡ map color_of (cells_of w h pane.spans)
all_rows w h pane =
    let len = length-map-range_with_len (cell_number w pane.spans) 0 (w * h) in
    ap (map color_of) (take_all (h * w) (cells_of w h pane.spans) (omega (arith, len)))

-- Pixels that were read, put in their place.
use Rattle.std.specs.Option.{option_map}
use Rattle.std.specs.Prelude.{if◌then◌else◌}
use Rattle.std.proofs.Common.{◌≡◌, ℕ, ◌+◌, ◌<◌, ℤ, pos, ◌+ℤ◌, ◌-ℤ◌, Bool, true, false, not, ◌&&◌, ◌||◌}
use Rattle.std.proofs.Common.{List, [], ◌∷◌, length, get_or, map, slice_get, take, ◌-◌, count_by, SFits, w32}
use Rattle.std.proofs.Common.{Option, Some, None, inl, inr, refl, sym, ap, ap₂, ◌∙◌, arith}
use Rattle.std.proofs.lemmas.Bool.{cases_lt, true≢false}
use Rattle.std.proofs.lemmas.Int.{ints}
use Rattle.std.proofs.lemmas.Option.{slice_get-get_or, slice_get-map, slice_get_past}
use Rattle.be_color.specs.declared.colors.Color.{Color}
use Rattle.be_facts.proofs.Truths.{and_false, true_or_false}
use Rattle.be_geom.specs.Places.{IsNear}
use Rattle.be_geom.specs.declared.rect.Rect.{Rect}
use Rattle.be_geom.specs.Rects.{rect_has}
use Rattle.be_region.specs.Regions.{region_has}
use Rattle.be_region.proofs.CountLemmas.{has_more}
use Rattle.be_span.specs.declared.Cell.{Cell}
use Rattle.be_span.specs.Cells.{exposed_cell, unmarked}
use Rattle.be_span.specs.Slices.{recolored}
use Rattle.be_span.specs.Spans.{Spans, black_cell, cell_in, clean_cell, is_dirty}
use Rattle.be_span.specs.Painting.{IsPainted}
use Rattle.be_span.proofs.CellLemmas.{cell_none, cell_some}
use Rattle.be_span.proofs.GridLemmas.{in_from}
use Rattle.be_span.proofs.MarkLemmas.{slice_clean}
use Rattle.be_span.proofs.SpanLemmas.{IsRowIn}
use Rattle.be_descent.proofs.FitLemmas.{fits_32}
use Rattle.be_descent.proofs.PaintLemmas.{none_painted}
use Rattle.be_descent.specs.Pieces.{as_read, has_shown, nothing, put_cell, IsRead}
use Rattle.be_descent.specs.Pieces.{IsTakenWhole}
use Rattle.be_descent.specs.Places.{has_moved, lies_at, IsBeside, IsPartOf}
use Rattle.be_descent.specs.declared.reading.Source.{Source}
use Rattle.be_descent.specs.declared.taken.Taken.{Taken}
use Rattle.be_descent.specs.declared.way.Way.{Way}

-- by the cells of a row of the piece
pub put_row : (piece : Spans) (color : Color) (row old : List Cell) (x y : ℤ) (k : ℕ)
    → (k < length old → cell_in piece (x +ℤ pos k) y ≡ slice_get row k)
    → option_map (put_cell color (slice_get row k)) (slice_get old k)
    ≡ option_map (put_cell color (cell_in piece (x +ℤ pos k) y)) (slice_get old k)
put_row piece color row old x y k here =
    elim (cases_lt k (length old)) [
      | inl h ↦ ap (λ o. option_map (put_cell color o) (slice_get old k)) (sym (here h))
      | inr h ↦ none (put_cell color (slice_get row k))
          (put_cell color (cell_in piece (x +ℤ pos k) y)) (slice_get old k) (slice_get_past old k h)
    ]
  where
    none : (f g : Cell → Cell) (o : Option Cell) → o ≡ None → option_map f o ≡ option_map g o
    none f g o e = ap (option_map f) e ∙ sym (ap (option_map g) e)

unmarked_same : (color : Color) (c d : Cell) → c.dirty ≡ false → d.dirty ≡ false
    → c ≡ put_cell color (Some c) d
unmarked_same color c d e f =
    ap (λ b. let x : Cell = record { rgb = c.rgb; dirty = b } in x) (e ∙ sym f)
    ∙ sym (ap (λ b. if b then exposed_cell color d else recolored c.rgb d) e)

-- where none of them and none of the row is dirty
pub put_clean : (color : Color) (row old : List Cell) (k : ℕ) → length row ≡ length old
    → (k < length old → is_dirty (slice_get row k) ≡ false) → count_by (λ c. c.dirty) old ≡ 0
    → slice_get row k ≡ option_map (put_cell color (slice_get row k)) (slice_get old k)
put_clean color row old k long read clean =
    elim (cases_lt k (length old)) [
      | inl h ↦
          let r = slice_get-get_or row k black_cell (omega arith) in
          let o = slice_get-get_or old k black_cell h in
          r ∙ ap Some (unmarked_same color (get_or row k black_cell) (get_or old k black_cell)
          (sym (ap is_dirty r) ∙ read h) (sym (ap is_dirty o) ∙ slice_clean old k clean))
          ∙ sym (ap₂ (λ p q. option_map (put_cell color p) q) r o)
      | inr h ↦
          slice_get_past row k (omega arith)
          ∙ sym (ap (option_map (put_cell color (slice_get row k))) (slice_get_past old k h))
    ]

-- ---- pixels that are read

-- of the part of an area in a rectangle, the pixels that are in the region get what is read of them
read_first : (p h l : Bool) (o begun mid : Option Cell) → p ≡ h → (l ≡ false → o ≡ None)
    → begun ≡ Some nothing
    → mid ≡ (if p && (l && true) then option_map (λ c. as_read o) begun else begun)
    → mid ≡ Some (if h then as_read o else nothing)
read_first true true true o begun mid e none b m = m ∙ ap (option_map (λ c. as_read o)) b
read_first true true false o begun mid e none b m =
    m ∙ b ∙ ap Some (sym (ap as_read (none refl)))
read_first false false l o begun mid e none b m = m ∙ b
read_first true false l o begun mid e none b m = absurd (true≢false e)
read_first false true l o begun mid e none b m = absurd (true≢false (sym e))

-- but for those in a frame
read_then : (h f : Bool) (o mid new : Option Cell) → mid ≡ Some (if h then as_read o else nothing)
    → new ≡ (if f then option_map (λ c. nothing) mid else mid)
    → new ≡ Some (if h && not f then as_read o else nothing)
read_then true true o mid new m n = n ∙ ap (option_map (λ c. nothing)) m
read_then false true o mid new m n = n ∙ ap (option_map (λ c. nothing)) m
read_then true false o mid new m n = n ∙ m
read_then false false o mid new m n = n ∙ m

pub is_read : (s : Spans) (source : Source) (shown area part : Rect) (begun mid new : Spans)
    → source.shown ≡ Some shown → begun.rects ≡ area ∷ []
    → ((x y : ℤ) → rect_has area x y ≡ true → cell_in begun x y ≡ Some nothing)
    → IsPartOf part area shown source.way
    → IsPainted (λ x y c. as_read (cell_in s (x -ℤ source.way.right) (y -ℤ source.way.down)))
    (λ x y. rect_has part x y && (lies_at s.rects source.way x y && true)) begun mid
    → IsPainted (λ x y c. nothing)
    (λ x y. rect_has area x y && lies_at source.frames.now source.way x y) mid new
    → IsRead s source area new
is_read s source shown area part begun mid new is region each of first next = record {
  region = next.region ∙ first.region ∙ region;
  cells = λ x y has.
      let u : ℤ = x -ℤ source.way.right in
      let v : ℤ = y -ℤ source.way.down in
      let o = cell_in s u v in
      read_then (rect_has shown u v) (region_has source.frames.now u v) o (cell_in mid x y)
      (cell_in new x y)
      (read_first (rect_has part x y) (rect_has shown u v) (region_has s.rects u v) o
      (cell_in begun x y) (cell_in mid x y) (of.both x y ∙ ap (λ b. b && rect_has shown u v) has)
      (cell_none s u v) (each x y has) (first.cells x y))
      (next.cells x y ∙ ap (λ b. if b && region_has source.frames.now u v
      then option_map (λ c. nothing) (cell_in mid x y) else cell_in mid x y) has)
      ∙ ap (λ (shown : Option Rect). Some (if has_shown shown u v
      && not (region_has source.frames.now u v) then as_read o else nothing)) (sym is);
}

-- where all of it comes from one span
pub taken_read : (s : Spans) (source : Source) (area : Rect) (taken : Taken) (piece : Spans)
    → IsTakenWhole s source area taken → piece.rects ≡ area ∷ []
    → ((x y : ℤ) → rect_has area x y ≡ true → cell_in piece x y
    ≡ Some (as_read (cell_in taken.spans.now (x -ℤ taken.way.right) (y -ℤ taken.way.down))))
    → IsRead s source area piece
taken_read s source area taken piece is region each = record {
  region = region;
  cells = λ x y has. each x y has
      ∙ ap₂ (λ (t : Spans) (w : Way). Some (as_read (cell_in t (x -ℤ w.right) (y -ℤ w.down))))
      is.spans is.way
      ∙ sym (ap (λ b. let u : ℤ = x -ℤ source.way.right in let v : ℤ = y -ℤ source.way.down in
      Some (if b then as_read (cell_in s u v) else nothing)) (is.read x y has));
}

-- no cell is dirty then
pub taken_clean : (s : Spans) (source : Source) (area : Rect) (taken : Taken) (piece : Spans)
    → IsTakenWhole s source area taken → IsRead s source area piece → (x y : ℤ)
    → is_dirty (cell_in piece x y) ≡ false
taken_clean s source area taken piece is read x y =
    let u : ℤ = x -ℤ source.way.right in
    let v : ℤ = y -ℤ source.way.down in
    elim (true_or_false (rect_has area x y)) [
      | inl has ↦
          let cell = cell_some s u v is.whole (is.owned x y has) in
          ap is_dirty (read.cells x y has
          ∙ ap (λ b. Some (if b then as_read (cell_in s u v) else nothing)) (is.read x y has)
          ∙ ap (λ o. Some (as_read o)) cell.1)
      | inr out ↦
          ap is_dirty (cell_none piece x y (ap (λ rs. region_has rs x y) read.region
          ∙ ap (λ b. b || false) out))
    ]

-- one more frame has none of the pixels
pub apart_more : (frames : List Rect) (i : ℕ) (frame : Rect) (way : Way) (area : Rect)
    → i < length frames → frame ≡ get_or frames i frame → IsBeside area frame way
    → ((x y : ℤ) → (rect_has area x y && lies_at (take i frames) way x y) ≡ false)
    → (x y : ℤ) → (rect_has area x y && lies_at (take (i + 1) frames) way x y) ≡ false
apart_more frames i frame way area less is beside before x y =
    let u : ℤ = x -ℤ way.right in
    let v : ℤ = y -ℤ way.down in
    ap (λ b. rect_has area x y && b) (has_more frames i frame u v less
    ∙ ap (λ r. region_has (take i frames) u v || rect_has r u v) (sym is))
    ∙ neither (rect_has area x y) (region_has (take i frames) u v) (rect_has frame u v)
    (before x y) (beside x y)
  where
    neither : (a b c : Bool) → (a && b) ≡ false → (a && c) ≡ false → (a && (b || c)) ≡ false
    neither true b c e f = ap (λ p. p || c) e ∙ f
    neither false b c e f = refl

-- where none is
pub none_read : (s : Spans) (source : Source) (area : Rect) (begun : Spans)
    → begun.rects ≡ area ∷ []
    → ((x y : ℤ) → rect_has area x y ≡ true → cell_in begun x y ≡ Some nothing)
    → ((x y : ℤ) → rect_has area x y ≡ true
    → has_shown source.shown (x -ℤ source.way.right) (y -ℤ source.way.down) ≡ false)
    → IsRead s source area begun
none_read s source area begun region each none = record {
  region = region;
  cells = λ x y has. each x y has
      ∙ ap (λ b. let u : ℤ = x -ℤ source.way.right in let v : ℤ = y -ℤ source.way.down in
      Some (if b && not (region_has source.frames.now u v) then as_read (cell_in s u v)
      else nothing)) (sym (none x y has));
}

-- ---- pixels that aren't

-- none is left out yet
pub none_left : (way : Way) (area : Rect) (s : Spans)
    → IsPainted (λ x y c. nothing) (λ x y. rect_has area x y && lies_at [] way x y) s s
none_left way area s =
    none_painted (λ x y c. nothing) (λ x y. rect_has area x y && lies_at [] way x y) s
    (λ x y. and_false (rect_has area x y))

-- ---- runs that come from a span

-- those pixels are side by side in one of its rows
taken_run : (r : Rect) (way : Way) (x y : ℤ) (n : ℕ) → 0 < n
    → ((k : ℕ) → k < n → has_moved r way (x +ℤ pos k) y ≡ true)
    → IsRowIn r (x -ℤ way.right) (y -ℤ way.down) n
taken_run r way x y n some has =
    let first = in_from r (x +ℤ pos 0 -ℤ way.right) (y -ℤ way.down) (has 0 some) in
    let last = in_from r (x +ℤ pos (n - 1) -ℤ way.right) (y -ℤ way.down) (has (n - 1) (omega arith)) in
    let left = first.left in
    let right = last.right in
    record {
      left = omega (arith, ints);
      right = omega (arith, ints);
      top = first.top;
      bottom = first.bottom;
    }

-- so are their numbers in range
pub record IsTaken (r : Rect) (x y : ℤ) (n : ℕ) : Type 0 where
  pub row : IsRowIn r x y n
  pub across : SFits w32 x
  pub down : SFits w32 y

pub is_taken : (r : Rect) (way : Way) (x y : ℤ) (n : ℕ) → IsNear 1 r.left × IsNear 1 r.right
    → IsNear 1 r.top × IsNear 1 r.bottom → 0 < n
    → ((k : ℕ) → k < n → has_moved r way (x +ℤ pos k) y ≡ true)
    → IsTaken r (x -ℤ way.right) (y -ℤ way.down) n
is_taken r way x y n (l, h) (t, b) some has =
    let row = taken_run r way x y n some has in
    let left = row.left in
    let right = row.right in
    let top = row.top in
    let bottom = row.bottom in
    record {
      row = row;
      across = fits_32 (x -ℤ way.right) (omega (arith, ints)) (omega (arith, ints));
      down = fits_32 (y -ℤ way.down) (omega (arith, ints)) (omega (arith, ints));
    }

-- the cells of a row as they are read
pub taken_cell : (s : Spans) (row : List Cell) (x y dx dy : ℤ) (n k : ℕ) → length row ≡ n → k < n
    → cell_in s (x -ℤ dx +ℤ pos k) (y -ℤ dy) ≡ slice_get row k
    → slice_get (map unmarked row) k ≡ Some (as_read (cell_in s (x +ℤ pos k -ℤ dx) (y -ℤ dy)))
taken_cell s row x y dx dy n k long less here =
    let ex : x -ℤ dx +ℤ pos k ≡ x +ℤ pos k -ℤ dx = omega (arith, ints) in
    let got = slice_get-get_or row k black_cell (omega arith) in
    slice_get-map unmarked row k ∙ ap (option_map unmarked) got
    ∙ ap (λ o. Some (as_read o)) (sym got ∙ sym here ∙ ap (λ (u : ℤ). cell_in s u (y -ℤ dy)) ex)

-- where none of the buffer is dirty
pub clean_taken : (s : Spans) (row : List Cell) (x y dx dy : ℤ) (n k : ℕ) → length row ≡ n → k < n
    → cell_in s (x -ℤ dx +ℤ pos k) (y -ℤ dy) ≡ slice_get row k
    → is_dirty (cell_in s (x -ℤ dx +ℤ pos k) (y -ℤ dy)) ≡ false
    → slice_get row k ≡ Some (as_read (cell_in s (x +ℤ pos k -ℤ dx) (y -ℤ dy)))
clean_taken s row x y dx dy n k long less here clean =
    let ex : x -ℤ dx +ℤ pos k ≡ x +ℤ pos k -ℤ dx = omega (arith, ints) in
    let got = slice_get-get_or row k black_cell (omega arith) in
    got ∙ ap Some (unmarked_is (get_or row k black_cell) (sym (ap is_dirty (here ∙ got)) ∙ clean))
    ∙ ap (λ o. Some (as_read o)) (sym got ∙ sym here ∙ ap (λ (u : ℤ). cell_in s u (y -ℤ dy)) ex)
  where
    unmarked_is : (c : Cell) → c.dirty ≡ false → c ≡ clean_cell c.rgb
    unmarked_is c e = ap (λ b. let x : Cell = record { rgb = c.rgb; dirty = b } in x) e

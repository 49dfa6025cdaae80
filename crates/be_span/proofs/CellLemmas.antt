-- The cells of pixels, read and written side by side.
use Rattle.std.proofs.Common.{◌≡◌, ℕ, zero, suc, ◌+◌, ◌-◌, ◌<◌, ◌≤◌, ℤ, pos, ◌+ℤ◌, true, false, ◌⊎◌, inl, inr, All, cond, List, [], ◌∷◌, ◌++◌, length, get_or, take, drop, slice_get, sum_by, count_by, Option, Some, None, refl, sym, ap, ◌∙◌, arith}
use Rattle.std.specs.Prelude.{option_and_then}
use Rattle.std.specs.Option.{option_map}
use Rattle.std.proofs.lemmas.Int.{ints}
use Rattle.std.proofs.lemmas.Bool.{cases_lt, cond-true, cond-false, true≢false}
use Rattle.std.proofs.lemmas.List.{length-take, length-drop}
use Rattle.std.proofs.lemmas.List.Sums.{sum_by-cons, sum_by-append, sum_by-take-drop}
use Rattle.std.proofs.lemmas.List.Elements.{All-head, All-tail}
use Rattle.std.proofs.lemmas.Option.{slice_get-get_or}
use borrow.Rule.Slice.PartMut.{put_mid}
use Rattle.be_facts.proofs.Numbers.{plus_zero}
use Rattle.be_facts.proofs.Truths.{true_or_false}
use Rattle.be_facts.proofs.Lists.{get_drop, get_take}
use Rattle.be_geom.specs.declared.rect.Rect.{Rect}
use Rattle.be_color.specs.declared.colors.Rgb.{Rgb}
use Rattle.be_region.specs.Regions.{region_has}
use Rattle.be_span.specs.declared.Cell.{Cell}
use Rattle.be_span.specs.Spans.{Spans, pixels_of, place_of, cell_in, black_cell, clean_cell}
use Rattle.be_span.specs.Painting.{IsPartDone}
use Rattle.be_span.specs.Runs.{HasRun, IsBeside}
use Rattle.be_span.proofs.PlaceLemmas.{place_none, place_found, place_below, place_same}

-- ---- parts of lists

module _ {X : Type 0} where
  pub append_left : (xs ys : List X) (k : ℕ) → k < length xs → slice_get (xs ++ ys) k ≡ slice_get xs k
  append_left [] ys k h = absurd (omega arith)
  append_left (x ∷ xs) ys zero h = refl
  append_left (x ∷ xs) ys (suc k) h = append_left xs ys k (omega arith)

  pub append_right : (xs ys : List X) (k m : ℕ) → m ≡ length xs + k → slice_get (xs ++ ys) m ≡ slice_get ys k
  append_right [] ys k m e = ap (slice_get ys) (same e)
    where
      same : m ≡ 0 + k → m ≡ k
      same e = omega arith
  append_right (x ∷ xs) ys k zero e = absurd (omega arith)
  append_right (x ∷ xs) ys k (suc m) e = append_right xs ys k m (omega arith)

  put_before : (a n : ℕ) (xs ys : List X) (k : ℕ) → a ≤ length xs → k < a → slice_get (put_mid a n xs ys) k ≡ slice_get xs k
  put_before a n xs ys k within h =
      append_left (take a xs) (ys ++ drop n (drop a xs)) k (let l = length-take a xs in omega arith) ∙ get_take a xs k h

  pub put_inside : (a n : ℕ) (xs ys : List X) (k : ℕ) → a ≤ length xs → k < length ys → slice_get (put_mid a n xs ys) (a + k) ≡ slice_get ys k
  put_inside a n xs ys k within h =
      append_right (take a xs) (ys ++ drop n (drop a xs)) k (a + k) (let l = length-take a xs in omega arith) ∙ append_left ys (drop n (drop a xs)) k h

  put_behind : (a n : ℕ) (xs ys : List X) (k : ℕ) → a ≤ length xs → length ys ≡ n → a + n ≤ k → slice_get (put_mid a n xs ys) k ≡ slice_get xs k
  put_behind a n xs ys k within long h =
      append_right (take a xs) (ys ++ drop n (drop a xs)) (k - a) k (let l = length-take a xs in omega arith)
      ∙ append_right ys (drop n (drop a xs)) (k - a - n) (k - a) (omega arith)
      ∙ get_drop n (drop a xs) (k - a - n) (k - a) (omega arith)
      ∙ get_drop a xs (k - a) k (omega arith)

  pub put_sum : (f : X → ℕ) (a n : ℕ) (xs ys : List X) → sum_by f (put_mid a n xs ys) + sum_by f (take n (drop a xs)) ≡ sum_by f xs + sum_by f ys
  put_sum f a n xs ys =
      let whole = sum_by-take-drop f xs a in
      let part = sum_by-take-drop f (drop a xs) n in
      let put = sum_by-append f (take a xs) (ys ++ drop n (drop a xs)) in
      let rest = sum_by-append f ys (drop n (drop a xs)) in
      omega arith

  pub part_sum : (f : X → ℕ) (a n : ℕ) (xs : List X) → sum_by f (take n (drop a xs)) ≤ sum_by f xs
  part_sum f a n xs = let whole = sum_by-take-drop f xs a in let part = sum_by-take-drop f (drop a xs) n in omega arith

  -- what is at the places beside a part
  pub put_others : (a n : ℕ) (xs ys : List X) (q : ℕ) → a ≤ length xs → length ys ≡ n → (q < a) ⊎ (a + n ≤ q) → slice_get (put_mid a n xs ys) q ≡ slice_get xs q
  put_others a n xs ys q within long (inl h) = put_before a n xs ys q within h
  put_others a n xs ys q within long (inr h) = put_behind a n xs ys q within long h

-- a part from its first place to the one behind its last
pub part_get : {X : Type 0} (xs part : List X) (start len k : ℕ) → part ≡ take (start + len - start) (drop start xs) → k < len → slice_get part k ≡ slice_get xs (start + k)
part_get xs part start len k e h =
    ap (λ l. slice_get l k) e ∙ get_take (start + len - start) (drop start xs) k (omega arith) ∙ get_drop start xs k (start + k) refl

pub part_length : {X : Type 0} (xs part : List X) (start len : ℕ) → part ≡ take (start + len - start) (drop start xs) → start + len ≤ length xs → length part ≡ len
part_length xs part start len e h =
    ap length e ∙ length-take (start + len - start) (drop start xs) ∙ (let l = length-drop start xs in omega arith)

-- a part that was changed, in its place
pub part_done : (f : ℕ → Cell → Cell) (start count : ℕ) (old part : List Cell) → start + count ≤ length old → length part ≡ length (take (start + count - start) (drop start old)) → ((k : ℕ) → slice_get part k ≡ option_map (f k) (slice_get (take (start + count - start) (drop start old)) k)) → IsPartDone f old (put_mid start (start + count - start) old part) start count
part_done f start count old part fits long done =
    let n = part_length old _ start count refl fits in
    record {
      inside = λ k less.
          put_inside start (start + count - start) old part k (omega arith) (omega arith)
          ∙ done k ∙ ap (option_map (f k)) (part_get old _ start count k refl less);
      others = λ q beside.
          let apart : (q < start) ⊎ (start + (start + count - start) ≤ q) = grind arith in
          put_others start (start + count - start) old part q (omega arith) (omega arith) apart;
    }

-- ---- cells of pixels

abbrev pub spans : List Rect → List Cell → Spans
spans rs cells = record { rects = rs; cells = cells }

pub cell_none : (s : Spans) (x y : ℤ) → region_has s.rects x y ≡ false → cell_in s x y ≡ None
unfolding cell_in
cell_none s x y e = ap (option_and_then (slice_get s.cells)) (place_none s.rects x y e)

-- the n pixels from (x, y) on to the right have their cells side by side
abbrev pub StandAt : List Rect → ℕ → ℤ → ℤ → ℕ → Type 0
StandAt rs start x y n = (k : ℕ) → k < n → place_of rs (x +ℤ pos k) y ≡ Some (start + k)

pub stood_cell : (rs : List Rect) (cells : List Cell) (start n : ℕ) (x y : ℤ) (k : ℕ) → StandAt rs start x y n → k < n → cell_in (spans rs cells) (x +ℤ pos k) y ≡ slice_get cells (start + k)
unfolding cell_in
stood_cell rs cells start n x y k places less = ap (option_and_then (slice_get cells)) (places k less)

-- each of these changed
pub changed_cell_in : (rs : List Rect) (old new : List Cell) (f : Cell → Cell) (start n : ℕ) (x y : ℤ) (k : ℕ) → StandAt rs start x y n → slice_get new (start + k) ≡ option_map f (slice_get old (start + k)) → k < n → cell_in (spans rs new) (x +ℤ pos k) y ≡ option_map f (cell_in (spans rs old) (x +ℤ pos k) y)
unfolding cell_in
changed_cell_in rs old new f start n x y k places e less =
    let at = places k less in
    ap (option_and_then (slice_get new)) at ∙ e ∙ ap (option_map f) (sym (ap (option_and_then (slice_get old)) at))

-- a run that isn't empty has its first pixel
pub no_run : (rs : List Rect) (x y : ℤ) (n k : ℕ) → region_has rs x y ≡ false → HasRun rs x y n → k < n → ⊥
no_run rs x y n k out has less = true≢false (sym (has 0 (omega arith)) ∙ ap (λ z. region_has rs z y) (plus_zero x) ∙ out)

not_beside : (x y : ℤ) (n : ℕ) (z w : ℤ) (k : ℕ) → k < n → x +ℤ pos k ≡ z → w ≡ y → IsBeside x y n z w → ⊥
not_beside x y n z w k less across down (inl h) = h down
not_beside x y n z w k less across down (inr (inl h)) = omega (arith, ints)
not_beside x y n z w k less across down (inr (inr h)) = omega (arith, ints)

-- cells with the same answer at each place that a pixel beside the run may have
pub stays_beside : (rs : List Rect) (old new : List Cell) (start n : ℕ) (x y z w : ℤ) → StandAt rs start x y n → ((q : ℕ) → (q < start) ⊎ (start + n ≤ q) → slice_get new q ≡ slice_get old q) → IsBeside x y n z w → cell_in (spans rs new) z w ≡ cell_in (spans rs old) z w
unfolding cell_in
stays_beside rs old new start n x y z w places same beside = at_place (place_of rs z w) refl
  where
    meets : (q : ℕ) → place_of rs z w ≡ Some q → start ≤ q → q < start + n → ⊥
    meets q e low high =
        let here = place_same rs (x +ℤ pos (q - start)) y z w q (places (q - start) (omega arith) ∙ ap Some (omega arith)) e in
        let across = here.0 in
        not_beside x y n z w (q - start) (omega arith) across (sym here.1) beside

    apart : (q : ℕ) → place_of rs z w ≡ Some q → (q < start) ⊎ (start + n ≤ q)
    apart q e = elim (cases_lt q start) [ inl h ↦ inl h | inr h ↦ elim (cases_lt q (start + n)) [ inl k ↦ absurd (meets q e h k) | inr k ↦ inr k ] ]

    at_place : (o : Option ℕ) → place_of rs z w ≡ o → option_and_then (slice_get new) (place_of rs z w) ≡ option_and_then (slice_get old) (place_of rs z w)
    at_place None e = ap (option_and_then (slice_get new)) e ∙ sym (ap (option_and_then (slice_get old)) e)
    at_place (Some q) e = ap (option_and_then (slice_get new)) e ∙ same q (apart q e) ∙ sym (ap (option_and_then (slice_get old)) e)

-- ---- rows of a buffer

-- ---- cells that are all the same

pub cell_all : (rs : List Rect) (cells : List Cell) (c : Cell) (x y : ℤ) → length cells ≡ pixels_of rs → All (λ d. d ≡ c) cells → cell_in (spans rs cells) x y ≡ cond (region_has rs x y) (Some c) None
unfolding cell_in
cell_all rs cells c x y whole same =
    elim (true_or_false (region_has rs x y)) [
      | inl h ↦ there h (place_found rs x y h)
      | inr h ↦ ap (option_and_then (slice_get cells)) (place_none rs x y h) ∙ sym (cond-false (region_has rs x y) (Some c) None h)
    ]
  where
    there : region_has rs x y ≡ true → (n : ℕ) × (place_of rs x y ≡ Some n) → option_and_then (slice_get cells) (place_of rs x y) ≡ cond (region_has rs x y) (Some c) None
    there h found =
        let n = found.0 in
        let below = place_below rs x y n found.1 in
        let inside : n < length cells = omega arith in
        ap (option_and_then (slice_get cells)) found.1 ∙ slice_get-get_or cells n c inside ∙ ap Some (same n c inside) ∙ sym (cond-true (region_has rs x y) (Some c) None h)

abbrev mark_of : Cell → ℕ
mark_of d = cond d.dirty 1 0

no_mark : (rgb : Rgb) (d : Cell) → d ≡ clean_cell rgb → mark_of d ≡ 0
no_mark rgb d e = ap mark_of e

pub none_dirty : (rgb : Rgb) (cells : List Cell) → All (λ c. c ≡ clean_cell rgb) cells → 0 ≡ count_by (λ c. c.dirty) cells
none_dirty rgb [] h = refl
none_dirty rgb (c ∷ cells) h =
    let mark = no_mark rgb c (All-head (λ (d : Cell). d ≡ clean_cell rgb) c cells h) in
    let rest = none_dirty rgb cells (All-tail (λ (d : Cell). d ≡ clean_cell rgb) c cells h) in
    let sum = sum_by-cons mark_of c cells in
    omega arith

-- a pixel of the region has a cell
pub cell_some : (s : Spans) (x y : ℤ) → length s.cells ≡ pixels_of s.rects → region_has s.rects x y ≡ true → (c : Cell) × (cell_in s x y ≡ Some c)
unfolding cell_in
cell_some s x y whole h =
    let found = place_found s.rects x y h in
    let below = place_below s.rects x y found.0 found.1 in
    let inside : found.0 < length s.cells = omega arith in
    (get_or s.cells found.0 black_cell, ap (option_and_then (slice_get s.cells)) found.1 ∙ slice_get-get_or s.cells found.0 black_cell inside)

pub same_map : (f g : Cell → Cell) → ((c : Cell) → f c ≡ g c) → (o : Option Cell) → option_map f o ≡ option_map g o
same_map f g h None = refl
same_map f g h (Some c) = ap Some (h c)

pub kept_map : (f : Cell → Cell) → ((c : Cell) → f c ≡ c) → (o : Option Cell) → o ≡ option_map f o
kept_map f h None = refl
kept_map f h (Some c) = ap Some (sym (h c))

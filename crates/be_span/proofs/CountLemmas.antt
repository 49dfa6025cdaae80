-- How many of a region's pixels are dirty: as many as of all that cells are kept for.
use Rattle.std.proofs.Common.{◌≡◌, ℕ, zero, suc, ◌+◌, ◌<◌, ◌≤◌, ℤ, pos, ◌+ℤ◌, ◌-ℤ◌, ◌≤ℤ◌, Bool, true, false, ◌&&◌, ◌||◌, All, List, [], ◌∷◌, length, get_or, sum_by, count_by, cond, Option, Some, None, inl, inr, refl, sym, ap, ◌∙◌, arith}
use Rattle.std.specs.List.{AllPairs}
use Rattle.std.proofs.lemmas.Int.{ints}
use Rattle.std.proofs.lemmas.Bool.{true≢false, and_parts, or_left, or_right}
use Rattle.std.specs.Prelude.{unsigned_abs}
use Rattle.std.proofs.lemmas.Option.{get_or_from_slice_get, slice_get-get_or}
use Rattle.std.proofs.lemmas.List.{same_lists}
use Rattle.std.proofs.lemmas.List.Sums.{sum_by-cons, sum_by-append}
use Rattle.std.proofs.lemmas.List.Elements.{All-head, All-tail}
use Rattle.be_facts.proofs.Numbers.{plus_zero, unsigned_abs_is}
use Rattle.be_facts.proofs.Truths.{true_or_false}
use Rattle.be_geom.specs.declared.rect.Rect.{Rect}
use Rattle.be_geom.specs.Rects.{rect_has}
use Rattle.be_region.specs.Bands.{IsBefore}
use Rattle.be_region.specs.Regions.{IsNotEmpty, region_has}
use Rattle.be_span.specs.declared.Cell.{Cell}
use Rattle.be_span.specs.Cells.{Lookup}
use Rattle.be_span.specs.Runs.{IsInside}
use Rattle.be_span.specs.Seen.{IsSeen, cells_at, cells_down, cells_right, or_black, seen}
use Rattle.be_span.specs.Spans.{Spans, black_cell, cell_in, height_of, is_dirty, pixels_of, place_of, width_of}
use Rattle.be_span.proofs.GridLemmas.{IsIn, has_from, in_from, wide_is, high_is}
use Rattle.be_span.proofs.PlaceLemmas.{before_all, pixel_of}
use Rattle.be_span.proofs.SeenLemmas.{cell_place, cells_length, place_get}

-- which pixels are counted
abbrev pub Test : Type 0
Test = ℤ → ℤ → Bool

abbrev mark : Bool → ℕ
mark b = cond b 1 0

-- ---- sums

-- f 0, f 1 and so on, n of them
abbrev pub sum_to : (ℕ → ℕ) → ℕ → ℕ
sum_to f zero = 0
sum_to f (suc n) = f 0 + sum_to (λ k. f (suc k)) n

sum_both : (f g h : ℕ → ℕ) (n : ℕ) → ((k : ℕ) → k < n → f k ≡ g k + h k) → sum_to f n ≡ sum_to g n + sum_to h n
sum_both f g h zero both = refl
sum_both f g h (suc n) both =
    let first = both 0 (omega arith) in
    let rest = sum_both (λ k. f (suc k)) (λ k. g (suc k)) (λ k. h (suc k)) n (λ k less. both (suc k) (omega arith)) in
    omega arith

sum_none : (f : ℕ → ℕ) (n : ℕ) → ((k : ℕ) → k < n → f k ≡ 0) → sum_to f n ≡ 0
sum_none f zero none = refl
sum_none f (suc n) none =
    let first = none 0 (omega arith) in
    let rest = sum_none (λ k. f (suc k)) n (λ k less. none (suc k) (omega arith)) in
    omega arith

sum_same : (f g : ℕ → ℕ) (n : ℕ) → ((k : ℕ) → k < n → f k ≡ g k) → sum_to f n ≡ sum_to g n
sum_same f g n same =
    let both = sum_both f g (λ k. 0) n (λ k less. let e = same k less in omega arith) in
    let none = sum_none (λ k. 0) n (λ k less. refl) in
    omega arith

sum_split : (f : ℕ → ℕ) (a b n : ℕ) → n ≡ a + b → sum_to f n ≡ sum_to f a + sum_to (λ k. f (a + k)) b
sum_split f zero b n e =
    let whole : sum_to f n ≡ sum_to f b = ap (sum_to f) (same n e) in
    let begin = sum_same f (λ k. f (0 + k)) b (λ k less. ap f (omega arith)) in
    omega arith
  where
    same : (n : ℕ) → n ≡ 0 + b → n ≡ b
    same n e = omega arith
sum_split f (suc a) b zero e = absurd (omega arith)
sum_split f (suc a) b (suc n) e =
    let rest = sum_split (λ k. f (suc k)) a b n (omega arith) in
    let same = sum_same (λ k. f (suc (a + k))) (λ k. f (suc a + k)) b (λ k less. ap f (omega arith)) in
    omega arith

-- where there is something in the middle alone
sum_middle : (f : ℕ → ℕ) (a w b n : ℕ) → n ≡ a + (w + b) → ((k : ℕ) → k < a → f k ≡ 0) → ((k : ℕ) → a + w ≤ k → f k ≡ 0) → sum_to f n ≡ sum_to (λ k. f (a + k)) w
sum_middle f a w b n long before behind =
    let left = sum_split f a (w + b) n long in
    let right = sum_split (λ k. f (a + k)) w b (w + b) refl in
    let none_left = sum_none f a before in
    let none_right = sum_none (λ k. f (a + (w + k))) b (λ k less. behind (a + (w + k)) (omega arith)) in
    omega arith

-- ---- a rectangle in another

abbrev pub row_count : Test → ℤ → ℤ → ℕ → ℕ
row_count q x y n = sum_to (λ k. mark (q (x +ℤ pos k) y)) n

abbrev pub rows_count : Test → ℤ → ℤ → ℕ → ℕ → ℕ
rows_count q x y width n = sum_to (λ j. row_count q x (y +ℤ pos j) width) n

abbrev pub rect_count : Test → Rect → ℕ
rect_count q r = rows_count q r.left r.top (width_of r) (height_of r)

rect_same : (p q : Test) (r : Rect) → ((x y : ℤ) → p x y ≡ q x y) → rect_count p r ≡ rect_count q r
rect_same p q r same = sum_same _ _ (height_of r) (λ j low. sum_same _ _ (width_of r) (λ k less. ap mark (same (r.left +ℤ pos k) (r.top +ℤ pos j))))

not_in : (r : Rect) (q : Test) (x y : ℤ) → (IsIn r x y → ⊥) → mark (rect_has r x y && q x y) ≡ 0
not_in r q x y out =
    elim (true_or_false (rect_has r x y)) [ inl h ↦ absurd (out (in_from r x y h)) | inr h ↦ ap (λ b. mark (b && q x y)) h ]

-- how many columns or rows there are on both sides
pub record AreBeside (first last low high : ℤ) (width inner : ℕ) : Type 0 where
  pub before : ℕ
  pub behind : ℕ
  pub from : low ≡ first +ℤ pos before
  pub long : width ≡ before + (inner + behind)

beside : (first last low high : ℤ) (width inner : ℕ) → pos width ≡ last -ℤ first +ℤ pos 1 → pos inner ≡ high -ℤ low +ℤ pos 1 → first ≤ℤ low → high ≤ℤ last → low ≤ℤ high → AreBeside first last low high width inner
beside first last low high width inner wide narrow left right across =
    let a = unsigned_abs (low -ℤ first) in
    let b = unsigned_abs (last -ℤ high) in
    let a_is = unsigned_abs_is (low -ℤ first) (omega (arith, ints)) in
    let b_is = unsigned_abs_is (last -ℤ high) (omega (arith, ints)) in
    record { before = a; behind = b; from = from_is a a_is; long = long_is a b a_is b_is }
  where
    from_is : (a : ℕ) → pos a ≡ low -ℤ first → low ≡ first +ℤ pos a
    from_is a e = omega (arith, ints)

    long_is : (a b : ℕ) → pos a ≡ low -ℤ first → pos b ≡ last -ℤ high → width ≡ a + (inner + b)
    long_is a b e f = omega (arith, ints)

rect_inner : (outer r : Rect) (q : Test) → IsInside r outer → rect_count (λ z v. rect_has r z v && q z v) outer ≡ rect_count q r
rect_inner outer r q in_outer =
    sum_middle (λ j. row_count p outer.left (outer.top +ℤ pos j) (width_of outer)) down.before (height_of r) down.behind (height_of outer) down.long
    (λ j above. sum_none _ (width_of outer) (λ k less. not_in r q _ _ (λ h. let edge = h.top in let from = down.from in omega (arith, ints))))
    (λ j under. sum_none _ (width_of outer) (λ k less. not_in r q _ _ (λ h. past outer.top r.top r.bottom (height_of r) down.before j tall down.from under h.bottom)))
    ∙ sum_same _ _ (height_of r) row
  where
    p : Test
    p = λ z v. rect_has r z v && q z v

    wide : pos (width_of r) ≡ r.right -ℤ r.left +ℤ pos 1
    wide = wide_is r in_outer.across

    tall : pos (height_of r) ≡ r.bottom -ℤ r.top +ℤ pos 1
    tall = high_is r in_outer.down

    across : AreBeside outer.left outer.right r.left r.right (width_of outer) (width_of r)
    across =
        let l = in_outer.left in let m = in_outer.across in let n = in_outer.right in
        beside outer.left outer.right r.left r.right (width_of outer) (width_of r) (wide_is outer (omega (arith, ints))) wide l n m

    down : AreBeside outer.top outer.bottom r.top r.bottom (height_of outer) (height_of r)
    down =
        let l = in_outer.top in let m = in_outer.down in let n = in_outer.bottom in
        beside outer.top outer.bottom r.top r.bottom (height_of outer) (height_of r) (high_is outer (omega (arith, ints))) tall l n m

    past : (first low high : ℤ) (n a j : ℕ) → pos n ≡ high -ℤ low +ℤ pos 1 → low ≡ first +ℤ pos a → a + n ≤ j → (first +ℤ pos j) ≤ℤ high → ⊥
    past first low high n a j long from far at = omega (arith, ints)

    from_start : (first low : ℤ) (a j : ℕ) → low ≡ first +ℤ pos a → first +ℤ pos (a + j) ≡ low +ℤ pos j
    from_start first low a j from = omega (arith, ints)

    is_in : (k j : ℕ) → k < width_of r → j < height_of r → IsIn r (r.left +ℤ pos k) (r.top +ℤ pos j)
    is_in k j less low = record { left = omega (arith, ints); right = omega (arith, wide, ints); top = omega (arith, ints); bottom = omega (arith, tall, ints) }

    row : (j : ℕ) → j < height_of r → row_count p outer.left (outer.top +ℤ pos (down.before + j)) (width_of outer) ≡ row_count q r.left (r.top +ℤ pos j) (width_of r)
    row j low =
        ap (λ v. row_count p outer.left v (width_of outer)) (from_start outer.top r.top down.before j down.from)
        ∙ sum_middle (λ k. mark (p (outer.left +ℤ pos k) (r.top +ℤ pos j))) across.before (width_of r) across.behind (width_of outer) across.long
        (λ k left. not_in r q _ _ (λ h. let edge = h.left in let from = across.from in omega (arith, ints)))
        (λ k right. not_in r q _ _ (λ h. past outer.left r.left r.right (width_of r) across.before k wide across.from right h.right))
        ∙ sum_same _ _ (width_of r) (λ k less.
        ap (λ z. mark (p z (r.top +ℤ pos j))) (from_start outer.left r.left across.before k across.from)
        ∙ ap (λ b. mark (b && q (r.left +ℤ pos k) (r.top +ℤ pos j))) (has_from r _ _ (is_in k j less low)))

-- ---- a region in a rectangle

abbrev pub region_count : Test → List Rect → ℕ
region_count q [] = 0
region_count q (r ∷ rs) = rect_count q r + region_count q rs

-- a rectangle whose pixels are all in another
within : (r outer : Rect) → IsNotEmpty r → ((x y : ℤ) → rect_has r x y ≡ true → rect_has outer x y ≡ true) → IsInside r outer
within r outer some inside =
    let across = some.across in
    let down = some.down in
    let first = in_from outer r.left r.top (inside r.left r.top (has_from r r.left r.top record { left = omega (arith, ints); right = across; top = omega (arith, ints); bottom = down })) in
    let last = in_from outer r.right r.bottom (inside r.right r.bottom (has_from r r.right r.bottom record { left = across; right = omega (arith, ints); top = down; bottom = omega (arith, ints) })) in
    record { left = first.left; across = across; right = last.right; top = first.top; down = down; bottom = last.bottom }

either : (a b : Bool) → (a ≡ true → b ≡ false) → mark (a || b) ≡ mark a + mark b
either true b apart = let none = ap mark (apart refl) in omega arith
either false b apart = omega arith

both_or : (a b c : Bool) → ((a && c) || (b && c)) ≡ ((a || b) && c)
both_or true b true = refl
both_or true b false = and_none b
  where
    and_none : (b : Bool) → (b && false) ≡ false
    and_none true = refl
    and_none false = refl
both_or false b c = refl

pub region_inner : (outer : Rect) (rs : List Rect) (q : Test) → All IsNotEmpty rs → AllPairs IsBefore rs → ((x y : ℤ) → region_has rs x y ≡ true → rect_has outer x y ≡ true) → region_count q rs ≡ rect_count (λ z v. region_has rs z v && q z v) outer
region_inner outer [] q full order inside =
    sym (sum_none _ (height_of outer) (λ j low. sum_none _ (width_of outer) (λ k less. refl)))
region_inner outer (r ∷ rs) q full order inside =
    let p : Test = λ z v. rect_has r z v && q z v in
    let rest : Test = λ z v. region_has rs z v && q z v in
    let own = rect_inner outer r q (within r outer (All-head IsNotEmpty r rs full) (λ x y h. inside x y (or_left (rect_has r x y) (region_has rs x y) h))) in
    let others = region_inner outer rs q (All-tail IsNotEmpty r rs full) (λ i j d low high. order (suc i) (suc j) d (omega arith) (omega arith)) (λ x y h. inside x y (or_right (rect_has r x y) (region_has rs x y) h)) in
    let together : rect_count (λ z v. p z v || rest z v) outer ≡ rect_count p outer + rect_count rest outer = sum_both _ _ _ (height_of outer) (λ j low. sum_both _ _ _ (width_of outer) (λ k less. either (p _ _) (rest _ _) (apart _ _))) in
    let same = rect_same (λ z v. p z v || rest z v) (λ z v. (rect_has r z v || region_has rs z v) && q z v) outer (λ x y. both_or (rect_has r x y) (region_has rs x y) (q x y)) in
    omega arith
  where
    out : (a b : Bool) → a ≡ false → (a && b) ≡ false
    out a b e = ap (λ c. c && b) e

    apart : (z v : ℤ) → (rect_has r z v && q z v) ≡ true → (region_has rs z v && q z v) ≡ false
    apart z v has =
        elim (true_or_false (region_has rs z v)) [
          | inl h ↦ absurd (true≢false (sym (and_parts (rect_has r z v) (q z v) has).0 ∙ before_all r rs z v (λ k d low. order 0 (suc k) d (omega arith) (omega arith)) h))
          | inr h ↦ out (region_has rs z v) (q z v) h
        ]

-- ---- dirty cells

abbrev pub dirty_at : Lookup → Test
dirty_at at x y = is_dirty (at x y)

abbrev mark_of : Cell → ℕ
mark_of c = cond c.dirty 1 0

or_black_marked : (o : Option Cell) → mark_of (or_black o) ≡ mark (is_dirty o)
or_black_marked None = refl
or_black_marked (Some c) = refl

further : (x : ℤ) (k : ℕ) → x +ℤ pos 1 +ℤ pos k ≡ x +ℤ pos (suc k)
further x k = omega (arith, ints)

right_dirty : (at : Lookup) (x y : ℤ) (n : ℕ) → sum_by mark_of (cells_right at x y n) ≡ row_count (dirty_at at) x y n
right_dirty at x y zero = refl
right_dirty at x y (suc n) =
    let first = or_black_marked (at x y) ∙ ap (λ z. mark (dirty_at at z y)) (sym (plus_zero x)) in
    let rest = right_dirty at (x +ℤ pos 1) y n ∙ sum_same _ (λ k. mark (dirty_at at (x +ℤ pos (suc k)) y)) n (λ k less. ap (λ z. mark (dirty_at at z y)) (further x k)) in
    let sum = sum_by-cons mark_of (or_black (at x y)) (cells_right at (x +ℤ pos 1) y n) in
    omega arith

down_dirty : (at : Lookup) (x y : ℤ) (w n : ℕ) → sum_by mark_of (cells_down at x y w n) ≡ rows_count (dirty_at at) x y w n
down_dirty at x y w zero = refl
down_dirty at x y w (suc n) =
    let first = right_dirty at x y w ∙ ap (λ v. row_count (dirty_at at) x v w) (sym (plus_zero y)) in
    let rest = down_dirty at x (y +ℤ pos 1) w n ∙ sum_same _ (λ j. row_count (dirty_at at) x (y +ℤ pos (suc j)) w) n (λ j less. ap (λ v. row_count (dirty_at at) x v w) (further y j)) in
    let sum = sum_by-append mark_of (cells_right at x y w) (cells_down at x (y +ℤ pos 1) w n) in
    omega arith

region_dirty : (at : Lookup) (rs : List Rect) → sum_by mark_of (cells_at at rs) ≡ region_count (dirty_at at) rs
region_dirty at [] = refl
region_dirty at (r ∷ rs) =
    let first = down_dirty at r.left r.top (width_of r) (height_of r) in
    let rest = region_dirty at rs in
    let sum = sum_by-append mark_of (cells_down at r.left r.top (width_of r) (height_of r)) (cells_at at rs) in
    omega arith

-- the cells of a rectangle, in their order
kept_cells : (kept : Spans) (frame : Rect) → kept.rects ≡ frame ∷ [] → IsNotEmpty frame → length kept.cells ≡ pixels_of kept.rects → kept.cells ≡ cells_at (cell_in kept) (frame ∷ [])
kept_cells kept frame framed some whole =
    same_lists kept.cells (cells_at (cell_in kept) (frame ∷ [])) (whole ∙ ap pixels_of framed ∙ sym (cells_length (cell_in kept) (frame ∷ []))) each
  where
    full : All IsNotEmpty (frame ∷ [])
    full zero d less = some
    full (suc k) d less = absurd (omega arith)

    no_pairs : AllPairs IsBefore (frame ∷ [])
    no_pairs i j d low high = absurd (omega arith)

    each : (k : ℕ) (d : Cell) → k < length kept.cells → get_or kept.cells k d ≡ get_or (cells_at (cell_in kept) (frame ∷ [])) k d
    each k d less =
        let pixel = pixel_of (frame ∷ []) k full no_pairs (let w = whole ∙ ap pixels_of framed in omega arith) in
        let x = pixel.0 in
        let y = pixel.1.0 in
        let at : place_of kept.rects x y ≡ Some k = ap (λ rs. place_of rs x y) framed ∙ pixel.1.1 in
        let cell = get_or kept.cells k black_cell in
        let there = slice_get-get_or kept.cells k black_cell less in
        let other = place_get (cell_in kept) (frame ∷ []) x y k pixel.1.1 ∙ ap (λ o. Some (or_black o)) (cell_place kept x y k at ∙ there) in
        get_or_from_slice_get kept.cells k cell d there ∙ sym (get_or_from_slice_get (cells_at (cell_in kept) (frame ∷ [])) k cell d other)

-- as many as of all that are kept
pub seen_dirty : (rs : List Rect) (kept : Spans) → IsSeen rs kept → count_by (λ c. c.dirty) (seen rs kept).cells ≡ count_by (λ c. c.dirty) kept.cells
unfolding seen
seen_dirty rs kept is =
    region_dirty (cell_in kept) rs
    ∙ region_inner is.frame rs (dirty_at (cell_in kept)) is.bands.none_empty is.bands.in_order (λ x y h. alone (rect_has is.frame x y) (ap (λ l. region_has l x y) (sym is.framed) ∙ is.inside x y h))
    ∙ rect_same (λ z v. region_has rs z v && dirty_at (cell_in kept) z v) (dirty_at (cell_in kept)) is.frame whether
    ∙ none_more (rect_count (dirty_at (cell_in kept)) is.frame) ∙ sym (region_dirty (cell_in kept) (is.frame ∷ []))
    ∙ ap (sum_by mark_of) (sym (kept_cells kept is.frame is.framed is.some is.whole))
  where
    none_more : (n : ℕ) → n ≡ n + 0
    none_more n = omega arith

    alone : (b : Bool) → (b || false) ≡ true → b ≡ true
    alone true e = refl
    alone false e = e

    whether : (x y : ℤ) → (region_has rs x y && dirty_at (cell_in kept) x y) ≡ dirty_at (cell_in kept) x y
    whether x y =
        elim (true_or_false (region_has rs x y)) [
          | inl h ↦ ap (λ b. b && dirty_at (cell_in kept) x y) h
          | inr h ↦ ap (λ b. b && dirty_at (cell_in kept) x y) h ∙ sym (is.outside x y h)
        ]

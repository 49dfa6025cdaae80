-- A line has one run in each row that it has: what the pen covers from the first to the last of its points there.
use Rattle.std.proofs.Common.{◌≡◌, ℕ, ℤ, pos, zero, suc, Bool, true, false, inl, inr, ◌+◌, ◌-◌, ◌/◌, ◌≤◌, ◌<◌, ◌+ℤ◌, ◌-ℤ◌, ◌*ℤ◌, unsigned_abs, sym, ◌∙◌, ap, refl, get_or, arith}
use Rattle.std.specs.List.{list_any, range_with_len}
use Rattle.std.specs.Int.{int_signum, int_min, int_max}
use Rattle.std.proofs.lemmas.Int.{ints, clamps, by_lt_z}
use Rattle.std.proofs.lemmas.List.Folds.{list_any_at}
use Rattle.std.proofs.lemmas.List.FromFn.{length-range_with_len, get_or-range_with_len}
use Rattle.std.proofs.lemmas.Bool.{and_from}
use Rattle.be_facts.proofs.Truths.{or_either, and_second, and_first, same_truth}
use Rattle.be_geom.specs.declared.point.Point.{Point}
use Rattle.be_geom.specs.Points.{between}
use Rattle.be_geom.proofs.Between.{is_between}
use Rattle.be_shape.specs.Rasters.{share, steps_of, line_at, pen_covers, point_covers, line_has}
use Rattle.be_shape.specs.Rows.{swept_has}
use Rattle.be_shape.specs.Lines.{ArePointsWithin, HasNoPointWithin}
use Rattle.be_shape.proofs.ShareLemmas.{share_within, share_start, share_whole}
use Rattle.be_shape.proofs.BetweenLemmas.{not_below, not_above}
use Rattle.be_shape.proofs.WayLemmas.{at_up, at_down, whole_up, whole_down}
use Rattle.be_shape.proofs.SweepLemmas.{swept_from, found_between, swept_same, covers_same}

-- ---- a test of some number of a range

some_of_range : (p : ℕ → Bool) (k a : ℕ) → list_any p (range_with_len a k) ≡ true → (j : ℕ) × (j < a + k) × (p j ≡ true)
some_of_range p zero a h = cc
some_of_range p (suc k) a h =
    elim (or_either (p a) (list_any p (range_with_len (a + 1) k)) h) [
      | inl here ↦ (a, omega arith, here)
      | inr further ↦ let next = some_of_range p k (a + 1) further in (next.0, omega arith, next.2)
    ]

in_range_at : (p : ℕ → Bool) (k i : ℕ) → i < k → p i ≡ true → list_any p (range_with_len 0 k) ≡ true
in_range_at p k i h e =
    let at : get_or (range_with_len 0 k) i 0 ≡ i = get_or-range_with_len 0 k i 0 h ∙ omega arith in
    list_any_at p (range_with_len 0 k) i 0 (omega (arith, length-range_with_len 0 k)) (ap p at ∙ e)

-- ---- the points of a line

-- some point at which the pen covers the pixel
abbrev pub IsCovered : Point → Point → ℕ → ℤ → ℤ → Type 0
IsCovered from to size x y =
    (j : ℕ) × (j ≤ steps_of from to) × (pen_covers size (line_at j (steps_of from to) from.x to.x) x ≡ true) × (pen_covers size (line_at j (steps_of from to) from.y to.y) y ≡ true)

pub covered_of_line : (from to : Point) (size : ℕ) (x y : ℤ) → line_has from to size x y ≡ true → IsCovered from to size x y
unfolding line_has
covered_of_line from to size x y h =
    let point = some_of_range (point_covers from to size x y) (steps_of from to + 1) 0 h in
    (point.0, omega arith, and_first (pen_covers size (line_at point.0 (steps_of from to) from.x to.x) x) (pen_covers size (line_at point.0 (steps_of from to) from.y to.y) y) point.2, and_second (pen_covers size (line_at point.0 (steps_of from to) from.x to.x) x) (pen_covers size (line_at point.0 (steps_of from to) from.y to.y) y) point.2)

pub line_of_covered : (from to : Point) (size : ℕ) (x y : ℤ) → IsCovered from to size x y → line_has from to size x y ≡ true
unfolding line_has
line_of_covered from to size x y point =
    in_range_at (point_covers from to size x y) (steps_of from to + 1) point.0 (omega arith) (and_from (pen_covers size (line_at point.0 (steps_of from to) from.x to.x) x) (pen_covers size (line_at point.0 (steps_of from to) from.y to.y) y) point.2 point.3)

pub near_across : (from to : Point) → unsigned_abs (to.x -ℤ from.x) ≤ steps_of from to
near_across from to = omega arith

pub near_down : (from to : Point) → unsigned_abs (to.y -ℤ from.y) ≤ steps_of from to
near_down from to = omega arith

-- ---- the one run of a row

abbrev pub CoversBetween : Point → Point → ℕ → ℤ → ℤ → ℤ → Type 0
CoversBetween from to size y nearest farthest =
    (t : ℕ) → t ≤ unsigned_abs (to.y -ℤ from.y) → pen_covers size (from.y +ℤ int_signum (to.y -ℤ from.y) *ℤ pos t) y ≡ between nearest (pos t) farthest

pub run_of_line : (from to : Point) (size : ℕ) (y nearest farthest : ℤ) (first last : ℕ) → CoversBetween from to size y nearest farthest → ArePointsWithin (steps_of from to) (unsigned_abs (to.y -ℤ from.y)) nearest farthest first last → (x : ℤ) → swept_has size (line_at first (steps_of from to) from.x to.x) (line_at last (steps_of from to) from.x to.x) x ≡ line_has from to size x y
run_of_line from to size y nearest farthest first last covers points x =
    let n = steps_of from to in
    same_truth (swept_has size (line_at first n from.x to.x) (line_at last n from.x to.x) x) (line_has from to size x y)
    (λ swept.
    let point = found_between size first last n from.x to.x x (near_across from to) points.ordered points.of_steps swept in
    let within : point.0 ≤ n = (let r = points.of_steps in omega arith) in
    line_of_covered from to size x y (point.0, within, point.3, covers (share point.0 n (unsigned_abs (to.y -ℤ from.y))) (share_within point.0 n (unsigned_abs (to.y -ℤ from.y)) within (near_down from to)) ∙ points.within point.0 point.1 point.2))
    (λ has.
    let point = covered_of_line from to size x y has in
    let there = points.others point.0 point.1 (sym (covers (share point.0 n (unsigned_abs (to.y -ℤ from.y))) (share_within point.0 n (unsigned_abs (to.y -ℤ from.y)) point.1 (near_down from to))) ∙ point.3) in
    swept_from size point.0 first last n from.x to.x x (near_across from to) there.0 there.1 points.of_steps point.2)

pub no_run_of_line : (from to : Point) (size : ℕ) (y nearest farthest : ℤ) → CoversBetween from to size y nearest farthest → HasNoPointWithin (steps_of from to) (unsigned_abs (to.y -ℤ from.y)) nearest farthest → (x : ℤ) → false ≡ line_has from to size x y
no_run_of_line from to size y nearest farthest covers none x =
    let n = steps_of from to in
    same_truth false (line_has from to size x y)
    (λ h. cc)
    (λ has.
    let point = covered_of_line from to size x y has in
    let outside = none point.0 point.1 in
    let at = covers (share point.0 n (unsigned_abs (to.y -ℤ from.y))) (share_within point.0 n (unsigned_abs (to.y -ℤ from.y)) point.1 (near_down from to)) in
    sym outside ∙ sym at ∙ point.3)

-- ---- from end to end

line_start : (n : ℕ) (from to : ℤ) → unsigned_abs (to -ℤ from) ≤ n → line_at 0 n from to ≡ from
line_start n from to near =
    let s = share_start n (unsigned_abs (to -ℤ from)) in
    by_lt_z to from (λ h. at_down 0 n from to h ∙ rw s (omega (arith, ints))) (λ h. at_up 0 n from to h (omega arith) near ∙ rw s (omega (arith, ints)))

line_end : (n : ℕ) (from to : ℤ) → unsigned_abs (to -ℤ from) ≤ n → line_at n n from to ≡ to
line_end n from to near =
    let s = share_whole n (unsigned_abs (to -ℤ from)) near in
    by_lt_z to from (λ h. at_down n n from to h ∙ rw s (whole_down from to h)) (λ h. at_up n n from to h (omega arith) near ∙ rw s (whole_up from to h))

pub covers_swept : (size i n : ℕ) (from to z : ℤ) → unsigned_abs (to -ℤ from) ≤ n → i ≤ n → pen_covers size (line_at i n from to) z ≡ true → swept_has size from to z ≡ true
covers_swept size i n from to z near h covers =
    swept_same size (line_at 0 n from to) (line_at n n from to) from to z (line_start n from to near) (line_end n from to near) (swept_from size i 0 n n from to z near (omega arith) h (omega arith) covers)

pub swept_covers : (size n : ℕ) (from to z : ℤ) → unsigned_abs (to -ℤ from) ≤ n → swept_has size from to z ≡ true → (j : ℕ) × (j ≤ n) × (pen_covers size (line_at j n from to) z ≡ true)
swept_covers size n from to z near swept =
    let point = found_between size 0 n n from to z near (omega arith) (omega arith) (swept_same size from to (line_at 0 n from to) (line_at n n from to) z (sym (line_start n from to near)) (sym (line_end n from to near)) swept) in
    (point.0, point.2, point.3)

-- a coordinate that stays
line_still : (i n : ℕ) (at : ℤ) → i ≤ n → line_at i n at at ≡ at
line_still i n at h =
    let d = unsigned_abs (at -ℤ at) in
    let e : at -ℤ at ≡ pos 0 = omega (arith, ints) in
    let none : d ≡ 0 = rw e refl in
    let bound : share i n d ≤ d = share_within i n d h (omega arith) in
    at_up i n at at (omega (arith, ints)) h (omega arith) ∙ omega (arith, ints)

pub covers_still : (size i n : ℕ) (at z : ℤ) → i ≤ n → swept_has size at at z ≡ true → pen_covers size (line_at i n at at) z ≡ true
covers_still size i n at z h swept =
    let low = not_below (int_min at at -ℤ pos ((size - 1) / 2)) z (int_max at at +ℤ pos (size - 1 - (size - 1) / 2)) swept in
    let high = not_above (int_min at at -ℤ pos ((size - 1) / 2)) z (int_max at at +ℤ pos (size - 1 - (size - 1) / 2)) swept in
    let here : pen_covers size at z ≡ true = is_between (at -ℤ pos ((size - 1) / 2)) z (at -ℤ pos ((size - 1) / 2) +ℤ pos (size - 1)) (omega (arith, ints, clamps)) (omega (arith, ints, clamps)) in
    covers_same size at (line_at i n at at) z (sym (line_still i n at h)) here

-- a pen covers its own middle
middle : (size : ℕ) (at : ℤ) → pen_covers size at at ≡ true
middle size at = is_between _ at _ (omega (arith, ints)) (omega (arith, ints))

-- ---- rows

pub line_in_rows : (from to : Point) (size : ℕ) (x y : ℤ) → line_has from to size x y ≡ true → swept_has size from.y to.y y ≡ true
line_in_rows from to size x y h =
    let point = covered_of_line from to size x y h in
    covers_swept size point.0 (steps_of from to) from.y to.y y (near_down from to) point.1 point.3

pub pixel_of_row : (from to : Point) (size : ℕ) (y : ℤ) → swept_has size from.y to.y y ≡ true → (x : ℤ) × (line_has from to size x y ≡ true)
pixel_of_row from to size y h =
    let point = swept_covers size (steps_of from to) from.y to.y y (near_down from to) h in
    (line_at point.0 (steps_of from to) from.x to.x, line_of_covered from to size (line_at point.0 (steps_of from to) from.x to.x) y (point.0, point.1, middle size (line_at point.0 (steps_of from to) from.x to.x), point.2))

-- ---- as the code has them

pub span_of_line : (from to : Point) (size : ℕ) (y : ℤ) (n d : ℕ) (nearest farthest : ℤ) (first last : ℕ) (a b : ℤ) (has : ℤ → Bool) → n ≡ steps_of from to → d ≡ unsigned_abs (to.y -ℤ from.y) → CoversBetween from to size y nearest farthest → ArePointsWithin n d nearest farthest first last → a ≡ line_at first n from.x to.x → b ≡ line_at last n from.x to.x → ((x : ℤ) → has x ≡ swept_has size a b x) → (x : ℤ) → has x ≡ line_has from to size x y
span_of_line from to size y n d nearest farthest first last a b has steps distance covers points e f all x =
    let points' : ArePointsWithin (steps_of from to) (unsigned_abs (to.y -ℤ from.y)) nearest farthest first last = rw (steps, distance) at points in
    let e' : a ≡ line_at first (steps_of from to) from.x to.x = rw steps at e in
    let f' : b ≡ line_at last (steps_of from to) from.x to.x = rw steps at f in
    all x ∙ rw (e', f') (run_of_line from to size y nearest farthest first last covers points' x)

pub none_of_line : (from to : Point) (size : ℕ) (y : ℤ) (n d : ℕ) (nearest farthest : ℤ) → n ≡ steps_of from to → d ≡ unsigned_abs (to.y -ℤ from.y) → CoversBetween from to size y nearest farthest → HasNoPointWithin n d nearest farthest → (x : ℤ) → false ≡ line_has from to size x y
none_of_line from to size y n d nearest farthest steps distance covers none x =
    let none' : HasNoPointWithin (steps_of from to) (unsigned_abs (to.y -ℤ from.y)) nearest farthest = rw (steps, distance) at none in
    no_run_of_line from to size y nearest farthest covers none' x

-- A pen that goes from one point of a line to another covers what is between, and nothing else.
use Rattle.std.proofs.Common.{◌≡◌, ℕ, ℤ, pos, zero, suc, Bool, true, ◌+◌, ◌-◌, ◌/◌, ◌≤◌, ◌+ℤ◌, ◌-ℤ◌, ◌≤ℤ◌, unsigned_abs, sym, arith}
use Rattle.std.specs.Int.{int_min, int_max}
use Rattle.std.proofs.lemmas.Int.{ints, clamps, by_lt_z}
use Rattle.be_geom.proofs.Between.{is_between}
use Rattle.be_shape.specs.Rasters.{share, line_at, pen_covers}
use Rattle.be_shape.specs.Rows.{swept_has}
use Rattle.be_shape.proofs.ShareLemmas.{share_mono, share_next}
use Rattle.be_shape.proofs.BetweenLemmas.{not_below, not_above}
use Rattle.be_shape.proofs.WayLemmas.{at_up, at_down, same_order}

pub covers_same : (size : ℕ) (a b z : ℤ) → a ≡ b → pen_covers size a z ≡ true → pen_covers size b z ≡ true
covers_same size a b z e h = rw e at h

pub swept_same : (size : ℕ) (a b a' b' z : ℤ) → a ≡ a' → b ≡ b' → swept_has size a b z ≡ true → swept_has size a' b' z ≡ true
swept_same size a b a' b' z e f h = rw (e, f) at h

-- ---- a pen at a point between two covers nothing outside

covers_inside : (size : ℕ) (a b c z : ℤ) → int_min a b ≤ℤ c → c ≤ℤ int_max a b → pen_covers size c z ≡ true → swept_has size a b z ≡ true
covers_inside size a b c z p q h =
    let low = not_below (c -ℤ pos ((size - 1) / 2)) z (c -ℤ pos ((size - 1) / 2) +ℤ pos (size - 1)) h in
    let high = not_above (c -ℤ pos ((size - 1) / 2)) z (c -ℤ pos ((size - 1) / 2) +ℤ pos (size - 1)) h in
    is_between _ z _ (omega (arith, ints)) (omega (arith, ints))

after : (from : ℤ) (s t : ℕ) → s ≤ t → (from +ℤ pos s) ≤ℤ (from +ℤ pos t)
after from s t h = omega (arith, ints)

before : (from : ℤ) (s t : ℕ) → s ≤ t → (from -ℤ pos t) ≤ℤ (from -ℤ pos s)
before from s t h = omega (arith, ints)

least_up : (a b c : ℤ) → a ≤ℤ c → c ≤ℤ b → (int_min a b ≤ℤ c) × (c ≤ℤ int_max a b)
least_up a b c p q = (omega (arith, ints, clamps), omega (arith, ints, clamps))

least_down : (a b c : ℤ) → c ≤ℤ a → b ≤ℤ c → (int_min a b ≤ℤ c) × (c ≤ℤ int_max a b)
least_down a b c p q = (omega (arith, ints, clamps), omega (arith, ints, clamps))

pub swept_from : (size i first last n : ℕ) (from to z : ℤ) → unsigned_abs (to -ℤ from) ≤ n → first ≤ i → i ≤ last → last ≤ n → pen_covers size (line_at i n from to) z ≡ true → swept_has size (line_at first n from to) (line_at last n from to) z ≡ true
swept_from size i first last n from to z near p q r covers =
    let d = unsigned_abs (to -ℤ from) in
    let m : share first n d ≤ share i n d = share_mono first i n d p in
    let o : share i n d ≤ share last n d = share_mono i last n d q in
    by_lt_z to from
    (λ h.
    let w = least_down (line_at first n from to) (line_at last n from to) (line_at i n from to) (same_order (line_at i n from to) (from -ℤ pos (share i n d)) (line_at first n from to) (from -ℤ pos (share first n d)) (at_down i n from to h) (at_down first n from to h) (before from (share first n d) (share i n d) m)) (same_order (line_at last n from to) (from -ℤ pos (share last n d)) (line_at i n from to) (from -ℤ pos (share i n d)) (at_down last n from to h) (at_down i n from to h) (before from (share i n d) (share last n d) o)) in
    covers_inside size (line_at first n from to) (line_at last n from to) (line_at i n from to) z w.0 w.1 covers)
    (λ h.
    let w = least_up (line_at first n from to) (line_at last n from to) (line_at i n from to) (same_order (line_at first n from to) (from +ℤ pos (share first n d)) (line_at i n from to) (from +ℤ pos (share i n d)) (at_up first n from to h (omega arith) near) (at_up i n from to h (omega arith) near) (after from (share first n d) (share i n d) m)) (same_order (line_at i n from to) (from +ℤ pos (share i n d)) (line_at last n from to) (from +ℤ pos (share last n d)) (at_up i n from to h (omega arith) near) (at_up last n from to h r near) (after from (share i n d) (share last n d) o)) in
    covers_inside size (line_at first n from to) (line_at last n from to) (line_at i n from to) z w.0 w.1 covers)

-- ---- numbers that rise by one at most pass none

rises_through : (f : ℕ → ℕ) → ((i : ℕ) → f (suc i) ≤ f i + 1) → (k i : ℕ) (low high : ℤ) → low ≤ℤ high → pos (f i) ≤ℤ high → low ≤ℤ pos (f (k + i)) → (j : ℕ) × (i ≤ j) × (j ≤ k + i) × (low ≤ℤ pos (f j)) × (pos (f j) ≤ℤ high)
rises_through f step zero i low high order below above = let e : 0 + i ≡ i = omega arith in (i, omega arith, omega arith, rw e at above, below)
rises_through f step (suc k) i low high order below above =
    by_lt_z (pos (f i)) low
    (λ less.
    let up = step i in
    let e : suc k + i ≡ k + suc i = omega arith in
    let next = rises_through f step k (suc i) low high order (omega (arith, ints)) (rw e at above) in
    (next.0, omega arith, omega arith, next.3, next.4))
    (λ reached. (i, omega arith, omega arith, reached, below))

-- a number of a row of points, where the pen covers the pixel
abbrev pub SomePoint : ℕ → ℕ → (ℕ → Bool) → Type 0
SomePoint first last covers = (j : ℕ) × (first ≤ j) × (j ≤ last) × (covers j ≡ true)

covers_up_to : (size t : ℕ) (from z : ℤ) → (z -ℤ from -ℤ pos (size - 1 - (size - 1) / 2)) ≤ℤ pos t → pos t ≤ℤ (z -ℤ from +ℤ pos ((size - 1) / 2)) → pen_covers size (from +ℤ pos t) z ≡ true
covers_up_to size t from z low high = is_between _ z _ (omega (arith, ints)) (omega (arith, ints))

covers_down_to : (size t : ℕ) (from z : ℤ) → (from -ℤ z -ℤ pos ((size - 1) / 2)) ≤ℤ pos t → pos t ≤ℤ (from -ℤ z +ℤ pos (size - 1 - (size - 1) / 2)) → pen_covers size (from -ℤ pos t) z ≡ true
covers_down_to size t from z low high = is_between _ z _ (omega (arith, ints)) (omega (arith, ints))

found_up : (f : ℕ → ℕ) → ((i : ℕ) → f (suc i) ≤ f i + 1) → (size k i : ℕ) (from z : ℤ) → f i ≤ f (k + i) → swept_has size (from +ℤ pos (f i)) (from +ℤ pos (f (k + i))) z ≡ true → SomePoint i (k + i) (λ j. pen_covers size (from +ℤ pos (f j)) z)
found_up f step size k i from z mono h =
    let low = not_below (int_min (from +ℤ pos (f i)) (from +ℤ pos (f (k + i))) -ℤ pos ((size - 1) / 2)) z (int_max (from +ℤ pos (f i)) (from +ℤ pos (f (k + i))) +ℤ pos (size - 1 - (size - 1) / 2)) h in
    let high = not_above (int_min (from +ℤ pos (f i)) (from +ℤ pos (f (k + i))) -ℤ pos ((size - 1) / 2)) z (int_max (from +ℤ pos (f i)) (from +ℤ pos (f (k + i))) +ℤ pos (size - 1 - (size - 1) / 2)) h in
    let point = rises_through f step k i (z -ℤ from -ℤ pos (size - 1 - (size - 1) / 2)) (z -ℤ from +ℤ pos ((size - 1) / 2)) (omega (arith, ints)) (omega (arith, ints, clamps)) (omega (arith, ints, clamps)) in
    (point.0, point.1, point.2, covers_up_to size (f point.0) from z point.3 point.4)

found_down : (f : ℕ → ℕ) → ((i : ℕ) → f (suc i) ≤ f i + 1) → (size k i : ℕ) (from z : ℤ) → f i ≤ f (k + i) → swept_has size (from -ℤ pos (f i)) (from -ℤ pos (f (k + i))) z ≡ true → SomePoint i (k + i) (λ j. pen_covers size (from -ℤ pos (f j)) z)
found_down f step size k i from z mono h =
    let low = not_below (int_min (from -ℤ pos (f i)) (from -ℤ pos (f (k + i))) -ℤ pos ((size - 1) / 2)) z (int_max (from -ℤ pos (f i)) (from -ℤ pos (f (k + i))) +ℤ pos (size - 1 - (size - 1) / 2)) h in
    let high = not_above (int_min (from -ℤ pos (f i)) (from -ℤ pos (f (k + i))) -ℤ pos ((size - 1) / 2)) z (int_max (from -ℤ pos (f i)) (from -ℤ pos (f (k + i))) +ℤ pos (size - 1 - (size - 1) / 2)) h in
    let point = rises_through f step k i (from -ℤ z -ℤ pos ((size - 1) / 2)) (from -ℤ z +ℤ pos (size - 1 - (size - 1) / 2)) (omega (arith, ints)) (omega (arith, ints, clamps)) (omega (arith, ints, clamps)) in
    (point.0, point.1, point.2, covers_down_to size (f point.0) from z point.3 point.4)

-- ---- a pen that goes from a point to another covers each pixel between

found_from : (size k first n : ℕ) (from to z : ℤ) → unsigned_abs (to -ℤ from) ≤ n → k + first ≤ n → swept_has size (line_at first n from to) (line_at (k + first) n from to) z ≡ true → SomePoint first (k + first) (λ j. pen_covers size (line_at j n from to) z)
found_from size k first n from to z near r swept =
    let d = unsigned_abs (to -ℤ from) in
    let m : share first n d ≤ share (k + first) n d = share_mono first (k + first) n d (omega arith) in
    by_lt_z to from
    (λ h.
    let point = found_down (λ i. share i n d) (λ i. share_next i n d near) size k first from z m (swept_same size (line_at first n from to) (line_at (k + first) n from to) (from -ℤ pos (share first n d)) (from -ℤ pos (share (k + first) n d)) z (at_down first n from to h) (at_down (k + first) n from to h) swept) in
    (point.0, point.1, point.2, covers_same size (from -ℤ pos (share point.0 n d)) (line_at point.0 n from to) z (sym (at_down point.0 n from to h)) point.3))
    (λ h.
    let point = found_up (λ i. share i n d) (λ i. share_next i n d near) size k first from z m (swept_same size (line_at first n from to) (line_at (k + first) n from to) (from +ℤ pos (share first n d)) (from +ℤ pos (share (k + first) n d)) z (at_up first n from to h (omega arith) near) (at_up (k + first) n from to h r near) swept) in
    (point.0, point.1, point.2, covers_same size (from +ℤ pos (share point.0 n d)) (line_at point.0 n from to) z (sym (at_up point.0 n from to h (omega arith) near)) point.3))

pub found_between : (size first last n : ℕ) (from to z : ℤ) → unsigned_abs (to -ℤ from) ≤ n → first ≤ last → last ≤ n → swept_has size (line_at first n from to) (line_at last n from to) z ≡ true → SomePoint first last (λ j. pen_covers size (line_at j n from to) z)
found_between size first last n from to z near order r swept =
    let e : last ≡ last - first + first = omega arith in
    let point = found_from size (last - first) first n from to z near (omega arith) (rw e at swept) in
    (point.0, point.1, omega arith, point.3)

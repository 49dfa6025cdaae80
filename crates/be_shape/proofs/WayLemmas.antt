-- The points of a line along one coordinate, and where a pen at one of them covers a pixel.
use Rattle.std.proofs.Common.{◌≡◌, ℕ, ℤ, pos, negsuc, zero, suc, ◌-◌, ◌/◌, ◌≤◌, ◌+ℤ◌, ◌-ℤ◌, ◌*ℤ◌, ◌≤ℤ◌, ◌<ℤ◌, unsigned_abs, min, ap, refl, sym, ◌∙◌, SFits, w16, arith, rules}
use lib.IntN.{neg_ℤ}
use Rattle.std.specs.Int.{int_signum}
use Rattle.std.proofs.lemmas.Int.{ints}
use Rattle.be_facts.proofs.Numbers.{unsigned_abs_is}
use Rattle.be_geom.specs.Points.{between}
use Rattle.be_shape.specs.Rasters.{share, line_at, pen_covers}
use Rattle.be_shape.proofs.ShareLemmas.{share_within}
use Rattle.be_shape.proofs.BetweenLemmas.{same_between, moved_between}

way_up : (d : ℤ) (t : ℕ) → pos 0 ≤ℤ d → t ≤ unsigned_abs d → int_signum d *ℤ pos t ≡ pos t
way_up (pos zero) t h k = ap pos (omega arith)
way_up (pos (suc n)) t h k = let e : min (suc n) 1 ≡ 1 = omega arith in rw e (ap pos (omega arith))
way_up (negsuc n) t h k = absurd (omega (arith, ints))

way_down : (d : ℤ) (t : ℕ) → d <ℤ pos 0 → int_signum d *ℤ pos t ≡ neg_ℤ (pos t)
way_down (pos n) t h = absurd (omega (arith, ints))
way_down (negsuc n) t h = ap (λ m. neg_ℤ (pos m)) (omega arith)

pub along_up : (from to : ℤ) (t : ℕ) → from ≤ℤ to → t ≤ unsigned_abs (to -ℤ from) → from +ℤ int_signum (to -ℤ from) *ℤ pos t ≡ from +ℤ pos t
along_up from to t h k = ap (λ z. from +ℤ z) (way_up (to -ℤ from) t (omega (arith, ints)) k)

pub along_down : (from to : ℤ) (t : ℕ) → to <ℤ from → from +ℤ int_signum (to -ℤ from) *ℤ pos t ≡ from -ℤ pos t
along_down from to t h = ap (λ z. from +ℤ z) (way_down (to -ℤ from) t (omega (arith, ints)))

pub at_up : (i n : ℕ) (from to : ℤ) → from ≤ℤ to → i ≤ n → unsigned_abs (to -ℤ from) ≤ n → line_at i n from to ≡ from +ℤ pos (share i n (unsigned_abs (to -ℤ from)))
at_up i n from to h k near = along_up from to _ h (share_within i n (unsigned_abs (to -ℤ from)) k near)

pub at_down : (i n : ℕ) (from to : ℤ) → to <ℤ from → line_at i n from to ≡ from -ℤ pos (share i n (unsigned_abs (to -ℤ from)))
at_down i n from to h = along_down from to _ h

-- ---- where the pen covers a pixel

pub covers_up : (size : ℕ) (from to z : ℤ) (t : ℕ) → from ≤ℤ to → t ≤ unsigned_abs (to -ℤ from) → pen_covers size (from +ℤ int_signum (to -ℤ from) *ℤ pos t) z ≡ between (z -ℤ from -ℤ pos (size - 1 - (size - 1) / 2)) (pos t) (z -ℤ from +ℤ pos ((size - 1) / 2))
covers_up size from to z t h k = rw (along_up from to t h k) (same_between _ _ _ _ _ _ (omega (arith, ints)) (omega (arith, ints)))

pub covers_down : (size : ℕ) (from to z : ℤ) (t : ℕ) → to <ℤ from → pen_covers size (from +ℤ int_signum (to -ℤ from) *ℤ pos t) z ≡ between (from -ℤ z -ℤ pos ((size - 1) / 2)) (pos t) (from -ℤ z +ℤ pos (size - 1 - (size - 1) / 2))
covers_down size from to z t h = rw (along_down from to t h) (moved_between _ _ _ _ _ _ (omega (arith, ints)) (omega (arith, ints)))

-- ---- between the ends

abs_down : (d : ℤ) → d <ℤ pos 0 → pos (unsigned_abs d) ≡ neg_ℤ d
abs_down (pos n) h = absurd (omega (arith, ints))
abs_down (negsuc n) h = refl

pub whole_up : (from to : ℤ) → from ≤ℤ to → from +ℤ pos (unsigned_abs (to -ℤ from)) ≡ to
whole_up from to h = let e = unsigned_abs_is (to -ℤ from) (omega (arith, ints)) in rw e (omega (arith, ints))

pub whole_down : (from to : ℤ) → to <ℤ from → from -ℤ pos (unsigned_abs (to -ℤ from)) ≡ to
whole_down from to h = let e = abs_down (to -ℤ from) (omega (arith, ints)) in rw e (omega (arith, ints))

-- a coordinate between two others is in their range
pub fits_up : (from to at : ℤ) (t : ℕ) → SFits w16 from → SFits w16 to → from ≤ℤ to → t ≤ unsigned_abs (to -ℤ from) → at ≡ from +ℤ pos t → SFits w16 at
fits_up from to at t f g h k e =
    let w = whole_up from to h in
    let low : negsuc 32767 ≤ℤ at = omega (arith, ints) in
    let high : at ≤ℤ pos 32767 = omega (arith, ints) in
    search rules

pub fits_down : (from to at : ℤ) (t : ℕ) → SFits w16 from → SFits w16 to → to <ℤ from → t ≤ unsigned_abs (to -ℤ from) → at ≡ from -ℤ pos t → SFits w16 at
fits_down from to at t f g h k e =
    let w = whole_down from to h in
    let low : negsuc 32767 ≤ℤ at = omega (arith, ints) in
    let high : at ≤ℤ pos 32767 = omega (arith, ints) in
    search rules

pub same_order : (a a' b b' : ℤ) → a ≡ a' → b ≡ b' → a' ≤ℤ b' → a ≤ℤ b
same_order a a' b b' e f h = rw (e, f) h

pub point_up : (i n : ℕ) (from to at : ℤ) (t : ℕ) → from ≤ℤ to → i ≤ n → unsigned_abs (to -ℤ from) ≤ n → t ≡ share i n (unsigned_abs (to -ℤ from)) → at ≡ from +ℤ pos t → at ≡ line_at i n from to
point_up i n from to at t h k near e f = f ∙ ap (λ z. from +ℤ pos z) e ∙ sym (at_up i n from to h k near)

pub point_down : (i n : ℕ) (from to at : ℤ) (t : ℕ) → to <ℤ from → t ≡ share i n (unsigned_abs (to -ℤ from)) → at ≡ from -ℤ pos t → at ≡ line_at i n from to
point_down i n from to at t h e f = f ∙ ap (λ z. from -ℤ pos z) e ∙ sym (at_down i n from to h)

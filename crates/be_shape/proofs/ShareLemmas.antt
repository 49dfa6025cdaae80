-- The share of a distance: it begins at 0, ends at the whole, and rises by 0 or 1 with each point.
use Rattle.std.proofs.Common.{◌≡◌, ℕ, zero, suc, ◌+◌, ◌-◌, ◌*◌, ◌/◌, ◌<◌, ◌≤◌, ◌↔◌, inl, inr, arith, refl, sym, ap}
use Rattle.std.specs.Int.{div_ceil}
use Rattle.std.proofs.Math.Nat.{le-div_iff_mul-le, mul-le-mul_right}
use Rattle.std.proofs.lemmas.Grind.{div_ceil_times}
use Rattle.std.proofs.lemmas.Bool.{cases_lt}
use Rattle.be_shape.specs.Rasters.{share}

times_mono : (q i b : ℕ) → q ≤ i → q * b ≤ i * b
times_mono q i b h = mul-le-mul_right b h

share_is : (i n d : ℕ) → 0 < n → share i n d ≡ (2 * i * d + n) / (2 * n)
share_is i n d h = grind arith

-- a point is so far along the distance where its rounded double is
far_iff : (i n d far : ℕ) → 0 < n → (far ≤ share i n d) ↔ (far * (2 * n) ≤ 2 * i * d + n)
far_iff i n d far h = rw (share_is i n d h) (le-div_iff_mul-le (omega arith))

-- ---- the first point so far

-- a rounded up quotient is the least number whose multiple reaches
ceil_reaches : (a b i : ℕ) → 0 < b → div_ceil a b ≤ i → a ≤ i * b
ceil_reaches a b i h k =
    let t = div_ceil_times a b h in
    let m = times_mono (div_ceil a b) i b k in
    omega arith

ceil_least : (a b i : ℕ) → 0 < b → a ≤ i * b → div_ceil a b ≤ i
ceil_least a b i h k =
    elim (cases_lt i (div_ceil a b)) [
      | inl less ↦
          let t = div_ceil_times a b h in
          let m = times_mono (i + 1) (div_ceil a b) b (omega arith) in
          absurd (omega arith)
      | inr done ↦ done
    ]

-- the odd number before twice a number, so many times
odd_times : (n far : ℕ) → 1 ≤ far → n * (2 * far - 1) + n ≡ far * (2 * n)
odd_times n far h =
    let e : 2 * far - 1 + 1 ≡ 2 * far = omega arith in
    let m : n * (2 * far - 1 + 1) ≡ n * (2 * far) = ap (λ z. n * z) e in
    omega arith

pub first_iff : (i n d far : ℕ) → d ≤ n → 1 ≤ far → far ≤ d → (far ≤ share i n d) ↔ (div_ceil (n * (2 * far - 1)) (2 * d) ≤ i)
first_iff i n d far near beyond inside =
    let f = far_iff i n d far (omega arith) in
    let odd = odd_times n far beyond in
    let there = ceil_reaches (n * (2 * far - 1)) (2 * d) i (omega arith) in
    let back = ceil_least (n * (2 * far - 1)) (2 * d) i (omega arith) in
    (λ h. let p = f.0 h in back (omega arith), λ h. let p = there h in f.1 (omega arith))

-- ---- from point to point

share_rises : (i j n d : ℕ) → 0 < n → i ≤ j → share i n d ≤ share j n d
share_rises i j n d h k =
    let here : share i n d * (2 * n) ≤ 2 * i * d + n = (far_iff i n d (share i n d) h).0 (omega arith) in
    let m = times_mono i j d k in
    (far_iff j n d (share i n d) h).1 (omega arith)

-- a point that is so far was so far but for one before
step_back : (s i n d : ℕ) → 0 < n → d ≤ n → s ≤ share (i + 1) n d → s ≤ share i n d + 1
step_back zero i n d h near k = omega arith
step_back (suc t) i n d h near k =
    let next = (far_iff (i + 1) n d (suc t) h).0 k in
    let back = (far_iff i n d t h).1 (omega arith) in
    omega arith

share_step : (i n d : ℕ) → 0 < n → d ≤ n → share (i + 1) n d ≤ share i n d + 1
share_step i n d h near = step_back (share (i + 1) n d) i n d h near (omega arith)

-- a share is less where the next number isn't reached
reached_not : (i n d far : ℕ) → 0 < n → 2 * i * d + n < far * (2 * n) → share i n d < far
reached_not i n d far h less =
    elim (cases_lt (share i n d) far) [
      | inl below ↦ below
      | inr reached ↦ let p = (far_iff i n d far h).0 reached in absurd (omega arith)
    ]

share_first : (n d : ℕ) → 0 < n → share 0 n d ≡ 0
share_first n d h = let r = reached_not 0 n d 1 h (omega arith) in omega arith

share_last : (n d : ℕ) → 0 < n → share n n d ≡ d
share_last n d h =
    let r = reached_not n n d (d + 1) h (omega arith) in
    let s : d ≤ share n n d = (far_iff n n d d h).1 (omega arith) in
    omega arith

share_bound : (i n d : ℕ) → i ≤ n → 0 < n → share i n d ≤ d
share_bound i n d k h =
    let m = share_rises i n n d h k in
    let l = share_last n d h in
    omega arith

-- a line of no steps has one point
share_none : (i d : ℕ) → share i 0 d ≡ 0
share_none i d = refl

-- the first point that is so far isn't the line's first, and is one of the line's
pub first_bound : (n d far : ℕ) → d ≤ n → 1 ≤ far → far ≤ d → (1 ≤ div_ceil (n * (2 * far - 1)) (2 * d)) × (div_ceil (n * (2 * far - 1)) (2 * d) ≤ n)
first_bound n d far near beyond inside =
    let start = share_first n d (omega arith) in
    let whole = share_last n d (omega arith) in
    let last = (first_iff n n d far near beyond inside).0 (omega arith) in
    elim (cases_lt 0 (div_ceil (n * (2 * far - 1)) (2 * d))) [
      | inl above ↦ (omega arith, last)
      | inr none ↦ let p = (first_iff 0 n d far near beyond inside).1 none in absurd (omega arith)
    ]

pub share_within : (i n d : ℕ) → i ≤ n → d ≤ n → share i n d ≤ d
share_within i n d k near =
    elim (cases_lt 0 n) [
      | inl some ↦ share_bound i n d k some
      | inr none ↦ let e : n ≡ 0 = omega arith in rw (e, share_none i d) (omega arith)
    ]

-- ---- whatever the number of steps

pub share_mono : (i j n d : ℕ) → i ≤ j → share i n d ≤ share j n d
share_mono i j n d k =
    elim (cases_lt 0 n) [
      | inl some ↦ share_rises i j n d some k
      | inr none ↦ let e : n ≡ 0 = omega arith in rw e (rw (share_none i d, share_none j d) (omega arith))
    ]

pub share_next : (i n d : ℕ) → d ≤ n → share (suc i) n d ≤ share i n d + 1
share_next i n d near =
    let one : i + 1 ≡ suc i = omega arith in
    elim (cases_lt 0 n) [
      | inl some ↦ rw one at (share_step i n d some near)
      | inr none ↦ let e : n ≡ 0 = omega arith in rw e (rw (share_none i d, share_none (suc i) d) (omega arith))
    ]

pub share_start : (n d : ℕ) → share 0 n d ≡ 0
share_start n d =
    elim (cases_lt 0 n) [
      | inl some ↦ share_first n d some
      | inr none ↦ let e : n ≡ 0 = omega arith in rw e refl
    ]

pub share_whole : (n d : ℕ) → d ≤ n → share n n d ≡ d
share_whole n d near =
    elim (cases_lt 0 n) [
      | inl some ↦ share_last n d some
      | inr none ↦ let e : n ≡ 0 = omega arith in let f : d ≡ 0 = omega arith in rw (e, f) refl
    ]

-- ---- along the longer way

share_even : (i n : ℕ) → 0 < n → share i n n ≡ i
share_even i n h =
    let r = reached_not i n n (i + 1) h (omega arith) in
    let s : i ≤ share i n n = (far_iff i n n i h).1 (omega arith) in
    omega arith

pub share_along : (i n d : ℕ) → i ≤ n → n ≡ d → share i n d ≡ i
share_along i n d k e =
    elim (cases_lt 0 n) [
      | inl some ↦ rw (sym e) (share_even i n some)
      | inr none ↦ let f : n ≡ 0 = omega arith in let g : i ≡ 0 = omega arith in rw (f, g) refl
    ]

pub first_along : (i n d far : ℕ) → n ≡ d → 1 ≤ far → far ≤ d → (far ≤ share i n d) ↔ (far ≤ i)
first_along i n d far e beyond inside =
    let s : share i n n ≡ i = share_even i n (omega arith) in
    let t : share i n d ≡ i = rw (sym e) s in
    rw t (λ h. h, λ h. h)

-- Reading bytes one after the other, as a loop does.
use Rattle.std.proofs.Common.{◌≡◌, ℕ, suc, zero, ◌-◌, ◌+◌, ◌≤◌, ◌<◌, Bool, true, false, List, [], ◌∷◌, ◌++◌, length, take, drop, Ok, Err, refl, sym, ap, ◌∙◌, arith}
use Rattle.be_flat.specs.declared.fault.FlatError.{FlatError}
use Rattle.be_flat.specs.declared.fault.FlatError.TheVariants.{Truncated, BadByte, Extra, NoMemory}
use Rattle.be_flat.specs.Reading.{Rest, Read, byte_of, byte_at, byte_that, bytes_that, FailsAs}

abbrev bytes_read : Read ℕ → List ℕ
bytes_read (Ok x) = x.0 ∷ x.1.bytes
bytes_read (Err e) = []

-- a byte that was read stood first
pub stood_first : (bytes : List ℕ) (at b : ℕ) (after : Rest) → byte_of bytes at ≡ Ok (b, after) → bytes ≡ b ∷ after.bytes
stood_first [] at b after e = ap bytes_read e
stood_first (c ∷ bytes) at b after e = ap bytes_read e

pub first_byte : (s : Rest) (b : ℕ) (after : Rest) → byte_at s ≡ Ok (b, after) → s.bytes ≡ b ∷ after.bytes
unfolding byte_at
first_byte s b after e = stood_first s.bytes s.at b after e

-- the first i bytes of start are read, and the others are left
pub record Stands (start : List ℕ) (i : ℕ) (bytes : List ℕ) : Type 0 where
  pub inside : i ≤ length start
  pub left : bytes ≡ drop i start

next_is : (start : List ℕ) (i b : ℕ) (more : List ℕ) → drop i start ≡ b ∷ more → (i < length start) × (more ≡ drop (suc i) start) × (take (suc i) start ≡ take i start ++ b ∷ [])
next_is [] zero b more e = absurd (cc e)
next_is [] (suc i) b more e = absurd (cc e)
next_is (x ∷ xs) zero b more e = (omega arith, cc e, cc e)
next_is (x ∷ xs) (suc i) b more e = let rest = next_is xs i b more e in (omega (arith, rest.0), rest.1, ap (λ (l : List ℕ). x ∷ l) rest.2)

-- one byte more is read
pub next_stands : (start : List ℕ) (i : ℕ) (s : Rest) (b : ℕ) (after : Rest) → Stands start i s.bytes → byte_at s ≡ Ok (b, after) → Stands start (i + 1) after.bytes × (take (i + 1) start ≡ take i start ++ b ∷ [])
next_stands start i s b after h e =
    let next = next_is start i b after.bytes (sym h.left ∙ first_byte s b after e) in
    let k : i + 1 ≡ suc i = omega arith in
    rw k (record { inside = omega (arith, next.0); left = next.1 }, next.2)

-- one byte more
pub goes_on : (p : List ℕ → ℕ → Bool) (n i : ℕ) (read : List ℕ) (s : Rest) (b : ℕ) (after : Rest) (total : Read (List ℕ)) → i < n → byte_at s ≡ Ok (b, after) → p read b ≡ true
    → bytes_that p (n - i) read s ≡ total → bytes_that p (n - (i + 1)) (read ++ b ∷ []) after ≡ total
unfolding bytes_that byte_that
goes_on p n i read s b after total lt h passes so_far =
    let k : n - i ≡ suc (n - (i + 1)) = omega arith in
    let one : bytes_that p (n - i) read s ≡ bytes_that p (n - (i + 1)) (read ++ b ∷ []) after = rw (k, h, passes) refl in
    sym one ∙ so_far

-- a byte that doesn't pass
pub is_bad : (p : List ℕ → ℕ → Bool) (n i : ℕ) (read : List ℕ) (s : Rest) (b : ℕ) (after : Rest) (total : Read (List ℕ)) → i < n → byte_at s ≡ Ok (b, after) → p read b ≡ false
    → bytes_that p (n - i) read s ≡ total → total ≡ Err (BadByte s.at)
unfolding bytes_that byte_that
is_bad p n i read s b after total lt h fails so_far =
    let k : n - i ≡ suc (n - (i + 1)) = omega arith in
    let one : bytes_that p (n - i) read s ≡ Err (BadByte s.at) = rw (k, h, fails) refl in
    sym so_far ∙ one

-- no byte is left
fails_with : (p : List ℕ → ℕ → Bool) (n i : ℕ) (read : List ℕ) (s : Rest) (e : FlatError) (total : Read (List ℕ)) → i < n → byte_at s ≡ Err e → bytes_that p (n - i) read s ≡ total → total ≡ Err e
unfolding bytes_that byte_that
fails_with p n i read s e total lt h so_far =
    let k : n - i ≡ suc (n - (i + 1)) = omega arith in
    let one : bytes_that p (n - i) read s ≡ Err e = rw (k, h) refl in
    sym so_far ∙ one

pub ends : (p : List ℕ → ℕ → Bool) (n i : ℕ) (read : List ℕ) (s : Rest) (e : FlatError) (total : Read (List ℕ)) → i < n → FailsAs e (byte_at s) → bytes_that p (n - i) read s ≡ total → FailsAs e total
ends p n i read s NoMemory total lt h so_far = tt
ends p n i read s (Truncated at) total lt h so_far = fails_with p n i read s (Truncated at) total lt h so_far
ends p n i read s (BadByte at) total lt h so_far = fails_with p n i read s (BadByte at) total lt h so_far
ends p n i read s (Extra at) total lt h so_far = fails_with p n i read s (Extra at) total lt h so_far

pub is_done : (p : List ℕ → ℕ → Bool) (n i : ℕ) (read : List ℕ) (s : Rest) (total : Read (List ℕ)) → n ≤ i → bytes_that p (n - i) read s ≡ total → total ≡ Ok (read, s)
unfolding bytes_that
is_done p n i read s total le so_far =
    let k : n - i ≡ 0 = omega arith in
    let one : bytes_that p (n - i) read s ≡ Ok (read, s) = rw k refl in
    sym so_far ∙ one

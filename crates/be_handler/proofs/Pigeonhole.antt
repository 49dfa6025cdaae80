-- More numbers than there are places for them: two of them are the same.
use Rattle.std.proofs.Common.{◌≡◌, ℕ, zero, suc, ◌==◌, ◌<◌, Bool, true, false, if◌then◌else◌, ◌⊎◌, inl, inr, arith, refl, sym, ◌∙◌}
use Rattle.std.proofs.lemmas.Bool.{cases_eq, eqb-true, eqb-false}

-- two of the first n numbers are the same
abbrev pub Meets : (ℕ → ℕ) → ℕ → Type 0
Meets f n = (i : ℕ) × (j : ℕ) × (i < j) × (j < n) × (f i ≡ f j)

-- one of the first n numbers is x, or none is
abbrev Finds : (ℕ → ℕ) → ℕ → ℕ → Type 0
Finds f n x = ((i : ℕ) × (i < n) × (f i ≡ x)) ⊎ ((i : ℕ) → i < n → f i ≡ x → ⊥)

finds_next : (f : ℕ → ℕ) (n x : ℕ) → ((i : ℕ) → i < n → f i ≡ x → ⊥) → (f n ≡ x → ⊥) → (i : ℕ) → i < suc n → f i ≡ x → ⊥
finds_next f n x before last i within same =
    elim (cases_eq i n) [
      | inl here ↦ last (rw here at same)
      | inr apart ↦ before i (omega (arith, apart)) same
    ]

finds : (f : ℕ → ℕ) (n x : ℕ) → Finds f n x
finds f zero x = inr (λ i within same. omega arith)
finds f (suc n) x =
    elim (finds f n x) [
      | inl found ↦ inl (found.0, (let p = found.1 in omega arith), found.2)
      | inr none ↦ elim (cases_eq (f n) x) [
        | inl same ↦ inl (n, omega arith, same)
        | inr apart ↦ inr (finds_next f n x none apart)
      ]
    ]

-- the numbers with y in the place of m
abbrev avoiding : (ℕ → ℕ) → ℕ → ℕ → ℕ → ℕ
avoiding f m y i = if f i == m then y else f i

abbrev Avoids : ℕ → ℕ → ℕ → ℕ → Type 0
Avoids x m y r = ((x ≡ m) × (r ≡ y)) ⊎ ((x ≡ m → ⊥) × (r ≡ x))

avoids_by : (x m y : ℕ) (t : Bool) → (x == m) ≡ t → Avoids x m y (if t then y else x)
avoids_by x m y true e = inl (eqb-true x m e, refl)
avoids_by x m y false e = inr (eqb-false x m e, refl)

avoids : (x m y : ℕ) → Avoids x m y (if x == m then y else x)
avoids x m y = avoids_by x m y (x == m) refl

into_less : (f : ℕ → ℕ) (m n : ℕ) → ((i : ℕ) → i < suc n → f i < suc m) → ((i : ℕ) → i < n → f i ≡ f n → ⊥) → (i : ℕ) → i < n → avoiding f m (f n) i < m
into_less f m n into apart i within =
    let here = into i (omega arith) in
    let last = into n (omega arith) in
    let other = apart i within in
    elim (avoids (f i) m (f n)) [ inl w ↦ omega (arith, w.0, w.1, other) | inr w ↦ omega (arith, w.0, w.1) ]

back : (f : ℕ → ℕ) (m n : ℕ) → ((i : ℕ) → i < n → f i ≡ f n → ⊥) → Meets (avoiding f m (f n)) n → Meets f (suc n)
back f m n apart met =
    let i = met.0 in
    let j = met.1 in
    let order : i < j = met.2 in
    let within : j < n = met.3 in
    let same = met.4 in (
      i,
      j,
      order,
      omega arith,
      elim (avoids (f i) m (f n)) [
        | inl v ↦ elim (avoids (f j) m (f n)) [
          | inl w ↦ v.0 ∙ sym w.0
          | inr w ↦ absurd (apart j within (sym w.1 ∙ sym same ∙ v.1))
        ]
        | inr v ↦ elim (avoids (f j) m (f n)) [
          | inl w ↦ absurd (apart i (omega arith) (sym v.1 ∙ same ∙ w.1))
          | inr w ↦ sym v.1 ∙ same ∙ w.1
        ]
      ],
    )

pub meets : (m n : ℕ) (f : ℕ → ℕ) → ((i : ℕ) → i < n → f i < m) → m < n → Meets f n
meets zero n f into more = absurd (omega (arith, into 0 (omega arith)))
meets (suc m) zero f into more = absurd (omega arith)
meets (suc m) (suc n) f into more =
    elim (finds f n (f n)) [
      | inl found ↦ (found.0, n, found.1, omega arith, found.2)
      | inr none ↦ back f m n none (meets m n (avoiding f m (f n)) (into_less f m n into none) (omega arith))
    ]

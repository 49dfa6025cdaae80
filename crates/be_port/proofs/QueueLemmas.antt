-- Letters taken from the front.
use Rattle.std.proofs.Common.{◌≡◌, ◌+◌, ◌≤◌, Bool, true, false, not, List, [], ◌∷◌, length, filter, drop, slice_get, if◌then◌else◌, Some, refl, sym, arith}
use Rattle.std.specs.List.{list_any}
use Rattle.std.proofs.lemmas.Bool.{cases_Bool}
use Rattle.std.proofs.Common.{⊎_elim}
use Rattle.be_port.specs.declared.letter.Letter as held

abbrev pub is_counted : held.Letter → Bool
is_counted letter = not letter.notice

-- not more letters are counted than there are
pub counted_few : (xs : List held.Letter) → length (filter is_counted xs) ≤ length xs
counted_few [] = omega arith
counted_few (x ∷ xs) =
    let few = counted_few xs in
    ⊎_elim (λ (e : x.notice ≡ true). rw e (omega arith)) (λ (e : x.notice ≡ false). rw e (omega arith)) (cases_Bool x.notice)

-- where all letters are counted none is a notice
pub all_counted : (xs : List held.Letter) → length (filter is_counted xs) ≡ length xs → list_any (λ letter. letter.notice) xs ≡ false
all_counted [] e = refl
all_counted (x ∷ xs) e =
    ⊎_elim
    (λ (h : x.notice ≡ true). let short = rw h at e in absurd (omega (arith, counted_few xs)))
    (λ (h : x.notice ≡ false). let rest = rw h at e in rw h (all_counted xs (omega arith)))
    (cases_Bool x.notice)

-- a notice that is taken was the only one
pub notice_taken : (xs : List held.Letter) (letter : held.Letter) → slice_get xs 0 ≡ Some letter → letter.notice ≡ true →
    length xs ≡ length (filter is_counted xs) + (if list_any (λ l. l.notice) xs then 1 else 0) →
    (false ≡ list_any (λ l. l.notice) (drop 1 xs)) × (length (drop 1 xs) ≡ length (filter is_counted (drop 1 xs)))
    × (length (filter is_counted (drop 1 xs)) ≡ length (filter is_counted xs))
notice_taken [] letter there is_notice one = cc
notice_taken (x ∷ xs) letter there is_notice one =
    let same : x.notice ≡ true = grind arith in
    let one_left = rw same at one in
    let rest : length (filter is_counted xs) ≡ length xs = omega arith in
    (sym (all_counted xs rest), sym rest, rw same refl)

-- Lemmas on the order of windows: what leaves it, and what is put into it.
use Rattle.std.specs.Prelude.{◌==◌, position, count_by, insert, remove}
use Rattle.std.specs.List.{position_or_len}
use Rattle.std.proofs.Common.{◌≡◌, ℕ, zero, suc, ◌+◌, ◌<◌, ◌≤◌, Bool, true, false, cond, not, List, [], ◌∷◌, ◌++◌, length, get_or, Some, None, ltb, refl, sym, ap, ◌∙◌, add-one, arith}
use Rattle.std.proofs.lemmas.Bool.{false≢true}
use Rattle.std.proofs.lemmas.Bool.Decides.{nat_tests}
use Rattle.std.proofs.lemmas.List.Quantifiers.{position-Some}
use Rattle.std.proofs.lemmas.List.Edits.{insert_end}
use Rattle.std.proofs.lemmas.List.Sums.{prefix_len-le-length, sum_by-cons}
use Rattle.be_stack.specs.Order.{others, put_behind}

abbrev pub count_of : ℕ → List ℕ → ℕ
count_of w xs = count_by (λ v. v == w) xs

pub count-cons : (w x : ℕ) (xs : List ℕ) → count_of w (x ∷ xs) ≡ cond (x == w) 1 0 + count_of w xs
count-cons w x xs = sum_by-cons (λ v. cond (v == w) 1 0) x xs

-- ---- who isn't in a list

kept_first : (b : Bool) (w x : ℕ) (xs : List ℕ) → cond b 1 0 + count_of w xs ≡ 0 → (count_of w xs ≡ 0 → others w xs ≡ xs) → cond (not b) (x ∷ others w xs) (others w xs) ≡ x ∷ xs
kept_first true w x xs h rest = absurd (omega arith)
kept_first false w x xs h rest = ap (λ l. x ∷ l) (rest (omega arith))

-- a list without what isn't in it
pub others_all : (w : ℕ) (xs : List ℕ) → count_of w xs ≡ 0 → others w xs ≡ xs
others_all w [] h = refl
others_all w (x ∷ xs) h = kept_first (x == w) w x xs (sym (count-cons w x xs) ∙ h) (others_all w xs)

none_first : (b : Bool) (n m k : ℕ) → cond (not b) (1 + n) 0 ≡ suc m → (n ≡ m → k ≡ 0) → cond b 1 0 + k ≡ 0
none_first true n m k h rest = absurd (omega arith)
none_first false n m k h rest = let none : k ≡ 0 = rest (omega arith) in omega arith

-- a list that a search goes through to its end doesn't have what is sought
none_counted : (w : ℕ) (xs : List ℕ) → position_or_len (λ v. v == w) xs ≡ length xs → count_of w xs ≡ 0
none_counted w [] h = refl
none_counted w (x ∷ xs) h =
    count-cons w x xs ∙ none_first (x == w) (position_or_len (λ v. v == w) xs) (length xs) (count_of w xs) h (none_counted w xs)

ended : (n m : ℕ) → n ≤ m → cond (ltb n m) (Some n) None ≡ None → n ≡ m
ended n m within h = grind (arith, nat_tests)

-- a search that finds nothing goes to the end
pub searched : (w : ℕ) (xs : List ℕ) → None ≡ position (λ v. v == w) xs → position_or_len (λ v. v == w) xs ≡ length xs
searched w xs h = ended (position_or_len (λ v. v == w) xs) (length xs) (prefix_len-le-length (λ v. not (v == w)) xs) (sym h)

pub not_counted : (w : ℕ) (xs : List ℕ) → None ≡ position (λ v. v == w) xs → count_of w xs ≡ 0
not_counted w xs h = none_counted w xs (searched w xs h)

-- ---- what is taken out

counts_one : (b : Bool) (n : ℕ) → b ≡ true → 1 ≤ cond b 1 0 + n
counts_one true n e = omega arith
counts_one false n e = absurd (false≢true e)

-- what stands in a list is counted
counted_there : (w : ℕ) (xs : List ℕ) (i : ℕ) → i < length xs → (get_or xs i 0 == w) ≡ true → 1 ≤ count_of w xs
counted_there w [] i h e = absurd (omega arith)
counted_there w (x ∷ xs) zero h e = rw (count-cons w x xs) (counts_one (x == w) (count_of w xs) e)
counted_there w (x ∷ xs) (suc i) h e = omega (arith, count-cons w x xs, counted_there w xs i (omega arith) e)

first_out : (b : Bool) (w x : ℕ) (xs : List ℕ) → b ≡ true → cond b 1 0 + count_of w xs ≤ 1 → xs ≡ cond (not b) (x ∷ others w xs) (others w xs)
first_out true w x xs e once = sym (others_all w xs (omega arith))
first_out false w x xs e once = absurd (false≢true e)

later_out : (b : Bool) (w x : ℕ) (xs rest : List ℕ) → cond b 1 0 + count_of w xs ≤ 1 → 1 ≤ count_of w xs → (count_of w xs ≤ 1 → rest ≡ others w xs) → x ∷ rest ≡ cond (not b) (x ∷ others w xs) (others w xs)
later_out true w x xs rest once there h = absurd (omega arith)
later_out false w x xs rest once there h = ap (λ l. x ∷ l) (h (omega arith))

-- a list without the place of what stands in it once
removed_at : (w : ℕ) (xs : List ℕ) (i : ℕ) → i < length xs → (get_or xs i 0 == w) ≡ true → count_of w xs ≤ 1 → remove xs i ≡ others w xs
removed_at w [] i h e once = absurd (omega arith)
removed_at w (x ∷ xs) zero h e once = first_out (x == w) w x xs e (rw (count-cons w x xs) at once)
removed_at w (x ∷ xs) (suc i) h e once =
    later_out (x == w) w x xs (remove xs i) (rw (count-cons w x xs) at once) (counted_there w xs i (omega arith) e) (removed_at w xs i (omega arith) e)

pub removed : (w : ℕ) (xs : List ℕ) (i : ℕ) → Some i ≡ position (λ v. v == w) xs → count_of w xs ≤ 1 → remove xs i ≡ others w xs
removed w xs i found once =
    let there = position-Some (λ v. v == w) xs i 0 (sym found) in
    removed_at w xs i there.0 there.1 once

-- ---- what is put behind another

later_behind : (b : Bool) (front w x : ℕ) (xs rest : List ℕ) → b ≡ false → put_behind front w xs ≡ rest → cond b (x ∷ w ∷ xs) (x ∷ put_behind front w xs) ≡ x ∷ rest
later_behind true front w x xs rest e h = absurd (false≢true (sym e))
later_behind false front w x xs rest e h = ap (λ l. x ∷ l) h

behind_at : (front w : ℕ) (xs : List ℕ) (i : ℕ) → i < length xs → (get_or xs i 0 == front) ≡ true → ((k : ℕ) → k < i → (get_or xs k 0 == front) ≡ false) → put_behind front w xs ≡ insert xs (suc i) w
behind_at front w [] i h e before = absurd (omega arith)
behind_at front w (x ∷ xs) zero h e before = ap (λ b. cond b (x ∷ w ∷ xs) (x ∷ put_behind front w xs)) e
behind_at front w (x ∷ xs) (suc i) h e before =
    later_behind (x == front) front w x xs (insert xs (suc i) w) (before 0 (omega arith)) (behind_at front w xs i (omega arith) e (λ k l. before (suc k) (omega arith)))

pub put_after : (front w : ℕ) (xs : List ℕ) (i : ℕ) → Some i ≡ position (λ v. v == front) xs → put_behind front w xs ≡ insert xs (i + 1) w
put_after front w xs i found =
    let there = position-Some (λ v. v == front) xs i 0 (sym found) in
    rw add-one (behind_at front w xs i there.0 there.1 there.2)

never_behind : (b : Bool) (front w x n m : ℕ) (xs rest : List ℕ) → cond (not b) (1 + n) 0 ≡ suc m → (n ≡ m → put_behind front w xs ≡ rest) → cond b (x ∷ w ∷ xs) (x ∷ put_behind front w xs) ≡ x ∷ rest
never_behind true front w x n m xs rest h e = absurd (omega arith)
never_behind false front w x n m xs rest h e = ap (λ l. x ∷ l) (e (omega arith))

behind_all : (front w : ℕ) (xs : List ℕ) → position_or_len (λ v. v == front) xs ≡ length xs → put_behind front w xs ≡ xs ++ w ∷ []
behind_all front w [] h = refl
behind_all front w (x ∷ xs) h =
    never_behind (x == front) front w x (position_or_len (λ v. v == front) xs) (length xs) xs (xs ++ w ∷ []) h (behind_all front w xs)

pub put_last : (front w : ℕ) (xs : List ℕ) → None ≡ position (λ v. v == front) xs → put_behind front w xs ≡ insert xs (length xs) w
put_last front w xs none = behind_all front w xs (searched front xs none) ∙ sym (insert_end xs w)

-- what stood in an order goes into the others
pub goes_behind : (front w : ℕ) (xs out done : List ℕ) (i : ℕ) → out ≡ others w xs → put_behind front w out ≡ insert out i w → done ≡ insert out i w → done ≡ put_behind front w (others w xs)
goes_behind front w xs out done i left put e = e ∙ sym put ∙ ap (put_behind front w) left

pub goes_first : (w : ℕ) (xs out done : List ℕ) → out ≡ others w xs → done ≡ w ∷ out → done ≡ w ∷ others w xs
goes_first w xs out done left e = e ∙ ap (λ l. w ∷ l) left

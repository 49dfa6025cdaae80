-- Facts on lists, and on what may be there.
use Rattle.std.proofs.Common.{◌≡◌, ℕ, ◌<◌, zero, suc, List, [], ◌∷◌, length, Some, arith, refl, ◌+◌}
use Rattle.std.proofs.Common.{◌++◌, length-append, append_assoc, ◌≤◌, None, ap, ◌∙◌, map, sym, Bool}
use Rattle.std.proofs.Common.{true, set, Result, Ok, Err, OnOk, take, drop, append-nil, take_all}
use Rattle.std.proofs.Common.{drop_of_length-le, Option}
use Rattle.std.specs.Prelude.{slice_get, slice_set, option_map, option_and_then}
use Rattle.std.specs.List.{range_with_len, list_all}
use Rattle.std.proofs.lemmas.List.{map-append, get_or-set_same, length-set}
use Rattle.std.proofs.lemmas.Option.{same_Some, slice_get-map, slice_get-get_or}
use Rattle.std.proofs.lemmas.Bool.{and_from}
use Rattle.be_facts.proofs.Truths.{and_first, and_second}

-- ---- elements

pub element : {A : Type 0} (xs : List A) (k : ℕ) → k < length xs → (x : A) × (slice_get xs k ≡ Some x)
element [] k h = absurd (omega arith)
element (x ∷ xs) zero h = (x, refl)
element (x ∷ xs) (suc k) h = element xs k (omega arith)

pub none_past : {X : Type 0} (xs : List X) (i : ℕ) → slice_get xs i ≡ None → length xs ≤ i
none_past [] i e = omega arith
none_past (z ∷ zs) zero e = absurd (cc)
none_past (z ∷ zs) (suc i) e = let h = none_past zs i e in omega arith

pub got_front : {A : Type 0} (xs : List A) (x : A) (k : ℕ) → k < length xs → slice_get (xs ++ x ∷ []) k ≡ slice_get xs k
got_front [] x k h = absurd (omega arith)
got_front (y ∷ ys) x zero h = refl
got_front (y ∷ ys) x (suc k) h = got_front ys x k (omega arith)

pub got_last : {A : Type 0} (xs : List A) (x : A) (k : ℕ) → k ≡ length xs → slice_get (xs ++ x ∷ []) k ≡ Some x
got_last [] x zero e = refl
got_last [] x (suc k) e = absurd (omega arith)
got_last (y ∷ ys) x zero e = absurd (omega arith)
got_last (y ∷ ys) x (suc k) e = got_last ys x k (omega arith)

pub length_push : {X : Type 0} (xs : List X) (x : X) → length (xs ++ x ∷ []) ≡ length xs + 1
length_push xs x = length-append xs (x ∷ [])

-- ---- one behind another

pub append_none : {X : Type 0} (xs : List X) → xs ++ [] ≡ xs
append_none [] = refl
append_none (x ∷ xs) = ap (λ l. x ∷ l) (append_none xs)

-- three parts behind a start
pub append_three : (start a b c : List ℕ) → ((start ++ a) ++ b) ++ c ≡ start ++ (a ++ (b ++ c))
append_three start a b c = simp append_assoc

pub append_moved : (start a b c : List ℕ) → ((start ++ a) ++ b) ++ c ≡ start ++ ((a ++ b) ++ c)
append_moved start a b c = simp append_assoc

-- ---- an element put in

pub set_other : {A : Type 0} (xs : List A) (w u : ℕ) (x : A) → (u ≡ w → ⊥) → slice_get (slice_set xs w x) u ≡ slice_get xs u
set_other [] w u x other = refl
set_other (y ∷ ys) zero zero x other = absurd (other refl)
set_other (y ∷ ys) zero (suc u) x other = refl
set_other (y ∷ ys) (suc w) zero x other = refl
set_other (y ∷ ys) (suc w) (suc u) x other = set_other ys w u x (λ e. other (ap suc e))

pub set_same : {X : Type 0} (xs : List X) (k : ℕ) (y : X) → k < length xs
    → slice_get (set xs k y) k ≡ Some y
set_same {X} xs k y within =
    slice_get-get_or (set xs k y) k y (omega (arith, length-set xs k y))
    ∙ ap Some (get_or-set_same xs k y y within)

pub set_self : {A : Type 0} (xs : List A) (k : ℕ) (x : A) → slice_get xs k ≡ Some x → slice_set xs k x ≡ xs
set_self [] k x h = refl
set_self (y ∷ xs) zero x h = ap (λ z. z ∷ xs) (sym (same_Some y x h))
set_self (y ∷ xs) (suc k) x h = ap (λ l. y ∷ l) (set_self xs k x h)

pub set_length : {A : Type 0} (xs : List A) (w : ℕ) (x : A) → length (slice_set xs w x) ≡ length xs
set_length [] w x = refl
set_length (y ∷ ys) zero x = refl
set_length (y ∷ ys) (suc w) x = ap suc (set_length ys w x)

-- what a list is after all of it was lent and given back
pub whole_again : {A : Type 0} (n : ℕ) (new old : List A) → length new ≡ length old → n ≡ length old
    → take n (new ++ drop (length new) old) ≡ new
whole_again n new old long many =
    ap (λ l. take n (new ++ l)) (drop_of_length-le old (omega arith))
    ∙ (ap (take n) (append-nil new) ∙ take_all n new (omega arith))

-- ---- parts

pub get_take : {X : Type 0} (n : ℕ) (xs : List X) (k : ℕ) → k < n → slice_get (take n xs) k ≡ slice_get xs k
get_take zero xs k h = absurd (omega arith)
get_take (suc n) [] k h = refl
get_take (suc n) (x ∷ xs) zero h = refl
get_take (suc n) (x ∷ xs) (suc k) h = get_take n xs k (omega arith)

pub get_drop : {X : Type 0} (n : ℕ) (xs : List X) (k m : ℕ) → m ≡ n + k → slice_get (drop n xs) k ≡ slice_get xs m
get_drop zero xs k m e = let same : k ≡ m = omega arith in ap (slice_get xs) same
get_drop (suc n) [] k m e = refl
get_drop (suc n) (x ∷ xs) k zero e = absurd (omega arith)
get_drop (suc n) (x ∷ xs) k (suc m) e = get_drop n xs k m (omega arith)

-- ---- each element

pub map_length : {X Y : Type 0} (f : X → Y) (xs : List X) → length (map f xs) ≡ length xs
map_length f [] = refl
map_length f (x ∷ xs) = ap suc (map_length f xs)

pub map_push : {X Y : Type 0} (f : X → Y) (xs : List X) (x : X) → map f (xs ++ x ∷ []) ≡ map f xs ++ f x ∷ []
map_push f xs x = map-append f xs (x ∷ [])

pub map_map : {A B C : Type 0} (f : B → C) (k : A → B) (xs : List A) → map f (map k xs) ≡ map (λ a. f (k a)) xs
map_map f k [] = refl
map_map f k (x ∷ xs) = ap (λ l. f (k x) ∷ l) (map_map f k xs)

pub get_map : {X Y : Type 0} (f : X → Y) (xs : List X) (w : ℕ) (x : X) → slice_get xs w ≡ Some x → slice_get (map f xs) w ≡ Some (f x)
get_map f xs w x read = slice_get-map f xs w ∙ ap (option_map f) read

pub all_at : {X : Type 0} (p : X → Bool) (xs : List X) (k : ℕ) (x : X) → list_all p xs ≡ true → slice_get xs k ≡ Some x → p x ≡ true
all_at p [] k x h at = cc
all_at p (y ∷ ys) zero x h at =
    let same : y ≡ x = cc in
    ap p (sym same) ∙ and_first (p y) (list_all p ys) h
all_at p (y ∷ ys) (suc k) x h at = all_at p ys k x (and_second (p y) (list_all p ys) h) at

pub all_weaker : {X : Type 0} (p q : X → Bool) → ((x : X) → p x ≡ true → q x ≡ true) → (xs : List X) → list_all p xs ≡ true → list_all q xs ≡ true
all_weaker p q each [] h = refl
all_weaker p q each (x ∷ xs) h =
    and_from (q x) (list_all q xs) (each x (and_first (p x) (list_all p xs) h)) (all_weaker p q each xs (and_second (p x) (list_all p xs) h))

all_from : (p : ℕ → Bool) (k n : ℕ) → ((j : ℕ) → j < k + n → p j ≡ true) → list_all p (range_with_len k n) ≡ true
all_from p k zero each = refl
all_from p k (suc n) each = rw (each k (omega arith)) (all_from p (k + 1) n (λ j h. each j (omega arith)))

pub all_below : (p : ℕ → Bool) (n : ℕ) → ((j : ℕ) → j < n → p j ≡ true) → list_all p (range_with_len 0 n) ≡ true
all_below p n each = all_from p 0 n (λ j h. each j (omega arith))

-- ---- ranges

pub range_more : (a n : ℕ) → range_with_len a (suc n) ≡ range_with_len a n ++ (a + n) ∷ []
range_more a zero = ap (λ k. k ∷ []) (omega arith)
range_more a (suc n) =
    let at : (a + 1) + n ≡ a + suc n = omega arith in
    ap (λ xs. a ∷ xs) (range_more (a + 1) n ∙ ap (λ k. range_with_len (a + 1) n ++ k ∷ []) at)

pub range_append : (a n m : ℕ) → range_with_len a (n + m) ≡ range_with_len a n ++ range_with_len (a + n) m
range_append a zero m =
    let none : 0 + m ≡ m = omega arith in
    let here : a ≡ a + 0 = omega arith in
    ap (range_with_len a) none ∙ ap (λ (k : ℕ). range_with_len k m) here
range_append a (suc n) m =
    let one : suc n + m ≡ suc (n + m) = omega arith in
    let on : a + 1 + n ≡ a + suc n = omega arith in
    ap (range_with_len a) one
    ∙ ap (λ (l : List ℕ). a ∷ l) (range_append (a + 1) n m)
    ∙ ap (λ (k : ℕ). a ∷ (range_with_len (a + 1) n ++ range_with_len k m)) on

pub get_range : (j n k : ℕ) → k < n → slice_get (range_with_len j n) k ≡ Some (j + k)
get_range j zero k h = absurd (omega arith)
get_range j (suc n) zero h = let same : j ≡ j + 0 = omega arith in ap Some same
get_range j (suc n) (suc k) h = let same : j + 1 + k ≡ j + suc k = omega arith in get_range (j + 1) n k (omega arith) ∙ ap Some same

-- ---- what may be there

pub some_part : {A B : Type 0} (f : A → B) (o : Option A) (k : B) → option_map f o ≡ Some k → (x : A) × (o ≡ Some x) × (f x ≡ k)
some_part f None k e = absurd (cc)
some_part f (Some x) k e = (x, refl, (cc))

pub some_inner : {X Y : Type 0} (f : X → Option Y) (o : Option X) (y : Y) → option_and_then f o ≡ Some y → (x : X) × (o ≡ Some x) × (f x ≡ Some y)
some_inner f None y e = absurd (cc)
some_inner f (Some x) y e = (x, refl, e)

pub no_part : {A B : Type 0} (f : A → B) (o : Option A) → option_map f o ≡ None → o ≡ None
no_part f None e = refl
no_part f (Some x) e = absurd (cc)

pub on_ok_map : {E : Type 0} (r : Result (Unit {0}) E) (P Q : Type 0) → OnOk r P → (P → Q) → OnOk r Q
on_ok_map (Ok x) P Q is f = f is
on_ok_map (Err e) P Q is f = tt

-- What holds of a list with one item more behind the others.
use Rattle.std.proofs.Common.{◌≡◌, ℕ, ◌+◌, ◌<◌, ◌≤◌, ◌==◌, Bool, true, false, not, ◌&&◌, ◌||◌, cond, List, [], ◌∷◌, ◌++◌, length, filter, refl, ap, ◌∙◌, arith}
use Rattle.std.specs.List.{list_all, list_any}
use Rattle.std.specs.Prelude.{nat_lt}
use Rattle.std.proofs.lemmas.Bool.{le-leb, ltb-true, ne_eqb, and_from, not_from_false}
use Rattle.std.proofs.lemmas.List.{append-nil}
use Rattle.std.proofs.lemmas.List.Elements.{filter-append}
use Rattle.be_facts.proofs.Lists.{length_push}
use Rattle.be_facts.proofs.Truths.{or_false_second, or_false_first, and_first, and_second}
use Rattle.be_script.specs.Limits.{is_at_most}

-- ---- tests of all

pub all-append : {X : Type 0} (p : X → Bool) (xs : List X) (x : X) → list_all p xs ≡ true → p x ≡ true → list_all p (xs ++ x ∷ []) ≡ true
all-append p [] x h k = and_from (p x) true k refl
all-append p (y ∷ ys) x h k =
    and_from (p y) (list_all p (ys ++ x ∷ [])) (and_first (p y) (list_all p ys) h) (all-append p ys x (and_second (p y) (list_all p ys) h) k)

pub all-both : {X : Type 0} (p q : X → Bool) (xs : List X) → list_all p xs ≡ true → list_all q xs ≡ true → list_all (λ x. p x && q x) xs ≡ true
all-both p q [] h k = refl
all-both p q (x ∷ xs) h k =
    and_from (p x && q x) (list_all (λ x. p x && q x) xs)
    (and_from (p x) (q x) (and_first (p x) (list_all p xs) h) (and_first (q x) (list_all q xs) k))
    (all-both p q xs (and_second (p x) (list_all p xs) h) (and_second (q x) (list_all q xs) k))

pub none-passes : {X : Type 0} (p : X → Bool) (xs : List X) → list_any p xs ≡ false → list_all (λ x. not (p x)) xs ≡ true
none-passes p [] h = refl
none-passes p (x ∷ xs) h =
    and_from (not (p x)) (list_all (λ x. not (p x)) xs) (not_from_false (p x) (or_false_first (p x) (list_any p xs) h)) (none-passes p xs (or_false_second (p x) (list_any p xs) h))

-- ---- what is kept of it

pub keeps-last : {X : Type 0} (p : X → Bool) (xs : List X) (x : X) → p x ≡ true → filter p (xs ++ x ∷ []) ≡ filter p xs ++ x ∷ []
keeps-last p xs x h = filter-append p xs (x ∷ []) ∙ ap (λ b. filter p xs ++ cond b (x ∷ []) []) h

pub drops-last : {X : Type 0} (p : X → Bool) (xs : List X) (x : X) → p x ≡ false → filter p (xs ++ x ∷ []) ≡ filter p xs
drops-last p xs x h = filter-append p xs (x ∷ []) ∙ ap (λ b. filter p xs ++ cond b (x ∷ []) []) h ∙ append-nil (filter p xs)

-- one more at most
kept_more : {X : Type 0} (p : X → Bool) (xs : List X) (x : X) (b : Bool) → p x ≡ b →
    (length (filter p xs) ≤ length (filter p (xs ++ x ∷ []))) × (length (filter p (xs ++ x ∷ [])) ≤ length (filter p xs) + 1)
kept_more p xs x true h =
    let e = ap length (keeps-last p xs x h) ∙ length_push (filter p xs) x in
    (omega arith, omega arith)
kept_more p xs x false h =
    let e = ap length (drops-last p xs x h) in
    (omega arith, omega arith)

pub filter-more : {X : Type 0} (p : X → Bool) (xs : List X) (x : X) →
    (length (filter p xs) ≤ length (filter p (xs ++ x ∷ []))) × (length (filter p (xs ++ x ∷ [])) ≤ length (filter p xs) + 1)
filter-more p xs x = kept_more p xs x (p x) refl

-- a test of what passes another
at_both : {X : Type 0} (q : X → Bool) (b : Bool) (x : X) (ys zs : List X) → filter q ys ≡ zs → filter q (cond b (x ∷ ys) ys) ≡ cond (b && q x) (x ∷ zs) zs
at_both q true x ys zs e = ap (λ l. cond (q x) (x ∷ l) l) e
at_both q false x ys zs e = e

pub filter-both : {X : Type 0} (p q : X → Bool) (xs : List X) → filter q (filter p xs) ≡ filter (λ x. p x && q x) xs
filter-both p q [] = refl
filter-both p q (x ∷ xs) = at_both q (p x) x (filter p xs) (filter (λ x. p x && q x) xs) (filter-both p q xs)

-- none is kept where none passes
at_none : {X : Type 0} (b any : Bool) (x : X) (xs : List X) → (any ≡ false → xs ≡ []) → (b || any) ≡ false → cond b (x ∷ xs) xs ≡ []
at_none b any x xs rest h = ap (λ c. cond c (x ∷ xs) xs) (or_false_first b any h) ∙ rest (or_false_second b any h)

pub none-kept : {X : Type 0} (p : X → Bool) (xs : List X) → list_any p xs ≡ false → filter p xs ≡ []
none-kept p [] h = refl
none-kept p (x ∷ xs) h = at_none (p x) (list_any p xs) x (filter p xs) (none-kept p xs) h

pub at-most-of : {X : Type 0} (n : ℕ) (xs : List X) → length xs ≤ n → is_at_most n xs ≡ true
at-most-of n xs h = le-leb (length xs) n h

-- one at most of those that none was of
pub alone-last : {X : Type 0} (p : X → Bool) (xs : List X) (x : X) → list_any p xs ≡ false → is_at_most 1 (filter p (xs ++ x ∷ [])) ≡ true
alone-last p xs x h =
    let none = ap length (none-kept p xs h) in
    let more = filter-more p xs x in
    at-most-of 1 (filter p (xs ++ x ∷ [])) (omega arith)

-- no line is of a number that no line may have
beyond : (k n : ℕ) → nat_lt k n ≡ true → (k == n) ≡ false
beyond k n h = let below : k < n = ltb-true k n h in ne_eqb k n (λ e. omega arith)

pub none-beyond : {X : Type 0} (f : X → ℕ) (n : ℕ) (xs : List X) → list_all (λ x. nat_lt (f x) n) xs ≡ true → filter (λ x. f x == n) xs ≡ []
none-beyond f n [] h = refl
none-beyond f n (x ∷ xs) h =
    ap (λ b. cond b (x ∷ filter (λ x. f x == n) xs) (filter (λ x. f x == n) xs)) (beyond (f x) n (and_first (nat_lt (f x) n) (list_all (λ x. nat_lt (f x) n) xs) h))
    ∙ none-beyond f n xs (and_second (nat_lt (f x) n) (list_all (λ x. nat_lt (f x) n) xs) h)

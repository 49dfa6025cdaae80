-- Lists by number, and what is picked of them.
use Rattle.std.proofs.Common.{◌≡◌, ℕ, zero, suc, ◌+◌, ◌<◌, ◌≤◌, List, [], ◌∷◌, ◌++◌, map, length, Option, Some, None, refl, sym, ap, ◌∙◌, subst, arith}
use Rattle.std.specs.Prelude.{slice_get}
use Rattle.std.specs.List.{range_with_len}
use Rattle.std.proofs.lemmas.Option.{same_Some}
use mathlib.Core.Option as opt
use mathlib.Core.Option.{some, none, some-injective, some-ne-none}
use lib.ListN.{get_elem?}
use Rattle.be_hall.specs.Numbers.{total}
use Rattle.be_machine.specs.Shares.{weight_from}
use Rattle.be_rules.specs.Slices.{found_or, pick}

module _ {X Y : Type 0} (f : X → Option Y) where
  found_append : (o : Option Y) (xs ys : List X) → pick f (xs ++ ys) ≡ pick f xs ++ pick f ys → found_or o (pick f (xs ++ ys)) ≡ found_or o (pick f xs) ++ pick f ys
  found_append (Some y) xs ys e = ap (λ l. y ∷ l) e
  found_append None xs ys e = e

  pub pick_append : (xs ys : List X) → pick f (xs ++ ys) ≡ pick f xs ++ pick f ys
  pick_append [] ys = refl
  pick_append (x ∷ xs) ys = found_append (f x) xs ys (pick_append xs ys)

  pub picks_none : (xs : List X) → ((x : X) → f x ≡ None) → pick f xs ≡ []
  picks_none [] h = refl
  picks_none (x ∷ xs) h = ap (λ o. found_or o (pick f xs)) (h x) ∙ picks_none xs h

-- through a list of places
module _ {X Y : Type 0} (f : X → Option Y) (g : ℕ → X) where
  pub picks_nothing : (is : List ℕ) → ((i : ℕ) → f (g i) ≡ None) → pick f (map g is) ≡ []
  picks_nothing [] h = refl
  picks_nothing (i ∷ is) h = ap (λ o. found_or o (pick f (map g is))) (h i) ∙ picks_nothing is h

  -- the elements of a list, one after the other
  pub picks_from : (k : ℕ) (ys : List Y) → ((i : ℕ) (y : Y) → slice_get ys i ≡ Some y → f (g (k + i)) ≡ Some y) → pick f (map g (range_with_len k (length ys))) ≡ ys
  picks_from k [] h = refl
  picks_from k (y ∷ ys) h =
      let here : k + 0 ≡ k = omega arith in
      ap (λ o. found_or o (pick f (map g (range_with_len (k + 1) (length ys))))) (subst (λ n. f (g n) ≡ Some y) here (h 0 y refl))
      ∙ ap (λ l. y ∷ l) (picks_from (k + 1) ys (λ i z e. let there : k + suc i ≡ k + 1 + i = omega arith in subst (λ n. f (g n) ≡ Some z) there (h (suc i) z e)))

  pub picks_all : (n : ℕ) (ys : List Y) → length ys ≡ n → ((i : ℕ) → f (g i) ≡ slice_get ys i) → pick f (map g (range_with_len 0 n)) ≡ ys
  picks_all n ys e h = ap (λ m. pick f (map g (range_with_len 0 m))) (sym e) ∙ picks_from 0 ys (λ i y read. let is : i ≡ 0 + i = omega arith in subst (λ m. f (g m) ≡ Some y) is (h i ∙ read))

-- lists that have the same at each number
pub same_list : {X : Type 0} (xs ys : List X) → ((i : ℕ) → slice_get xs i ≡ slice_get ys i) → xs ≡ ys
same_list [] [] h = refl
same_list [] (y ∷ ys) h = let no : None ≡ Some y = h 0 in absurd (cc)
same_list (x ∷ xs) [] h = let no : Some x ≡ None = h 0 in absurd (cc)
same_list (x ∷ xs) (y ∷ ys) h = λ i. same_Some x y (h 0) i ∷ same_list xs ys (λ j. h (suc j)) i

-- ---- by the other word for the element of a number

pub elem_map : {X Y : Type 0} (f : X → Y) (xs : List X) (i : ℕ) (x : X) → get_elem? xs i ≡ some x → get_elem? (map f xs) i ≡ some (f x)
elem_map f [] i x e = absurd (some-ne-none x (sym e))
elem_map f (z ∷ zs) zero x e = ap (λ y. some (f y)) (some-injective z x e)
elem_map f (z ∷ zs) (suc i) x e = elem_map f zs i x e

-- ---- sums

pub total_append : {X : Type 0} (f : X → ℕ) (xs ys : List X) → total f (xs ++ ys) ≡ total f xs + total f ys
total_append f [] ys = omega arith
total_append f (x ∷ xs) ys = omega (arith, total_append f xs ys)

pub total_sum : {Z : Type 0} (f g h : Z → ℕ) (zs : List Z) → ((z : Z) → f z ≡ g z + h z) → total f zs ≡ total g zs + total h zs
total_sum f g h [] e = refl
total_sum f g h (z ∷ zs) e = omega (arith, e z, total_sum f g h zs e)

pub there_below : {X : Type 0} (xs : List X) (i : ℕ) (x : X) → slice_get xs i ≡ Some x → i < length xs
there_below [] i x e = absurd (cc)
there_below (z ∷ zs) zero x e = omega arith
there_below (z ∷ zs) (suc i) x e = let h = there_below zs i x e in omega arith

-- ---- sums over places

pub total_map : {X Z : Type 0} (f : Z → ℕ) (g : X → Z) (is : List X) → total f (map g is) ≡ total (λ i. f (g i)) is
total_map f g [] = refl
total_map f g (i ∷ is) = ap (λ n. f (g i) + n) (total_map f g is)

pub total_two : {X : Type 0} (f a b : X → ℕ) (is : List X) → ((i : X) → f i ≡ a i + b i) → total f is ≡ total a is + total b is
total_two f a b is e = total_sum f a b is e

ranged_from : {X : Type 0} (f : ℕ → ℕ) (weigh : ℕ → X → ℕ) (k : ℕ) (xs : List X) → ((i : ℕ) (x : X) → slice_get xs i ≡ Some x → f (k + i) ≡ weigh (k + i) x) → total f (range_with_len k (length xs)) ≡ weight_from weigh k xs
ranged_from f weigh k [] h = refl
ranged_from f weigh k (x ∷ xs) h =
    let here : k + 0 ≡ k = omega arith in
    let now : f k ≡ weigh k x = subst (λ n. f n ≡ weigh n x) here (h 0 x refl) in
    let later : total f (range_with_len (k + 1) (length xs)) ≡ weight_from weigh (k + 1) xs = ranged_from f weigh (k + 1) xs (λ i z e. let there : k + suc i ≡ k + 1 + i = omega arith in subst (λ n. f n ≡ weigh n z) there (h (suc i) z e)) in
    omega (arith, now, later)

-- what the places of a list weigh is what its elements weigh
pub total_ranged : {X : Type 0} (f : ℕ → ℕ) (weigh : ℕ → X → ℕ) (n : ℕ) (xs : List X) → length xs ≡ n → ((i : ℕ) (x : X) → slice_get xs i ≡ Some x → f i ≡ weigh i x) → total f (range_with_len 0 n) ≡ weight_from weigh 0 xs
total_ranged f weigh n xs e h = ap (λ m. total f (range_with_len 0 m)) (sym e) ∙ ranged_from f weigh 0 xs (λ i x read. let is : i ≡ 0 + i = omega arith in subst (λ m. f m ≡ weigh m x) is (h i x read))

-- ---- by the other word

pub elem_left : {X : Type 0} (xs ys : List X) (i : ℕ) (x : X) → get_elem? xs i ≡ some x → get_elem? (xs ++ ys) i ≡ some x
elem_left [] ys i x e = absurd (some-ne-none x (sym e))
elem_left (z ∷ zs) ys zero x e = e
elem_left (z ∷ zs) ys (suc i) x e = elem_left zs ys i x e

pub elem_right : {X : Type 0} (xs ys : List X) (n i : ℕ) (y : X) → length xs ≡ n → get_elem? ys i ≡ some y → get_elem? (xs ++ ys) (n + i) ≡ some y
elem_right [] ys n i y long e = let at : n + i ≡ i = omega (arith, long) in rw at e
elem_right (z ∷ zs) ys zero i y long e = absurd (omega (arith, long))
elem_right (z ∷ zs) ys (suc n) i y long e = let at : suc n + i ≡ suc (n + i) = omega arith in rw at (elem_right zs ys n i y (omega (arith, long)) e)

elem_range_from : {X : Type 0} (g : ℕ → X) (k n i : ℕ) → i < n → get_elem? (map g (range_with_len k n)) i ≡ some (g (k + i))
elem_range_from g k zero i lt = absurd (omega arith)
elem_range_from g k (suc n) zero lt = let here : k ≡ k + 0 = omega arith in ap (λ m. some (g m)) here
elem_range_from g k (suc n) (suc i) lt = let there : k + 1 + i ≡ k + suc i = omega arith in elem_range_from g (k + 1) n i (omega arith) ∙ ap (λ m. some (g m)) there

pub elem_range : {X : Type 0} (g : ℕ → X) (n i : ℕ) → i < n → get_elem? (map g (range_with_len 0 n)) i ≡ some (g i)
elem_range g n i lt = let zeroed : 0 + i ≡ i = omega arith in elem_range_from g 0 n i lt ∙ ap (λ m. some (g m)) zeroed

pub none_map : {X Y : Type 0} (f : X → Y) (xs : List X) (i : ℕ) → get_elem? xs i ≡ none → get_elem? (map f xs) i ≡ none
none_map f [] i e = refl
none_map f (z ∷ zs) zero e = absurd (some-ne-none z e)
none_map f (z ∷ zs) (suc i) e = none_map f zs i e

pub there_in : {X : Type 0} (xs : List X) (i : ℕ) (x : X) → get_elem? xs i ≡ some x → i < length xs
there_in [] i x e = absurd (some-ne-none x (sym e))
there_in (z ∷ zs) zero x e = omega arith
there_in (z ∷ zs) (suc i) x e = let h = there_in zs i x e in omega arith

pub same_elements : {X : Type 0} (x y : X) → some x ≡ some y → x ≡ y
same_elements x y e = some-injective x y e

pub same_by_elements : {X : Type 0} (xs ys : List X) → ((i : ℕ) → get_elem? xs i ≡ get_elem? ys i) → xs ≡ ys
same_by_elements [] [] h = refl
same_by_elements [] (y ∷ ys) h = absurd (some-ne-none y (sym (h 0)))
same_by_elements (x ∷ xs) [] h = absurd (some-ne-none x (h 0))
same_by_elements (x ∷ xs) (y ∷ ys) h = λ i. same_elements x y (h 0) i ∷ same_by_elements xs ys (λ j. h (suc j)) i

pub past_elements : {X : Type 0} (xs : List X) (i : ℕ) → length xs ≤ i → get_elem? xs i ≡ none
past_elements [] i le = refl
past_elements (x ∷ xs) zero le = absurd (omega arith)
past_elements (x ∷ xs) (suc i) le = past_elements xs i (omega arith)

abbrev pub slice_or : {X : Type 0} → X → opt.Option X → X
slice_or x (some y) = y
slice_or x none = x

pub or_there : {X : Type 0} (o : opt.Option X) (x : X) → ((y : X) × (o ≡ some y)) → o ≡ some (slice_or x o)
or_there (some y) x h = refl
or_there none x h = absurd (some-ne-none h.0 (sym h.1))

pub some_there : {X : Type 0} (xs : List X) (i : ℕ) → i < length xs → (y : X) × (get_elem? xs i ≡ some y)
some_there [] i lt = absurd (omega arith)
some_there (x ∷ xs) zero lt = (x, refl)
some_there (x ∷ xs) (suc i) lt = some_there xs i (omega arith)

abbrev first_of : {X : Type 0} → List X → Option X
first_of [] = None
first_of (x ∷ xs) = Some x

abbrev rest_of : {X : Type 0} → List X → List X
rest_of [] = []
rest_of (x ∷ xs) = xs

pub cons_not_nil : {X : Type 0} {x : X} {xs : List X} → [] ≡ x ∷ xs → ⊥
cons_not_nil {X} {x} e = let no : None ≡ Some x = ap first_of e in absurd (cc)

pub first_same : {X : Type 0} {x y : X} {xs ys : List X} → (x ∷ xs) ≡ (y ∷ ys) → x ≡ y
first_same {X} {x} {y} e = same_Some x y (ap first_of e)

pub rest_same : {X : Type 0} {x y : X} {xs ys : List X} → (x ∷ xs) ≡ (y ∷ ys) → xs ≡ ys
rest_same e = ap rest_of e

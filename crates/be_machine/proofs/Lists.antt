-- Lemmas on lists by number.
use Rattle.std.proofs.Common.{◌≡◌, ℕ, zero, suc, ◌<◌, Bool, true, false, cond, List, [], ◌∷◌, ◌++◌, length, Option, Some, None, refl, sym, ap, subst, ◌∙◌, arith}
use Rattle.std.specs.Prelude.{◌==◌, slice_get, slice_set, find, filter, flat_map}
use Rattle.std.specs.List.{list_all}
use Rattle.std.proofs.Math.ListN.{length-set}
use Rattle.std.proofs.lemmas.Option.{same_Some}
use Rattle.std.proofs.lemmas.Bool.{and_from}
use Rattle.be_facts.proofs.Numbers.{eq_false_tells, eq_tells}
use Rattle.be_facts.proofs.Truths.{and_second, and_first}
use Rattle.be_machine.specs.Lists.{at, set_at}

-- ---- tests

found_by : {X : Type 0} (p q : X → Bool) (y x : X) (xs : List X) (b : Bool) → q y ≡ b → p y ≡ true → (find q xs ≡ Some x → p x ≡ true) → cond b (Some y) (find q xs) ≡ Some x → p x ≡ true
found_by p q y x xs true is here later e = subst (λ z. p z ≡ true) (same_Some y x e) here
found_by p q y x xs false is here later e = later e

-- ... and of the one that is found
pub all_find : {X : Type 0} (p q : X → Bool) (xs : List X) (x : X) → list_all p xs ≡ true → find q xs ≡ Some x → p x ≡ true
all_find p q [] x all e = cc
all_find p q (y ∷ ys) x all e = found_by p q y x ys (q y) refl (and_first (p y) _ all) (λ h. all_find p q ys x (and_second (p y) _ all) h) e

found_passes_by : {X : Type 0} (q : X → Bool) (y x : X) (xs : List X) (b : Bool) → q y ≡ b → (find q xs ≡ Some x → q x ≡ true) → cond b (Some y) (find q xs) ≡ Some x → q x ≡ true
found_passes_by q y x xs true is later e = subst (λ z. q z ≡ true) (same_Some y x e) is
found_passes_by q y x xs false is later e = later e

-- what is found passes the test
pub find_passes : {X : Type 0} (q : X → Bool) (xs : List X) (x : X) → find q xs ≡ Some x → q x ≡ true
find_passes q [] x e = cc
find_passes q (y ∷ ys) x e = found_passes_by q y x ys (q y) refl (find_passes q ys x) e

kept_by : {X : Type 0} (p q : X → Bool) (y : X) (xs : List X) (b : Bool) → p y ≡ true → list_all p (filter q xs) ≡ true → list_all p (cond b (y ∷ filter q xs) (filter q xs)) ≡ true
kept_by p q y xs true here later = and_from (p y) _ here later
kept_by p q y xs false here later = later

-- what passes of each element passes of those that are kept
pub all_filter : {X : Type 0} (p q : X → Bool) (xs : List X) → list_all p xs ≡ true → list_all p (filter q xs) ≡ true
all_filter p q [] all = refl
all_filter p q (y ∷ ys) all = kept_by p q y ys (q y) (and_first (p y) _ all) (all_filter p q ys (and_second (p y) _ all))

-- ... and of joined lists where it passes of each
pub all_append : {X : Type 0} (p : X → Bool) (xs ys : List X) → list_all p xs ≡ true → list_all p ys ≡ true → list_all p (xs ++ ys) ≡ true
all_append p [] ys h k = k
all_append p (x ∷ xs) ys h k = and_from (p x) _ (and_first (p x) _ h) (all_append p xs ys (and_second (p x) _ h) k)

pub all_flat_map : {X Y : Type 0} (p : Y → Bool) (f : X → List Y) (xs : List X) → ((x : X) → list_all p (f x) ≡ true) → list_all p (flat_map f xs) ≡ true
all_flat_map p f [] h = refl
all_flat_map p f (x ∷ xs) h = all_append p (f x) (flat_map f xs) (h x) (all_flat_map p f xs h)

-- ---- an element that is there

pub record IsThere {X : Type 0} (xs : List X) (i : ℕ) : Type 0 where
  pub element : X
  pub read : slice_get xs i ≡ Some element

pub there : {X : Type 0} (xs : List X) (i : ℕ) → i < length xs → IsThere xs i
there [] i h = absurd (omega arith)
there (x ∷ xs) zero h = record { element = x; read = refl }
there (x ∷ xs) (suc i) h = let rest : IsThere xs i = there xs i (omega arith) in record { element = rest.element; read = rest.read }

-- ---- a change at a place

length_set_at : {X : Type 0} (xs : List X) (i : ℕ) (f : X → X) (o : Option X) → length (set_at xs i f o) ≡ length xs
length_set_at xs i f (Some x) = length-set xs i (f x)
length_set_at xs i f None = refl

pub length_at : {X : Type 0} (xs : List X) (i : ℕ) (f : X → X) → length (at xs i f) ≡ length xs
length_at xs i f = length_set_at xs i f (slice_get xs i)

set_here : {X : Type 0} (xs : List X) (i : ℕ) (x y : X) → slice_get xs i ≡ Some x → slice_get (slice_set xs i y) i ≡ Some y
set_here [] i x y e = cc
set_here (z ∷ zs) zero x y e = refl
set_here (z ∷ zs) (suc i) x y e = set_here zs i x y e

set_elsewhere : {X : Type 0} (xs : List X) (i j : ℕ) (y : X) → (i ≡ j → ⊥) → slice_get (slice_set xs i y) j ≡ slice_get xs j
set_elsewhere [] i j y other = refl
set_elsewhere (z ∷ zs) zero zero y other = absurd (other refl)
set_elsewhere (z ∷ zs) zero (suc j) y other = refl
set_elsewhere (z ∷ zs) (suc i) zero y other = refl
set_elsewhere (z ∷ zs) (suc i) (suc j) y other = set_elsewhere zs i j y (λ e. other (ap suc e))

-- what stands at the place that is changed
pub at_here : {X : Type 0} (xs : List X) (i : ℕ) (f : X → X) (x : X) → slice_get xs i ≡ Some x → slice_get (at xs i f) i ≡ Some (f x)
at_here xs i f x e = rw (ap (set_at xs i f) e) (set_here xs i x (f x) e)

at_other : {X : Type 0} (xs : List X) (i j : ℕ) (f : X → X) (o : Option X) → (i ≡ j → ⊥) → slice_get (set_at xs i f o) j ≡ slice_get xs j
at_other xs i j f (Some x) other = set_elsewhere xs i j (f x) other
at_other xs i j f None other = refl

-- ... and at another one
pub at_elsewhere : {X : Type 0} (xs : List X) (i j : ℕ) (f : X → X) → (i ≡ j → ⊥) → slice_get (at xs i f) j ≡ slice_get xs j
at_elsewhere xs i j f other = at_other xs i j f (slice_get xs i) other

-- a change at a place past the end
pub at_past : {X : Type 0} (xs : List X) (i : ℕ) (f : X → X) → slice_get xs i ≡ None → at xs i f ≡ xs
at_past xs i f e = ap (set_at xs i f) e

-- ---- equal numbers

filtered_by : {X : Type 0} (q : X → Bool) (y : X) (xs : List X) (b : Bool) → q y ≡ b → list_all q (filter q xs) ≡ true → list_all q (cond b (y ∷ filter q xs) (filter q xs)) ≡ true
filtered_by q y xs true is later = and_from (q y) _ is later
filtered_by q y xs false is later = later

-- what is kept passes the test
pub filter_passes : {X : Type 0} (q : X → Bool) (xs : List X) → list_all q (filter q xs) ≡ true
filter_passes q [] = refl
filter_passes q (y ∷ ys) = filtered_by q y ys (q y) refl (filter_passes q ys)

-- ---- what holds of the element of a number, if there is one

abbrev pub AtPlace : {X : Type 0} → (X → Type 0) → List X → ℕ → Type 0
AtPlace {X} P xs w = (x : X) → slice_get xs w ≡ Some x → P x

pub same_element : {X : Type 0} (xs : List X) (w : ℕ) (x y : X) → slice_get xs w ≡ Some x → slice_get xs w ≡ Some y → x ≡ y
same_element xs w x y e k = same_Some x y (sym e ∙ k)

changed_here : {X : Type 0} (P Q : X → Type 0) (xs : List X) (w : ℕ) (f : X → X) (o : Option X) → slice_get xs w ≡ o → ((x : X) → slice_get xs w ≡ Some x → P x → Q (f x)) → AtPlace P xs w → AtPlace Q (set_at xs w f o) w
changed_here P Q xs w f (Some x) e change h y read = subst Q (same_Some (f x) y (sym (set_here xs w x (f x) e) ∙ read)) (change x e (h x e))
changed_here P Q xs w f None e change h y read = let none : None ≡ Some y = sym e ∙ read in cc

-- the element is changed
pub place_here : {X : Type 0} (P Q : X → Type 0) (xs : List X) (w : ℕ) (f : X → X) → ((x : X) → slice_get xs w ≡ Some x → P x → Q (f x)) → AtPlace P xs w → AtPlace Q (at xs w f) w
place_here P Q xs w f change h = changed_here P Q xs w f (slice_get xs w) refl change h

-- another one is
pub place_elsewhere : {X : Type 0} (P : X → Type 0) (xs : List X) (v w : ℕ) (f : X → X) → (v ≡ w → ⊥) → AtPlace P xs w → AtPlace P (at xs v f) w
place_elsewhere P xs v w f other h y read = h y (sym (at_elsewhere xs v w f other) ∙ read)

-- one is, in a way that keeps what holds
pub place_kept : {X : Type 0} (P : X → Type 0) (xs : List X) (v w : ℕ) (f : X → X) (b : Bool) → (w == v) ≡ b → ((x : X) → slice_get xs w ≡ Some x → P x → P (f x)) → AtPlace P xs w → AtPlace P (at xs v f) w
place_kept P xs v w f true e keep h = subst (λ u. AtPlace P (at xs u f) w) (eq_tells w v e) (place_here P P xs w f keep h)
place_kept P xs v w f false e keep h = place_elsewhere P xs v w f (λ same. eq_false_tells w v e (sym same)) h

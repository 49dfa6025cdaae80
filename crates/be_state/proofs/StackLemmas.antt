-- Layers that are turned round: what all clips hold, and what all origins add up to.
use Rattle.std.proofs.Common.{◌≡◌, ℕ, zero, suc, ◌+◌, ◌++◌, ◌<◌, Some, slice_get, length, get_or, take, ℤ, ◌+ℤ◌, Bool, true, ◌&&◌, List, [], ◌∷◌, map, reverse, fold, refl, sym, ap, ◌∙◌, arith}
use Rattle.std.specs.List.{list_all}
use Rattle.std.proofs.lemmas.Int.{ints}
use Rattle.std.proofs.lemmas.List.{length-reverse, map-append, reverse-reverse}
use Rattle.std.proofs.lemmas.List.Folds.{list_all-append}
use Rattle.std.proofs.lemmas.Grind.{fold-append, reverse_onto, take_at_read}
use Rattle.be_geom.specs.declared.point.Point.{Point}
use Rattle.be_geom.specs.Places.{sum_of}
use Rattle.be_state.specs.Stacks.{Layer, Stack, base_of, allows, clip_has, from_oldest, layers, origin_point}

all_again : (a b c : Bool) → a ≡ c → (a && (b && true)) ≡ (b && c)
all_again a b c e = grind arith

pub list_all-reverse : {X : Type 0} (p : X → Bool) (xs : List X) → list_all p (reverse xs) ≡ list_all p xs
list_all-reverse p [] = refl
list_all-reverse p (x ∷ xs) =
    ap (list_all p) (reverse_onto xs x []) ∙ list_all-append p (reverse xs) (x ∷ []) ∙ all_again (list_all p (reverse xs)) (p x) (list_all p xs) (list_all-reverse p xs)

-- a stack with the same saved layers
pub viewed : (s : Stack) (top : Layer) (items saved : List Layer) → items ≡ saved → record { top = top; saved = reverse saved } ≡ s → record { top = top; saved = reverse items } ≡ s
viewed s top items saved e k =
    let with_saved : List Layer → Stack = λ t. record { top = top; saved = reverse t } in
    ap with_saved e ∙ k

-- what a stack allows
pub allows_is : (s : Stack) (top : Layer) (items : List Layer) (x y : ℤ) → record { top = top; saved = reverse items } ≡ s → (clip_has top.clip x y && list_all (λ l. clip_has l.clip x y) items) ≡ allows s x y
unfolding allows
allows_is s top items x y e =
    ap (λ t. clip_has top.clip x y && t) (sym (list_all-reverse (λ l. clip_has l.clip x y) items)) ∙ ap (λ t. list_all (λ l. clip_has l.clip x y) (t.top ∷ t.saved)) e

sum_swap : (p q r : Point) → sum_of (sum_of p q) r ≡ sum_of (sum_of p r) q
sum_swap p q r =
    let across : (p.x +ℤ q.x) +ℤ r.x ≡ (p.x +ℤ r.x) +ℤ q.x = omega (arith, ints) in
    let down : (p.y +ℤ q.y) +ℤ r.y ≡ (p.y +ℤ r.y) +ℤ q.y = omega (arith, ints) in
    let at : ℤ → ℤ → Point = λ x y. record { x = x; y = y } in
    ap (λ (x : ℤ). at x ((p.y +ℤ q.y) +ℤ r.y)) across ∙ ap (λ (y : ℤ). at ((p.x +ℤ r.x) +ℤ q.x) y) down

fold_shift : (xs : List Point) (p q : Point) → fold sum_of (sum_of p q) xs ≡ sum_of (fold sum_of p xs) q
fold_shift [] p q = refl
fold_shift (x ∷ xs) p q = ap (λ t. fold sum_of t xs) (sum_swap p q x) ∙ fold_shift xs (sum_of p x) q

abbrev origins : List Layer → List Point
origins layers = map (λ l. l.state.origin) layers

fold-reverse : (xs : List Layer) (p : Point) → fold sum_of p (origins (reverse xs)) ≡ fold sum_of p (origins xs)
fold-reverse [] p = refl
fold-reverse (x ∷ xs) p =
    ap (λ t. fold sum_of p (origins t)) (reverse_onto xs x []) ∙ ap (fold sum_of p) (map-append (λ l. l.state.origin) (reverse xs) (x ∷ [])) ∙ fold-append sum_of p (origins (reverse xs)) (x.state.origin ∷ []) ∙ ap (λ t. sum_of t x.state.origin) (fold-reverse xs p) ∙ sym (fold_shift (origins xs) p x.state.origin)

-- what all origins of a stack add up to
pub base_is : (s : Stack) (top : Layer) (items : List Layer) → record { top = top; saved = reverse items } ≡ s → base_of s ≡ sum_of (fold sum_of origin_point (map (λ l. l.state.origin) items)) top.state.origin
unfolding base_of
base_is s top items e =
    ap (λ t. fold sum_of origin_point (map (λ l. l.state.origin) (t.top ∷ t.saved))) (sym e) ∙ fold_shift (origins (reverse items)) origin_point top.state.origin ∙ ap (λ t. sum_of t top.state.origin) (fold-reverse items origin_point)

-- one more origin
pub next_sum : (xs : List Layer) (i : ℕ) (item : Layer) → i < length xs → item ≡ get_or xs i item → fold sum_of origin_point (map (λ l. l.state.origin) (take (i + 1) xs)) ≡ sum_of (fold sum_of origin_point (map (λ l. l.state.origin) (take i xs))) item.state.origin
next_sum xs i item h is =
    ap (λ t. fold sum_of origin_point (origins t)) (take_at_read xs i item h).1 ∙ ap (fold sum_of origin_point) (map-append (λ l. l.state.origin) (take i xs) (get_or xs i item ∷ [])) ∙ fold-append sum_of origin_point (origins (take i xs)) ((get_or xs i item).state.origin ∷ []) ∙ ap (λ (l : Layer). sum_of (fold sum_of origin_point (origins (take i xs))) l.state.origin) (sym is)

-- ---- the oldest first

from_items : (s : Stack) (top : Layer) (items : List Layer) → record { top = top; saved = reverse items } ≡ s → from_oldest s ≡ items ++ top ∷ []
from_items s top items e =
    ap from_oldest (sym e) ∙ reverse_onto (reverse items) top [] ∙ ap (λ t. t ++ top ∷ []) (reverse-reverse items)

pub saved_layer : (s : Stack) (top : Layer) (items : List Layer) (n : ℕ) → record { top = top; saved = reverse items } ≡ s → n < length items → slice_get (from_oldest s) n ≡ slice_get items n
saved_layer s top items n e h =
    ap (λ t. slice_get t n) (from_items s top items e) ∙ left items n h
  where
    left : (xs : List Layer) (k : ℕ) → k < length xs → slice_get (xs ++ top ∷ []) k ≡ slice_get xs k
    left [] k h = absurd (omega (arith, h))
    left (x ∷ xs) zero h = refl
    left (x ∷ xs) (suc k) h = left xs k (omega (arith, h))

pub top_layer : (s : Stack) (top : Layer) (items : List Layer) (n : ℕ) → record { top = top; saved = reverse items } ≡ s → n ≡ length items → slice_get (from_oldest s) n ≡ Some top
top_layer s top items n e h =
    ap (λ t. slice_get t n) (from_items s top items e) ∙ ap (slice_get (items ++ top ∷ [])) h ∙ last items
  where
    last : (xs : List Layer) → slice_get (xs ++ top ∷ []) (length xs) ≡ Some top
    last [] = refl
    last (x ∷ xs) = last xs

-- what a stack allows, its layers the other way round
pub allows_from_oldest : (s : Stack) (x y : ℤ) → allows s x y ≡ list_all (λ layer. clip_has layer.clip x y) (from_oldest s)
unfolding allows
allows_from_oldest s x y = sym (list_all-reverse (λ layer. clip_has layer.clip x y) (layers s))

pub number_of_layers : (s : Stack) → length (from_oldest s) ≡ length s.saved + 1
number_of_layers s = length-reverse (layers s) ∙ omega arith

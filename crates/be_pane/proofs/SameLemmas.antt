-- Drawing states that draw alike.
use Rattle.std.proofs.Common.{◌≡◌, ℕ, zero, suc, ℤ, ◌&&◌, ◌∙◌, List, [], ◌∷◌, length, map, Option, Some, None, refl, ap, subst}
use Rattle.std.specs.Prelude.{fold, slice_get, slice_set}
use Rattle.std.specs.List.{list_all}
use Rattle.std.proofs.lemmas.Option.{none-some, same_Some}
use Rattle.be_geom.specs.declared.rect.Rect.{Rect}
use Rattle.be_geom.specs.Places.{sum_of}
use Rattle.be_state.specs.Stacks.{Layer, Stack, allows, base_of, clip_has, layers, origin_point}
use Rattle.be_pane.specs.SameStacks.{SameClip, SameLayer, SameLayers, SameStack, SameStacks}

-- ---- the same xs itself

pub clip_self : (a : Option (List Rect)) → SameClip a a
clip_self (Some rects) = λ x y. refl
clip_self None = tt

layer_self : (a : Layer) → SameLayer a a
layer_self a = record { state = refl; clip = clip_self a.clip }

layers_self : (xs : List Layer) → SameLayers xs xs
layers_self [] = tt
layers_self (a ∷ xs) = (layer_self a, layers_self xs)

pub stack_self : (a : Stack) → SameStack a a
stack_self a = record { top = layer_self a.top; saved = layers_self a.saved }

stacks_self : (xs : List Stack) → SameStacks xs xs
stacks_self [] = tt
stacks_self (a ∷ xs) = (stack_self a, stacks_self xs)

pub stacks_equal : (xs ys : List Stack) → xs ≡ ys → SameStacks xs ys
stacks_equal xs ys e = subst (λ (l : List Stack). SameStacks xs l) e (stacks_self xs)

-- ---- the same xs what is the same

clip_trans : (a b c : Option (List Rect)) → SameClip a b → SameClip b c → SameClip a c
clip_trans (Some a) (Some b) (Some c) h k = λ x y. h x y ∙ k x y
clip_trans (Some a) (Some b) None h k = absurd k
clip_trans (Some a) None c h k = absurd h
clip_trans None (Some b) c h k = absurd h
clip_trans None None (Some c) h k = absurd k
clip_trans None None None h k = tt

layer_trans : (a b c : Layer) → SameLayer a b → SameLayer b c → SameLayer a c
layer_trans a b c h k = record { state = h.state ∙ k.state; clip = clip_trans a.clip b.clip c.clip h.clip k.clip }

layers_trans : (xs ys zs : List Layer) → SameLayers xs ys → SameLayers ys zs → SameLayers xs zs
layers_trans [] [] [] h k = tt
layers_trans [] [] (c ∷ zs) h k = absurd k
layers_trans [] (b ∷ ys) zs h k = absurd h
layers_trans (a ∷ xs) [] zs h k = absurd h
layers_trans (a ∷ xs) (b ∷ ys) [] h k = absurd k
layers_trans (a ∷ xs) (b ∷ ys) (c ∷ zs) h k = (layer_trans a b c h.0 k.0, layers_trans xs ys zs h.1 k.1)

pub stack_trans : (a b c : Stack) → SameStack a b → SameStack b c → SameStack a c
stack_trans a b c h k = record { top = layer_trans a.top b.top c.top h.top k.top; saved = layers_trans a.saved b.saved c.saved h.saved k.saved }

pub stacks_trans : (xs ys zs : List Stack) → SameStacks xs ys → SameStacks ys zs → SameStacks xs zs
stacks_trans [] [] [] h k = tt
stacks_trans [] [] (c ∷ zs) h k = absurd k
stacks_trans [] (b ∷ ys) zs h k = absurd h
stacks_trans (a ∷ xs) [] zs h k = absurd h
stacks_trans (a ∷ xs) (b ∷ ys) [] h k = absurd k
stacks_trans (a ∷ xs) (b ∷ ys) (c ∷ zs) h k = (stack_trans a b c h.0 k.0, stacks_trans xs ys zs h.1 k.1)

-- ---- one view

-- a view that has states in one has them in the other
pub stacks_at : (xs ys : List Stack) (v : ℕ) (a : Stack) → SameStacks xs ys → slice_get xs v ≡ Some a → (b : Stack) × ((slice_get ys v ≡ Some b) × SameStack a b)
stacks_at [] ys v a h e = absurd (none-some a e)
stacks_at (c ∷ xs) [] v a h e = absurd h
stacks_at (c ∷ xs) (b ∷ ys) zero a h e = (b, (refl, subst (λ (s : Stack). SameStack s b) (same_Some c a e) h.0))
stacks_at (c ∷ xs) (b ∷ ys) (suc v) a h e = stacks_at xs ys v a h.1 e

pub stacks_set : (xs ys : List Stack) (v : ℕ) (a b : Stack) → SameStacks xs ys → SameStack a b → SameStacks (slice_set xs v a) (slice_set ys v b)
stacks_set [] [] v a b h k = tt
stacks_set [] (d ∷ ys) v a b h k = absurd h
stacks_set (c ∷ xs) [] v a b h k = absurd h
stacks_set (c ∷ xs) (d ∷ ys) zero a b h k = (k, h.1)
stacks_set (c ∷ xs) (d ∷ ys) (suc v) a b h k = (h.0, stacks_set xs ys v a b h.1 k)

pub stacks_length : (xs ys : List Stack) → SameStacks xs ys → length xs ≡ length ys
stacks_length [] [] h = refl
stacks_length [] (b ∷ ys) h = absurd h
stacks_length (a ∷ xs) [] h = absurd h
stacks_length (a ∷ xs) (b ∷ ys) h = ap (λ n. suc n) (stacks_length xs ys h.1)

pub layers_length : (xs ys : List Layer) → SameLayers xs ys → length xs ≡ length ys
layers_length [] [] h = refl
layers_length [] (b ∷ ys) h = absurd h
layers_length (a ∷ xs) [] h = absurd h
layers_length (a ∷ xs) (b ∷ ys) h = ap (λ n. suc n) (layers_length xs ys h.1)

-- ---- what they say

clip_says : (a b : Option (List Rect)) → SameClip a b → (x y : ℤ) → clip_has a x y ≡ clip_has b x y
clip_says (Some a) (Some b) h x y = h x y
clip_says (Some a) None h x y = absurd h
clip_says None (Some b) h x y = absurd h
clip_says None None h x y = refl

all_say : (xs ys : List Layer) → SameLayers xs ys → (x y : ℤ) → list_all (λ layer. clip_has layer.clip x y) xs ≡ list_all (λ layer. clip_has layer.clip x y) ys
all_say [] [] h x y = refl
all_say [] (b ∷ ys) h x y = absurd h
all_say (a ∷ xs) [] h x y = absurd h
all_say (a ∷ xs) (b ∷ ys) h x y =
    ap (λ v. v && list_all (λ layer. clip_has layer.clip x y) xs) (clip_says a.clip b.clip h.0.clip x y)
    ∙ ap (λ v. clip_has b.clip x y && v) (all_say xs ys h.1 x y)

pub allows_same : (a b : Stack) → SameStack a b → (x y : ℤ) → allows a x y ≡ allows b x y
unfolding allows
allows_same a b h x y = all_say (layers a) (layers b) (h.top, h.saved) x y

origins_same : (xs ys : List Layer) → SameLayers xs ys → map (λ layer. layer.state.origin) xs ≡ map (λ layer. layer.state.origin) ys
origins_same [] [] h = refl
origins_same [] (b ∷ ys) h = absurd h
origins_same (a ∷ xs) [] h = absurd h
origins_same (a ∷ xs) (b ∷ ys) h =
    ap (λ s. s.origin ∷ map (λ layer. layer.state.origin) xs) h.0.state
    ∙ ap (λ l. b.state.origin ∷ l) (origins_same xs ys h.1)

pub base_same : (a b : Stack) → SameStack a b → base_of a ≡ base_of b
unfolding base_of
base_same a b h = ap (fold sum_of origin_point) (origins_same (layers a) (layers b) (h.top, h.saved))

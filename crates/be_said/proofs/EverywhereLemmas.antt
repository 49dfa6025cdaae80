-- A change that each window gets in its turn.
use Rattle.std.proofs.Common.{◌≡◌, ℕ, ◌+◌, ◌-◌, ◌<◌, ◌≤◌, List, ◌++◌, length, get_or, set, take, drop, map, Option, Some, None, arith, refl, sym, ap, ◌∙◌}
use Rattle.std.proofs.lemmas.List.{get_or-append_right, get_or-drop, length-map, length-take, take_all, drop_all, append-nil}
use Rattle.std.proofs.lemmas.List.Edits.{map_over_more}
use Rattle.std.proofs.lemmas.Option.{same_Some, slice_get-get_or, slice_get-map}
use Rattle.std.specs.Prelude.{option_map, slice_get}

as_before : {X : Type 0} (f : X → X) (olds xs : List X) (i : ℕ) (x : X) → i < length olds → xs ≡ map f (take i olds) ++ drop i olds → get_or xs i x ≡ get_or olds i x
as_before f olds xs i x h e =
    ap (λ t. get_or t i x) e ∙ get_or-append_right (map f (take i olds)) (drop i olds) i i x (omega (arith, length-map (take i olds) f, length-take i olds)) (omega arith)
    ∙ get_or-drop i olds (i - i) x ∙ ap (λ k. get_or olds k x) (omega arith)

-- one that has not had its turn is as it was
pub not_yet : {X : Type 0} (f : X → X) (olds xs : List X) (i : ℕ) (x : X) → i < length olds → xs ≡ map f (take i olds) ++ drop i olds → slice_get olds i ≡ Some (get_or xs i x)
not_yet f olds xs i x h e = slice_get-get_or olds i x h ∙ ap Some (sym (as_before f olds xs i x h e))

-- at the end all had it
pub all_had : {X : Type 0} (f : X → X) (olds xs : List X) (i : ℕ) → length olds ≤ i → xs ≡ map f (take i olds) ++ drop i olds → xs ≡ map f olds
all_had f olds xs i h e = e ∙ rw (take_all i olds h, drop_all i olds h) (append-nil (map f olds))

-- the next one gets it
pub one_more : {X : Type 0} (f : X → X) (olds xs : List X) (i : ℕ) (x y : X) → i < length olds → xs ≡ map f (take i olds) ++ drop i olds → y ≡ f (get_or xs i x) →
    set xs i y ≡ map f (take (i + 1) olds) ++ drop (i + 1) olds
one_more {X} f olds xs i x y h e made =
    let here : X = get_or xs i x in
    let is : here ≡ get_or xs i here =
    same_Some here (get_or olds i here) (sym (not_yet f olds xs i x h e) ∙ slice_get-get_or olds i here h) ∙ sym (as_before f olds xs i here h e) in
    ap (set xs i) made ∙ map_over_more f olds xs i here h e is

some_before : {X : Type 0} (f : X → X) (o : Option X) (y : X) → option_map f o ≡ Some y → (x : X) × ((o ≡ Some x) × (y ≡ f x))
some_before f None y e = (cc)
some_before f (Some x) y e = (x, (refl, sym (same_Some (f x) y e)))

-- what is there had been there
pub there_before : {X : Type 0} (f : X → X) (xs : List X) (k : ℕ) (y : X) → slice_get (map f xs) k ≡ Some y → (x : X) × ((slice_get xs k ≡ Some x) × (y ≡ f x))
there_before f xs k y e = some_before f (slice_get xs k) y (sym (slice_get-map f xs k) ∙ e)

none_before_in : {X : Type 0} (f : X → X) (o : Option X) → option_map f o ≡ None → o ≡ None
none_before_in f None e = refl
none_before_in f (Some x) e = (cc)

pub none_before : {X : Type 0} (f : X → X) (xs : List X) (k : ℕ) → slice_get (map f xs) k ≡ None → slice_get xs k ≡ None
none_before f xs k e = none_before_in f (slice_get xs k) (sym (slice_get-map f xs k) ∙ e)

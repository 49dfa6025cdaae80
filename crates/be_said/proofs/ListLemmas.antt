-- Lists that get one item more.
use Rattle.std.proofs.Common.{◌≡◌, ◌&&◌, ◌||◌, ℕ, suc, ◌<◌, Bool, true, false, cond, List, [], ◌∷◌, ◌++◌, length, filter, map, set, get_or, Some, None, refl, ap, sym, ◌∙◌, inl, inr, arith, get_or-set_same, get_or-set_other, length-set}
use Rattle.std.proofs.lemmas.Bool.{cases_eq}
use Rattle.std.proofs.lemmas.List.{ext_get_or}
use Rattle.std.proofs.lemmas.List.Elements.{filter-append}
use Rattle.std.proofs.lemmas.List.FromFn.{get_or-map-range_with_len, length-map-range_with_len}
use Rattle.std.proofs.lemmas.Option.{slice_get_within, slice_get_past, slice_get-get_or, get_or_from_slice_get}
use Rattle.std.specs.List.{list_any, range_with_len}
use Rattle.std.specs.Prelude.{slice_get}
use Rattle.be_facts.proofs.Lists.{none_past, append_none}

-- ---- the lines of a window, as they are seen

pub filter_same : {X : Type 0} (p : X → Bool) (xs : List X) (x : X) → p x ≡ true → filter p (xs ++ x ∷ []) ≡ filter p xs ++ x ∷ []
filter_same {X} p xs x hit =
    let one : Bool → List X = λ b. filter p xs ++ cond b (x ∷ []) [] in
    filter-append p xs (x ∷ []) ∙ ap one hit

pub filter_other : {X : Type 0} (p : X → Bool) (xs : List X) (x : X) → p x ≡ false → filter p (xs ++ x ∷ []) ≡ filter p xs
filter_other {X} p xs x apart =
    let one : Bool → List X = λ b. filter p xs ++ cond b (x ∷ []) [] in
    filter-append p xs (x ∷ []) ∙ ap one apart ∙ append_none (filter p xs)

-- ---- an item that is there

none_there : {X : Type 0} (xs : List X) (k : ℕ) → k < length xs → slice_get xs k ≡ None → ⊥
none_there [] k below none = omega arith
none_there (x ∷ xs) k below none = let some = slice_get-get_or (x ∷ xs) k x below in (cc)

pub none_of_length : {X Y : Type 0} (xs : List X) (ys : List Y) (k : ℕ) → length ys ≡ length xs → slice_get ys k ≡ None → slice_get xs k ≡ None
none_of_length xs ys k same none = slice_get_past xs k (let past = none_past ys k none in omega arith)

pub get_set_other : {X : Type 0} (xs : List X) (k j : ℕ) (x y : X) → (j ≡ k → ⊥) → slice_get (set xs k x) j ≡ Some y → slice_get xs j ≡ Some y
get_set_other xs k j x y apart there =
    let below : j < length xs = let within = slice_get_within (set xs k x) j y there in let same = length-set xs k x in omega arith in
    slice_get-get_or xs j x below ∙ ap Some (sym (get_or-set_other xs k j x x apart) ∙ get_or_from_slice_get (set xs k x) j y x there)

-- ---- tables of numbers

pub map_same : {X Y : Type 0} (f g : X → Y) (xs : List X) → ((x : X) → f x ≡ g x) → map f xs ≡ map g xs
map_same f g [] same = refl
map_same {X} {Y} f g (x ∷ xs) same = ap (λ (y : Y). y ∷ map f xs) (same x) ∙ ap (λ (ys : List Y). g x ∷ ys) (map_same f g xs same)

-- the table of a test that gets true at one number more
pub table_set : (f g : ℕ → Bool) (n v : ℕ) → v < n → g v ≡ true → ((t : ℕ) → (t ≡ v → ⊥) → g t ≡ f t) → set (map f (range_with_len 0 n)) v true ≡ map g (range_with_len 0 n)
table_set f g n v below hit others =
    let old = map f (range_with_len 0 n) in
    let new = map g (range_with_len 0 n) in
    let old_length : length old ≡ n = length-map-range_with_len f 0 n in
    let new_length : length new ≡ n = length-map-range_with_len g 0 n in
    let set_length : length (set old v true) ≡ length old = length-set old v true in
    ext_get_or false (set old v true) new (set_length ∙ old_length ∙ sym new_length)
    (λ t t_below.
    let t_low : t < n = omega arith in
    let v_low : v < length old = omega arith in
    let told : get_or new t false ≡ g t = get_or-map-range_with_len g 0 n t t false t_low (omega arith) in
    elim (cases_eq t v) [
      | inl at ↦ ap (λ k. get_or (set old v true) k false) at ∙ get_or-set_same old v true false v_low ∙ sym hit ∙ ap g (sym at) ∙ sym told
      | inr apart ↦
          get_or-set_other old v t true false apart ∙ get_or-map-range_with_len f 0 n t t false t_low (omega arith) ∙ sym (others t apart) ∙ sym told
    ])

-- ---- items that are chosen twice

length_cond : {X Y : Type 0} (b c : Bool) (x : X) (y : Y) (xs : List X) (ys : List Y) → b ≡ c → length xs ≡ length ys → length (cond b (x ∷ xs) xs) ≡ length (cond c (y ∷ ys) ys)
length_cond true true x y xs ys same lengths = ap suc lengths
length_cond false false x y xs ys same lengths = lengths
length_cond true false x y xs ys same lengths = (cc)
length_cond false true x y xs ys same lengths = (cc)

length_twice : {X Y : Type 0} (q : X → Bool) (f : Y → Bool) (g : X → Y) (b : Bool) (x : X) (rest : List X) (ys : List X) → f (g x) ≡ q x →
    length (filter f (map g rest)) ≡ length ys → length (filter f (map g (cond b (x ∷ rest) rest))) ≡ length (cond (b && q x) (x ∷ ys) ys)
length_twice q f g true x rest ys same lengths = length_cond (f (g x)) (q x) (g x) x (filter f (map g rest)) ys same lengths
length_twice q f g false x rest ys same lengths = lengths

pub filter_twice : {X Y : Type 0} (p q : X → Bool) (f : Y → Bool) (g : X → Y) (xs : List X) → ((x : X) → f (g x) ≡ q x) →
    length (filter f (map g (filter p xs))) ≡ length (filter (λ x. p x && q x) xs)
filter_twice p q f g [] same = refl
filter_twice p q f g (x ∷ xs) same =
    length_twice q f g (p x) x (filter p xs) (filter (λ y. p y && q y) xs) (same x) (filter_twice p q f g xs same)

any_step : {X Y : Type 0} (f : Y → Bool) (g : X → Y) (b c : Bool) (x : X) (rest : List X) (r : Bool) → (b && f (g x)) ≡ c →
    list_any f (map g rest) ≡ r → list_any f (map g (cond b (x ∷ rest) rest)) ≡ (c || r)
any_step f g true c x rest r same rests = ap (λ (d : Bool). d || list_any f (map g rest)) same ∙ ap (λ (d : Bool). c || d) rests
any_step f g false c x rest r same rests = rests ∙ ap (λ (d : Bool). d || r) same

pub any_twice : {X Y : Type 0} (p r : X → Bool) (f : Y → Bool) (g : X → Y) (xs : List X) → ((x : X) → (p x && f (g x)) ≡ r x) →
    list_any f (map g (filter p xs)) ≡ list_any r xs
any_twice p r f g [] same = refl
any_twice p r f g (x ∷ xs) same = any_step f g (p x) (r x) x (filter p xs) (list_any r xs) (same x) (any_twice p r f g xs same)

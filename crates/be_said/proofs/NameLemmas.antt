-- Names that are looked up.
use Rattle.std.proofs.Common.{◌≡◌, ℕ, ◌+◌, Bool, true, false, ◌||◌, cond, List, [], ◌∷◌, ◌++◌, map, Option, Some, refl, ap, sym, ◌∙◌}
use Rattle.std.proofs.lemmas.List.Folds.{list_any-append}
use Rattle.std.specs.List.{list_any, position_from}
use Rattle.std.specs.Prelude.{is_some}
use Rattle.std.specs.Str.{bytes_eq}
use Rattle.be_command.specs.Names.{number_in}

-- a line by its name
position_by : {A : Type 0} (name : A → List ℕ) (word : List ℕ) (i : ℕ) (xs : List A) → position_from (λ x. bytes_eq (name x) word) i xs ≡ position_from (λ other. bytes_eq other word) i (map name xs)
position_by name word i [] = refl
position_by name word i (x ∷ xs) = ap (cond (bytes_eq (name x) word) (Some i)) (position_by name word (i + 1) xs)

pub number_in_by : {A : Type 0} (name : A → List ℕ) (word : List ℕ) (xs : List A) → number_in (map name xs) word ≡ position_from (λ x. bytes_eq (name x) word) 0 xs
number_in_by name word xs = sym (position_by name word 0 xs)

pub any_by : {A : Type 0} (name : A → List ℕ) (word : List ℕ) (xs : List A) → list_any (λ other. bytes_eq other word) (map name xs) ≡ list_any (λ x. bytes_eq (name x) word) xs
any_by name word [] = refl
any_by name word (x ∷ xs) = ap (λ (b : Bool). bytes_eq (name x) word || b) (any_by name word xs)

-- a name is there where it has a number
some_of : (b : Bool) (i : ℕ) (o : Option ℕ) → is_some (cond b (Some i) o) ≡ (b || is_some o)
some_of true i o = refl
some_of false i o = refl

found_from : (word : List ℕ) (i : ℕ) (names : List (List ℕ)) → list_any (λ other. bytes_eq other word) names ≡ is_some (position_from (λ other. bytes_eq other word) i names)
found_from word i [] = refl
found_from word i (name ∷ names) =
    ap (λ (b : Bool). bytes_eq name word || b) (found_from word (i + 1) names)
    ∙ sym (some_of (bytes_eq name word) i (position_from (λ other. bytes_eq other word) (i + 1) names))

pub is_found : (word : List ℕ) (names : List (List ℕ)) → list_any (λ other. bytes_eq other word) names ≡ is_some (number_in names word)
is_found word names = found_from word 0 names

pub either_found : (word : List ℕ) (names others : List (List ℕ)) → list_any (λ other. bytes_eq other word) (names ++ others) ≡ (is_some (number_in names word) || is_some (number_in others word))
either_found word names others =
    list_any-append (λ other. bytes_eq other word) names others
    ∙ ap (λ (b : Bool). b || list_any (λ other. bytes_eq other word) others) (is_found word names)
    ∙ ap (λ (b : Bool). is_some (number_in names word) || b) (is_found word others)

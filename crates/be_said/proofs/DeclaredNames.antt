-- Names that are declared side by side.
use Rattle.std.proofs.Common.{◌≡◌, ℕ, Bool, true, false, not, ◌||◌, cond, codes, List, [], ◌∷◌, ◌++◌, map, Ok, Err, refl, ap, ◌∙◌}
use Rattle.std.specs.List.{list_all, list_any}
use Rattle.std.specs.Str.{bytes_eq}
use Rattle.std.proofs.lemmas.Bool.{and_from, not_from_false}
use Rattle.be_facts.proofs.Bytes.{bytes_differ_turned}
use Rattle.be_facts.proofs.Lists.{map_push}
use Rattle.be_facts.proofs.Truths.{and_first, and_second, or_false_first, or_false_second}
use Rattle.be_command.specs.declared.fault.Reason.TheVariants.{NameTaken, Shape}
use Rattle.be_lex.specs.Names.{is_name, is_name_within, is_reserved_name}
use Rattle.be_said.proofs.AppendLemmas.{all-append}
use Rattle.be_said.specs.Fits.{IsNew}
use Rattle.be_script.specs.Names.{are_different, are_names, is_declared_name}

-- ---- a new name

-- it is a name that none of the others is
record IsFree (names : List (List ℕ)) (name : List ℕ) : Type 0 where
  formed : is_name name ≡ true
  free : is_reserved_name name ≡ false
  new : list_any (λ other. bytes_eq other name) names ≡ false

by_parts : (names : List (List ℕ)) (name : List ℕ) (formed taken : Bool) → is_name name ≡ formed → (is_reserved_name name || list_any (λ other. bytes_eq other name) names) ≡ taken →
    cond formed (cond taken (Err NameTaken) (Ok name)) (Err Shape) ≡ Ok name → IsFree names name
by_parts names name true false f t e = record {
  formed = f;
  free = or_false_first (is_reserved_name name) (list_any (λ other. bytes_eq other name) names) t;
  new = or_false_second (is_reserved_name name) (list_any (λ other. bytes_eq other name) names) t;
}
by_parts names name true true f t e = absurd ((cc))
by_parts names name false taken f t e = absurd ((cc))

free_of : (names : List (List ℕ)) (name : List ℕ) → IsNew names name → IsFree names name
free_of names name e = by_parts names name (is_name name) (is_reserved_name name || list_any (λ other. bytes_eq other name) names) refl refl e

declared_name : (name : List ℕ) → is_name name ≡ true → is_reserved_name name ≡ false → is_declared_name name ≡ true
unfolding is_name_within is_reserved_name is_declared_name
declared_name [] h free = h
declared_name (b ∷ bytes) h free = and_from _ _ h (not_from_false _ free)

-- ---- one more

different_last : (names : List (List ℕ)) (name : List ℕ) → are_different names ≡ true → list_any (λ other. bytes_eq other name) names ≡ false →
    are_different (names ++ name ∷ []) ≡ true
different_last [] name h new = refl
different_last (first ∷ names) name h new =
    and_from (list_all (λ other. not (bytes_eq first other)) (names ++ name ∷ [])) (are_different (names ++ name ∷ []))
    (all-append (λ other. not (bytes_eq first other)) names name (and_first (list_all (λ other. not (bytes_eq first other)) names) (are_different names) h)
    (not_from_false (bytes_eq first name) (or_false_first (bytes_eq first name) (list_any (λ other. bytes_eq other name) names) new)))
    (different_last names name (and_second (list_all (λ other. not (bytes_eq first other)) names) (are_different names) h)
    (or_false_second (bytes_eq first name) (list_any (λ other. bytes_eq other name) names) new))

names_last : (names : List (List ℕ)) (name : List ℕ) → are_names names ≡ true → IsFree names name → are_names (names ++ name ∷ []) ≡ true
unfolding are_names
names_last names name h f =
    and_from (list_all is_declared_name (names ++ name ∷ [])) (are_different (names ++ name ∷ []))
    (all-append is_declared_name names name (and_first (list_all is_declared_name names) (are_different names) h) (declared_name name f.formed f.free))
    (different_last names name (and_second (list_all is_declared_name names) (are_different names) h) f.new)

pub names-last : (names : List (List ℕ)) (name : List ℕ) → are_names names ≡ true → IsNew names name → are_names (names ++ name ∷ []) ≡ true
names-last names name h e = names_last names name h (free_of names name e)

pub no-names : are_names [] ≡ true
unfolding are_names
no-names = refl

pub named-last : {X : Type 0} (name : X → List ℕ) (xs : List X) (x : X) → are_names (map name xs) ≡ true → IsNew (map name xs) (name x) → are_names (map name (xs ++ x ∷ [])) ≡ true
named-last name xs x h e = ap are_names (map_push name xs x) ∙ names-last (map name xs) (name x) h e

-- ---- one more among views, before plain handlers

not_one : (name : List ℕ) (others : List (List ℕ)) → list_any (λ other. bytes_eq other name) others ≡ false → list_all (λ other. not (bytes_eq name other)) others ≡ true
not_one name [] h = refl
not_one name (other ∷ others) h =
    and_from (not (bytes_eq name other)) (list_all (λ other. not (bytes_eq name other)) others)
    (not_from_false (bytes_eq name other) (bytes_differ_turned other name (or_false_first (bytes_eq other name) (list_any (λ other. bytes_eq other name) others) h)))
    (not_one name others (or_false_second (bytes_eq other name) (list_any (λ other. bytes_eq other name) others) h))

all_between : {X : Type 0} (p : X → Bool) (front : List X) (x : X) (back : List X) → list_all p (front ++ back) ≡ true → p x ≡ true → list_all p ((front ++ x ∷ []) ++ back) ≡ true
all_between p [] x back h k = and_from (p x) (list_all p back) k h
all_between p (y ∷ front) x back h k =
    and_from (p y) (list_all p ((front ++ x ∷ []) ++ back)) (and_first (p y) (list_all p (front ++ back)) h)
    (all_between p front x back (and_second (p y) (list_all p (front ++ back)) h) k)

different_between : (front : List (List ℕ)) (name : List ℕ) (back : List (List ℕ)) → are_different (front ++ back) ≡ true →
    list_any (λ other. bytes_eq other name) (front ++ back) ≡ false → are_different ((front ++ name ∷ []) ++ back) ≡ true
different_between [] name back h new = and_from (list_all (λ other. not (bytes_eq name other)) back) (are_different back) (not_one name back new) h
different_between (first ∷ front) name back h new =
    let test : List ℕ → Bool = λ other. not (bytes_eq first other) in
    and_from (list_all test ((front ++ name ∷ []) ++ back)) (are_different ((front ++ name ∷ []) ++ back))
    (all_between test front name back (and_first (list_all test (front ++ back)) (are_different (front ++ back)) h)
    (not_from_false (bytes_eq first name) (or_false_first (bytes_eq first name) (list_any (λ other. bytes_eq other name) (front ++ back)) new)))
    (different_between front name back (and_second (list_all test (front ++ back)) (are_different (front ++ back)) h)
    (or_false_second (bytes_eq first name) (list_any (λ other. bytes_eq other name) (front ++ back)) new))

-- beside the root's name, which none of them has
fewer_free : (first : List ℕ) (names : List (List ℕ)) (name : List ℕ) → IsFree (first ∷ names) name → IsFree names name
fewer_free first names name f = record {
  formed = f.formed;
  free = f.free;
  new = or_false_second (bytes_eq first name) (list_any (λ other. bytes_eq other name) names) f.new;
}

names_between : (front : List (List ℕ)) (name : List ℕ) (back : List (List ℕ)) → are_names (front ++ back) ≡ true → IsFree (front ++ back) name → are_names ((front ++ name ∷ []) ++ back) ≡ true
unfolding are_names
names_between front name back h f =
    let all = front ++ back in
    and_from (list_all is_declared_name ((front ++ name ∷ []) ++ back)) (are_different ((front ++ name ∷ []) ++ back))
    (all_between is_declared_name front name back (and_first (list_all is_declared_name all) (are_different all) h) (declared_name name f.formed f.free))
    (different_between front name back (and_second (list_all is_declared_name all) (are_different all) h) f.new)

pub view-named : {X : Type 0} (name : X → List ℕ) (xs : List X) (x : X) (back : List (List ℕ)) → are_names (map name xs ++ back) ≡ true →
    IsNew ((codes "root" ∷ map name xs) ++ back) (name x) → are_names (map name (xs ++ x ∷ []) ++ back) ≡ true
view-named name xs x back h e =
    ap (λ names. are_names (names ++ back)) (map_push name xs x)
    ∙ names_between (map name xs) (name x) back h (fewer_free (codes "root") (map name xs ++ back) (name x) (free_of (codes "root" ∷ (map name xs ++ back)) (name x) e))

-- behind them all
append_last : {X : Type 0} (front back : List X) (x : X) → front ++ (back ++ x ∷ []) ≡ (front ++ back) ++ x ∷ []
append_last [] back x = refl
append_last (y ∷ front) back x = ap (λ l. y ∷ l) (append_last front back x)

pub plain-named : {X : Type 0} (front : List (List ℕ)) (name : X → List ℕ) (xs : List X) (x : X) → are_names (front ++ map name xs) ≡ true →
    IsNew ((codes "root" ∷ front) ++ map name xs) (name x) → are_names (front ++ map name (xs ++ x ∷ [])) ≡ true
plain-named front name xs x h e =
    ap (λ names. are_names (front ++ names)) (map_push name xs x)
    ∙ ap are_names (append_last front (map name xs) (name x))
    ∙ names_last (front ++ map name xs) (name x) h (fewer_free (codes "root") (front ++ map name xs) (name x) (free_of (codes "root" ∷ (front ++ map name xs)) (name x) e))

-- Names that differ are found by their places.
use Rattle.std.proofs.Common.{◌≡◌, ℕ, zero, suc, ◌+◌, ◌<◌, Bool, true, false, cond, not, List, [], ◌∷◌, ◌++◌, length, get_or, Some, refl, ap, ◌∙◌, arith}
use Rattle.std.specs.List.{list_all, position_from}
use Rattle.std.specs.Str.{bytes_eq}
use Rattle.std.proofs.lemmas.Bool.{and_parts, and_from, not-true}
use Rattle.std.proofs.lemmas.List.Folds.{list_all-append}
use Rattle.std.proofs.lemmas.Option.{same_Some}
use Rattle.std.proofs.lemmas.Slice.Eq.{bytes_eq-Decides}
use Rattle.be_facts.proofs.Bytes.{bytes_eq_self}
use Rattle.be_command.specs.Names.{number_in}
use Rattle.be_script.specs.Names.{are_different}

-- ---- tests of all names

pub passes_at : (test : List ℕ → Bool) (names : List (List ℕ)) (n : ℕ) → list_all test names ≡ true → n < length names → test (get_or names n []) ≡ true
passes_at test [] n h lt = absurd (omega arith)
passes_at test (name ∷ names) zero h lt = (and_parts (test name) (list_all test names) h).0
passes_at test (name ∷ names) (suc n) h lt = passes_at test names n (and_parts (test name) (list_all test names) h).1 (omega arith)

pub passes_weaker : (test other : List ℕ → Bool) → ((name : List ℕ) → test name ≡ true → other name ≡ true) → (names : List (List ℕ)) → list_all test names ≡ true → list_all other names ≡ true
passes_weaker test other weaker [] h = refl
passes_weaker test other weaker (name ∷ names) h =
    let parts = and_parts (test name) (list_all test names) h in
    and_from (other name) (list_all other names) (weaker name parts.0) (passes_weaker test other weaker names parts.1)

-- ---- names that differ

abbrev pub differs : List ℕ → List (List ℕ) → Bool
differs name others = list_all (λ other. not (bytes_eq name other)) others

-- each of some differs from each of others
abbrev pub apart : List (List ℕ) → List (List ℕ) → Bool
apart names others = list_all (λ name. differs name others) names

differs-append : (name : List ℕ) (xs ys : List (List ℕ)) → differs name xs ≡ true → differs name ys ≡ true → differs name (xs ++ ys) ≡ true
differs-append name xs ys h k = list_all-append (λ other. not (bytes_eq name other)) xs ys ∙ and_from (differs name xs) (differs name ys) h k

pub apart-append : (xs ys others : List (List ℕ)) → apart xs others ≡ true → apart ys others ≡ true → apart (xs ++ ys) others ≡ true
apart-append xs ys others h k = list_all-append (λ name. differs name others) xs ys ∙ and_from (apart xs others) (apart ys others) h k

pub different-append : (xs ys : List (List ℕ)) → are_different xs ≡ true → are_different ys ≡ true → apart xs ys ≡ true → are_different (xs ++ ys) ≡ true
different-append [] ys h k a = k
different-append (x ∷ xs) ys h k a =
    let own = and_parts (differs x xs) (are_different xs) h in
    let other = and_parts (differs x ys) (apart xs ys) a in
    and_from (differs x (xs ++ ys)) (are_different (xs ++ ys)) (differs-append x xs ys own.0 other.0) (different-append xs ys own.1 k other.1)

-- ---- the place of a name

not_among : (name : List ℕ) (names : List (List ℕ)) (n : ℕ) → differs name names ≡ true → n < length names → bytes_eq name (get_or names n []) ≡ false
not_among name names n h lt = not-true (bytes_eq name (get_or names n [])) (passes_at (λ other. not (bytes_eq name other)) names n h lt)

position_at : (names : List (List ℕ)) (n first : ℕ) → are_different names ≡ true → n < length names → position_from (λ other. bytes_eq other (get_or names n [])) first names ≡ Some (first + n)
position_at [] n first d lt = absurd (omega arith)
position_at (name ∷ names) zero first d lt =
    ap (λ (b : Bool). cond b (Some first) (position_from (λ other. bytes_eq other name) (first + 1) names)) (bytes_eq_self name) ∙ ap Some (omega arith)
position_at (name ∷ names) (suc n) first d lt =
    let parts = and_parts (differs name names) (are_different names) d in
    let other_name = not_among name names n parts.0 (omega arith) in
    let behind = position_at names n (first + 1) parts.1 (omega arith) in
    ap (λ (b : Bool). cond b (Some first) (position_from (λ other. bytes_eq other (get_or names n [])) (first + 1) names)) other_name ∙ behind ∙ ap Some (omega arith)

-- a name is found at its place
pub number_back : (names : List (List ℕ)) (n : ℕ) → are_different names ≡ true → n < length names → number_in names (get_or names n []) ≡ Some n
number_back names n d lt = position_at names n 0 d lt ∙ ap Some (omega arith)

record IsPlace (names : List (List ℕ)) (word : List ℕ) (first n : ℕ) : Type 0 where
  place : ℕ
  at : n ≡ first + place
  within : place < length names
  is : get_or names place [] ≡ word

place_by : (b : Bool) (name : List ℕ) (names : List (List ℕ)) (word : List ℕ) (first n : ℕ) → bytes_eq name word ≡ b
    → (position_from (λ other. bytes_eq other word) (first + 1) names ≡ Some n → IsPlace names word (first + 1) n)
    → cond b (Some first) (position_from (λ other. bytes_eq other word) (first + 1) names) ≡ Some n → IsPlace (name ∷ names) word first n
place_by true name names word first n same behind e =
    let here = same_Some first n e in
    record { place = zero; at = omega arith; within = omega arith; is = (bytes_eq-Decides name word).0 same }
place_by false name names word first n same behind e =
    let r = behind e in
    let at = r.at in
    let within = r.within in
    record { place = suc r.place; at = omega arith; within = omega arith; is = r.is }

place_of : (names : List (List ℕ)) (word : List ℕ) (first n : ℕ) → position_from (λ other. bytes_eq other word) first names ≡ Some n → IsPlace names word first n
place_of [] word first n e = (cc)
place_of (name ∷ names) word first n e = place_by (bytes_eq name word) name names word first n refl (place_of names word (first + 1) n) e

-- and at a place that is found the name stands
pub number_alone : (names : List (List ℕ)) (word : List ℕ) (n : ℕ) → number_in names word ≡ Some n → (n < length names) × (get_or names n [] ≡ word)
number_alone names word n e =
    let r = place_of names word 0 n e in
    let at = r.at in
    let within = r.within in
    let same : n ≡ r.place = omega arith in
    (omega arith, ap (λ (k : ℕ). get_or names k []) same ∙ r.is)

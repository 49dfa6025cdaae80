-- A name is found by its number, where names are different.
use Rattle.std.proofs.Common.{◌≡◌, ℕ, zero, suc, ◌+◌, ◌<◌, Bool, true, false, cond, not, ◌&&◌, ◌||◌, get_or, length, refl, arith, List, [], ◌∷◌, ◌++◌, Option, Some, None, Result, Ok, Err, ap, ◌∙◌, sym, subst, codes}
use Rattle.std.specs.List.{list_all, list_any, position_from}
use Rattle.std.specs.Option.{ok_or}
use Rattle.std.specs.Str.{bytes_eq}
use Rattle.std.proofs.lemmas.Bool.{and_parts, or_parts}
use Rattle.std.proofs.lemmas.Slice.Eq.{bytes_eq-Decides}
use Rattle.be_facts.proofs.Bytes.{bytes_eq_self}
use Rattle.be_facts.proofs.Truths.{not_true}
use Rattle.be_lex.specs.Words.{is_word, ends_word}
use Rattle.be_lex.specs.Names.{is_name, is_reserved_name, is_name_within}
use Rattle.be_lex.proofs.Spelling.{is_word-name}
use Rattle.be_command.specs.declared.fault.Reason.{Reason}
use Rattle.be_command.specs.declared.fault.Reason.TheVariants.{Shape, UnknownName}
use Rattle.be_command.specs.Names.{Known, AreNames, are_different, number_in}
use Rattle.be_command.specs.Places.{At, after_word, next_said}
use Rattle.be_command.specs.Kinds.{named, focus_named, as_focus}
use Rattle.be_command.specs.Spelling.{name_word, focus_word}
use Rattle.be_command.specs.Laws.{AreKnown, IsFocus}
use Rattle.be_command.proofs.NameLemmas.{root_is_reserved}
use Rattle.be_command.proofs.BackLemmas.{Reads, next_back}

abbrev declared : List ℕ → Bool
declared name = is_name name && not (is_reserved_name name)

abbrev told : List ℕ → Bool
told name = is_name name && not (bytes_eq name (codes "none"))

-- names, none of which is `none`, and no two of which are the same
pub record AreApart (names : List (List ℕ)) : Type 0 where
  pub each : list_all told names ≡ true
  pub differ : are_different names ≡ true

-- ---- the names of each kind are such

none_or : (none : Bool) (name : List ℕ) → bytes_eq name (codes "none") ≡ none → is_reserved_name name ≡ false → none ≡ false
unfolding is_reserved_name
none_or true name e h =
    let same : name ≡ codes "none" = (bytes_eq-Decides name (codes "none")).0 e in
    let reserved : true ≡ false = subst (λ (word : List ℕ). is_reserved_name word ≡ false) same h in
    (cc)
none_or false name e h = refl

told_name : (name : List ℕ) → declared name ≡ true → told name ≡ true
told_name name h =
    let here = and_parts (is_name name) (not (is_reserved_name name)) h in
    let other = none_or (bytes_eq name (codes "none")) name refl (not_true (is_reserved_name name) here.1) in
    ap (λ (b : Bool). b && not (bytes_eq name (codes "none"))) here.0 ∙ ap not other

told_each : (names : List (List ℕ)) → list_all declared names ≡ true → list_all told names ≡ true
told_each [] h = refl
told_each (name ∷ names) h =
    let parts = and_parts (declared name) (list_all declared names) h in
    ap (λ (b : Bool). b && list_all told names) (told_name name parts.0) ∙ told_each names parts.1

pub apart-names : (names : List (List ℕ)) → AreNames names → AreApart names
apart-names names a = record { each = told_each names a.each; differ = a.differ }

-- the root view's name is none of the others
root_or : (root : Bool) (name : List ℕ) → bytes_eq (codes "root") name ≡ root → is_reserved_name name ≡ false → root ≡ false
root_or true name e h = let r : is_reserved_name name ≡ true = root_is_reserved name e in (cc)
root_or false name e h = refl

no_root : (names : List (List ℕ)) → list_all declared names ≡ true → list_any (λ other. bytes_eq (codes "root") other) names ≡ false
no_root [] h = refl
no_root (name ∷ names) h =
    let parts = and_parts (declared name) (list_all declared names) h in
    let here = and_parts (is_name name) (not (is_reserved_name name)) parts.0 in
    ap (λ (b : Bool). b || list_any (λ other. bytes_eq (codes "root") other) names) (root_or (bytes_eq (codes "root") name) name refl (not_true (is_reserved_name name) here.1)) ∙ no_root names parts.1

root_is_told : told (codes "root") ≡ true
unfolding is_name_within
root_is_told = refl

beside_root : (names : List (List ℕ)) → AreNames names → AreApart (codes "root" ∷ names)
beside_root names a = record {
  each = ap (λ (b : Bool). b && list_all told names) root_is_told ∙ told_each names a.each;
  differ = ap (λ (b : Bool). not b && are_different names) (no_root names a.each) ∙ a.differ;
}

pub apart-views : (known : Known) → AreKnown known → AreApart known.views
apart-views known k = subst (λ (names : List (List ℕ)). AreApart names) (sym k.root_first) (beside_root k.beside_root k.views)

-- ---- a number's name has that number

not_among : (name : List ℕ) (names : List (List ℕ)) (n : ℕ) → list_any (λ other. bytes_eq name other) names ≡ false → n < length names → bytes_eq name (get_or names n []) ≡ false
not_among name [] n h lt = absurd (omega arith)
not_among name (other ∷ names) n h lt =
    let parts = or_parts (bytes_eq name other) (list_any (λ o. bytes_eq name o) names) h in
    elim n as (λ (i : ℕ). i < length (other ∷ names) → bytes_eq name (get_or (other ∷ names) i []) ≡ false) [
      | zero ↦ λ l. parts.0
      | suc i ↦ λ l. not_among name names i parts.1 (omega arith)
    ] lt

pub position_at : (names : List (List ℕ)) (n first : ℕ) → are_different names ≡ true → n < length names → position_from (λ other. bytes_eq other (get_or names n [])) first names ≡ Some (first + n)
position_at [] n first d lt = absurd (omega arith)
position_at (name ∷ names) zero first d lt =
    ap (λ (b : Bool). cond b (Some first) (position_from (λ other. bytes_eq other name) (first + 1) names)) (bytes_eq_self name) ∙ ap Some (omega arith)
position_at (name ∷ names) (suc n) first d lt =
    let parts = and_parts (not (list_any (λ other. bytes_eq name other) names)) (are_different names) d in
    let other_name = not_among name names n (not_true (list_any (λ other. bytes_eq name other) names) parts.0) (omega arith) in
    let behind = position_at names n (first + 1) parts.1 (omega arith) in
    ap (λ (b : Bool). cond b (Some first) (position_from (λ other. bytes_eq other (get_or names n [])) (first + 1) names)) other_name ∙ behind ∙ ap Some (omega arith)

told_at : (names : List (List ℕ)) (n : ℕ) → list_all told names ≡ true → n < length names → told (get_or names n []) ≡ true
told_at [] n h lt = absurd (omega arith)
told_at (name ∷ names) zero h lt = (and_parts (told name) (list_all told names) h).0
told_at (name ∷ names) (suc n) h lt = told_at names n (and_parts (told name) (list_all told names) h).1 (omega arith)

parts_at : (names : List (List ℕ)) (n : ℕ) → AreApart names → n < length names → (is_name (get_or names n []) ≡ true) × (bytes_eq (get_or names n []) (codes "none") ≡ false)
parts_at names n a lt =
    let parts = and_parts (is_name (get_or names n [])) (not (bytes_eq (get_or names n []) (codes "none"))) (told_at names n a.each lt) in
    (parts.0, not_true (bytes_eq (get_or names n []) (codes "none")) parts.1)

named_back : (names : List (List ℕ)) (n : ℕ) → AreApart names → n < length names → named names (get_or names n []) ≡ Ok n
named_back names n a lt =
    ap (λ (b : Bool). cond b (ok_or (number_in names (get_or names n [])) UnknownName) (Err Shape)) (parts_at names n a lt).0
    ∙ ap (λ (o : Option ℕ). ok_or o UnknownName) (position_at names n 0 a.differ lt ∙ ap Some (omega arith))

word_at_number : (names : List (List ℕ)) (n : ℕ) → AreApart names → n < length names → is_word (get_or names n []) ≡ true
word_at_number names n a lt = is_word-name 16 (get_or names n []) (parts_at names n a lt).0

pub name_back : (names : List (List ℕ)) (n : ℕ) (rest : List ℕ) (at : At) → AreApart names → n < length names → ends_word rest ≡ true → at.text ≡ name_word names n ++ rest →
    Reads (next_said (named names) at) (after_word at) n rest
name_back names n rest at a lt ends e =
    next_back (named names) (get_or names n []) rest at n (word_at_number names n a lt) ends (named_back names n a lt) e

-- ---- a focus

none_is_word : is_word (codes "none") ≡ true
unfolding is_word
none_is_word = refl

pub focus_back : (names : List (List ℕ)) (focus : Option ℕ) (rest : List ℕ) (at : At) → AreApart names → IsFocus names focus → ends_word rest ≡ true → at.text ≡ focus_word names focus ++ rest →
    Reads (next_said (focus_named names) at) (after_word at) focus rest
focus_back names None rest at a lt ends e = next_back (focus_named names) (codes "none") rest at None none_is_word ends refl e
focus_back names (Some n) rest at a lt ends e =
    let other = (parts_at names n a lt).1 in
    let read : focus_named names (get_or names n []) ≡ Ok (Some n) =
    ap (λ (b : Bool). cond b (Ok None) (as_focus (named names (get_or names n [])))) other ∙ ap (λ (r : Result ℕ Reason). as_focus r) (named_back names n a lt) in
    next_back (focus_named names) (get_or names n []) rest at (Some n) (word_at_number names n a lt) ends read e

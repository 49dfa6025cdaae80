-- Names that are told apart, and names that are added.
use Rattle.std.proofs.Common.{◌≡◌, ◌≢◌, ◌-◌, zero, suc, get_or, ℕ, Bool, true, false, not, ◌&&◌, ◌||◌, List, [], ◌∷◌, ◌++◌, refl, arith, cond, Option, Some, None, nat_le, leb-false, ◌<◌, length, ap, ◌∙◌, subst, sym, codes, Result, Ok, Err}
use Rattle.std.proofs.lemmas.List.Folds.{list_any-append, list_all-append}
use Rattle.std.proofs.Math.Dec.{leb-suc-suc}
use Rattle.std.specs.List.{list_any}
use Rattle.std.specs.Str.{bytes_eq}
use Rattle.be_facts.proofs.Bytes.{bytes_eq_tells}
use Rattle.be_lex.specs.Names.{is_name, is_reserved_name}
use Rattle.be_command.specs.declared.fault.NameFault.{NameFault}
use Rattle.be_command.specs.declared.fault.NameFault.TheVariants.{BadName, NameTaken, TooMany, NoMemory}
use Rattle.be_command.specs.Names.{are_different, AreNames, IsNameFault, IsNumbered, IsNumberedFrom, name_fault}

-- a fault that is due is the fault
pub is_due : (fault : NameFault) (due : Option NameFault) → due ≡ Some fault → IsNameFault fault due
is_due BadName due e = e
is_due NameTaken due e = e
is_due TooMany due e = e
is_due NoMemory due e = tt

told : (same earlier later apart : Bool) → (not earlier && apart) ≡ true → (same || later) ≡ false → (same ≡ false) × (later ≡ false) × (earlier ≡ false) × (apart ≡ true)
told false false later apart d a = (refl, a, refl, d)
told false true later apart d a = (cc)
told true earlier later apart d a = (cc)

-- a name that none of them is leaves them different
pub different-append : (names : List (List ℕ)) (name : List ℕ) → are_different names ≡ true → list_any (λ other. bytes_eq other name) names ≡ false → are_different (names ++ name ∷ []) ≡ true
different-append [] name d a = refl
different-append (other ∷ names) name d a =
    let parts = told (bytes_eq other name) (list_any (λ o. bytes_eq other o) names) (list_any (λ o. bytes_eq o name) names) (are_different names) d a in
    let rest : are_different (names ++ name ∷ []) ≡ true = different-append names name parts.3 parts.1 in
    let none : list_any (λ o. bytes_eq other o) (names ++ name ∷ []) ≡ false = list_any-append (λ o. bytes_eq other o) names (name ∷ []) ∙ ap (λ b. b || (bytes_eq other name || false)) parts.2 ∙ ap (λ b. b || false) parts.0 in
    let both : (not (list_any (λ o. bytes_eq other o) (names ++ name ∷ [])) && are_different (names ++ name ∷ [])) ≡ true = ap (λ b. not b && are_different (names ++ name ∷ [])) none ∙ rest in
    both

abbrev declared : List ℕ → Bool
declared name = is_name name && not (is_reserved_name name)

unpacked : (bad reserved there full : Bool) → cond (not bad) (Some BadName) (cond (reserved || there) (Some NameTaken) (cond full (Some TooMany) None)) ≡ None → ((bad && not reserved) ≡ true) × (there ≡ false) × (full ≡ false)
unpacked true false false false e = (refl, refl, refl)
unpacked true false false true e = (cc)
unpacked true false true full e = (cc)
unpacked true true there full e = (cc)
unpacked false reserved there full e = (cc)

-- a name that no fault is due for is added to names
pub names-append : (most : ℕ) (names : List (List ℕ)) (name : List ℕ) → AreNames names → name_fault most names name ≡ None → AreNames (names ++ name ∷ [])
names-append most names name a e =
    let parts = unpacked (is_name name) (is_reserved_name name) (list_any (λ other. bytes_eq other name) names) (nat_le most (length names)) e in
    record {
      each = list_all-append declared names (name ∷ []) ∙ ap (λ b. b && (declared name && true)) a.each ∙ ap (λ b. b && true) parts.0;
      differ = different-append names name a.differ parts.1;
    }

-- and then there was room for it
pub has_room : (most : ℕ) (names : List (List ℕ)) (name : List ℕ) → name_fault most names name ≡ None → length names < most
has_room most names name e =
    let parts = unpacked (is_name name) (is_reserved_name name) (list_any (λ other. bytes_eq other name) names) (nat_le most (length names)) e in
    leb-false most (length names) parts.2

-- ---- the root view beside the others

pub root_is_reserved : (name : List ℕ) → bytes_eq (codes "root") name ≡ true → is_reserved_name name ≡ true
root_is_reserved name e = subst (λ (word : List ℕ). is_reserved_name word ≡ true) (bytes_eq_tells (codes "root") name e) (unfold is_reserved_name in refl)

same_fault : (bad reserved root there full less : Bool) → (root ≡ true → reserved ≡ true) → full ≡ less →
    cond (not bad) (Some BadName) (cond (reserved || (root || there)) (Some NameTaken) (cond full (Some TooMany) None)) ≡ cond (not bad) (Some BadName) (cond (reserved || there) (Some NameTaken) (cond less (Some TooMany) None))
same_fault false reserved root there full less r e = refl
same_fault true true root there full less r e = refl
same_fault true false true there full less r e = let h : false ≡ true = r refl in (cc)
same_fault true false false true full less r e = refl
same_fault true false false false full less r e = ap (λ b. cond b (Some TooMany) None) e

-- so many views with the root are one less beside it
pub beside_root : (views : List (List ℕ)) (name : List ℕ) → name_fault 32 (codes "root" ∷ views) name ≡ name_fault 31 views name
beside_root views name =
    same_fault (is_name name) (is_reserved_name name) (bytes_eq (codes "root") name) (list_any (λ other. bytes_eq other name) views) (nat_le 32 (length (codes "root" ∷ views))) (nat_le 31 (length views)) (root_is_reserved name) (leb-suc-suc 31 (length views))

-- the next number beside the root is the next one with it
pub beside_the_root : (result : Result ℕ NameFault) (views : List (List ℕ)) (name : List ℕ) →
    IsNumberedFrom 1 result (name_fault 31 views name) views → IsNumbered result (name_fault 32 (codes "root" ∷ views) name) (codes "root" ∷ views)
beside_the_root (Ok n) views name h = (beside_root views name ∙ h.0, omega (arith, h.1))
beside_the_root (Err fault) views name h =
    let P : Option NameFault → Type 0 = λ due. IsNameFault fault due in subst P (sym (beside_root views name)) h

-- a name behind the first one
pub name_behind : (n : ℕ) (first : List ℕ) (names : List (List ℕ)) → n ≢ 0 → get_or (first ∷ names) n [] ≡ get_or names (n - 1) []
name_behind zero first names some = absurd (some refl)
name_behind (suc n) first names some = let e : suc n - 1 ≡ n = omega arith in ap (λ (k : ℕ). get_or names k []) (sym e)

-- At most one field has a name.
use Rattle.std.proofs.Common.{◌≡◌, ℕ, suc, zero, ◌+◌, ◌<◌, true, false, not, ◌||◌, cond, List, [], ◌∷◌, ◌++◌, length, get_or, set, take, drop, Option, Some, None, arith, refl, sym, ap, ◌∙◌}
use Rattle.std.specs.List.{list_any, filter, slice_get, remove}
use Rattle.std.specs.Str.{bytes_eq}
use Rattle.std.proofs.lemmas.Bool.{or_from, or_parts, and_parts, not-true, cond-false, false_from_ne_true, both_ways}
use Rattle.std.proofs.lemmas.Slice.Eq.{bytes_eq-Decides}
use Rattle.std.proofs.lemmas.List.{length-map, get_or-map, drop_more, map-set, map-append, set-get_or, take-map, drop-map, get_or_at, set_at}
use Rattle.be_message.specs.declared.field.Field as field
use Rattle.be_message.specs.declared.kind.Kind.{Kind}
use Rattle.be_message.specs.Views.{seen_field, seen_fields}
use Rattle.std.specs.Option.{option_map}
use Rattle.std.proofs.lemmas.Option.{slice_get-get_or}
use Rattle.be_message.specs.Places.{IsPlaceOf}
use Rattle.be_message.specs.Messages.{Datum, Field, all_fields}
use Rattle.be_message.specs.Fields.{has_name, field_named, changed_at, with_one_more, new_field}
use Rattle.be_message.specs.Sound.{kind_of, is_new, AreSoundFields}

-- each name is that of one field at most, as the fields of a message have it
abbrev pub AreApart : List Field → Type 0
AreApart [] = Unit {0}
AreApart (f ∷ fs) = (list_any (has_name f.name) fs ≡ false) × AreApart fs

pub no_field : (name : List ℕ) (fs : List Field) → is_new name (all_fields fs) ≡ true → list_any (has_name name) fs ≡ false
no_field name [] h = refl
no_field name (f ∷ fs) h =
    let p = and_parts (not (bytes_eq f.name name)) (is_new name (all_fields fs)) h in
    let e : bytes_eq f.name name ≡ false = not-true _ p.0 in
    rw e (no_field name fs p.1)

pub are_apart : (fs : List Field) → AreSoundFields (all_fields fs) → AreApart fs
are_apart [] s = tt
are_apart (f ∷ fs) s = (no_field f.name fs s.1, are_apart fs s.5)

pub name_is : (name : List ℕ) (f : Field) → has_name name f ≡ true → f.name ≡ name
name_is name f h = (bytes_eq-Decides f.name name).0 h

-- where the name is missing
pub named_none : (name : List ℕ) (fs : List Field) → list_any (has_name name) fs ≡ false → field_named name fs ≡ None
named_none name [] h = refl
named_none name (f ∷ fs) h =
    let p = or_parts (has_name name f) (list_any (has_name name) fs) h in
    cond-false _ _ _ p.0 ∙ named_none name fs p.1

pub changed_none : (name : List ℕ) (change : Field → Field) (fs : List Field) → list_any (has_name name) fs ≡ false → changed_at name change fs ≡ fs
changed_none name change [] h = refl
changed_none name change (f ∷ fs) h =
    let p = or_parts (has_name name f) (list_any (has_name name) fs) h in
    let e : cond (has_name name f) (change f) f ≡ f = cond-false _ _ _ p.0 in
    rw (e, changed_none name change fs p.1)

pub filter_none : (name : List ℕ) (fs : List Field) → list_any (has_name name) fs ≡ false → filter (λ f. not (has_name name f)) fs ≡ fs
filter_none name [] h = refl
filter_none name (f ∷ fs) h =
    let p = or_parts (has_name name f) (list_any (has_name name) fs) h in
    let e : has_name name f ≡ false = p.0 in
    rw (e, filter_none name fs p.1)

-- a field of the name, and its place
pub record IsAt (name : List ℕ) (fs : List Field) (k : ℕ) (f : Field) : Type 0 where
  pub at : slice_get fs k ≡ Some f
  pub named : has_name name f ≡ true

pub some_has : (name : List ℕ) (fs : List Field) (k : ℕ) (f : Field) → slice_get fs k ≡ Some f → has_name name f ≡ true → list_any (has_name name) fs ≡ true
some_has name [] k f h n = absurd (cc)
some_has name (g ∷ gs) zero f h n =
    let e : g ≡ f = cc in
    rw (e, n)
some_has name (g ∷ gs) (suc k) f h n = elim (has_name name g) as (λ b. (b || list_any (has_name name) gs) ≡ true) [ true ↦ refl | false ↦ some_has name gs k f h n ]

-- no other field has the name
before : (name : List ℕ) (g : Field) (gs : List Field) (k : ℕ) (f : Field) → AreApart (g ∷ gs) → slice_get gs k ≡ Some f → has_name name f ≡ true → has_name name g ≡ false
before name g gs k f a h n =
    false_from_ne_true _ (λ t. both_ways (list_any (has_name name) gs) (let e : g.name ≡ name = name_is name g t in rw e at a.0) (some_has name gs k f h n))

pub behind : (name : List ℕ) (g : Field) (gs : List Field) → AreApart (g ∷ gs) → has_name name g ≡ true → list_any (has_name name) gs ≡ false
behind name g gs a t = let e : g.name ≡ name = name_is name g t in rw e at a.0

pub named_at : (name : List ℕ) (fs : List Field) (k : ℕ) (f : Field) → AreApart fs → slice_get fs k ≡ Some f → has_name name f ≡ true → field_named name fs ≡ Some f
named_at name [] k f a h n = absurd (cc)
named_at name (g ∷ gs) zero f a h n =
    let e : g ≡ f = cc in
    rw (e, n)
named_at name (g ∷ gs) (suc k) f a h n =
    let e : has_name name g ≡ false = before name g gs k f a h n in
    rw e (named_at name gs k f a.1 h n)

pub changed_is : (name : List ℕ) (change : Field → Field) (fs : List Field) (k : ℕ) (f : Field) → AreApart fs → slice_get fs k ≡ Some f → has_name name f ≡ true → changed_at name change fs ≡ set fs k (change f)
changed_is name change [] k f a h n = absurd (cc)
changed_is name change (g ∷ gs) zero f a h n =
    let e : f ≡ g = cc in
    let t : has_name name g ≡ true = rw e at n in
    rw (e, t, changed_none name change gs (behind name g gs a t))
changed_is name change (g ∷ gs) (suc k) f a h n =
    let e : has_name name g ≡ false = before name g gs k f a h n in
    rw (e, changed_is name change gs k f a.1 h n)

pub filter_is : (name : List ℕ) (fs : List Field) (k : ℕ) (f : Field) → AreApart fs → slice_get fs k ≡ Some f → has_name name f ≡ true → filter (λ f. not (has_name name f)) fs ≡ remove fs k
filter_is name [] k f a h n = absurd (cc)
filter_is name (g ∷ gs) zero f a h n =
    let e : f ≡ g = cc in
    let t : has_name name g ≡ true = rw e at n in
    rw (t, filter_none name gs (behind name g gs a t))
filter_is name (g ∷ gs) (suc k) f a h n =
    let e : has_name name g ≡ false = before name g gs k f a h n in
    rw (e, filter_is name gs k f a.1 h n)

-- ---- the fields of the code

pub missing_more : (name : List ℕ) (fs : List field.Field) (j k : ℕ) (f : field.Field) → k ≡ j + 1 → j < length fs → list_any (has_name name) (drop k (seen_fields fs)) ≡ false → f ≡ get_or fs j f → has_name name (seen_field f) ≡ false → list_any (has_name name) (drop j (seen_fields fs)) ≡ false
missing_more name fs j k f e h none is differs =
    let long : j < length (seen_fields fs) = omega (arith, length-map fs seen_field) in
    let read : get_or (seen_fields fs) j (seen_field f) ≡ seen_field f = get_or-map seen_field fs j f (seen_field f) h ∙ ap seen_field (sym is) in
    let parts : drop j (seen_fields fs) ≡ seen_field f ∷ drop (j + 1) (seen_fields fs) = drop_more (seen_fields fs) j (seen_field f) long ∙ ap (λ x. x ∷ drop (j + 1) (seen_fields fs)) read in
    rw parts (or_from _ _ differs (rw e at none))

-- the code has found the field of the name at a place
pub record IsFound (name : List ℕ) (fs : List field.Field) (k : ℕ) (f : field.Field) : Type 0 where
  pub within : k < length fs
  pub read : f ≡ get_or fs k f
  pub at : slice_get (seen_fields fs) k ≡ Some (seen_field f)
  pub named : has_name name (seen_field f) ≡ true
  pub apart : AreApart (seen_fields fs)

named_from : (name : List ℕ) (o : Option Field) (f : Field) → o ≡ Some f → option_map (has_name name) o ≡ Some true → has_name name f ≡ true
named_from name o f e h = let all : Some (has_name name f) ≡ Some true = rw e at h in cc

pub is_found : (name : List ℕ) (fs gs : List field.Field) (k : ℕ) (f : field.Field) → AreSoundFields (all_fields (seen_fields fs)) → gs ≡ fs → IsPlaceOf name (seen_fields gs) (Some k) → f ≡ get_or fs k f → IsFound name fs k f
is_found name fs gs k f s e p read =
    let place : IsPlaceOf name (seen_fields fs) (Some k) = rw e at p in
    let short : k < length fs = omega (arith, place.0, length-map fs seen_field) in
    let at : slice_get (seen_fields fs) k ≡ Some (seen_field f) = slice_get-get_or (seen_fields fs) k (seen_field f) place.0 ∙ ap Some (get_or-map seen_field fs k f (seen_field f) short ∙ ap seen_field (sym read)) in
    record { within = short; read = read; at = at; named = named_from name _ (seen_field f) at place.1; apart = are_apart (seen_fields fs) s }

pub found_field : (name : List ℕ) (fs : List field.Field) (k : ℕ) (f : field.Field) → IsFound name fs k f → field_named name (seen_fields fs) ≡ Some (seen_field f)
found_field name fs k f p = named_at name (seen_fields fs) k (seen_field f) p.apart p.at p.named

pub found_any : (name : List ℕ) (fs : List field.Field) (k : ℕ) (f : field.Field) → IsFound name fs k f → list_any (has_name name) (seen_fields fs) ≡ true
found_any name fs k f p = some_has name (seen_fields fs) k (seen_field f) p.at p.named

pub found_changed : (name : List ℕ) (change : Field → Field) (fs : List field.Field) (k : ℕ) (f g : field.Field) → IsFound name fs k f → seen_field g ≡ change (seen_field f) → seen_fields (set fs k g) ≡ changed_at name change (seen_fields fs)
found_changed name change fs k f g p e =
    map-set seen_field fs k g ∙ ap (set (seen_fields fs) k) e ∙ sym (changed_is name change (seen_fields fs) k (seen_field f) p.apart p.at p.named)

pub found_stays : (name : List ℕ) (fs : List field.Field) (k : ℕ) (f g : field.Field) → IsFound name fs k f → seen_field g ≡ seen_field f → seen_fields (set fs k g) ≡ seen_fields fs
found_stays name fs k f g p e =
    map-set seen_field fs k g ∙ ap (set (seen_fields fs) k) (e ∙ ap seen_field p.read) ∙ sym (map-set seen_field fs k (get_or fs k f)) ∙ ap seen_fields (set-get_or fs k f)

pub found_removed : (name : List ℕ) (fs : List field.Field) (k : ℕ) (f : field.Field) → IsFound name fs k f → seen_fields (remove fs k) ≡ filter (λ f. not (has_name name f)) (seen_fields fs)
found_removed name fs k f p =
    map-append seen_field (take k fs) (drop (suc k) fs) ∙ rw (take-map seen_field k fs, drop-map seen_field (suc k) fs) refl ∙ sym (filter_is name (seen_fields fs) k (seen_field f) p.apart p.at p.named)

has_by : (name : List ℕ) (fs : List Field) (k : ℕ) (o : Option Field) → slice_get fs k ≡ o → option_map (has_name name) o ≡ Some true → list_any (has_name name) fs ≡ true
has_by name fs k (Some f) e h = some_has name fs k f e (named_from name (Some f) f refl h)
has_by name fs k None e h = absurd (cc h)

-- a place of the name is a field that has it
pub place_has : (name : List ℕ) (fs gs : List field.Field) (k : ℕ) → gs ≡ fs → IsPlaceOf name (seen_fields gs) (Some k) → list_any (has_name name) (seen_fields fs) ≡ true
place_has name fs gs k e p = let place : IsPlaceOf name (seen_fields fs) (Some k) = rw e at p in has_by name (seen_fields fs) k _ refl place.1

-- the code has found no field of the name
pub missing : (name : List ℕ) (fs gs : List field.Field) → gs ≡ fs → IsPlaceOf name (seen_fields gs) None → list_any (has_name name) (seen_fields fs) ≡ false
missing name fs gs e h = rw e at h

-- a field that came last, and has its first value
pub first_value : (name : List ℕ) (d : Datum) (fs ps : List field.Field) (n : ℕ) (k : Kind) (f r g : field.Field) → ps ≡ fs ++ f ∷ [] → length fs ≡ n → seen_field f ≡ record { name = name; kind = k; values = [] } → k ≡ kind_of d → r ≡ get_or ps n r → seen_field g ≡ with_one_more d (seen_field r) → seen_fields (set ps n g) ≡ seen_fields fs ++ new_field name d ∷ []
first_value name d fs ps n k f r g e len made kind read added =
    let is_first : r ≡ f = read ∙ rw e (get_or_at fs f [] r n len) in
    let is_made : seen_field g ≡ new_field name d = added ∙ ap (with_one_more d) (ap seen_field is_first ∙ made) ∙ rw kind refl in
    let is_set : set ps n g ≡ fs ++ g ∷ [] = rw e (set_at fs f [] g n len) in
    rw is_set (map-append seen_field fs (g ∷ []) ∙ ap (λ x. seen_fields fs ++ x ∷ []) is_made)

pub missing_field : (name : List ℕ) (fs gs : List field.Field) → gs ≡ fs → IsPlaceOf name (seen_fields gs) None → field_named name (seen_fields fs) ≡ None
missing_field name fs gs e h = named_none name (seen_fields fs) (missing name fs gs e h)

-- Fields and values of a message within a message as lists, and what adding a value makes of them.
use Rattle.std.proofs.Common.{◌≡◌, ℕ, true, false, ◌||◌, not, cond, List, [], ◌∷◌, ◌++◌, refl, sym, ap, ◌∙◌}
use Rattle.std.specs.List.{list_any}
use Rattle.std.specs.Str.{bytes_eq}
use Rattle.std.proofs.lemmas.List.{map-append}
use Rattle.std.proofs.lemmas.List.Folds.{list_any-append}
use Rattle.std.proofs.lemmas.Bool.{not_from_false, or_from, and_from, or_parts}
use Rattle.be_facts.proofs.Bytes.{bytes_eq_turned, bytes_eq_self}
use Rattle.be_facts.proofs.Truths.{not_true, and_first, and_second}
use Rattle.be_message.specs.Messages.{Datum, Fields, no_fields, field, Values, no_values, value, Field, values_of, fields_of, all_values, all_fields}
use Rattle.be_message.specs.Fields.{has_name, with_one_more, changed_at, new_field, with_value}
use Rattle.be_message.specs.Sound.{is_new}
use Rattle.be_message.proofs.PlaceLemmas.{changed_none}

-- ---- lists and back

pub values_again : (vs : Values) → all_values (values_of vs) ≡ vs
values_again no_values = refl
values_again (value d vs) = ap (value d) (values_again vs)

pub fields_again : (fs : Fields) → all_fields (fields_of fs) ≡ fs
fields_again no_fields = refl
fields_again (field name kind vs fs) = rw (values_again vs, fields_again fs) refl

pub listed_values : (ds : List Datum) → values_of (all_values ds) ≡ ds
listed_values [] = refl
listed_values (d ∷ ds) = ap (λ (l : List Datum). d ∷ l) (listed_values ds)

pub listed_fields : (fs : List Field) → fields_of (all_fields fs) ≡ fs
listed_fields [] = refl
listed_fields (f ∷ fs) = rw (listed_values f.values, listed_fields fs) refl

-- ---- names

-- no field of the list has the name of one of these
abbrev pub AreNew : List Field → Fields → Type 0
AreNew done no_fields = Unit {0}
AreNew done (field name kind vs fs) = (list_any (has_name name) done ≡ false) × AreNew done fs

pub new_to_none : (fs : Fields) → AreNew [] fs
new_to_none no_fields = tt
new_to_none (field name kind vs fs) = (refl, new_to_none fs)

any_push : (name : List ℕ) (done : List Field) (f : Field) → list_any (has_name name) (done ++ f ∷ []) ≡ (list_any (has_name name) done || (has_name name f || false))
any_push name done f = list_any-append (has_name name) done (f ∷ [])

-- with one field more, whose name no later one has
pub new_to_more : (done : List Field) (f : Field) (fs : Fields) → AreNew done fs → is_new f.name fs ≡ true → AreNew (done ++ f ∷ []) fs
new_to_more done f no_fields h new = tt
new_to_more done f (field name kind vs fs) h new =
    let other : bytes_eq f.name name ≡ false = bytes_eq_turned f.name name ∙ not_true (bytes_eq name f.name) (and_first (not (bytes_eq name f.name)) _ new) in
    (any_push name done f ∙ or_from _ _ h.0 (or_from (has_name name f) false other refl), new_to_more done f fs h.1 (and_second (not (bytes_eq name f.name)) _ new))

-- and back
pub new_to_fewer : (done : List Field) (f : Field) (fs : Fields) → AreNew (done ++ f ∷ []) fs → AreNew done fs × (is_new f.name fs ≡ true)
new_to_fewer done f no_fields h = (tt, refl)
new_to_fewer done f (field name kind vs fs) h =
    let parts = or_parts (list_any (has_name name) done) _ (sym (any_push name done f) ∙ h.0) in
    let other : bytes_eq name f.name ≡ false = bytes_eq_turned name f.name ∙ (or_parts (has_name name f) false parts.1).0 in
    let more = new_to_fewer done f fs h.1 in
    ((parts.0, more.0), and_from _ _ (not_from_false _ other) more.1)

-- ---- adding

pub first_added : (what : ℕ) (done : List Field) (name : List ℕ) (d : Datum) → list_any (has_name name) done ≡ false
    → with_value (record { what = what; fields = done }) name d ≡ record { what = what; fields = done ++ new_field name d ∷ [] }
first_added what done name d free = rw free refl

pub more_added : (what : ℕ) (done : List Field) (f : Field) (d : Datum) → list_any (has_name f.name) done ≡ false
    → with_value (record { what = what; fields = done ++ f ∷ [] }) f.name d ≡ record { what = what; fields = done ++ with_one_more d f ∷ [] }
more_added what done f d free =
    let self : has_name f.name f ≡ true = bytes_eq_self f.name in
    let there : list_any (has_name f.name) (done ++ f ∷ []) ≡ true = any_push f.name done f ∙ rw (free, self) refl in
    let changed : changed_at f.name (with_one_more d) (done ++ f ∷ []) ≡ done ++ with_one_more d f ∷ [] =
    map-append (λ g. cond (has_name f.name g) (with_one_more d g) g) done (f ∷ []) ∙ rw (changed_none f.name (with_one_more d) done free, self) refl in
    rw (there, changed) refl

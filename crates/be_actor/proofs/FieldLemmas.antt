-- The field of a name, in a message that gets a value or a field more.
use Rattle.std.proofs.Common.{◌≡◌, ℕ, ◌+◌, ◌≤◌, true, false, cond, List, [], ◌∷◌, ◌++◌, length, Option, Some, None, inl, inr, refl, sym, ap, ◌∙◌, arith}
use Rattle.std.specs.List.{list_any}
use Rattle.std.specs.Str.{bytes_eq}
use Rattle.std.proofs.lemmas.Bool.{or_from, cond-true, cond-false, cases_Bool}
use Rattle.std.proofs.lemmas.Slice.Eq.{bytes_eq-Decides}
use Rattle.std.proofs.lemmas.List.{length-map, length_push}
use Rattle.be_message.specs.Messages.{Datum, Field}
use Rattle.be_message.specs.Fields.{has_name, field_named, changed_at, with_one_more, new_field, with_value_in}
use Rattle.be_message.proofs.PlaceLemmas.{named_none, name_is}

-- ---- found or missing

pub any_none : (name : List ℕ) (fs : List Field) → field_named name fs ≡ None → list_any (has_name name) fs ≡ false
any_none name [] h = refl
any_none name (f ∷ fs) h =
    elim (cases_Bool (has_name name f)) [
      | inl t ↦ let e : Some f ≡ None = sym (cond-true _ _ _ t) ∙ h in absurd (cc)
      | inr t ↦ or_from _ _ t (any_none name fs (sym (cond-false _ _ _ t) ∙ h))
    ]

pub found_name : (name : List ℕ) (fs : List Field) (f : Field) → field_named name fs ≡ Some f → f.name ≡ name
found_name name [] f h = absurd (cc)
found_name name (g ∷ gs) f h =
    elim (cases_Bool (has_name name g)) [
      | inl t ↦
          let e : Some g ≡ Some f = sym (cond-true _ _ _ t) ∙ h in
          let same : f ≡ g = cc in
          rw same (name_is name g t)
      | inr t ↦ found_name name gs f (sym (cond-false _ _ _ t) ∙ h)
    ]

-- ---- a field that changes

changed_other : (a b : List ℕ) (d : Datum) (fs : List Field) → bytes_eq a b ≡ false → field_named b (changed_at a (with_one_more d) fs) ≡ field_named b fs
changed_other a b d [] h = refl
changed_other a b d (f ∷ fs) h =
    elim (cases_Bool (has_name a f)) [
      | inl t ↦
          let e : cond (has_name a f) (with_one_more d f) f ≡ with_one_more d f = cond-true _ _ _ t in
          let n : f.name ≡ a = name_is a f t in
          let other : bytes_eq f.name b ≡ false = rw n h in
          rw (e, other) (changed_other a b d fs h)
      | inr t ↦
          let e : cond (has_name a f) (with_one_more d f) f ≡ f = cond-false _ _ _ t in
          rw e (ap (λ (o : Option Field). cond (has_name b f) (Some f) o) (changed_other a b d fs h))
    ]

changed_same : (a : List ℕ) (d : Datum) (fs : List Field) (f : Field) → field_named a fs ≡ Some f → field_named a (changed_at a (with_one_more d) fs) ≡ Some (with_one_more d f)
changed_same a d [] f h = absurd (cc)
changed_same a d (g ∷ gs) f h =
    elim (cases_Bool (has_name a g)) [
      | inl t ↦
          let e : cond (has_name a g) (with_one_more d g) g ≡ with_one_more d g = cond-true _ _ _ t in
          let found : Some g ≡ Some f = sym (cond-true _ _ _ t) ∙ h in
          let same : g ≡ f = cc in
          rw (e, t) (ap (λ x. Some (with_one_more d x)) same)
      | inr t ↦
          let e : cond (has_name a g) (with_one_more d g) g ≡ g = cond-false _ _ _ t in
          rw (e, t) (changed_same a d gs f (sym (cond-false _ _ _ t) ∙ h))
    ]

-- ---- a field that comes last

pub last_other : (b : List ℕ) (fs : List Field) (g : Field) → has_name b g ≡ false → field_named b (fs ++ g ∷ []) ≡ field_named b fs
last_other b [] g h = cond-false _ _ _ h
last_other b (f ∷ fs) g h = ap (λ (o : Option Field). cond (has_name b f) (Some f) o) (last_other b fs g h)

last_same : (b : List ℕ) (fs : List Field) (g : Field) → field_named b fs ≡ None → has_name b g ≡ true → field_named b (fs ++ g ∷ []) ≡ Some g
last_same b [] g n h = cond-true _ _ _ h
last_same b (f ∷ fs) g n h =
    elim (cases_Bool (has_name b f)) [
      | inl t ↦ let e : Some f ≡ None = sym (cond-true _ _ _ t) ∙ n in absurd (cc)
      | inr t ↦ cond-false _ _ _ t ∙ last_same b fs g (sym (cond-false _ _ _ t) ∙ n) h
    ]

-- ---- a value more

pub value_other : (fs : List Field) (a : List ℕ) (d : Datum) (b : List ℕ) → bytes_eq a b ≡ false → field_named b (with_value_in fs a d) ≡ field_named b fs
value_other fs a d b h =
    elim (cases_Bool (list_any (has_name a) fs)) [
      | inl t ↦
          let e : with_value_in fs a d ≡ changed_at a (with_one_more d) fs = cond-true _ _ _ t in
          rw e (changed_other a b d fs h)
      | inr t ↦
          let e : with_value_in fs a d ≡ fs ++ new_field a d ∷ [] = cond-false _ _ _ t in
          rw e (last_other b fs (new_field a d) h)
    ]

pub value_more : (fs : List Field) (a : List ℕ) (d : Datum) (f : Field) → field_named a fs ≡ Some f → field_named a (with_value_in fs a d) ≡ Some (with_one_more d f)
value_more fs a d f h =
    elim (cases_Bool (list_any (has_name a) fs)) [
      | inl t ↦
          let e : with_value_in fs a d ≡ changed_at a (with_one_more d) fs = cond-true _ _ _ t in
          rw e (changed_same a d fs f h)
      | inr t ↦ let e : Some f ≡ None = sym h ∙ named_none a fs t in absurd (cc)
    ]

pub value_new : (fs : List Field) (a : List ℕ) (d : Datum) → field_named a fs ≡ None → field_named a (with_value_in fs a d) ≡ Some (new_field a d)
value_new fs a d h =
    let e : with_value_in fs a d ≡ fs ++ new_field a d ∷ [] = cond-false _ _ _ (any_none a fs h) in
    rw e (last_same a fs (new_field a d) h ((bytes_eq-Decides a a).1 refl))

pub value_length : (fs : List Field) (a : List ℕ) (d : Datum) → length (with_value_in fs a d) ≤ length fs + 1
value_length fs a d =
    elim (cases_Bool (list_any (has_name a) fs)) [
      | inl t ↦
          let e : with_value_in fs a d ≡ changed_at a (with_one_more d) fs = cond-true _ _ _ t in
          rw e (omega (arith, length-map fs (λ f. cond (has_name a f) (with_one_more d f) f)))
      | inr t ↦
          let e : with_value_in fs a d ≡ fs ++ new_field a d ∷ [] = cond-false _ _ _ t in
          rw e (omega (arith, length_push fs (new_field a d)))
    ]

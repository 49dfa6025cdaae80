-- How deep messages lie in fields that change.
use Rattle.std.proofs.Common.{◌≡◌, ℕ, suc, zero, ◌+◌, ◌<◌, ◌≤◌, max, inl, inr, Bool, true, cond, List, [], ◌∷◌, ◌++◌, length, set, take, get_or, arith, sym, ap, ◌∙◌}
use Rattle.std.specs.List.{list_any, filter}
use Rattle.std.proofs.lemmas.Bool.{cond-true, cond-false, cases_Bool}
use Rattle.std.proofs.lemmas.List.{map_more}
use Rattle.be_message.specs.declared.value.Value.{Value}
use Rattle.be_message.specs.declared.field.Field as field
use Rattle.be_message.specs.Views.{seen_value, seen_values, seen_field, seen_fields}
use Rattle.be_message.specs.Depths.{datum_depth, values_depth, fields_depth}
use Rattle.be_message.specs.Messages.{Datum, Field, all_values, all_fields}
use Rattle.be_message.specs.Fields.{has_name, changed_at, new_field, with_one_more, with_other, with_value_in}
use Rattle.be_message.proofs.PlaceLemmas.{AreApart, changed_none, behind}

values_push : (ds : List Datum) (d : Datum) → values_depth (all_values (ds ++ d ∷ [])) ≡ max (values_depth (all_values ds)) (datum_depth d)
values_push [] d = omega arith
values_push (x ∷ xs) d = omega (arith, values_push xs d)

values_set : (ds : List Datum) (i : ℕ) (d : Datum) → values_depth (all_values (set ds i d)) ≤ max (values_depth (all_values ds)) (datum_depth d)
values_set [] i d = omega arith
values_set (x ∷ xs) zero d = omega arith
values_set (x ∷ xs) (suc i) d = omega (arith, values_set xs i d)

pub fields_push : (fs : List Field) (g : Field) → fields_depth (all_fields (fs ++ g ∷ [])) ≡ max (fields_depth (all_fields fs)) (values_depth (all_values g.values))
fields_push [] g = omega arith
fields_push (f ∷ fs) g = omega (arith, fields_push fs g)

-- a value more under a name that is there
pushed : (name : List ℕ) (d : Datum) (fs : List Field) → AreApart fs → list_any (has_name name) fs ≡ true → fields_depth (all_fields (changed_at name (with_one_more d) fs)) ≡ max (fields_depth (all_fields fs)) (datum_depth d)
pushed name d [] a h = absurd (cc)
pushed name d (f ∷ fs) a h =
    elim (cases_Bool (has_name name f)) [
      | inl t ↦
          let e : cond (has_name name f) (with_one_more d f) f ≡ with_one_more d f = cond-true _ _ _ t in
          rw (e, changed_none name (with_one_more d) fs (behind name f fs a t)) (omega (arith, values_push f.values d))
      | inr t ↦
          let e : cond (has_name name f) (with_one_more d f) f ≡ f = cond-false _ _ _ t in
          let there : list_any (has_name name) fs ≡ true = rw t at h in
          rw e (omega (arith, pushed name d fs a.1 there))
    ]

-- a value more under any name
pub depth_added : (fs : List Field) (name : List ℕ) (d : Datum) → AreApart fs → fields_depth (all_fields (with_value_in fs name d)) ≡ max (fields_depth (all_fields fs)) (datum_depth d)
depth_added fs name d a =
    elim (cases_Bool (list_any (has_name name) fs)) [
      | inl t ↦
          let e : with_value_in fs name d ≡ changed_at name (with_one_more d) fs = cond-true _ _ _ t in
          rw e (pushed name d fs a t)
      | inr t ↦
          let e : with_value_in fs name d ≡ fs ++ new_field name d ∷ [] = cond-false _ _ _ t in
          rw e (omega (arith, fields_push fs (new_field name d)))
    ]

-- another value in the place of one
pub depth_replaced : (fs : List Field) (name : List ℕ) (i : ℕ) (d : Datum) → fields_depth (all_fields (changed_at name (with_other i d) fs)) ≤ max (fields_depth (all_fields fs)) (datum_depth d)
depth_replaced [] name i d = omega arith
depth_replaced (f ∷ fs) name i d =
    elim (cases_Bool (has_name name f)) [
      | inl t ↦
          let e : cond (has_name name f) (with_other i d f) f ≡ with_other i d f = cond-true _ _ _ t in
          rw e (omega (arith, values_set f.values i d, depth_replaced fs name i d))
      | inr t ↦
          let e : cond (has_name name f) (with_other i d f) f ≡ f = cond-false _ _ _ t in
          rw e (omega (arith, depth_replaced fs name i d))
    ]

pub depth_filtered : (p : Field → Bool) (fs : List Field) → fields_depth (all_fields (filter p fs)) ≤ fields_depth (all_fields fs)
depth_filtered p [] = omega arith
depth_filtered p (f ∷ fs) =
    elim (cases_Bool (p f)) [
      | inl t ↦
          let e : cond (p f) (f ∷ filter p fs) (filter p fs) ≡ f ∷ filter p fs = cond-true _ _ _ t in
          rw e (omega (arith, depth_filtered p fs))
      | inr t ↦
          let e : cond (p f) (f ∷ filter p fs) (filter p fs) ≡ filter p fs = cond-false _ _ _ t in
          rw e (omega (arith, depth_filtered p fs))
    ]

-- ---- one more value or field, as at a step of a loop

pub values_more : (vs : List Value) (i : ℕ) (v : Value) → i < length vs → v ≡ get_or vs i v → values_depth (all_values (seen_values (take (i + 1) vs))) ≡ max (values_depth (all_values (seen_values (take i vs)))) (datum_depth (seen_value v))
values_more vs i v h e =
    let more : seen_values (take (i + 1) vs) ≡ seen_values (take i vs) ++ seen_value v ∷ [] = map_more seen_value vs i v h ∙ ap (λ x. seen_values (take i vs) ++ seen_value x ∷ []) (sym e) in
    rw more (values_push (seen_values (take i vs)) (seen_value v))

pub fields_more : (fs : List field.Field) (i : ℕ) (f : field.Field) → i < length fs → f ≡ get_or fs i f → fields_depth (all_fields (seen_fields (take (i + 1) fs))) ≡ max (fields_depth (all_fields (seen_fields (take i fs)))) (values_depth (all_values (seen_field f).values))
fields_more fs i f h e =
    let more : seen_fields (take (i + 1) fs) ≡ seen_fields (take i fs) ++ seen_field f ∷ [] = map_more seen_field fs i f h ∙ ap (λ x. seen_fields (take i fs) ++ seen_field x ∷ []) (sym e) in
    rw more (fields_push (seen_fields (take i fs)) (seen_field f))

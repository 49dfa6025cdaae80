-- What keeps the fields of a message sound.
use Rattle.std.proofs.Common.{◌≡◌, ℕ, suc, zero, ◌<◌, ◌≤◌, inl, inr, Bool, true, false, not, cond, List, [], ◌∷◌, ◌++◌, length, set, Some, arith, refl, sym, ap, ◌∙◌}
use Rattle.std.specs.List.{list_any, filter}
use Rattle.std.specs.Str.{bytes_eq}
use Rattle.std.proofs.lemmas.Bool.{or_parts, and_parts, and_from, cond-true, cond-false, cases_Bool, not_from_false, eqb-true}
use Rattle.be_facts.proofs.Bytes.{bytes_differ_turned}
use Rattle.be_message.specs.declared.kind.Kind.{Kind}
use Rattle.be_message.specs.Codes.{numbered_kind, kind_again}
use Rattle.be_message.specs.Kinds.{kind_number, is_kind}
use Rattle.be_message.specs.Messages.{Datum, Field, all_values, all_fields}
use Rattle.be_message.specs.Fields.{has_name, field_named, changed_at}
use Rattle.be_message.specs.Names.{is_name}
use Rattle.be_message.specs.Sound.{kind_of, is_new, field_count, value_count, IsSound, AreSoundFields, AreSoundValues}
use Rattle.be_message.proofs.PlaceLemmas.{changed_none, behind, are_apart}

pub count_is : (fs : List Field) → field_count (all_fields fs) ≡ length fs
count_is [] = refl
count_is (f ∷ fs) = ap suc (count_is fs)

pub values_are : (ds : List Datum) → value_count (all_values ds) ≡ length ds
values_are [] = refl
values_are (d ∷ ds) = ap suc (values_are ds)

-- ---- the values of a field

pub sound_push : (k : Kind) (ds : List Datum) (d : Datum) → AreSoundValues k (all_values ds) → kind_of d ≡ k → IsSound d → AreSoundValues k (all_values (ds ++ d ∷ []))
sound_push k [] d s e h = (e, h, tt)
sound_push k (x ∷ xs) d s e h = (s.0, s.1, sound_push k xs d s.2 e h)

pub sound_set : (k : Kind) (ds : List Datum) (i : ℕ) (d : Datum) → AreSoundValues k (all_values ds) → kind_of d ≡ k → IsSound d → AreSoundValues k (all_values (set ds i d))
sound_set k [] i d s e h = tt
sound_set k (x ∷ xs) zero d s e h = (e, h, s.2)
sound_set k (x ∷ xs) (suc i) d s e h = (s.0, s.1, sound_set k xs i d s.2 e h)

-- ---- a list of fields

-- what is true of each field of a message
pub record IsSoundField (f : Field) : Type 0 where
  pub name : is_name f.name ≡ true
  pub some : 0 < value_count (all_values f.values)
  pub most : value_count (all_values f.values) ≤ 255
  pub values : AreSoundValues f.kind (all_values f.values)

sound_cons : (f : Field) (fs : List Field) → IsSoundField f → is_new f.name (all_fields fs) ≡ true → AreSoundFields (all_fields fs) → AreSoundFields (all_fields (f ∷ fs))
sound_cons f fs s n more = (s.name, n, s.some, s.most, s.values, more)

pub sound_head : (f : Field) (fs : List Field) → AreSoundFields (all_fields (f ∷ fs)) → IsSoundField f
sound_head f fs s = record { name = s.0; some = s.2; most = s.3; values = s.4 }

new_changed : (n name : List ℕ) (change : Field → Field) → ((f : Field) → (change f).name ≡ f.name) → (fs : List Field) → is_new n (all_fields (changed_at name change fs)) ≡ is_new n (all_fields fs)
new_changed n name change keeps [] = refl
new_changed n name change keeps (f ∷ fs) =
    elim (cases_Bool (has_name name f)) [
      | inl t ↦
          let e : cond (has_name name f) (change f) f ≡ change f = cond-true _ _ _ t in
          rw (e, keeps f, new_changed n name change keeps fs)
      | inr t ↦
          let e : cond (has_name name f) (change f) f ≡ f = cond-false _ _ _ t in
          rw (e, new_changed n name change keeps fs)
    ]

pub sound_changed : (name : List ℕ) (change : Field → Field) → ((f : Field) → (change f).name ≡ f.name) → (fs : List Field) → ((f : Field) → field_named name fs ≡ Some f → IsSoundField f → IsSoundField (change f)) → AreSoundFields (all_fields fs) → AreSoundFields (all_fields (changed_at name change fs))
sound_changed name change keeps [] makes s = tt
sound_changed name change keeps (f ∷ fs) makes s =
    elim (cases_Bool (has_name name f)) [
      | inl t ↦
          let e : cond (has_name name f) (change f) f ≡ change f = cond-true _ _ _ t in
          let n : is_new (change f).name (all_fields fs) ≡ true = rw (keeps f) s.1 in
          let head : IsSoundField (change f) = makes f (cond-true _ _ _ t) (sound_head f fs s) in
          let all : AreSoundFields (all_fields (change f ∷ fs)) = sound_cons (change f) fs head n s.5 in
          rw (e, changed_none name change fs (behind name f fs (are_apart (f ∷ fs) s) t)) all
      | inr t ↦
          let e : cond (has_name name f) (change f) f ≡ f = cond-false _ _ _ t in
          let n : is_new f.name (all_fields (changed_at name change fs)) ≡ true = new_changed f.name name change keeps fs ∙ s.1 in
          let more : AreSoundFields (all_fields (changed_at name change fs)) = sound_changed name change keeps fs (λ g h. makes g (cond-false _ _ _ t ∙ h)) s.5 in
          let all : AreSoundFields (all_fields (f ∷ changed_at name change fs)) = sound_cons f (changed_at name change fs) (sound_head f fs s) n more in
          rw e all
    ]

new_filtered : (n : List ℕ) (p : Field → Bool) (fs : List Field) → is_new n (all_fields fs) ≡ true → is_new n (all_fields (filter p fs)) ≡ true
new_filtered n p [] h = refl
new_filtered n p (f ∷ fs) h =
    let both = and_parts (not (bytes_eq f.name n)) (is_new n (all_fields fs)) h in
    elim (cases_Bool (p f)) [
      | inl t ↦
          let e : cond (p f) (f ∷ filter p fs) (filter p fs) ≡ f ∷ filter p fs = cond-true _ _ _ t in
          rw e (and_from _ _ both.0 (new_filtered n p fs both.1))
      | inr t ↦
          let e : cond (p f) (f ∷ filter p fs) (filter p fs) ≡ filter p fs = cond-false _ _ _ t in
          rw e (new_filtered n p fs both.1)
    ]

pub sound_filtered : (p : Field → Bool) (fs : List Field) → AreSoundFields (all_fields fs) → AreSoundFields (all_fields (filter p fs))
sound_filtered p [] s = tt
sound_filtered p (f ∷ fs) s =
    elim (cases_Bool (p f)) [
      | inl t ↦
          let e : cond (p f) (f ∷ filter p fs) (filter p fs) ≡ f ∷ filter p fs = cond-true _ _ _ t in
          rw e (sound_cons f (filter p fs) (sound_head f fs s) (new_filtered f.name p fs s.1) (sound_filtered p fs s.5))
      | inr t ↦
          let e : cond (p f) (f ∷ filter p fs) (filter p fs) ≡ filter p fs = cond-false _ _ _ t in
          rw e (sound_filtered p fs s.5)
    ]

pub filtered_is_no_longer : (p : Field → Bool) (fs : List Field) → length (filter p fs) ≤ length fs
filtered_is_no_longer p [] = omega arith
filtered_is_no_longer p (f ∷ fs) =
    elim (cases_Bool (p f)) [
      | inl t ↦
          let e : cond (p f) (f ∷ filter p fs) (filter p fs) ≡ f ∷ filter p fs = cond-true _ _ _ t in
          rw e (omega (arith, filtered_is_no_longer p fs))
      | inr t ↦
          let e : cond (p f) (f ∷ filter p fs) (filter p fs) ≡ filter p fs = cond-false _ _ _ t in
          rw e (omega (arith, filtered_is_no_longer p fs))
    ]

new_with_last : (n : List ℕ) (fs : List Field) (g : Field) → is_new n (all_fields fs) ≡ true → bytes_eq g.name n ≡ false → is_new n (all_fields (fs ++ g ∷ [])) ≡ true
new_with_last n [] g h e = and_from _ _ (not_from_false _ e) refl
new_with_last n (f ∷ fs) g h e =
    let both = and_parts (not (bytes_eq f.name n)) (is_new n (all_fields fs)) h in
    and_from _ _ both.0 (new_with_last n fs g both.1 e)

pub sound_with_last : (fs : List Field) (g : Field) → IsSoundField g → list_any (has_name g.name) fs ≡ false → AreSoundFields (all_fields fs) → AreSoundFields (all_fields (fs ++ g ∷ []))
sound_with_last [] g one h s = sound_cons g [] one refl tt
sound_with_last (f ∷ fs) g one h s =
    let p = or_parts (has_name g.name f) (list_any (has_name g.name) fs) h in
    sound_cons f (fs ++ g ∷ []) (sound_head f fs s) (new_with_last f.name fs g s.1 (bytes_differ_turned f.name g.name p.0)) (sound_with_last fs g one p.1 s.5)

-- ---- what a message makes of its fields

pub same_kind : (a b : Kind) → is_kind a b ≡ true → b ≡ a
same_kind a b h =
    let e : kind_number a ≡ kind_number b = eqb-true _ _ h in
    sym (kind_again b) ∙ ap numbered_kind (sym e) ∙ kind_again a

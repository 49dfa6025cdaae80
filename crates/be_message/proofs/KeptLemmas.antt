-- What a message becomes is a message.
use Rattle.std.proofs.Common.{◌≡◌, ℕ, ◌<◌, ◌≤◌, inl, inr, Bool, true, false, not, cond, List, [], ◌∷◌, ◌++◌, length, Option, Some, None, Result, Ok, Err, arith, refl, sym, ◌∙◌}
use Rattle.std.specs.List.{list_any, filter}
use Rattle.std.proofs.lemmas.List.{length-map, length-set, length_push}
use Rattle.std.proofs.lemmas.Bool.{cond-true, cond-false, cases_Bool, leb-true, leb-false}
use Rattle.be_message.specs.declared.fault.FindFault.{FindFault}
use Rattle.be_message.specs.declared.fault.FindFault.TheVariants as missing
use Rattle.be_message.specs.Depths.{datum_depth, fields_depth, values_depth, depth_of}
use Rattle.be_message.specs.Kinds.{is_kind}
use Rattle.be_message.specs.Messages.{Datum, bool, int, text, point, rect, message, Field, Message, all_fields, all_values}
use Rattle.be_message.specs.Fields.{Refusal, bad_value, has_name, field_named, changed_at, is_allowed, refused_by, unless_found, found_in, value_or_missing, new_field, with_one_more, with_other, with_value_in, with_value, with_replaced, without}
use Rattle.be_message.specs.Names.{is_name}
use Rattle.be_message.specs.Sound.{kind_of, IsSound, AreSoundFields, IsMessage}
use Rattle.be_message.proofs.PlaceLemmas.{are_apart, named_none, name_is}
use Rattle.be_message.proofs.SoundLemmas.{IsSoundField, count_is, values_are, sound_push, sound_set, sound_changed, sound_filtered, filtered_is_no_longer, sound_with_last, same_kind, sound_head}
use Rattle.be_message.proofs.DepthLemmas.{depth_added, depth_replaced, depth_filtered, fields_push}

-- ---- what no refusal says

has_type : (b : Bool) (o : Option Refusal) (r : Refusal) → cond b o (Some r) ≡ None → (b ≡ true) × (o ≡ None)
has_type true o r h = (refl, h)
has_type false o r h = absurd (cc)

has_room : (b : Bool) (r : Refusal) → ◌≡◌ {A = Option Refusal} (cond b (Some r) None) None → b ≡ false
has_room true r h = absurd (cc)
has_room false r h = refl

is_fit : (b : Bool) (r : Result Datum FindFault) (d : Datum) → unless_found (cond b r (Err missing.BadType)) d ≡ None → b ≡ true
is_fit true r d h = refl
is_fit false r d h = absurd (cc)

allowed_from : (b : Bool) → ◌≡◌ {A = Option Refusal} (cond b None (Some bad_value)) None → b ≡ true
allowed_from true h = refl
allowed_from false h = absurd (cc)

is_well : (r : Result Datum FindFault) (d : Datum) → unless_found r d ≡ None → is_allowed d ≡ true
is_well (Ok old) d h = allowed_from (is_allowed d) h
is_well (Err missing.NameNotFound) d h = absurd (cc)
is_well (Err missing.BadType) d h = absurd (cc)
is_well (Err missing.BadIndex) d h = absurd (cc)

-- a value that is allowed lies deep enough for one message more
shallow : (d : Datum) → is_allowed d ≡ true → datum_depth d < 16
shallow (bool b) h = omega arith
shallow (int z) h = omega arith
shallow (text t) h = omega arith
shallow (point p) h = omega arith
shallow (rect r) h = omega arith
shallow (message what fs) h = omega (arith, leb-true _ _ h)

-- ---- a value more

one_more : (n : ℕ) (f : Field) (d : Datum) → refused_by n (Some f) d ≡ None → IsSound d → IsSoundField f → IsSoundField (with_one_more d f)
one_more n f d free sound s =
    let p = has_type (is_kind f.kind (kind_of d)) _ _ free in
    let room : length f.values < 255 = leb-false _ _ (has_room _ _ p.1) in
    record {
      name = s.name;
      some = omega (arith, values_are (with_one_more d f).values, length_push f.values d);
      most = omega (arith, values_are (with_one_more d f).values, length_push f.values d);
      values = sound_push f.kind f.values d s.values (same_kind f.kind (kind_of d) p.0) sound;
    }

fields_added : (fs : List Field) (name : List ℕ) (d : Datum) → is_name name ≡ true → IsSound d → refused_by (length fs) (field_named name fs) d ≡ None → length fs ≤ 255 → AreSoundFields (all_fields fs) → (length (with_value_in fs name d) ≤ 255) × AreSoundFields (all_fields (with_value_in fs name d))
fields_added fs name d named sound free few s =
    elim (cases_Bool (list_any (has_name name) fs)) [
      | inl t ↦
          let e : with_value_in fs name d ≡ changed_at name (with_one_more d) fs = cond-true _ _ _ t in
          rw e (omega (arith, length-map fs (λ f. cond (has_name name f) (with_one_more d f) f)), sound_changed name (with_one_more d) (λ f. refl) fs (λ f is one. one_more (length fs) f d (rw is at free) sound one) s)
      | inr t ↦
          let e : with_value_in fs name d ≡ fs ++ new_field name d ∷ [] = cond-false _ _ _ t in
          let none : refused_by (length fs) None d ≡ None = rw (named_none name fs t) at free in
          let room : length fs < 255 = leb-false _ _ (has_room _ _ none) in
          let one : IsSoundField (new_field name d) = record { name = named; some = omega arith; most = omega arith; values = (refl, sound, tt) } in
          rw e (omega (arith, length_push fs (new_field name d)), sound_with_last fs (new_field name d) one t s)
    ]

pub added_is_message : (m : Message) (name : List ℕ) (d : Datum) → IsMessage m → is_name name ≡ true → is_allowed d ≡ true → IsSound d → refused_by (length m.fields) (field_named name m.fields) d ≡ None → IsMessage (with_value m name d)
added_is_message m name d is named allowed sound free =
    let fields = fields_added m.fields name d named sound free (omega (arith, count_is m.fields, is.sound.1)) is.sound.2 in
    record {
      sound = (is.sound.0, omega (arith, count_is (with_value_in m.fields name d), fields.0), fields.1);
      depth = omega (arith, is.depth, depth_added m.fields name d (are_apart m.fields is.sound.2), shallow d allowed);
    }

-- ---- another value

one_other : (i : ℕ) (f : Field) (d : Datum) → unless_found (found_in (Some f) (kind_of d) i) d ≡ None → IsSound d → IsSoundField f → IsSoundField (with_other i d f)
one_other i f d free sound s =
    let fit : is_kind f.kind (kind_of d) ≡ true = is_fit _ (value_or_missing _) d free in
    record {
      name = s.name;
      some = omega (arith, s.some, values_are f.values, values_are (with_other i d f).values, length-set f.values i d);
      most = omega (arith, s.most, values_are f.values, values_are (with_other i d f).values, length-set f.values i d);
      values = sound_set f.kind f.values i d s.values (same_kind f.kind (kind_of d) fit) sound;
    }

pub replaced_is_message : (m : Message) (name : List ℕ) (i : ℕ) (d : Datum) → IsMessage m → IsSound d → unless_found (found_in (field_named name m.fields) (kind_of d) i) d ≡ None → IsMessage (with_replaced m name i d)
replaced_is_message m name i d is sound free =
    let fs = changed_at name (with_other i d) m.fields in
    record {
      sound = (is.sound.0, omega (arith, count_is m.fields, is.sound.1, count_is fs, length-map m.fields (λ f. cond (has_name name f) (with_other i d f) f)), sound_changed name (with_other i d) (λ f. refl) m.fields (λ f same one. one_other i f d (rw same at free) sound one) is.sound.2);
      depth = omega (arith, is.depth, depth_replaced m.fields name i d, shallow d (is_well _ d free));
    }

-- where no message lies in the fields, and the value is none
pub replaced_is_flat : (m : Message) (name : List ℕ) (i : ℕ) (d : Datum) → depth_of m ≤ 1 → datum_depth d ≡ 0 → depth_of (with_replaced m name i d) ≡ 1
replaced_is_flat m name i d flat plain = omega (arith, depth_replaced m.fields name i d)

-- ---- a field less

pub removed_is_message : (m : Message) (name : List ℕ) → IsMessage m → IsMessage (without m name)
removed_is_message m name is =
    let fs = filter (λ f. not (has_name name f)) m.fields in
    record {
      sound = (is.sound.0, omega (arith, count_is m.fields, is.sound.1, count_is fs, filtered_is_no_longer (λ f. not (has_name name f)) m.fields), sound_filtered (λ f. not (has_name name f)) m.fields is.sound.2);
      depth = omega (arith, is.depth, depth_filtered (λ f. not (has_name name f)) m.fields);
    }

pub removed_is_flat : (m : Message) (name : List ℕ) → depth_of m ≤ 1 → depth_of (without m name) ≡ 1
removed_is_flat m name flat = omega (arith, depth_filtered (λ f. not (has_name name f)) m.fields)

-- ---- a field of another message

-- what is true of the field of a name
pub record IsNamed (name : List ℕ) (fs : List Field) (f : Field) : Type 0 where
  pub named : f.name ≡ name
  pub sound : IsSoundField f
  pub depth : values_depth (all_values f.values) ≤ fields_depth (all_fields fs)

is_named : (name : List ℕ) (fs : List Field) (f : Field) → AreSoundFields (all_fields fs) → field_named name fs ≡ Some f → IsNamed name fs f
is_named name [] f s h = absurd (cc)
is_named name (g ∷ gs) f s h =
    elim (cases_Bool (has_name name g)) [
      | inl t ↦
          let e : f ≡ g = let all : Some g ≡ Some f = sym (cond-true _ _ _ t) ∙ h in cc in
          rw e (record { named = name_is name g t; sound = sound_head g gs s; depth = omega arith })
      | inr t ↦
          let more = is_named name gs f s.5 (sym (cond-false _ _ _ t) ∙ h) in
          record { named = more.named; sound = more.sound; depth = omega (arith, more.depth) }
    ]

pub copied_is_message : (m from : Message) (name : List ℕ) (f : Field) → IsMessage m → IsMessage from → list_any (has_name name) m.fields ≡ false → length m.fields < 255 → field_named name from.fields ≡ Some f → IsMessage (record m { fields = m.fields ++ f ∷ [] })
copied_is_message m from name f is other new room named =
    let one = is_named name from.fields f other.sound.2 named in
    let apart : list_any (has_name f.name) m.fields ≡ false = rw one.named new in
    record {
      sound = (is.sound.0, omega (arith, count_is (m.fields ++ f ∷ []), length_push m.fields f), sound_with_last m.fields f one.sound apart is.sound.2);
      depth = omega (arith, is.depth, other.depth, fields_push m.fields f, one.depth);
    }

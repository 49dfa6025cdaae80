-- What is read fits into the message that it is added to.
use Rattle.std.proofs.Common.{◌≡◌, ℕ, zero, suc, ◌+◌, ◌*◌, ◌<◌, ◌≤◌, max, Bool, true, false, cond, List, [], ◌∷◌, ◌++◌, length, Option, Some, None, Ok, Err, refl, sym, ap, subst, ◌∙◌, inl, inr, arith}
use Rattle.std.specs.Prelude.{nat_le, nat_lt, ◌==◌}
use Rattle.std.specs.List.{list_any, list_all}
use Rattle.std.specs.Int.{cast_signed, w32}
use Rattle.std.proofs.lemmas.Bool.{leb-true, le-leb, lt-leb, and_from, or_parts}
use Rattle.std.proofs.lemmas.List.{length-append, length-map}
use Rattle.be_facts.proofs.Truths.{true_or_false}
use Rattle.be_facts.proofs.Bytes.{bytes_eq_self}
use Rattle.be_message.specs.declared.kind.Kind.{Kind}
use Rattle.be_message.specs.declared.kind.Kind.TheVariants as kind
use Rattle.be_message.specs.Depths.{datum_depth, fields_depth, values_depth, depth_of}
use Rattle.be_message.specs.Fields.{has_name, field_named, is_allowed, refused_by, add_refusal, with_one_more, changed_at, new_field, with_value_in, with_value}
use Rattle.be_message.specs.Kinds.{is_kind}
use Rattle.be_message.specs.Messages.{Datum, bool, int, text, point, rect, message, Field, Message, all_values, all_fields, packed}
use Rattle.be_message.specs.Names.{is_name, is_text, is_text_byte}
use Rattle.be_message.specs.Sound.{kind_of}
use Rattle.be_message.proofs.PlaceLemmas.{named_none}
use Rattle.be_flat.specs.Reading.{Rest, Read, ◌>>=◌, byte_at, byte_that, bytes_that, u32_at, coordinate_at, bool_at, int_at, text_length_at, text_at, point_at, rect_at, value_at, value_into, so_many, kind_at, name_at, field_into, message_at}
use Rattle.be_flat.specs.Room.{Fit, HasRoom}
use Rattle.be_flat.specs.declared.fault.FlatError.TheVariants.{BadByte}
use Rattle.be_flat.proofs.Taken.{bind_ok}
use Rattle.be_flat.proofs.Numbers.{pass_each}
use Rattle.be_flat.proofs.FieldNames.{passing}
use Rattle.be_flat.proofs.Truths.{guard_ok, ok_is}

-- ---- the type of a value that was read

pub value_kind : (inner : Rest → Read Message) (k : Kind) (s : Rest) (x : Datum × Rest) → value_at inner k s ≡ Ok x → kind_of x.0 ≡ k
unfolding value_at bool_at int_at text_at point_at rect_at
value_kind inner kind.Bool s x e =
    let b = bind_ok (byte_that (λ b. nat_le b 1) s) (λ b. Ok (bool (b.0 == 1), b.1)) x e in
    ap (λ (y : Datum × Rest). kind_of y.0) (sym (ok_is (bool (b.0.0 == 1), b.0.1) x b.2))
value_kind inner kind.Int s x e =
    let n = bind_ok (u32_at s) (λ n. Ok (int (cast_signed w32 n.0), n.1)) x e in
    ap (λ (y : Datum × Rest). kind_of y.0) (sym (ok_is (int (cast_signed w32 n.0.0), n.0.1) x n.2))
value_kind inner kind.Text s x e =
    let n = bind_ok (text_length_at s) (λ n. bytes_that (λ read b. is_text_byte b) n.0 [] n.1 >>= λ t. Ok (text t.0, t.1)) x e in
    let t = bind_ok (bytes_that (λ read b. is_text_byte b) n.0.0 [] n.0.1) (λ t. Ok (text t.0, t.1)) x n.2 in
    ap (λ (y : Datum × Rest). kind_of y.0) (sym (ok_is (text t.0.0, t.0.1) x t.2))
value_kind inner kind.Point s x e =
    let a = bind_ok (coordinate_at s) (λ a. coordinate_at a.1 >>= λ b. Ok (point (record { x = a.0; y = b.0 }), b.1)) x e in
    let b = bind_ok (coordinate_at a.0.1) (λ b. Ok (point (record { x = a.0.0; y = b.0 }), b.1)) x a.2 in
    ap (λ (y : Datum × Rest). kind_of y.0) (sym (ok_is (point (record { x = a.0.0; y = b.0.0 }), b.0.1) x b.2))
value_kind inner kind.Rect s x e =
    let a = bind_ok (coordinate_at s) (λ a. coordinate_at a.1 >>= λ b. coordinate_at b.1 >>= λ c. coordinate_at c.1 >>= λ d. Ok (rect (record { left = a.0; top = b.0; right = c.0; bottom = d.0 }), d.1)) x e in
    let b = bind_ok (coordinate_at a.0.1) (λ b. coordinate_at b.1 >>= λ c. coordinate_at c.1 >>= λ d. Ok (rect (record { left = a.0.0; top = b.0; right = c.0; bottom = d.0 }), d.1)) x a.2 in
    let c = bind_ok (coordinate_at b.0.1) (λ c. coordinate_at c.1 >>= λ d. Ok (rect (record { left = a.0.0; top = b.0.0; right = c.0; bottom = d.0 }), d.1)) x b.2 in
    let d = bind_ok (coordinate_at c.0.1) (λ d. Ok (rect (record { left = a.0.0; top = b.0.0; right = c.0.0; bottom = d.0 }), d.1)) x c.2 in
    ap (λ (y : Datum × Rest). kind_of y.0) (sym (ok_is (rect (record { left = a.0.0; top = b.0.0; right = c.0.0; bottom = d.0.0 }), d.0.1) x d.2))
value_kind inner kind.Message s x e =
    let m = bind_ok (inner s) (λ m. Ok (packed m.0, m.1)) x e in
    ap (λ (y : Datum × Rest). kind_of y.0) (sym (ok_is (packed m.0.0, m.0.1) x m.2))

-- ---- room

same_kind : (k : Kind) → is_kind k k ≡ true
same_kind kind.Bool = refl
same_kind kind.Int = refl
same_kind kind.Text = refl
same_kind kind.Point = refl
same_kind kind.Rect = refl
same_kind kind.Message = refl

not_full : (a b : ℕ) → a < b → nat_le b a ≡ false
not_full a b h = lt-leb b a h

-- with room for one more, an allowed value of the type isn't refused
fits_in : (count : ℕ) (k : Kind) (o : Option Field) (d : Datum) → Fit count k 1 o → kind_of d ≡ k → refused_by count o d ≡ None
fits_in count k (Some f) d fit is =
    let same : is_kind f.kind (kind_of d) ≡ true = rw (fit.0, is) (same_kind k) in
    rw (same, not_full (length f.values) 255 (omega (arith, fit.1))) refl
fits_in count k None d fit is = rw (not_full count 255 (omega (arith, fit.0))) refl

pub not_refused : (m : Message) (name : List ℕ) (k : Kind) (d : Datum) → HasRoom m name k 1 → kind_of d ≡ k → is_allowed d ≡ true → add_refusal m name d ≡ None
not_refused m name k d room is allowed = rw (room.allowed, allowed) (fits_in (length m.fields) k (field_named name m.fields) d room.fit is)

-- ---- what stays

-- where a field has the name there is one
nowhere : (name : List ℕ) (fs : List Field) → list_any (has_name name) fs ≡ true → field_named name fs ≡ None → ⊥
nowhere name [] h e = absurd cc
nowhere name (f ∷ fs) h e =
    elim (true_or_false (has_name name f)) [
      | inl has ↦ let found : ◌≡◌ {A = Option Field} (Some f) None = rw has at e in absurd (cc found)
      | inr hasnt ↦ nowhere name fs (rw hasnt at h) (rw hasnt at e)
    ]

-- what stands at the end under the name
last_named : (name : List ℕ) (fs : List Field) (f : Field) → list_any (has_name name) fs ≡ false → has_name name f ≡ true → field_named name (fs ++ f ∷ []) ≡ Some f
last_named name [] f h is = rw is refl
last_named name (g ∷ gs) f h is =
    let p = or_parts (has_name name g) (list_any (has_name name) gs) h in
    rw p.0 (last_named name gs f p.1 is)

abbrev changed_option : (Field → Field) → Option Field → Option Field
changed_option change (Some f) = Some (change f)
changed_option change None = None

-- the field of the name is the changed one
changed_named : (name : List ℕ) (d : Datum) (fs : List Field) → field_named name (changed_at name (with_one_more d) fs) ≡ changed_option (with_one_more d) (field_named name fs)
changed_named name d [] = refl
changed_named name d (f ∷ fs) =
    elim (true_or_false (has_name name f)) [
      | inl has ↦ rw (has, has) refl
      | inr hasnt ↦ rw (hasnt, hasnt) (changed_named name d fs)
    ]

some_named : (name : List ℕ) (fs : List Field) (f : Field) → field_named name fs ≡ Some f → list_any (has_name name) fs ≡ true
some_named name fs f e =
    elim (true_or_false (list_any (has_name name) fs)) [
      | inl has ↦ has
      | inr hasnt ↦ absurd (cc (sym (named_none name fs hasnt) ∙ e))
    ]

-- there is room for one less once a value is added
kept_by : (m : Message) (name : List ℕ) (k : Kind) (n : ℕ) (d : Datum) (o : Option Field) → field_named name m.fields ≡ o → Fit (length m.fields) k (suc n) o → kind_of d ≡ k
    → Fit (length (with_value_in m.fields name d)) k n (field_named name (with_value_in m.fields name d))
kept_by m name k n d (Some f) e fit is =
    let there = some_named name m.fields f e in
    let now : field_named name (with_value_in m.fields name d) ≡ Some (with_one_more d f) = rw there (changed_named name d m.fields ∙ ap (changed_option (with_one_more d)) e) in
    rw now (fit.0, omega (arith, fit.1, length-append f.values (d ∷ [])))
kept_by m name k n d None e fit is =
    elim (true_or_false (list_any (has_name name) m.fields)) [
      | inl has ↦ absurd (nowhere name m.fields has e)
      | inr hasnt ↦
          let now : field_named name (with_value_in m.fields name d) ≡ Some (new_field name d) = rw hasnt (last_named name m.fields (new_field name d) hasnt (bytes_eq_self name)) in
          rw now (is, omega (arith, fit.1))
    ]

pub room_kept : (m : Message) (name : List ℕ) (k : Kind) (n : ℕ) (d : Datum) → HasRoom m name k (suc n) → kind_of d ≡ k → HasRoom (with_value m name d) name k n
room_kept m name k n d room is = record { allowed = room.allowed; fit = kept_by m name k n d (field_named name m.fields) refl room.fit is }

-- ---- how deep and how wide

values_push : (vs : List Datum) (d : Datum) → values_depth (all_values (vs ++ d ∷ [])) ≤ max (values_depth (all_values vs)) (datum_depth d)
values_push [] d = omega arith
values_push (v ∷ vs) d = omega (arith, values_push vs d)

changed_depth : (name : List ℕ) (d : Datum) (fs : List Field) → fields_depth (all_fields (changed_at name (with_one_more d) fs)) ≤ max (fields_depth (all_fields fs)) (datum_depth d)
changed_depth name d [] = omega arith
changed_depth name d (f ∷ fs) =
    elim (true_or_false (has_name name f)) [
      | inl has ↦ rw has (omega (arith, values_push f.values d, changed_depth name d fs))
      | inr hasnt ↦ rw hasnt (omega (arith, changed_depth name d fs))
    ]

pushed_depth : (name : List ℕ) (d : Datum) (fs : List Field) → fields_depth (all_fields (fs ++ new_field name d ∷ [])) ≤ max (fields_depth (all_fields fs)) (datum_depth d)
pushed_depth name d [] = omega arith
pushed_depth name d (f ∷ fs) = omega (arith, pushed_depth name d fs)

-- no deeper than what was there and what came
added_depth : (m : Message) (name : List ℕ) (d : Datum) → fields_depth (all_fields (with_value m name d).fields) ≤ max (fields_depth (all_fields m.fields)) (datum_depth d)
added_depth m name d =
    elim (true_or_false (list_any (has_name name) m.fields)) [
      | inl has ↦ rw has (changed_depth name d m.fields)
      | inr hasnt ↦ rw hasnt (pushed_depth name d m.fields)
    ]

-- what reads a message within a message gives one that is at most so deep
abbrev pub IsDeep : (Rest → Read Message) → ℕ → Type 0
IsDeep inner levels = (s : Rest) (x : Message × Rest) → inner s ≡ Ok x → depth_of x.0 ≤ levels

-- a value that is no message
flat_depth : (k : Kind) → (k ≡ kind.Message → ⊥) → (levels : ℕ) (d : Datum) → kind_of d ≡ k → datum_depth d ≤ levels
flat_depth k other levels (bool b) is = omega arith
flat_depth k other levels (int z) is = omega arith
flat_depth k other levels (text t) is = omega arith
flat_depth k other levels (point p) is = omega arith
flat_depth k other levels (rect r) is = omega arith
flat_depth k other levels (message what fs) is = absurd (other (sym is))

value_depth : (inner : Rest → Read Message) (levels : ℕ) → IsDeep inner levels → (k : Kind) (s : Rest) (x : Datum × Rest) → value_at inner k s ≡ Ok x → datum_depth x.0 ≤ levels
unfolding value_at
value_depth inner levels deep kind.Bool s x e = flat_depth kind.Bool (λ is_message. absurd (cc is_message)) levels x.0 (value_kind inner kind.Bool s x e)
value_depth inner levels deep kind.Int s x e = flat_depth kind.Int (λ is_message. absurd (cc is_message)) levels x.0 (value_kind inner kind.Int s x e)
value_depth inner levels deep kind.Text s x e = flat_depth kind.Text (λ is_message. absurd (cc is_message)) levels x.0 (value_kind inner kind.Text s x e)
value_depth inner levels deep kind.Point s x e = flat_depth kind.Point (λ is_message. absurd (cc is_message)) levels x.0 (value_kind inner kind.Point s x e)
value_depth inner levels deep kind.Rect s x e = flat_depth kind.Rect (λ is_message. absurd (cc is_message)) levels x.0 (value_kind inner kind.Rect s x e)
value_depth inner levels deep kind.Message s x e =
    let m = bind_ok (inner s) (λ m. Ok (packed m.0, m.1)) x e in
    subst (λ (y : Datum × Rest). datum_depth y.0 ≤ levels) (ok_is (packed m.0.0, m.0.1) x m.2) (deep s m.0 m.1)

into_depth : (inner : Rest → Read Message) (levels : ℕ) → IsDeep inner levels → (k : Kind) (name : List ℕ) (n : ℕ) (m : Message) (s : Rest) (x : Message × Rest) → so_many (value_into inner k name) n m s ≡ Ok x
    → fields_depth (all_fields m.fields) ≤ levels → fields_depth (all_fields x.0.fields) ≤ levels
unfolding so_many value_into
into_depth inner levels deep k name zero m s x e shallow = subst (λ (y : Message × Rest). fields_depth (all_fields y.0.fields) ≤ levels) (ok_is (m, s) x e) shallow
into_depth inner levels deep k name (suc n) m s x e shallow =
    let a = bind_ok (value_at inner k s >>= λ d. Ok (with_value m name d.0, d.1)) (λ y. so_many (value_into inner k name) n y.0 y.1) x e in
    let d = bind_ok (value_at inner k s) (λ d. Ok (with_value m name d.0, d.1)) a.0 a.1 in
    let made = ok_is (with_value m name d.0.0, d.0.1) a.0 d.2 in
    let one : fields_depth (all_fields a.0.0.fields) ≤ levels =
    subst (λ (y : Message × Rest). fields_depth (all_fields y.0.fields) ≤ levels) made (omega (arith, added_depth m name d.0.0, value_depth inner levels deep k s d.0 d.1, shallow)) in
    into_depth inner levels deep k name n a.0.0 a.0.1 x a.2 one

fields_deep : (inner : Rest → Read Message) (levels : ℕ) → IsDeep inner levels → (nested : Bool) (n : ℕ) (m : Message) (s : Rest) (x : Message × Rest) → so_many (field_into inner nested) n m s ≡ Ok x
    → fields_depth (all_fields m.fields) ≤ levels → fields_depth (all_fields x.0.fields) ≤ levels
unfolding so_many field_into
fields_deep inner levels deep nested zero m s x e shallow = subst (λ (y : Message × Rest). fields_depth (all_fields y.0.fields) ≤ levels) (ok_is (m, s) x e) shallow
fields_deep inner levels deep nested (suc n) m s x e shallow =
    let a = bind_ok (kind_at nested s >>= λ k. name_at m k.1 >>= λ name. byte_that (λ n. nat_lt 0 n) name.1 >>= λ n. so_many (value_into inner k.0 name.0) n.0 m n.1)
    (λ y. so_many (field_into inner nested) n y.0 y.1) x e in
    let k = bind_ok (kind_at nested s) (λ k. name_at m k.1 >>= λ name. byte_that (λ n. nat_lt 0 n) name.1 >>= λ n. so_many (value_into inner k.0 name.0) n.0 m n.1) a.0 a.1 in
    let name = bind_ok (name_at m k.0.1) (λ name. byte_that (λ n. nat_lt 0 n) name.1 >>= λ n. so_many (value_into inner k.0.0 name.0) n.0 m n.1) a.0 k.2 in
    let c = bind_ok (byte_that (λ n. nat_lt 0 n) name.0.1) (λ n. so_many (value_into inner k.0.0 name.0.0) n.0 m n.1) a.0 name.2 in
    fields_deep inner levels deep nested n a.0.0 a.0.1 x a.2 (into_depth inner levels deep k.0.0 name.0.0 c.0.0 m c.0.1 a.0 c.2 shallow)

message_deep : (levels : ℕ) → IsDeep (message_at levels) levels
unfolding message_at
message_deep zero s x e = absurd cc
message_deep (suc levels) s x e =
    let nested : Bool = nat_lt 0 levels in
    let what = bind_ok (u32_at s) (λ what. byte_at what.1 >>= λ n. so_many (field_into (message_at levels) nested) n.0 (record { what = what.0; fields = [] }) n.1) x e in
    let n = bind_ok (byte_at what.0.1) (λ n. so_many (field_into (message_at levels) nested) n.0 (record { what = what.0.0; fields = [] }) n.1) x what.2 in
    omega (arith, fields_deep (message_at levels) levels (message_deep levels) nested n.0.0 (record { what = what.0.0; fields = [] }) n.0.1 x n.2 (omega arith))

-- ---- a value that was read is allowed

shallow_allowed : (k : Kind) → (k ≡ kind.Text → ⊥) → (d : Datum) → kind_of d ≡ k → datum_depth d < 16 → is_allowed d ≡ true
shallow_allowed k other (bool b) is h = refl
shallow_allowed k other (int z) is h = refl
shallow_allowed k other (text t) is h = absurd (other (sym is))
shallow_allowed k other (point p) is h = refl
shallow_allowed k other (rect r) is h = refl
shallow_allowed k other (message what fs) is h = le-leb _ _ h

length_most : (s : Rest) (x : ℕ × Rest) → text_length_at s ≡ Ok x → x.0 ≤ 1024
unfolding text_length_at byte_that
length_most s x e =
    let low = bind_ok (byte_at s) (λ low. byte_that (λ high. nat_le (low.0 + 256 * high) 1024) low.1 >>= λ high. Ok (low.0 + 256 * high.0, high.1)) x e in
    let high = bind_ok (byte_that (λ high. nat_le (low.0.0 + 256 * high) 1024) low.0.1) (λ high. Ok (low.0.0 + 256 * high.0, high.1)) x low.2 in
    let b = bind_ok (byte_at low.0.1) (λ y. cond (nat_le (low.0.0 + 256 * y.0) 1024) (Ok y) (Err (BadByte low.0.1.at))) high.0 high.1 in
    let g = guard_ok (nat_le (low.0.0 + 256 * b.0.0) 1024) (BadByte low.0.1.at) b.0 high.0 b.2 in
    let most : low.0.0 + 256 * high.0.0 ≤ 1024 = subst (λ (y : ℕ × Rest). low.0.0 + 256 * y.0 ≤ 1024) g.1 (leb-true _ _ g.0) in
    subst (λ (y : ℕ × Rest). y.0 ≤ 1024) (ok_is (low.0.0 + 256 * high.0.0, high.0.1) x high.2) most

text_allowed : (s : Rest) (x : Datum × Rest) → text_at s ≡ Ok x → is_allowed x.0 ≡ true
unfolding text_at is_text
text_allowed s x e =
    let n = bind_ok (text_length_at s) (λ n. bytes_that (λ read b. is_text_byte b) n.0 [] n.1 >>= λ t. Ok (text t.0, t.1)) x e in
    let t = bind_ok (bytes_that (λ read b. is_text_byte b) n.0.0 [] n.0.1) (λ t. Ok (text t.0, t.1)) x n.2 in
    let took = passing (λ read b. is_text_byte b) n.0.0 [] n.0.1 t.0 t.1 in
    let each : list_all is_text_byte t.0.0 ≡ true = ap (list_all is_text_byte) took.1 ∙ sym (pass_each is_text_byte [] took.0) ∙ took.2 in
    let short : length t.0.0 ≤ 1024 = omega (arith, ap length took.1, took.3, length_most s n.0 n.1) in
    subst (λ (y : Datum × Rest). is_allowed y.0 ≡ true) (ok_is (text t.0.0, t.0.1) x t.2) (and_from _ _ each (le-leb _ _ short))

shallow : (levels : ℕ) (k : Kind) (s : Rest) (x : Datum × Rest) → levels < 16 → (k ≡ kind.Text → ⊥) → value_at (message_at levels) k s ≡ Ok x → is_allowed x.0 ≡ true
shallow levels k s x h other e =
    shallow_allowed k other x.0 (value_kind (message_at levels) k s x e) (omega (arith, value_depth (message_at levels) levels (message_deep levels) k s x e, h))

pub value_allowed : (levels : ℕ) (k : Kind) (s : Rest) (x : Datum × Rest) → levels < 16 → value_at (message_at levels) k s ≡ Ok x → is_allowed x.0 ≡ true
unfolding value_at
value_allowed levels kind.Text s x h e = text_allowed s x e
value_allowed levels kind.Bool s x h e = shallow levels kind.Bool s x h (λ is. absurd (cc is)) e
value_allowed levels kind.Int s x h e = shallow levels kind.Int s x h (λ is. absurd (cc is)) e
value_allowed levels kind.Point s x h e = shallow levels kind.Point s x h (λ is. absurd (cc is)) e
value_allowed levels kind.Rect s x h e = shallow levels kind.Rect s x h (λ is. absurd (cc is)) e
value_allowed levels kind.Message s x h e = shallow levels kind.Message s x h (λ is. absurd (cc is)) e

-- ---- how many fields

changed_any : (name : List ℕ) (d : Datum) (fs : List Field) → list_any (has_name name) (changed_at name (with_one_more d) fs) ≡ list_any (has_name name) fs
changed_any name d [] = refl
changed_any name d (f ∷ fs) =
    elim (true_or_false (has_name name f)) [
      | inl has ↦ rw (has, has) refl
      | inr hasnt ↦ rw (hasnt, hasnt) (changed_any name d fs)
    ]

-- a value is added to a field that is there, or to one more; there is one of the name then
record Widened (m : Message) (name : List ℕ) (d : Datum) : Type 0 where
  least : list_any (has_name name) m.fields ≡ true → length (with_value m name d).fields ≡ length m.fields
  most : length (with_value m name d).fields ≤ length m.fields + 1
  there : list_any (has_name name) (with_value m name d).fields ≡ true

widened : (m : Message) (name : List ℕ) (d : Datum) → Widened m name d
widened m name d =
    elim (true_or_false (list_any (has_name name) m.fields)) [
      | inl has ↦
          let same : length (changed_at name (with_one_more d) m.fields) ≡ length m.fields = length-map m.fields (λ f. cond (has_name name f) (with_one_more d f) f) in
          record { least = λ _. rw has same; most = rw has (omega (arith, same)); there = rw has (changed_any name d m.fields ∙ has) }
      | inr hasnt ↦
          record {
            least = λ has. absurd (cc (sym hasnt ∙ has));
            most = rw hasnt (omega (arith, length-append m.fields (new_field name d ∷ [])));
            there = rw hasnt (some_named name (m.fields ++ new_field name d ∷ []) (new_field name d) (last_named name m.fields (new_field name d) hasnt (bytes_eq_self name)));
          }
    ]

values_widen : (inner : Rest → Read Message) (k : Kind) (name : List ℕ) (n : ℕ) (m : Message) (s : Rest) (x : Message × Rest) → so_many (value_into inner k name) n m s ≡ Ok x
    → (length x.0.fields ≤ length m.fields + 1) × (list_any (has_name name) m.fields ≡ true → length x.0.fields ≡ length m.fields)
unfolding so_many value_into
values_widen inner k name zero m s x e =
    subst (λ (y : Message × Rest). (length y.0.fields ≤ length m.fields + 1) × (list_any (has_name name) m.fields ≡ true → length y.0.fields ≡ length m.fields)) (ok_is (m, s) x e) (omega arith, λ _. refl)
values_widen inner k name (suc n) m s x e =
    let a = bind_ok (value_at inner k s >>= λ d. Ok (with_value m name d.0, d.1)) (λ y. so_many (value_into inner k name) n y.0 y.1) x e in
    let d = bind_ok (value_at inner k s) (λ d. Ok (with_value m name d.0, d.1)) a.0 a.1 in
    let made = ok_is (with_value m name d.0.0, d.0.1) a.0 d.2 in
    let w = widened m name d.0.0 in
    let there : list_any (has_name name) a.0.0.fields ≡ true = subst (λ (y : Message × Rest). list_any (has_name name) y.0.fields ≡ true) made w.there in
    let most : length a.0.0.fields ≤ length m.fields + 1 = subst (λ (y : Message × Rest). length y.0.fields ≤ length m.fields + 1) made w.most in
    let more = values_widen inner k name n a.0.0 a.0.1 x a.2 in
    (omega (arith, more.1 there, most), λ has. more.1 there ∙ subst (λ (y : Message × Rest). length y.0.fields ≡ length m.fields) made (w.least has))

pub field_widens : (inner : Rest → Read Message) (nested : Bool) (m : Message) (s : Rest) (x : Message × Rest) → field_into inner nested m s ≡ Ok x → length x.0.fields ≤ length m.fields + 1
unfolding field_into
field_widens inner nested m s x e =
    let k = bind_ok (kind_at nested s) (λ k. name_at m k.1 >>= λ name. byte_that (λ n. nat_lt 0 n) name.1 >>= λ n. so_many (value_into inner k.0 name.0) n.0 m n.1) x e in
    let name = bind_ok (name_at m k.0.1) (λ name. byte_that (λ n. nat_lt 0 n) name.1 >>= λ n. so_many (value_into inner k.0.0 name.0) n.0 m n.1) x k.2 in
    let c = bind_ok (byte_that (λ n. nat_lt 0 n) name.0.1) (λ n. so_many (value_into inner k.0.0 name.0.0) n.0 m n.1) x name.2 in
    (values_widen inner k.0.0 name.0.0 c.0.0 m c.0.1 x c.2).0

-- ---- what the calls want

-- values of a field that the message doesn't have yet
pub new_field_fits : (m : Message) (name : List ℕ) (k : Kind) (n : ℕ) → is_name name ≡ true → list_any (has_name name) m.fields ≡ false → length m.fields < 255 → n ≤ 255 → HasRoom m name k n
new_field_fits m name k n allowed free few most =
    record { allowed = allowed; fit = subst (Fit (length m.fields) k n) (sym (named_none name m.fields free)) (few, most) }

-- a value that was read leaves room for one less
pub into_keeps : (inner : Rest → Read Message) (k : Kind) (name : List ℕ) (n : ℕ) (m : Message) (s : Rest) (x : Message × Rest) → value_into inner k name m s ≡ Ok x → HasRoom m name k (suc n) → HasRoom x.0 name k n
unfolding value_into
into_keeps inner k name n m s x e room =
    let d = bind_ok (value_at inner k s) (λ d. Ok (with_value m name d.0, d.1)) x e in
    subst (λ (y : Message × Rest). HasRoom y.0 name k n) (ok_is (with_value m name d.0.0, d.0.1) x d.2) (room_kept m name k n d.0.0 room (value_kind inner k s d.0 d.1))

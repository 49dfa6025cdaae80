-- What is spelt so is read again, whatever follows it.
use Rattle.std.proofs.Common.{◌≡◌, ℕ, zero, suc, ◌+◌, ◌≤◌, false, List, [], ◌∷◌, ◌++◌, length, Ok, Err, refl, sym, ap, subst, ◌∙◌, append_assoc, arith}
use Rattle.std.specs.Prelude.{nat_lt}
use Rattle.std.specs.Int.{w32, to_le_bytes}
use Rattle.std.specs.List.{list_any}
use Rattle.std.proofs.lemmas.Bool.{le-leb}
use Rattle.std.proofs.lemmas.List.{append-nil, append_cancel_right}
use Rattle.be_message.specs.declared.kind.Kind.{Kind}
use Rattle.be_message.specs.Depths.{datum_depth, fields_depth, values_depth}
use Rattle.be_message.specs.Fields.{has_name, with_value}
use Rattle.be_message.specs.Messages.{Datum, bool, int, text, point, rect, message, Fields, no_fields, field, Values, no_values, value, Field, Message, values_of, fields_of, all_fields}
use Rattle.be_message.specs.Sound.{kind_of, field_count, value_count}
use Rattle.be_flat.specs.Codes.{code_of}
use Rattle.be_flat.specs.Grammar.{SpellsDatum, SpellsFields, SpellsValues, Spells}
use Rattle.be_flat.specs.Reading.{Read, value_at, value_into, so_many, field_into, message_at, reading}
use Rattle.be_flat.proofs.Taken.{Reads, byte_again, that_again}
use Rattle.be_flat.proofs.Numbers.{bool_again, int_again, text_again, point_again, rect_again, u32_again}
use Rattle.be_flat.proofs.TypeCodes.{MayHave, code_again}
use Rattle.be_flat.proofs.FieldNames.{name_again}
use Rattle.be_flat.proofs.Lists.{fields_again, listed_fields, AreNew, new_to_none, new_to_more, first_added, more_added}

-- a message lies only where there is room for it
may_have : (d : Datum) (levels : ℕ) → datum_depth d ≤ levels → MayHave (nat_lt 0 levels) (kind_of d)
may_have (bool b) levels h = tt
may_have (int z) levels h = tt
may_have (text t) levels h = tt
may_have (point p) levels h = tt
may_have (rect r) levels h = tt
may_have (message what fs) levels h = le-leb 1 levels (omega (arith, h))

mutual
  unfolding value_at value_into so_many field_into message_at

  datum_again : (d : Datum) (levels : ℕ) (bytes left : List ℕ) (at : ℕ) → SpellsDatum bytes d → datum_depth d ≤ levels
      → Reads (value_at (message_at levels) (kind_of d) (record { bytes = bytes ++ left; at = at })) d left
  datum_again (bool b) levels bytes left at spelt depth = bool_again bytes b left at spelt
  datum_again (int z) levels bytes left at spelt depth = int_again bytes z left at spelt
  datum_again (text t) levels bytes left at spelt depth = text_again bytes t left at spelt
  datum_again (point p) levels bytes left at spelt depth = point_again bytes p.x p.y left at spelt
  datum_again (rect r) levels bytes left at spelt depth = rect_again bytes r left at spelt
  datum_again (message what fs) zero bytes left at spelt depth = absurd (omega (arith, depth))
  datum_again (message what fs) (suc levels) bytes left at (small, most, rest, parts, spelt) depth =
      let whole_is : bytes ++ left ≡ to_le_bytes w32 what ++ (field_count fs ∷ (rest ++ left)) =
      ap (λ (q : List ℕ). q ++ left) parts ∙ append_assoc (to_le_bytes w32 what) (field_count fs ∷ rest) left in
      let one = u32_again what (field_count fs ∷ (rest ++ left)) at small in
      let two = byte_again (field_count fs) (rest ++ left) one.0 in
      let three = fields_read fs levels what [] rest left (one.0 + 1) spelt (new_to_none fs) (omega (arith, depth)) in
      (three.0, rw (whole_is, one.1, two, three.1, fields_again fs) refl)

  values_read : (vs : Values) (levels : ℕ) (k : Kind) (what : ℕ) (done : List Field) (f : Field) (bytes left : List ℕ) (at : ℕ) → SpellsValues k bytes vs → list_any (has_name f.name) done ≡ false → values_depth vs ≤ levels
      → Reads (so_many (value_into (message_at levels) k f.name) (value_count vs) (record { what = what; fields = done ++ f ∷ [] }) (record { bytes = bytes ++ left; at = at }))
      (record { what = what; fields = done ++ record f { values = f.values ++ values_of vs } ∷ [] }) left
  values_read no_values levels k what done f bytes left at spelt free depth =
      (at, rw (spelt, append-nil f.values) refl)
  values_read (value d vs) levels k what done f bytes left at (is, a, b, parts, first, others) free depth =
      let g : Field = record f { values = f.values ++ d ∷ [] } in
      let whole_is : bytes ++ left ≡ a ++ (b ++ left) = ap (λ (q : List ℕ). q ++ left) parts ∙ append_assoc a b left in
      let one' = datum_again d levels a (b ++ left) at first (omega (arith, depth)) in
      let one : value_at (message_at levels) k (record { bytes = a ++ (b ++ left); at = at }) ≡ Ok (d, record { bytes = b ++ left; at = one'.0 }) =
      subst (λ (q : Kind). value_at (message_at levels) q (record { bytes = a ++ (b ++ left); at = at }) ≡ Ok (d, record { bytes = b ++ left; at = one'.0 })) is one'.1 in
      let two = values_read vs levels k what done g b left one'.0 others free (omega (arith, depth)) in
      let whole_values : (f.values ++ d ∷ []) ++ values_of vs ≡ f.values ++ d ∷ values_of vs = append_assoc f.values (d ∷ []) (values_of vs) in
      (two.0, rw (whole_is, one, more_added what done f d free) (two.1 ∙ ap (λ (ds : List Datum). Ok (record { what = what; fields = done ++ record f { values = ds } ∷ [] }, record { bytes = left; at = two.0 })) whole_values))

  fields_read : (fs : Fields) (levels what : ℕ) (done : List Field) (bytes left : List ℕ) (at : ℕ) → SpellsFields bytes fs → AreNew done fs → fields_depth fs ≤ levels
      → Reads (so_many (field_into (message_at levels) (nat_lt 0 levels)) (field_count fs) (record { what = what; fields = done }) (record { bytes = bytes ++ left; at = at }))
      (record { what = what; fields = done ++ fields_of fs }) left
  fields_read no_fields levels what done bytes left at spelt new depth = (at, rw (spelt, append-nil done) refl)
  fields_read (field name k no_values fs) levels what done bytes left at (allowed, later, some, most, a, b, parts, values, others) new depth = absurd (omega (arith, some))
  fields_read (field name k (value d vs) fs) levels what done bytes left at (allowed, later, some, most, a, b, parts, (is, a1, a2, a_is, first, more), others) (free, new) depth =
      let n : ℕ = suc (value_count vs) in
      let title : List ℕ = length name ∷ name in
      let g : Field = record { name = name; kind = k; values = d ∷ [] } in
      let h : Field = record { name = name; kind = k; values = d ∷ values_of vs } in
      let m : Message = record { what = what; fields = done } in
      let whole_is : bytes ++ left ≡ code_of k ++ (title ++ (n ∷ (a1 ++ (a2 ++ (b ++ left))))) =
      ap (λ (q : List ℕ). q ++ left) parts ∙ append_assoc ((code_of k ++ title) ++ (n ∷ a)) b left
      ∙ append_assoc (code_of k ++ title) (n ∷ a) (b ++ left) ∙ append_assoc (code_of k) title ((n ∷ a) ++ (b ++ left))
      ∙ ap (λ (q : List ℕ). code_of k ++ (title ++ (n ∷ (q ++ (b ++ left))))) a_is
      ∙ ap (λ (q : List ℕ). code_of k ++ (title ++ (n ∷ q))) (append_assoc a1 a2 (b ++ left)) in
      let may : MayHave (nat_lt 0 levels) k = subst (λ (q : Kind). MayHave (nat_lt 0 levels) q) is (may_have d levels (omega (arith, depth))) in
      let one = code_again (nat_lt 0 levels) k (title ++ (n ∷ (a1 ++ (a2 ++ (b ++ left))))) at may in
      let two = name_again m name (n ∷ (a1 ++ (a2 ++ (b ++ left)))) one.0 allowed free in
      let three = that_again (λ n. nat_lt 0 n) n (a1 ++ (a2 ++ (b ++ left))) two.0 (le-leb 1 n (omega arith)) in
      let four' = datum_again d levels a1 (a2 ++ (b ++ left)) (two.0 + 1) first (omega (arith, depth)) in
      let four : value_at (message_at levels) k (record { bytes = a1 ++ (a2 ++ (b ++ left)); at = two.0 + 1 }) ≡ Ok (d, record { bytes = a2 ++ (b ++ left); at = four'.0 }) =
      subst (λ (q : Kind). value_at (message_at levels) q (record { bytes = a1 ++ (a2 ++ (b ++ left)); at = two.0 + 1 }) ≡ Ok (d, record { bytes = a2 ++ (b ++ left); at = four'.0 })) is four'.1 in
      let added : with_value m name d ≡ record { what = what; fields = done ++ g ∷ [] } =
      first_added what done name d free ∙ ap (λ (q : Kind). record { what = what; fields = done ++ record { name = name; kind = q; values = d ∷ [] } ∷ [] }) is in
      let five = values_read vs levels k what done g a2 (b ++ left) four'.0 more free (omega (arith, depth)) in
      let six = fields_read fs levels what (done ++ h ∷ []) b left five.0 others (new_to_more done h fs new later) (omega (arith, depth)) in
      let all : (done ++ h ∷ []) ++ fields_of fs ≡ done ++ h ∷ fields_of fs = append_assoc done (h ∷ []) (fields_of fs) in
      (six.0, rw (whole_is, one.1, two.1, three, four, added, five.1) (six.1 ∙ ap (λ (q : List Field). Ok (record { what = what; fields = q }, record { bytes = left; at = six.0 })) all))

-- a message is read again
pub message_again : (m : Message) (bytes left : List ℕ) → Spells bytes m → Reads (message_at 16 (record { bytes = bytes ++ left; at = 0 })) m left
unfolding message_at
message_again m bytes left spells =
    let what : ℕ = m.what in
    let fs : Fields = all_fields m.fields in
    let small = spells.parts.0 in
    let rest = spells.parts.2 in
    let whole_is : bytes ++ left ≡ to_le_bytes w32 what ++ (field_count fs ∷ (rest ++ left)) =
    ap (λ (q : List ℕ). q ++ left) spells.parts.3 ∙ append_assoc (to_le_bytes w32 what) (field_count fs ∷ rest) left in
    let one = u32_again what (field_count fs ∷ (rest ++ left)) 0 small in
    let two = byte_again (field_count fs) (rest ++ left) one.0 in
    let three = fields_read fs 15 what [] rest left (one.0 + 1) spells.parts.4 (new_to_none fs) (omega (arith, spells.depth)) in
    (three.0, rw (whole_is, one.1, two) (three.1 ∙ ap (λ (q : List Field). Ok (record { what = what; fields = q }, record { bytes = left; at = three.0 })) (listed_fields m.fields)))

pub is_read : (bytes : List ℕ) (m : Message) → Spells bytes m → reading bytes ≡ Ok m
unfolding reading
is_read bytes m spells =
    let x = message_again m bytes [] spells in
    let y : message_at 16 (record { bytes = bytes; at = 0 }) ≡ Ok (m, record { bytes = []; at = x.0 }) =
    ap (λ (q : List ℕ). message_at 16 (record { bytes = q; at = 0 })) (sym (append-nil bytes)) ∙ x.1 in
    rw y refl

abbrev message_read : Read Message → Message → Message
message_read (Ok x) m = x.0
message_read (Err e) m = m

abbrev left_of : Read Message → List ℕ
left_of (Ok x) = x.1.bytes
left_of (Err e) = []

pub one_form : (a b x y : List ℕ) (m n : Message) → Spells a m → Spells b n → a ++ x ≡ b ++ y → (a ≡ b) × (m ≡ n)
one_form a b x y m n sa sb same =
    let ra = message_again m a x sa in
    let rb = message_again n b y sb in
    let both = sym ra.1 ∙ ap (λ (q : List ℕ). message_at 16 (record { bytes = q; at = 0 })) same ∙ rb.1 in
    let left : x ≡ y = ap left_of both in
    (append_cancel_right a b x (same ∙ ap (λ (q : List ℕ). b ++ q) (sym left)), ap (λ (r : Read Message). message_read r m) both)

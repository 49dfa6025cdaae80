-- What is read of a message where the bytes are cut short, where others follow, and where a byte is bad.
use Rattle.std.proofs.Common.{◌≡◌, ℕ, zero, suc, ◌+◌, ◌-◌, ◌*◌, ◌<◌, Bool, true, false, ◌&&◌, List, [], ◌∷◌, ◌++◌, length, take, cond, Ok, Err, refl, sym, ap, subst, ◌∙◌, inl, inr, arith, append_assoc}
use Rattle.std.specs.Prelude.{nat_le, nat_lt, ◌==◌, ◌≢◌}
use Rattle.std.specs.Int.{w16, w32, from_le_bytes, cast_signed}
use Rattle.std.specs.List.{list_any}
use Rattle.std.proofs.lemmas.List.{append-nil, length-append}
use Rattle.std.proofs.lemmas.Bool.Decides.{nat_tests}
use Rattle.std.proofs.Math.Seq.{take-append_seam}
use Rattle.be_message.specs.declared.kind.Kind.{Kind}
use Rattle.be_message.specs.declared.kind.Kind.TheVariants as kind
use Rattle.be_message.specs.Fields.{has_name, with_value}
use Rattle.be_message.specs.Messages.{bool, int, text, point, rect, Message, packed}
use Rattle.be_message.specs.Names.{is_text_byte}
use Rattle.be_flat.specs.declared.fault.FlatError.{FlatError}
use Rattle.be_flat.specs.declared.fault.FlatError.TheVariants.{Truncated, BadByte, Extra}
use Rattle.be_flat.specs.Codes.{begin_code, kind_spelt}
use Rattle.be_flat.specs.Grammar.{Spells}
use Rattle.be_flat.specs.Reading.{Rest, Read, ◌>>=◌, byte_at, byte_that, bytes_that, u16_at, u32_at, coordinate_at, bool_at, int_at, text_length_at, text_at, point_at, rect_at, value_at, value_into, so_many, kind_at, goes_on_name, unless_taken, name_at, field_into, message_at, whole, reading}
use Rattle.be_flat.proofs.Again.{message_again}
use Rattle.be_flat.proofs.Taken.{bind_ok}
use Rattle.be_flat.proofs.Readers.{rest_of, HasPart, IsCut, HasTaken, Takes, HasBad, IsReader, reader_ok, reader_where, reader_bind, reader_then, reader_byte, reader_that, that_passes, reader_bytes, bind_bad}
use Rattle.be_flat.proofs.Truths.{guard_ok, is_free, ok_is, same_place}
use Rattle.be_flat.proofs.TypeCodes.{MayHave, kind_may}

-- ---- numbers and values

reader_u16 : IsReader u16_at
unfolding u16_at
reader_u16 =
    reader_bind byte_at (λ a s. byte_at s >>= λ b. Ok (from_le_bytes w16 (a ∷ b.0 ∷ []), b.1)) reader_byte (λ a.
    reader_bind byte_at (λ b s. Ok (from_le_bytes w16 (a ∷ b ∷ []), s)) reader_byte (λ b. reader_ok (from_le_bytes w16 (a ∷ b ∷ []))))

reader_u32 : IsReader u32_at
unfolding u32_at
reader_u32 =
    reader_bind byte_at (λ a s. byte_at s >>= λ b. byte_at b.1 >>= λ c. byte_at c.1 >>= λ d. Ok (from_le_bytes w32 (a ∷ b.0 ∷ c.0 ∷ d.0 ∷ []), d.1)) reader_byte (λ a.
    reader_bind byte_at (λ b s. byte_at s >>= λ c. byte_at c.1 >>= λ d. Ok (from_le_bytes w32 (a ∷ b ∷ c.0 ∷ d.0 ∷ []), d.1)) reader_byte (λ b.
    reader_bind byte_at (λ c s. byte_at s >>= λ d. Ok (from_le_bytes w32 (a ∷ b ∷ c ∷ d.0 ∷ []), d.1)) reader_byte (λ c.
    reader_bind byte_at (λ d s. Ok (from_le_bytes w32 (a ∷ b ∷ c ∷ d ∷ []), s)) reader_byte (λ d. reader_ok (from_le_bytes w32 (a ∷ b ∷ c ∷ d ∷ []))))))

reader_coordinate : IsReader coordinate_at
unfolding coordinate_at
reader_coordinate = reader_bind u16_at (λ n s. Ok (cast_signed w16 n, s)) reader_u16 (λ n. reader_ok (cast_signed w16 n))

reader_bool : IsReader bool_at
unfolding bool_at
reader_bool = reader_bind (byte_that (λ b. nat_le b 1)) (λ b s. Ok (bool (b == 1), s)) (reader_that (λ b. nat_le b 1)) (λ b. reader_ok (bool (b == 1)))

reader_int : IsReader int_at
unfolding int_at
reader_int = reader_bind u32_at (λ n s. Ok (int (cast_signed w32 n), s)) reader_u32 (λ n. reader_ok (int (cast_signed w32 n)))

reader_length : IsReader text_length_at
unfolding text_length_at
reader_length =
    reader_bind byte_at (λ low s. byte_that (λ high. nat_le (low + 256 * high) 1024) s >>= λ high. Ok (low + 256 * high.0, high.1)) reader_byte (λ low.
    reader_bind (byte_that (λ high. nat_le (low + 256 * high) 1024)) (λ high s. Ok (low + 256 * high, s)) (reader_that (λ high. nat_le (low + 256 * high) 1024)) (λ high. reader_ok (low + 256 * high)))

reader_text : IsReader text_at
unfolding text_at
reader_text =
    reader_bind text_length_at (λ n s. bytes_that (λ read b. is_text_byte b) n [] s >>= λ t. Ok (text t.0, t.1)) reader_length (λ n.
    reader_bind (bytes_that (λ read b. is_text_byte b) n []) (λ t s. Ok (text t, s)) (reader_bytes (λ read b. is_text_byte b) n []) (λ t. reader_ok (text t)))

reader_point : IsReader point_at
unfolding point_at
reader_point =
    reader_bind coordinate_at (λ x s. coordinate_at s >>= λ y. Ok (point (record { x = x; y = y.0 }), y.1)) reader_coordinate (λ x.
    reader_bind coordinate_at (λ y s. Ok (point (record { x = x; y = y }), s)) reader_coordinate (λ y. reader_ok (point (record { x = x; y = y }))))

reader_rect : IsReader rect_at
unfolding rect_at
reader_rect =
    reader_bind coordinate_at (λ a s. coordinate_at s >>= λ b. coordinate_at b.1 >>= λ c. coordinate_at c.1 >>= λ d. Ok (rect (record { left = a; top = b.0; right = c.0; bottom = d.0 }), d.1)) reader_coordinate (λ a.
    reader_bind coordinate_at (λ b s. coordinate_at s >>= λ c. coordinate_at c.1 >>= λ d. Ok (rect (record { left = a; top = b; right = c.0; bottom = d.0 }), d.1)) reader_coordinate (λ b.
    reader_bind coordinate_at (λ c s. coordinate_at s >>= λ d. Ok (rect (record { left = a; top = b; right = c; bottom = d.0 }), d.1)) reader_coordinate (λ c.
    reader_bind coordinate_at (λ d s. Ok (rect (record { left = a; top = b; right = c; bottom = d }), s)) reader_coordinate (λ d. reader_ok (rect (record { left = a; top = b; right = c; bottom = d }))))))

-- a message where one may lie is read by what is given
reader_value : (nested : Bool) (inner : Rest → Read Message) → (nested ≡ true → IsReader inner) → (k : Kind) → MayHave nested k → IsReader (value_at inner k)
unfolding value_at
reader_value nested inner one kind.Bool may = reader_bool
reader_value nested inner one kind.Int may = reader_int
reader_value nested inner one kind.Text may = reader_text
reader_value nested inner one kind.Point may = reader_point
reader_value nested inner one kind.Rect may = reader_rect
reader_value nested inner one kind.Message may = reader_bind inner (λ m s. Ok (packed m, s)) (one may) (λ m. reader_ok (packed m))

reader_into : (nested : Bool) (inner : Rest → Read Message) → (nested ≡ true → IsReader inner) → (k : Kind) → MayHave nested k → (name : List ℕ) (m : Message) → IsReader (value_into inner k name m)
unfolding value_into
reader_into nested inner one k may name m = reader_bind (value_at inner k) (λ d s. Ok (with_value m name d, s)) (reader_value nested inner one k may) (λ d. reader_ok (with_value m name d))

reader_many : (part : Message → Rest → Read Message) → ((m : Message) → IsReader (part m)) → (n : ℕ) (m : Message) → IsReader (so_many part n m)
unfolding so_many
reader_many part one zero m = reader_ok m
reader_many part one (suc n) m = reader_bind (part m) (λ x. so_many part n x) (one m) (λ x. reader_many part one n x)

-- ---- the name of a field

unless_cut : (m : Message) (name : List ℕ) → IsCut (λ s. unless_taken m (name, s))
unfolding unless_taken
unless_cut m name front back at x after e =
    let g = is_free (list_any (has_name name) m.fields) (BadByte (at - 1)) (name, rest_of (front ++ back) at) (x, after) e in
    inl (subst (λ (y : List ℕ × Rest). HasPart (λ s. unless_taken m (name, s)) front back at y.0 y.1) g.1 (record { left = front; more = refl; same = rw g.0 refl; place = refl }))

unless_takes : (m : Message) (name : List ℕ) → Takes (λ s. unless_taken m (name, s))
unfolding unless_taken
unless_takes m name bytes at x after e =
    let g = is_free (list_any (has_name name) m.fields) (BadByte (at - 1)) (name, rest_of bytes at) (x, after) e in
    subst (λ (y : List ℕ × Rest). HasTaken (λ s. unless_taken m (name, s)) bytes at y.0 y.1) g.1 (record { took = []; parts = refl; place = omega arith; again = λ more. rw g.0 refl })

is_taken : (b : Bool) (d c : FlatError) (x : List ℕ × Rest) → cond b (Err d) (Ok x) ≡ Err c → (b ≡ true) × (d ≡ c)
is_taken true d c x e = (refl, cc)
is_taken false d c x e = absurd (cc e)

-- the last of some bytes
record HasLast (bytes : List ℕ) : Type 0 where
  pub front : List ℕ
  pub last : ℕ
  pub parts : bytes ≡ front ++ last ∷ []

last_of : (b : ℕ) (bytes : List ℕ) → HasLast (b ∷ bytes)
last_of b [] = record { front = []; last = b; parts = refl }
last_of b (c ∷ bytes) = let h = last_of c bytes in record { front = b ∷ h.front; last = h.last; parts = ap (λ (l : List ℕ). b ∷ l) h.parts }

some_last : (bytes : List ℕ) → 0 < length bytes → HasLast bytes
some_last [] some = absurd (omega arith)
some_last (b ∷ bytes) some = last_of b bytes

one_further : (passes : ℕ → Bool) (bytes : List ℕ) (at : ℕ) (x : ℕ × Rest) → byte_that passes (rest_of bytes at) ≡ Ok x → x.1.at ≡ at + 1
unfolding byte_that byte_at
one_further passes [] at x e = absurd (cc e)
one_further passes (b ∷ bytes) at x e = ap (λ (y : ℕ × Rest). y.1.at) (sym (guard_ok (passes b) (BadByte at) (b, rest_of bytes (at + 1)) x e).1)

-- so many bytes were taken
taken_count : (passes : List ℕ → ℕ → Bool) (n : ℕ) (read : List ℕ) (s : Rest) (x : List ℕ × Rest) → bytes_that passes n read s ≡ Ok x → x.1.at ≡ s.at + n
unfolding bytes_that
taken_count passes zero read s x e = ap (λ (y : List ℕ × Rest). y.1.at) (sym (ok_is (read, s) x e)) ∙ omega arith
taken_count passes (suc n) read s x e =
    let b = bind_ok (byte_that (passes read) s) (λ y. bytes_that passes n (read ++ y.0 ∷ []) y.1) x e in
    omega (arith, one_further (passes read) s.bytes s.at b.0 b.1, taken_count passes n (read ++ b.0.0 ∷ []) b.0.1 x b.2)

-- the last byte of a name that the message has already is bad
last_bad : (m : Message) (n : ℕ) → 0 < n → (bytes : List ℕ) (at place : ℕ) (name : List ℕ) (s : Rest) → bytes_that goes_on_name n [] (rest_of bytes at) ≡ Ok (name, s) → unless_taken m (name, s) ≡ Err (BadByte place)
    → HasBad (λ s. bytes_that goes_on_name n [] s >>= λ x. unless_taken m (x.0, x.1)) bytes at place
unfolding unless_taken
last_bad m n some bytes at place name s e bad =
    let one = reader_bytes goes_on_name n [] in
    let t = one.takes bytes at name s e in
    let count : s.at ≡ at + n = taken_count goes_on_name n [] (rest_of bytes at) (name, s) e in
    let l = some_last t.took (omega (arith, count, t.place, some)) in
    let long : length t.took ≡ length l.front + 1 = ap length l.parts ∙ length-append l.front (l.last ∷ []) in
    let parts : bytes ≡ l.front ++ l.last ∷ s.bytes = t.parts ∙ ap (λ (q : List ℕ). q ++ s.bytes) l.parts ∙ append_assoc l.front (l.last ∷ []) s.bytes in
    let g = is_taken (list_any (has_name name) m.fields) (BadByte (s.at - 1)) (BadByte place) (name, s) bad in
    let here : s.at - 1 ≡ place = same_place (s.at - 1) place g.1 in
    let whole_is : bytes_that goes_on_name n [] (rest_of (l.front ++ l.last ∷ s.bytes) at) ≡ Ok (name, s) = ap (λ (q : List ℕ). bytes_that goes_on_name n [] (rest_of q at)) (sym parts) ∙ e in
    let again : (more : List ℕ) → bytes_that goes_on_name n [] (rest_of (l.front ++ l.last ∷ more) at) ≡ Ok (name, rest_of more s.at) =
    λ more. ap (λ (q : List ℕ). bytes_that goes_on_name n [] (rest_of q at)) (sym (append_assoc l.front (l.last ∷ []) more) ∙ ap (λ (q : List ℕ). q ++ more) (sym l.parts)) ∙ t.again more in
    let ends : bytes_that goes_on_name n [] (rest_of l.front at) ≡ Err (Truncated (at + length l.front)) =
    elim (one.cut l.front (l.last ∷ s.bytes) at name s whole_is) [
      | inl p ↦ absurd (omega (arith, p.place, t.place, long))
      | inr short ↦ short
    ] in
    record {
      front = l.front;
      byte = l.last;
      back = s.bytes;
      parts = parts;
      is = omega (arith, here, t.place, long);
      cut = rw ends refl;
      always = λ more. rw (again more, g.0) (ap (λ (q : ℕ). Err (BadByte q)) here);
    }

is_some : (n : ℕ) → (nat_lt 0 n && nat_le n 32) ≡ true → 0 < n
is_some n h = grind (arith, nat_tests)

reader_name : (m : Message) → IsReader (name_at m)
unfolding name_at
reader_name m =
    let passes : ℕ → Bool = λ n. nat_lt 0 n && nat_le n 32 in
    reader_where (byte_that passes) (λ n s. bytes_that goes_on_name n [] s >>= unless_taken m) (λ n. passes n ≡ true) (reader_that passes) (that_passes passes) (λ n some.
    reader_then (bytes_that goes_on_name n []) (λ name s. unless_taken m (name, s)) (reader_bytes goes_on_name n []) (unless_cut m) (unless_takes m) (last_bad m n (is_some n some)))

-- ---- fields and messages

reader_kind : (nested : Bool) → IsReader (kind_at nested)
unfolding kind_at
reader_kind nested =
    reader_bind (bytes_that (λ read b. begin_code nested (read ++ b ∷ [])) 4 []) (λ letters s. Ok (kind_spelt letters, s)) (reader_bytes (λ read b. begin_code nested (read ++ b ∷ [])) 4 []) (λ letters. reader_ok (kind_spelt letters))

reader_field : (nested : Bool) (inner : Rest → Read Message) → (nested ≡ true → IsReader inner) → (m : Message) → IsReader (field_into inner nested m)
unfolding field_into
reader_field nested inner one m =
    reader_where (kind_at nested) (λ k s. name_at m s >>= λ name. byte_that (λ n. nat_lt 0 n) name.1 >>= λ n. so_many (value_into inner k name.0) n.0 m n.1) (MayHave nested) (reader_kind nested) (kind_may nested) (λ k may.
    reader_bind (name_at m) (λ name s. byte_that (λ n. nat_lt 0 n) s >>= λ n. so_many (value_into inner k name) n.0 m n.1) (reader_name m) (λ name.
    reader_bind (byte_that (λ n. nat_lt 0 n)) (λ n s. so_many (value_into inner k name) n m s) (reader_that (λ n. nat_lt 0 n)) (λ n.
    reader_many (value_into inner k name) (reader_into nested inner one k may name) n m)))

-- a message of which at least one may lie within it
reader_message : (levels : ℕ) → nat_lt 0 levels ≡ true → IsReader (message_at levels)
unfolding message_at
reader_message zero some = absurd (cc some)
reader_message (suc levels) some =
    let nested : Bool = nat_lt 0 levels in
    reader_bind u32_at (λ what s. byte_at s >>= λ n. so_many (field_into (message_at levels) nested) n.0 (record { what = what; fields = [] }) n.1) reader_u32 (λ what.
    reader_bind byte_at (λ n s. so_many (field_into (message_at levels) nested) n (record { what = what; fields = [] }) s) reader_byte (λ n.
    reader_many (field_into (message_at levels) nested) (reader_field nested (message_at levels) (reader_message levels)) n (record { what = what; fields = [] })))

pub of_message : IsReader (message_at 16)
of_message = reader_message 16 refl

-- ---- spellings that are cut short or go on

nothing_behind : (left back : List ℕ) → [] ≡ left ++ back → back ≡ []
nothing_behind [] back e = sym e
nothing_behind (b ∷ left) back e = absurd (cc e)

pub front_truncated : (front back : List ℕ) (m : Message) → Spells (front ++ back) m → back ≢ [] → reading front ≡ Err (Truncated (length front))
unfolding reading
front_truncated front back m spells some =
    let r = message_again m (front ++ back) [] spells in
    let read : message_at 16 (rest_of (front ++ back) 0) ≡ Ok (m, rest_of [] r.0) = ap (λ (q : List ℕ). message_at 16 (rest_of q 0)) (sym (append-nil (front ++ back))) ∙ r.1 in
    elim (of_message.cut front back 0 m (rest_of [] r.0) read) [
      | inl p ↦ absurd (some (nothing_behind p.left back p.more))
      | inr t ↦ rw t (ap (λ (n : ℕ). Err (Truncated n)) (omega arith))
    ]

extra_at : (b : ℕ) (more bytes : List ℕ) (at : ℕ) (m : Message) → at ≡ length bytes → message_at 16 (rest_of (bytes ++ b ∷ more) 0) ≡ Ok (m, rest_of (b ∷ more) at) → reading (bytes ++ b ∷ more) ≡ Err (Extra (length bytes))
unfolding reading
extra_at b more bytes at m place read = rw (read, place) refl

pub behind_extra : (bytes more : List ℕ) (m : Message) → Spells bytes m → more ≢ [] → reading (bytes ++ more) ≡ Err (Extra (length bytes))
behind_extra bytes [] m spells some = absurd (some refl)
behind_extra bytes (b ∷ more) m spells some =
    let r = message_again m bytes (b ∷ more) spells in
    let whole_is : (bytes ++ b ∷ more) ++ [] ≡ bytes ++ b ∷ more = append-nil (bytes ++ b ∷ more) in
    let read : message_at 16 (rest_of ((bytes ++ b ∷ more) ++ []) 0) ≡ Ok (m, rest_of (b ∷ more) r.0) = ap (λ (q : List ℕ). message_at 16 (rest_of q 0)) whole_is ∙ r.1 in
    elim (of_message.cut (bytes ++ b ∷ more) [] 0 m (rest_of (b ∷ more) r.0) read) [
      | inl p ↦
          let left_is : p.left ≡ b ∷ more = sym (append-nil p.left) ∙ sym p.more in
          extra_at b more bytes r.0 m (omega (arith, p.place, ap length left_is, length-append bytes (b ∷ more))) r.1
      | inr t ↦ absurd (cc (sym r.1 ∙ t))
    ]

-- ---- bad bytes

whole_is_not_bad : (bytes : List ℕ) (at place : ℕ) (m : Message) → whole bytes at m ≡ Err (BadByte place) → ⊥
whole_is_not_bad [] at place m e = cc e
whole_is_not_bad (b ∷ bytes) at place m e = cc e

bad_in : (bytes : List ℕ) (place : ℕ) → reading bytes ≡ Err (BadByte place) → HasBad (message_at 16) bytes 0 place
unfolding reading
bad_in bytes place e =
    elim (bind_bad (message_at 16 (rest_of bytes 0)) (λ x. whole x.1.bytes x.1.at x.0) (BadByte place) e) [
      | inl bad ↦ of_message.fails bytes 0 place bad
      | inr b ↦ absurd (whole_is_not_bad b.0.1.bytes b.0.1.at place b.0.0 b.2)
    ]

-- a bad byte is one of the bytes
pub bad_there : (bytes : List ℕ) (place : ℕ) → reading bytes ≡ Err (BadByte place) → place < length bytes
bad_there bytes place e =
    let h = bad_in bytes place e in
    omega (arith, h.is, ap length h.parts ∙ length-append h.front (h.byte ∷ h.back))

to_place : (front back : List ℕ) (place : ℕ) → place ≡ 0 + length front → take place (front ++ back) ≡ front
to_place front back place e = let same : place ≡ length front = omega arith in rw same (take-append_seam front back)

-- bytes that are cut before it end too early
pub bad_cut : (bytes : List ℕ) (place : ℕ) → reading bytes ≡ Err (BadByte place) → reading (take place bytes) ≡ Err (Truncated place)
unfolding reading
bad_cut bytes place e =
    let h = bad_in bytes place e in
    let front : take place bytes ≡ h.front = ap (take place) h.parts ∙ to_place h.front (h.byte ∷ h.back) place h.is in
    rw (front, h.cut) (ap (λ (n : ℕ). Err (Truncated n)) (sym h.is))

through_place : (front back : List ℕ) (byte place : ℕ) → place ≡ 0 + length front → take (place + 1) (front ++ byte ∷ back) ≡ front ++ byte ∷ []
through_place front back byte place e =
    let long : length (front ++ byte ∷ []) ≡ place + 1 = length-append front (byte ∷ []) ∙ omega arith in
    ap (λ (l : List ℕ). take (place + 1) l) (sym (append_assoc front (byte ∷ []) back)) ∙ rw (sym long) (take-append_seam (front ++ byte ∷ []) back)

-- whatever follows it, it is bad
pub bad_always : (bytes more : List ℕ) (place : ℕ) → reading bytes ≡ Err (BadByte place) → reading (take (place + 1) bytes ++ more) ≡ Err (BadByte place)
unfolding reading
bad_always bytes more place e =
    let h = bad_in bytes place e in
    let front : take (place + 1) bytes ≡ h.front ++ h.byte ∷ [] = ap (take (place + 1)) h.parts ∙ through_place h.front h.back h.byte place h.is in
    rw (front, append_assoc h.front (h.byte ∷ []) more, h.always more) refl

again_whole : (bytes : List ℕ) (m : Message) → Spells bytes m → reading bytes ≡ Ok m
unfolding reading
again_whole bytes m spells =
    let r = message_again m bytes [] spells in
    let read : message_at 16 (rest_of bytes 0) ≡ Ok (m, rest_of [] r.0) = ap (λ (q : List ℕ). message_at 16 (rest_of q 0)) (sym (append-nil bytes)) ∙ r.1 in
    rw read refl

-- so it begins no spelling
pub bad_begins_none : (bytes more : List ℕ) (place : ℕ) (m : Message) → reading bytes ≡ Err (BadByte place) → Spells (take (place + 1) bytes ++ more) m → ⊥
bad_begins_none bytes more place m e spells = absurd (cc (sym (bad_always bytes more place e) ∙ again_whole (take (place + 1) bytes ++ more) m spells))

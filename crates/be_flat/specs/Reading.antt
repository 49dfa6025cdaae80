-- What reading bytes from the first one on comes to: a part and what is left, or the first failure.
use Rattle.std.specs.Prelude.{◌≡◌, ℤ, ℕ, zero, suc, ◌+◌, ◌*◌, ◌-◌, ◌==◌, Bool, ◌&&◌, nat_le, nat_lt}
use Rattle.std.specs.Prelude.{if◌then◌else◌, List, [], ◌∷◌, ◌++◌, Result, Ok, Err}
use Rattle.std.specs.List.{list_any}
use Rattle.std.specs.Char.{is_ascii_lowercase}
use Rattle.std.specs.Int.{w16, w32, from_le_bytes, cast_signed}
use Rattle.be_facts.specs.Names.{is_name_byte}
use Rattle.be_message.specs.declared.kind.Kind.{Kind}
use Rattle.be_message.specs.declared.kind.Kind.TheVariants as kind
use Rattle.be_message.specs.Fields.{has_name, with_value}
use Rattle.be_message.specs.Limits.{most_name_bytes, most_text_bytes, most_depth}
use Rattle.be_message.specs.Messages.{Datum, bool, int, text, point, rect, Message, packed}
use Rattle.be_message.specs.Names.{is_text_byte}
use Rattle.be_flat.specs.declared.fault.FlatError.{FlatError}
use Rattle.be_flat.specs.declared.fault.FlatError.TheVariants.{Truncated, BadByte, Extra, NoMemory}
use Rattle.be_flat.specs.Codes.{begin_code, kind_spelt}

-- the bytes that are left, and how many stood before them
pub record Rest : Type 0 where
  pub bytes : List ℕ
  pub at : ℕ

-- a part and what is left behind it, or the first failure
abbrev pub Read : Type 0 → Type 0
Read X = Result (X × Rest) FlatError

infixl 10 ◌>>=◌
abbrev pub ◌>>=◌ : {A B : Type 0} → Result A FlatError → (A → Result B FlatError)
    → Result B FlatError
(Ok x) >>= f = f x
(Err e) >>= f = Err e

-- ---- bytes

abbrev pub byte_of : List ℕ → ℕ → Read ℕ
byte_of [] at = Err (Truncated at)
byte_of (b ∷ bytes) at = Ok (b, record { bytes = bytes; at = at + 1 })

-- the next byte, whatever it is
unfoldable pub byte_at : Rest → Read ℕ
byte_at s = byte_of s.bytes s.at

-- the next byte, which fails unless it passes
unfoldable pub byte_that : (ℕ → Bool) → Rest → Read ℕ
byte_that passes s = byte_at s >>= λ x. if passes x.0 then Ok x else Err (BadByte s.at)

-- so many bytes behind those that were read already, each of which passes behind those before it
unfoldable pub bytes_that : (List ℕ → ℕ → Bool) → ℕ → List ℕ → Rest → Read (List ℕ)
bytes_that passes zero read s = Ok (read, s)
bytes_that passes (suc n) read s =
    byte_that (passes read) s >>= λ x. bytes_that passes n (read ++ x.0 ∷ []) x.1

-- ---- numbers

unfoldable pub u16_at : Rest → Read ℕ
u16_at s =
    byte_at s >>= λ a. byte_at a.1 >>= λ b. Ok (from_le_bytes w16 (a.0 ∷ b.0 ∷ []), b.1)

unfoldable pub u32_at : Rest → Read ℕ
u32_at s =
    byte_at s >>= λ a. byte_at a.1 >>= λ b. byte_at b.1 >>= λ c. byte_at c.1 >>= λ d.
    Ok (from_le_bytes w32 (a.0 ∷ b.0 ∷ c.0 ∷ d.0 ∷ []), d.1)

unfoldable pub coordinate_at : Rest → Read ℤ
coordinate_at s = u16_at s >>= λ n. Ok (cast_signed w16 n.0, n.1)

-- ---- values

unfoldable pub bool_at : Rest → Read Datum
bool_at s = byte_that (λ b. nat_le b 1) s >>= λ b. Ok (bool (b.0 == 1), b.1)

unfoldable pub int_at : Rest → Read Datum
int_at s = u32_at s >>= λ n. Ok (int (cast_signed w32 n.0), n.1)

-- the second byte of the length fails where the text would be too long
unfoldable pub text_length_at : Rest → Read ℕ
text_length_at s =
    byte_at s >>= λ low. byte_that (λ high. nat_le (low.0 + 256 * high) most_text_bytes)
    low.1 >>= λ high. Ok (low.0 + 256 * high.0, high.1)

unfoldable pub text_at : Rest → Read Datum
text_at s =
    text_length_at s >>= λ n. bytes_that (λ read b. is_text_byte b) n.0 [] n.1 >>= λ t. Ok
    (text t.0, t.1)

unfoldable pub point_at : Rest → Read Datum
point_at s =
    coordinate_at s >>= λ x. coordinate_at x.1 >>= λ y. Ok
    (point (record { x = x.0; y = y.0 }), y.1)

unfoldable pub rect_at : Rest → Read Datum
rect_at s =
    coordinate_at s >>= λ left. coordinate_at left.1 >>= λ top. coordinate_at top.1 >>= λ right.
    coordinate_at right.1 >>= λ bottom.
    Ok (rect (record { left = left.0; top = top.0; right = right.0; bottom = bottom.0 }), bottom.1)

-- a message within a message is read by what is given
unfoldable pub value_at : (Rest → Read Message) → Kind → Rest → Read Datum
value_at inner kind.Bool s = bool_at s
value_at inner kind.Int s = int_at s
value_at inner kind.Text s = text_at s
value_at inner kind.Point s = point_at s
value_at inner kind.Rect s = rect_at s
value_at inner kind.Message s = inner s >>= λ m. Ok (packed m.0, m.1)

-- a value, added to the message under the name
unfoldable pub value_into : (Rest → Read Message) → Kind → List ℕ → Message → Rest → Read Message
value_into inner kind name m s = value_at inner kind s >>= λ d. Ok (with_value m name d.0, d.1)

-- so many parts, each of which adds to the message
unfoldable pub so_many : (Message → Rest → Read Message) → ℕ → Message → Rest → Read Message
so_many part zero m s = Ok (m, s)
so_many part (suc n) m s = part m s >>= λ x. so_many part n x.0 x.1

-- ---- fields and messages

-- the letters of a type's code; one after which no code is begun fails
unfoldable pub kind_at : Bool → Rest → Read Kind
kind_at nested s =
    bytes_that (λ read b. begin_code nested (read ++ b ∷ [])) 4 [] s >>= λ letters. Ok
    (kind_spelt letters.0, letters.1)

-- a letter first, and then any byte of a name
abbrev pub goes_on_name : List ℕ → ℕ → Bool
goes_on_name [] b = is_ascii_lowercase b
goes_on_name (c ∷ cs) b = is_name_byte b

-- the last byte of a name that the message has already fails
unfoldable pub unless_taken : Message → List ℕ × Rest → Read (List ℕ)
unless_taken m x = if list_any (has_name x.0) m.fields then Err (BadByte (x.1.at - 1)) else Ok x

unfoldable pub name_at : Message → Rest → Read (List ℕ)
name_at m s =
    byte_that (λ n. nat_lt 0 n && nat_le n most_name_bytes) s >>= λ n. bytes_that goes_on_name
    n.0 [] n.1 >>= unless_taken m

-- a field, added to the message value by value
unfoldable pub field_into : (Rest → Read Message) → Bool → Message → Rest → Read Message
field_into inner nested m s =
    kind_at nested s >>= λ k. name_at m k.1 >>= λ name. byte_that (λ n. nat_lt 0 n) name.1 >>= λ n.
    so_many (value_into inner k.0 name.0) n.0 m n.1

-- a message of which so many may lie within one another, itself counted
unfoldable pub message_at : ℕ → Rest → Read Message
message_at zero s = Err (BadByte s.at)
message_at (suc levels) s =
    u32_at s >>= λ what. byte_at what.1 >>= λ n. so_many
    (field_into (message_at levels) (nat_lt 0 levels)) n.0
    (record { what = what.0; fields = [] }) n.1

-- what stands behind the message fails
abbrev pub whole : List ℕ → ℕ → Message → Result Message FlatError
whole [] at m = Ok m
whole (b ∷ bytes) at m = Err (Extra at)

-- all of the bytes
unfoldable pub reading : List ℕ → Result Message FlatError
reading bytes =
    message_at most_depth (record { bytes = bytes; at = 0 }) >>= λ x. whole x.1.bytes x.1.at x.0

-- ---- what a call gives

abbrev pub FailsAs : {Y : Type 0} → FlatError → Result Y FlatError → Type 0
FailsAs NoMemory read = Unit {0}
FailsAs (Truncated at) read = read ≡ Err (Truncated at)
FailsAs (BadByte at) read = read ≡ Err (BadByte at)
FailsAs (Extra at) read = read ≡ Err (Extra at)

-- what a call returns, seen by view, is what reading gives, unless memory ran out
abbrev pub Gives : {X Y : Type 0} → (X → Y) → Result X FlatError → Result Y FlatError → Type 0
Gives view (Ok x) read = read ≡ Ok (view x)
Gives view (Err e) read = FailsAs e read

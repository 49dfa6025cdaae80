-- The bytes that spell an archive: each is one, and there are few of them.
use Rattle.std.proofs.Common.{◌≡◌, ℕ, ℤ, zero, suc, ◌+◌, ◌*◌, ◌<◌, ◌≤◌, Bool, true, false, ◌&&◌}
use Rattle.std.proofs.Common.{List, [], ◌∷◌, ◌++◌, length, codes, refl, sym, ap, subst, ◌∙◌, arith}
use Rattle.std.specs.Int.{w16, w32, to_le_bytes}
use Rattle.std.specs.List.{list_all}
use Rattle.std.specs.Prelude.{nat_le}
use Rattle.std.specs.Char.{is_ascii_lowercase}
use Rattle.std.proofs.lemmas.Bool.{and_parts}
use Rattle.std.proofs.lemmas.Bool.Decides.{nat_tests}
use Rattle.std.proofs.lemmas.List.{length-append}
use Rattle.hex.specs.Hex.{IsBytes}
use Rattle.be_facts.specs.Names.{is_name_byte}
use Rattle.be_archive.specs.Archives.{archived}
use Rattle.be_flat.specs.Codes.{code_of}
use Rattle.be_flat.specs.Grammar.{Spells, SpellsCoordinate, SpellsDatum, SpellsFields, SpellsInt}
use Rattle.be_flat.specs.Grammar.{SpellsPoint, SpellsValues}
use Rattle.be_lex.proofs.HexSpelling.{are_bytes_each, bytes_cons}
use Rattle.be_message.specs.declared.kind.Kind.{Kind}
use Rattle.be_message.specs.declared.kind.Kind.TheVariants as kind
use Rattle.be_message.specs.Messages.{Datum, bool, int, text, point, rect, message, Fields, no_fields}
use Rattle.be_message.specs.Messages.{field, Values, no_values, value, all_fields}
use Rattle.be_message.specs.Names.{is_name}
use Rattle.be_message.specs.Sound.{kind_of, field_count, value_count}
use Rattle.be_views.specs.Trees.{Tree}

pub record Few (bytes : List ℕ) (most : ℕ) : Type 0 where
  pub fit : IsBytes bytes
  pub few : length bytes ≤ most

weaker : (bytes : List ℕ) (m n : ℕ) → Few bytes m → m ≤ n → Few bytes n
weaker bytes m n h le = record { fit = h.fit; few = let few = h.few in omega arith }

none : Few [] 0
none = record { fit = λ i. omega arith; few = omega arith }

before : (b : ℕ) (bytes : List ℕ) (n : ℕ) → b < 256 → Few bytes n → Few (b ∷ bytes) (1 + n)
before b bytes n small h = record {
  fit = bytes_cons b bytes small h.fit;
  few = let few = h.few in omega arith;
}

fit_both : (a b : List ℕ) → IsBytes a → IsBytes b → IsBytes (a ++ b)
fit_both [] b h k = k
fit_both (x ∷ a) b h k = bytes_cons x (a ++ b) (h zero) (fit_both a b (λ i. h (suc i)) k)

both : (a b : List ℕ) (m n : ℕ) → Few a m → Few b n → Few (a ++ b) (m + n)
both a b m n h k = record {
  fit = fit_both a b h.fit k.fit;
  few = let one = h.few in let two = k.few in let all = length-append a b in omega arith;
}

-- ---- numbers

u16_few : (n : ℕ) → Few (to_le_bytes w16 n) 2
u16_few n = before _ _ 1 (omega arith) (before _ [] 0 (omega arith) none)

u32_few : (n : ℕ) → Few (to_le_bytes w32 n) 4
u32_few n =
    before _ _ 3 (omega arith)
    (before _ _ 2 (omega arith) (before _ _ 1 (omega arith) (before _ [] 0 (omega arith) none)))

coordinate_few : (bytes : List ℕ) (z : ℤ) → SpellsCoordinate bytes z → Few bytes 2
coordinate_few bytes z h = subst (λ (l : List ℕ). Few l 2) (sym h.1) (u16_few _)

int_few : (bytes : List ℕ) (z : ℤ) → SpellsInt bytes z → Few bytes 4
int_few bytes z h = subst (λ (l : List ℕ). Few l 4) (sym h.1) (u32_few _)

point_few : (bytes : List ℕ) (x y : ℤ) → SpellsPoint bytes x y → Few bytes 4
point_few bytes x y h =
    subst (λ (l : List ℕ). Few l 4) (sym h.2)
    (both h.0 h.1 2 2 (coordinate_few h.0 x h.3) (coordinate_few h.1 y h.4))

-- ---- values

-- of numbers alone
abbrev is_plain : Kind → Bool
is_plain kind.Bool = true
is_plain kind.Int = true
is_plain kind.Point = true
is_plain kind.Rect = true
is_plain kind.Text = false
is_plain kind.Message = false

datum_few : (bytes : List ℕ) (d : Datum) → is_plain (kind_of d) ≡ true → SpellsDatum bytes d
    → Few bytes 8
datum_few bytes (bool true) p h =
    subst (λ (l : List ℕ). Few l 8) (sym h)
    (weaker (1 ∷ []) 1 8 (before 1 [] 0 (omega arith) none) (omega arith))
datum_few bytes (bool false) p h =
    subst (λ (l : List ℕ). Few l 8) (sym h)
    (weaker (0 ∷ []) 1 8 (before 0 [] 0 (omega arith) none) (omega arith))
datum_few bytes (int z) p h = weaker bytes 4 8 (int_few bytes z h) (omega arith)
datum_few bytes (text t) p h = absurd cc
datum_few bytes (point q) p h = weaker bytes 4 8 (point_few bytes q.x q.y h) (omega arith)
datum_few bytes (rect r) p h =
    subst (λ (l : List ℕ). Few l 8) (sym h.2)
    (both h.0 h.1 4 4 (point_few h.0 r.left r.top h.3) (point_few h.1 r.right r.bottom h.4))
datum_few bytes (message what fs) p h = absurd cc

values_few : (k : Kind) (bytes : List ℕ) (vs : Values) → is_plain k ≡ true
    → SpellsValues k bytes vs → Few bytes (8 * value_count vs)
values_few k bytes no_values p h = subst (λ (l : List ℕ). Few l 0) (sym h) none
values_few k bytes (value d vs) p h =
    let one = datum_few h.1 d (ap is_plain h.0 ∙ p) h.4 in
    let rest = values_few k h.2 vs p h.5 in
    subst (λ (l : List ℕ). Few l (8 * suc (value_count vs))) (sym h.3)
    (weaker (h.1 ++ h.2) (8 + 8 * value_count vs) (8 * suc (value_count vs))
    (both h.1 h.2 8 (8 * value_count vs) one rest) (omega arith))

-- ---- fields

code_few : (k : Kind) → Few (code_of k) 4
code_few kind.Bool = record { fit = are_bytes_each (codes "BOOL") refl; few = omega arith }
code_few kind.Int = record { fit = are_bytes_each (codes "LONG") refl; few = omega arith }
code_few kind.Text = record { fit = are_bytes_each (codes "CSTR") refl; few = omega arith }
code_few kind.Point = record { fit = are_bytes_each (codes "BPNT") refl; few = omega arith }
code_few kind.Rect = record { fit = are_bytes_each (codes "RECT") refl; few = omega arith }
code_few kind.Message = record { fit = are_bytes_each (codes "MSGG") refl; few = omega arith }

lower_small : (b : ℕ) → is_ascii_lowercase b ≡ true → b < 256
lower_small b h = grind (arith, nat_tests)

name_byte_small : (b : ℕ) → is_name_byte b ≡ true → b < 256
name_byte_small b h = grind (arith, nat_tests)

name_fits : (bytes : List ℕ) → list_all is_name_byte bytes ≡ true → IsBytes bytes
name_fits [] h = none.fit
name_fits (b ∷ bytes) h =
    let parts = and_parts (is_name_byte b) (list_all is_name_byte bytes) h in
    bytes_cons b bytes (name_byte_small b parts.0) (name_fits bytes parts.1)

short_name : (n : ℕ) → nat_le n 32 ≡ true → n ≤ 32
short_name n h = grind (arith, nat_tests)

name_few : (name : List ℕ) → is_name name ≡ true → Few name 32
unfolding is_name
name_few [] h = absurd cc
name_few (b ∷ bytes) h =
    let whole = and_parts (is_ascii_lowercase b && list_all is_name_byte bytes)
    (nat_le (length (b ∷ bytes)) 32) h in
    let parts = and_parts (is_ascii_lowercase b) (list_all is_name_byte bytes) whole.0 in
    record {
      fit = bytes_cons b bytes (lower_small b parts.0) (name_fits bytes parts.1);
      few = short_name (length (b ∷ bytes)) whole.1;
    }

-- fields of numbers alone
abbrev ArePlain : Fields → Type 0
ArePlain no_fields = Unit {0}
ArePlain (field name k vs fs) = (is_plain k ≡ true) × ArePlain fs

fields_few : (bytes : List ℕ) (fs : Fields) → ArePlain fs → SpellsFields bytes fs
    → Few bytes (2078 * field_count fs)
fields_few bytes no_fields p h = subst (λ (l : List ℕ). Few l 0) (sym h) none
fields_few bytes (field name k vs fs) p h =
    let count : ℕ = value_count vs in
    let others : ℕ = 2078 * field_count fs in
    let named = name_few name h.0 in
    let short = named.few in
    let values = weaker h.4 (8 * count) 2040 (values_few k h.4 vs p.0 h.7) (let le = h.3 in omega arith) in
    let rest = fields_few h.5 fs p.1 h.8 in
    let begun =
    both (code_of k) (length name ∷ name) 4 33 (code_few k)
    (before (length name) name 32 (omega arith) named) in
    let counted =
    both _ (count ∷ h.4) 37 2041 begun (before count h.4 2040 (let le = h.3 in omega arith) values) in
    let all = both _ h.5 2078 others counted rest in
    subst (λ (l : List ℕ). Few l (2078 * suc (field_count fs))) (sym h.6)
    (weaker _ (2078 + others) (2078 * suc (field_count fs)) all (omega arith))

-- ---- messages

message_few : (bytes : List ℕ) (what : ℕ) (fs : Fields) → ArePlain fs → field_count fs ≤ 5
    → SpellsDatum bytes (message what fs) → Few bytes 10395
message_few bytes what fs p few h =
    let rest = weaker h.2 (2078 * field_count fs) 10390 (fields_few h.2 fs p h.4) (omega arith) in
    subst (λ (l : List ℕ). Few l 10395) (sym h.3)
    (both (to_le_bytes w32 what) (field_count fs ∷ h.2) 4 10391 (u32_few what)
    (before (field_count fs) h.2 10390 (omega arith) rest))

-- those of an archive are plain
archive_plain : (tree : Tree) → ArePlain (all_fields (archived tree).fields)
unfolding archived
archive_plain [] = tt
archive_plain (root ∷ []) = (refl, tt)
archive_plain (root ∷ v ∷ vs) = (refl, (refl, (refl, (refl, (refl, tt)))))

archive_fields : (tree : Tree) → field_count (all_fields (archived tree).fields) ≤ 5
unfolding archived
archive_fields [] = omega arith
archive_fields (root ∷ []) = omega arith
archive_fields (root ∷ v ∷ vs) = omega arith

pub archive_few : (tree : Tree) (bytes : List ℕ) → Spells bytes (archived tree) → Few bytes 10395
archive_few tree bytes h =
    message_few bytes (archived tree).what (all_fields (archived tree).fields) (archive_plain tree)
    (archive_fields tree) h.parts

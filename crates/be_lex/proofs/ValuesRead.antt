-- A colour that is read is one, and so is a pattern: what they are made of are bytes.
use Rattle.std.proofs.Common.{◌≡◌, ℕ, zero, suc, Bool, true, false, cond, ◌&&◌, get_or, length, List, [], ◌∷◌, Option, Some, None, refl, ap, ◌∙◌, subst}
use Rattle.std.specs.Prelude.{codes, nat_lt}
use Rattle.std.specs.Option.{option_map}
use Rattle.std.specs.Str.{bytes_eq}
use Rattle.std.proofs.lemmas.Bool.{eq-eqb}
use Rattle.hex.specs.Hex.{IsBytes}
use Rattle.be_facts.proofs.Bytes.{small_byte}
use Rattle.be_color.specs.declared.colors.Color.{Color}
use Rattle.be_color.specs.declared.colors.Color.TheVariants.{Solid, Clear}
use Rattle.be_color.specs.declared.patterns.Pattern.{Pattern}
use Rattle.be_lex.specs.Hex.{hex_bytes, are_bytes}
use Rattle.be_lex.specs.Colors.{rgb_from, rgb_of, color_of, is_color}
use Rattle.be_lex.specs.Patterns.{high_rows, low_rows, mixed_rows, with_rows, pattern_of, is_pattern}
use Rattle.be_lex.proofs.HexSpelling.{hex_text-hex_bytes}

are_bytes-each : (bytes : List ℕ) → IsBytes bytes → are_bytes bytes ≡ true
are_bytes-each [] h = refl
are_bytes-each (b ∷ bytes) h = ap (λ (v : Bool). v && are_bytes bytes) (small_byte b (h zero)) ∙ are_bytes-each bytes (λ i. h (suc i))

rgb_is_color : (bytes : List ℕ) → IsBytes bytes → is_color (Solid (rgb_from bytes)) ≡ true
rgb_is_color bytes h =
    ap (λ (v : Bool). v && (nat_lt (get_or bytes 1 0) 256 && (nat_lt (get_or bytes 2 0) 256 && true))) (small_byte (get_or bytes 0 0) (h 0))
    ∙ ap (λ (v : Bool). v && (nat_lt (get_or bytes 2 0) 256 && true)) (small_byte (get_or bytes 1 0) (h 1))
    ∙ ap (λ (v : Bool). v && true) (small_byte (get_or bytes 2 0) (h 2))

solid_color : (read : Option (List ℕ)) (word : List ℕ) (c : Color) → hex_bytes 3 word ≡ read → option_map Solid (option_map rgb_from read) ≡ Some c → is_color c ≡ true
solid_color None word c e h = (cc)
solid_color (Some bytes) word c e h =
    let same : Solid (rgb_from bytes) ≡ c = (cc) in
    subst (λ (x : Color). is_color x ≡ true) same (rgb_is_color bytes (hex_text-hex_bytes 3 word bytes e).1)

color_or : (clear : Bool) (word : List ℕ) (c : Color) → cond clear (Some Clear) (option_map Solid (rgb_of word)) ≡ Some c → is_color c ≡ true
unfolding rgb_of
color_or true word c e = let same : Clear ≡ c = (cc) in subst (λ (x : Color). is_color x ≡ true) same refl
color_or false word c e = solid_color (hex_bytes 3 word) word c refl e

pub is_color-color_of : (word : List ℕ) (c : Color) → color_of word ≡ Some c → is_color c ≡ true
unfolding color_of
is_color-color_of word c e = color_or (bytes_eq word (codes "clear")) word c e

-- ---- patterns

rows_are : (rows : List ℕ) → length rows ≡ 8 → IsBytes rows → is_pattern (with_rows rows) ≡ true
rows_are rows e h = ap (λ (v : Bool). v && are_bytes rows) (eq-eqb (length rows) 8 e) ∙ are_bytes-each rows h

read_rows : (read : Option (List ℕ)) (word : List ℕ) (p : Pattern) → hex_bytes 8 word ≡ read → option_map with_rows read ≡ Some p → is_pattern p ≡ true
read_rows None word p e h = (cc)
read_rows (Some rows) word p e h =
    let same : with_rows rows ≡ p = (cc) in
    let found = hex_text-hex_bytes 8 word rows e in
    subst (λ (x : Pattern). is_pattern x ≡ true) same (rows_are rows found.0 found.1)

named_rows : (rows : List ℕ) (p : Pattern) → is_pattern (with_rows rows) ≡ true → Some (with_rows rows) ≡ Some p → is_pattern p ≡ true
named_rows rows p h e = let same : with_rows rows ≡ p = (cc) in subst (λ (x : Pattern). is_pattern x ≡ true) same h

pattern_or : (high low mixed : Bool) (word : List ℕ) (p : Pattern) →
    cond high (Some (with_rows high_rows)) (cond low (Some (with_rows low_rows)) (cond mixed (Some (with_rows mixed_rows)) (option_map with_rows (hex_bytes 8 word)))) ≡ Some p → is_pattern p ≡ true
pattern_or true low mixed word p e = named_rows high_rows p refl e
pattern_or false true mixed word p e = named_rows low_rows p refl e
pattern_or false false true word p e = named_rows mixed_rows p refl e
pattern_or false false false word p e = read_rows (hex_bytes 8 word) word p refl e

pub is_pattern-pattern_of : (word : List ℕ) (p : Pattern) → pattern_of word ≡ Some p → is_pattern p ≡ true
unfolding pattern_of
is_pattern-pattern_of word p e = pattern_or (bytes_eq word (codes "high")) (bytes_eq word (codes "low")) (bytes_eq word (codes "mixed")) word p e

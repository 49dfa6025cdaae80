-- The words of colours, patterns and modes.
use Rattle.std.proofs.Common.{◌≡◌, ℕ, ◌==◌, Bool, true, false, cond, List, [], ◌∷◌, length, Option, Some, None, refl, sym, ap, ◌∙◌, arith}
use Rattle.std.specs.Prelude.{codes, unwrap_or}
use Rattle.std.specs.Option.{option_map}
use Rattle.std.specs.Str.{bytes_eq}
use Rattle.std.specs.Map.{lookup}
use Rattle.std.proofs.lemmas.Bool.{and_parts, eqb-true}
use Rattle.std.proofs.lemmas.Slice.Eq.{bytes_eq-Decides}
use Rattle.be_color.specs.declared.colors.Color.{Color}
use Rattle.be_color.specs.declared.colors.Color.TheVariants.{Solid, Clear}
use Rattle.be_color.specs.declared.colors.Rgb.{Rgb}
use Rattle.be_color.specs.declared.modes.Mode.{Mode}
use Rattle.be_color.specs.declared.modes.Mode.TheVariants.{Copy, Over, Erase, Invert, Add, Subtract, Blend, Min, Max, Select}
use Rattle.be_color.specs.declared.patterns.Pattern.{Pattern}
use Rattle.be_lex.specs.Words.{is_word}
use Rattle.be_lex.specs.Hex.{hex_bytes, hex_text, are_bytes}
use Rattle.be_lex.specs.Colors.{rgb_from, rgb_of, rgb_text, color_of, color_text, is_color}
use Rattle.be_lex.specs.Patterns.{high_rows, low_rows, mixed_rows, with_rows, pattern_of, pattern_text, is_pattern}
use Rattle.be_lex.specs.Modes.{mode_words, mode_of, mode_text}
use Rattle.be_lex.proofs.Spelling.{bytes_eq_lengths}
use Rattle.be_lex.proofs.HexSpelling.{length-hex_text, hex_bytes-hex_text, hex_text-hex_bytes, is_word-hex_text, are_bytes_each}

-- ---- colours

abbrev components : Rgb → List ℕ
components rgb = rgb.red ∷ rgb.green ∷ rgb.blue ∷ []

rgb_of-rgb_text : (rgb : Rgb) → are_bytes (components rgb) ≡ true → rgb_of (rgb_text rgb) ≡ Some rgb
unfolding rgb_of rgb_text
rgb_of-rgb_text rgb h = rw (hex_bytes-hex_text 3 (components rgb) refl (are_bytes_each (components rgb) h)) refl

length-rgb_text : (rgb : Rgb) → length (rgb_text rgb) ≡ 6
unfolding rgb_text
length-rgb_text rgb = length-hex_text (components rgb)

pub color_of-color_text : (color : Color) → is_color color ≡ true → color_of (color_text color) ≡ Some color
unfolding color_of color_text
color_of-color_text (Solid rgb) h =
    let len = length-rgb_text rgb in
    rw (bytes_eq_lengths (rgb_text rgb) (codes "clear") (λ e. absurd (omega arith)), rgb_of-rgb_text rgb h) refl
color_of-color_text Clear h = refl

pub is_word-color_text : (color : Color) → is_color color ≡ true → is_word (color_text color) ≡ true
unfolding is_word color_text rgb_text
is_word-color_text (Solid rgb) h = is_word-hex_text (components rgb) (are_bytes_each (components rgb) h) (omega arith)
is_word-color_text Clear h = refl

three : (bytes : List ℕ) → length bytes ≡ 3 → components (rgb_from bytes) ≡ bytes
three [] h = absurd (omega arith)
three (a ∷ []) h = absurd (omega arith)
three (a ∷ b ∷ []) h = absurd (omega arith)
three (a ∷ b ∷ c ∷ []) h = refl
three (a ∷ b ∷ c ∷ d ∷ bytes) h = absurd (omega arith)

solid_text : (read : Option (List ℕ)) (word : List ℕ) (color : Color) → hex_bytes 3 word ≡ read → option_map Solid (option_map rgb_from read) ≡ Some color → color_text color ≡ word
unfolding color_text rgb_text
solid_text None word color e h = absurd cc
solid_text (Some bytes) word color e h =
    let same : Solid (rgb_from bytes) ≡ color = ap (λ o. unwrap_or o Clear) h in
    let read = hex_text-hex_bytes 3 word bytes e in
    sym (ap color_text same) ∙ (ap hex_text (three bytes read.0) ∙ read.2)

clear_or_solid : (clear : Bool) (word : List ℕ) (color : Color) → bytes_eq word (codes "clear") ≡ clear → cond clear (Some Clear) (option_map Solid (rgb_of word)) ≡ Some color → color_text color ≡ word
unfolding color_text rgb_of
clear_or_solid true word color e h =
    let same : Clear ≡ color = ap (λ o. unwrap_or o Clear) h in
    sym (ap color_text same) ∙ sym ((bytes_eq-Decides word (codes "clear")).0 e)
clear_or_solid false word color e h = solid_text (hex_bytes 3 word) word color refl h

pub color_text-color_of : (word : List ℕ) (color : Color) → color_of word ≡ Some color → color_text color ≡ word
unfolding color_of
color_text-color_of word color h = clear_or_solid (bytes_eq word (codes "clear")) word color refl h

-- ---- patterns

abbrev chosen_text : Bool → Bool → Bool → List ℕ → List ℕ
chosen_text high low mixed rows = cond high (codes "high") (cond low (codes "low") (cond mixed (codes "mixed") (hex_text rows)))

chosen_pattern : (high low mixed : Bool) (rows : List ℕ) → bytes_eq rows high_rows ≡ high → bytes_eq rows low_rows ≡ low → bytes_eq rows mixed_rows ≡ mixed → is_pattern (with_rows rows) ≡ true
    → pattern_of (chosen_text high low mixed rows) ≡ Some (with_rows rows)
unfolding pattern_of
chosen_pattern true low mixed rows h l m fits = ap (λ r. Some (with_rows r)) (sym ((bytes_eq-Decides rows high_rows).0 h))
chosen_pattern false true mixed rows h l m fits = ap (λ r. Some (with_rows r)) (sym ((bytes_eq-Decides rows low_rows).0 l))
chosen_pattern false false true rows h l m fits = ap (λ r. Some (with_rows r)) (sym ((bytes_eq-Decides rows mixed_rows).0 m))
chosen_pattern false false false rows h l m fits =
    let parts = and_parts (length rows == 8) (are_bytes rows) fits in
    let eight = eqb-true (length rows) 8 parts.0 in
    let len = length-hex_text rows in
    rw (
      bytes_eq_lengths (hex_text rows) (codes "high") (λ e. absurd (omega arith)),
      bytes_eq_lengths (hex_text rows) (codes "low") (λ e. absurd (omega arith)),
      bytes_eq_lengths (hex_text rows) (codes "mixed") (λ e. absurd (omega arith)),
      hex_bytes-hex_text 8 rows eight (are_bytes_each rows parts.1),
    ) refl

pub pattern_of-pattern_text : (pattern : Pattern) → is_pattern pattern ≡ true → pattern_of (pattern_text pattern) ≡ Some pattern
unfolding pattern_text
pattern_of-pattern_text pattern h = chosen_pattern (bytes_eq pattern.rows high_rows) (bytes_eq pattern.rows low_rows) (bytes_eq pattern.rows mixed_rows) pattern.rows refl refl refl h

chosen_word : (high low mixed : Bool) (rows : List ℕ) → is_pattern (with_rows rows) ≡ true → is_word (chosen_text high low mixed rows) ≡ true
unfolding is_word
chosen_word true low mixed rows fits = refl
chosen_word false true mixed rows fits = refl
chosen_word false false true rows fits = refl
chosen_word false false false rows fits =
    let parts = and_parts (length rows == 8) (are_bytes rows) fits in
    let eight = eqb-true (length rows) 8 parts.0 in
    is_word-hex_text rows (are_bytes_each rows parts.1) (omega arith)

pub is_word-pattern_text : (pattern : Pattern) → is_pattern pattern ≡ true → is_word (pattern_text pattern) ≡ true
unfolding pattern_text
is_word-pattern_text pattern h = chosen_word (bytes_eq pattern.rows high_rows) (bytes_eq pattern.rows low_rows) (bytes_eq pattern.rows mixed_rows) pattern.rows h

-- ---- modes

pub mode_of-mode_text : (mode : Mode) → mode_of (mode_text mode) ≡ Some mode
unfolding mode_of mode_text
mode_of-mode_text Copy = refl
mode_of-mode_text Over = refl
mode_of-mode_text Erase = refl
mode_of-mode_text Invert = refl
mode_of-mode_text Add = refl
mode_of-mode_text Subtract = refl
mode_of-mode_text Blend = refl
mode_of-mode_text Min = refl
mode_of-mode_text Max = refl
mode_of-mode_text Select = refl

pub is_word-mode_text : (mode : Mode) → is_word (mode_text mode) ≡ true
unfolding is_word mode_text
is_word-mode_text Copy = refl
is_word-mode_text Over = refl
is_word-mode_text Erase = refl
is_word-mode_text Invert = refl
is_word-mode_text Add = refl
is_word-mode_text Subtract = refl
is_word-mode_text Blend = refl
is_word-mode_text Min = refl
is_word-mode_text Max = refl
is_word-mode_text Select = refl

-- each word of a table is that of its mode
abbrev AreTheirs : List (List ℕ × Mode) → Type 0
AreTheirs [] = Unit {0}
AreTheirs (e ∷ es) = (mode_text e.1 ≡ e.0) × AreTheirs es

looked_up : (found : Bool) (e : List ℕ × Mode) (es : List (List ℕ × Mode)) (word : List ℕ) (mode : Mode) → mode_text e.1 ≡ e.0 → bytes_eq word e.0 ≡ found
    → (lookup (bytes_eq word) es ≡ Some mode → mode_text mode ≡ word) → cond found (Some e.1) (lookup (bytes_eq word) es) ≡ Some mode → mode_text mode ≡ word
looked_up true e es word mode theirs same below h =
    let is : e.1 ≡ mode = ap (λ o. unwrap_or o Copy) h in
    sym (ap mode_text is) ∙ (theirs ∙ sym ((bytes_eq-Decides word e.0).0 same))
looked_up false e es word mode theirs same below h = below h

mode_text-lookup : (table : List (List ℕ × Mode)) (word : List ℕ) (mode : Mode) → AreTheirs table → lookup (bytes_eq word) table ≡ Some mode → mode_text mode ≡ word
mode_text-lookup [] word mode theirs h = absurd cc
mode_text-lookup (e ∷ es) word mode theirs h = looked_up (bytes_eq word e.0) e es word mode theirs.0 refl (mode_text-lookup es word mode theirs.1) h

their_words : AreTheirs mode_words
unfolding mode_text
their_words = (refl, (refl, (refl, (refl, (refl, (refl, (refl, (refl, (refl, (refl, tt))))))))))

pub mode_text-mode_of : (word : List ℕ) (mode : Mode) → mode_of word ≡ Some mode → mode_text mode ≡ word
unfolding mode_of
mode_text-mode_of word mode h = mode_text-lookup mode_words word mode their_words h

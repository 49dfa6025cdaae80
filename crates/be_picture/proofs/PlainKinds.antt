-- What is written of each kind, and of all of a command, is plain.
use Rattle.std.proofs.Common.{◌≡◌, ℕ, zero, suc, ◌+◌, ◌*◌, ◌<◌, ◌≤◌, ℤ, pos, negsuc, unsigned_abs}
use Rattle.std.proofs.Common.{Bool, true, false, not, cond, ◌&&◌, ◌==◌, List, [], ◌∷◌, length}
use Rattle.std.proofs.Common.{get_or, Option, Some, None, refl, arith, codes}
use Rattle.std.specs.Prelude.{nat_le}
use Rattle.std.specs.List.{list_all}
use Rattle.std.specs.Str.{bytes_eq}
use Rattle.std.proofs.lemmas.Bool.{and_parts, eqb-true}
use Rattle.std.proofs.lemmas.Bool.Decides.{nat_tests}
use Rattle.std.proofs.lemmas.Int.{ints}
use Rattle.be_geom.specs.declared.rect.Rect.{Rect}
use Rattle.be_geom.specs.Points.{between, in_range}
use Rattle.be_geom.proofs.Between.{between_tells}
use Rattle.be_color.specs.declared.colors.Color.{Color}
use Rattle.be_color.specs.declared.colors.Color.TheVariants.{Solid, Clear}
use Rattle.be_color.specs.declared.modes.Mode as modes
use Rattle.be_color.specs.declared.modes.Mode.TheVariants as mode
use Rattle.be_color.specs.declared.patterns.Pattern.{Pattern}
use Rattle.be_lex.specs.Colors.{color_text, is_color, rgb_text}
use Rattle.be_lex.specs.Hex.{are_bytes, hex_text}
use Rattle.be_lex.specs.Modes.{mode_text}
use Rattle.be_lex.specs.Names.{is_name}
use Rattle.be_lex.specs.Patterns.{high_rows, low_rows, mixed_rows, is_pattern, pattern_text}
use Rattle.be_command.specs.Names.{Known}
use Rattle.be_command.specs.Kinds.{Kind, a_view, a_window, a_bitmap, a_focus, a_point, a_rect}
use Rattle.be_command.specs.Kinds.{a_distance, a_size, a_pen_size, a_pattern, a_color, a_mode}
use Rattle.be_command.specs.Kinds.{a_text, a_clip, Said, SaidAll}
use Rattle.be_command.specs.Laws.{AreKnown, AreRects, AreWithin, IsClip, IsFocus, IsRect, IsWithin}
use Rattle.be_command.specs.Limits.{is_written_text}
use Rattle.be_command.specs.Spelling.{name_word, number_word, pair_words, rect_words}
use Rattle.be_command.specs.Spelling.{clip_words, focus_word, rects_words}
use Rattle.be_command.proofs.KindsBack.{words_of_all, words_of_kind}
use Rattle.be_command.proofs.NamesBack.{AreApart, apart-names, apart-views}
use Rattle.be_picture.proofs.Plain.{IsPlain, behind_space, both, hex_is_plain, name_is_plain}
use Rattle.be_picture.proofs.Plain.{number_is_plain, wider}

-- ---- numbers

near : (low high z : ℤ) → between low z high ≡ true → unsigned_abs low ≤ 65535
    → unsigned_abs high ≤ 65535 → unsigned_abs z ≤ 65535
near low high z within l h = grind (arith, ints, between_tells)

number_plain : (low high z : ℤ) → between low z high ≡ true → unsigned_abs low ≤ 65535
    → unsigned_abs high ≤ 65535 → IsPlain 7 (number_word z)
number_plain low high z within l h = behind_space 6 _ (number_is_plain z (near low high z within l h))

pair_plain : (low high x y : ℤ) → between low x high ≡ true → between low y high ≡ true
    → unsigned_abs low ≤ 65535 → unsigned_abs high ≤ 65535 → IsPlain 14 (pair_words x y)
pair_plain low high x y first second l h =
    both 7 7 (number_word x) (number_word y)
    (number_plain low high x first l h) (number_plain low high y second l h)

coordinates_plain : (x y : ℤ) → in_range x ≡ true → in_range y ≡ true → IsPlain 14 (pair_words x y)
coordinates_plain x y first second =
    pair_plain (negsuc 32767) (pos 32767) x y first second (omega arith) (omega arith)

rect_plain : (r : Rect) → IsRect r → IsPlain 28 (rect_words r)
rect_plain r fits =
    both 14 14 (pair_words r.left r.top) (pair_words r.right r.bottom)
    (coordinates_plain r.left r.top fits.0.0 fits.0.1)
    (coordinates_plain r.right r.bottom fits.1.0 fits.1.1)

rects_plain : (rects : List Rect) → AreRects rects → IsPlain (28 * length rects) (rects_words rects)
rects_plain [] fits = record { printable = refl; short = omega arith }
rects_plain (r ∷ rects) fits =
    wider (28 + 28 * length rects) (28 * length (r ∷ rects)) (rects_words (r ∷ rects))
    (both 28 (28 * length rects) (rect_words r) (rects_words rects)
    (rect_plain r fits.0) (rects_plain rects fits.1)) (omega arith)

in_pen_range : (n : ℕ) → n ≤ 32 → unsigned_abs (pos n) ≤ 65535
in_pen_range n few = omega arith

-- ---- names

name_at : (names : List (List ℕ)) (n : ℕ)
    → list_all (λ name. is_name name && not (bytes_eq name (codes "none"))) names ≡ true
    → n < length names → is_name (get_or names n []) ≡ true
name_at [] n h lt = absurd (omega arith)
name_at (name ∷ names) zero h lt = (and_parts (is_name name) _ (and_parts _ _ h).0).0
name_at (name ∷ names) (suc n) h lt = name_at names n (and_parts _ _ h).1 (omega arith)

name_plain : (names : List (List ℕ)) (n : ℕ) → AreApart names → n < length names
    → IsPlain 448 (name_word names n)
name_plain names n apart lt =
    wider 17 448 _ (behind_space 16 _ (name_is_plain _ (name_at names n apart.each lt))) (omega arith)

focus_plain : (names : List (List ℕ)) (v : Option ℕ) → AreApart names
    → IsFocus names v → IsPlain 448 (focus_word names v)
focus_plain names None apart fits = record { printable = refl; short = omega arith }
focus_plain names (Some v) apart fits = name_plain names v apart fits

-- ---- patterns, colours, modes and texts

chosen_plain : (high low mixed : Bool) (rows : List ℕ) → IsPlain 16 (hex_text rows)
    → IsPlain 16 (cond high (codes "high") (cond low (codes "low") (cond mixed (codes "mixed") (hex_text rows))))
chosen_plain true low mixed rows plain = record { printable = refl; short = omega arith }
chosen_plain false true mixed rows plain = record { printable = refl; short = omega arith }
chosen_plain false false true rows plain = record { printable = refl; short = omega arith }
chosen_plain false false false rows plain = plain

pattern_plain : (pattern : Pattern) → is_pattern pattern ≡ true → IsPlain 16 (pattern_text pattern)
unfolding pattern_text
pattern_plain pattern fits =
    let parts = and_parts (length pattern.rows == 8) (are_bytes pattern.rows) fits in
    let eight = eqb-true (length pattern.rows) 8 parts.0 in
    chosen_plain (bytes_eq pattern.rows high_rows) (bytes_eq pattern.rows low_rows)
    (bytes_eq pattern.rows mixed_rows) pattern.rows
    (hex_is_plain pattern.rows 16 parts.1 (omega arith))

color_plain : (color : Color) → is_color color ≡ true → IsPlain 6 (color_text color)
unfolding color_text rgb_text
color_plain (Solid rgb) fits =
    hex_is_plain (rgb.red ∷ rgb.green ∷ rgb.blue ∷ []) 6 fits (omega arith)
color_plain Clear fits = record { printable = refl; short = omega arith }

mode_plain : (m : modes.Mode) → IsPlain 8 (mode_text m)
unfolding mode_text
mode_plain mode.Copy = record { printable = refl; short = omega arith }
mode_plain mode.Over = record { printable = refl; short = omega arith }
mode_plain mode.Erase = record { printable = refl; short = omega arith }
mode_plain mode.Invert = record { printable = refl; short = omega arith }
mode_plain mode.Add = record { printable = refl; short = omega arith }
mode_plain mode.Subtract = record { printable = refl; short = omega arith }
mode_plain mode.Blend = record { printable = refl; short = omega arith }
mode_plain mode.Min = record { printable = refl; short = omega arith }
mode_plain mode.Max = record { printable = refl; short = omega arith }
mode_plain mode.Select = record { printable = refl; short = omega arith }

text_plain : (text : List ℕ) → is_written_text text ≡ true → IsPlain 256 text
text_plain text fits =
    let parts = and_parts (nat_le (length text) 256)
    (list_all (λ b. nat_le 32 b && nat_le b 126) text) fits in
    record { printable = parts.1; short = grind (arith, nat_tests) }

clip_plain : (clip : Option (List Rect)) → IsClip clip → IsPlain 448 (clip_words clip)
clip_plain None fits = record { printable = refl; short = omega arith }
clip_plain (Some rects) fits =
    wider (28 * length rects) 448 (rects_words rects) (rects_plain rects fits.1.1)
    (omega (arith, fits.1.0))

-- ---- each kind, and several

kind_plain : (known : Known) → AreKnown known → (kind : Kind) (v : Said kind) → IsWithin known kind v
    → IsPlain 448 (words_of_kind known kind v)
kind_plain known k a_view v fits = name_plain known.views v (apart-views known k) fits
kind_plain known k a_window v fits =
    name_plain known.windows v (apart-names known.windows k.windows) fits
kind_plain known k a_bitmap v fits =
    name_plain known.bitmaps v (apart-names known.bitmaps k.bitmaps) fits
kind_plain known k a_focus v fits = focus_plain known.views v (apart-views known k) fits
kind_plain known k a_point v fits =
    wider 14 448 _ (coordinates_plain v.x v.y fits.0 fits.1) (omega arith)
kind_plain known k a_rect v fits = wider 28 448 _ (rect_plain v fits) (omega arith)
kind_plain known k a_distance v fits =
    wider 14 448 _ (pair_plain (negsuc 65534) (pos 65535) v.0 v.1 fits.0 fits.1
    (omega arith) (omega arith)) (omega arith)
kind_plain known k a_size v fits =
    wider 14 448 _ (pair_plain (pos 0) (pos 32767) v.0 v.1 fits.0 fits.1
    (omega arith) (omega arith)) (omega arith)
kind_plain known k a_pen_size v fits =
    wider 7 448 _ (behind_space 6 _ (number_is_plain (pos v) (in_pen_range v fits.1))) (omega arith)
kind_plain known k a_pattern v fits =
    wider 17 448 _ (behind_space 16 _ (pattern_plain v fits)) (omega arith)
kind_plain known k a_color v fits =
    wider 7 448 _ (behind_space 6 _ (color_plain v fits)) (omega arith)
kind_plain known k a_mode v fits =
    wider 9 448 _ (behind_space 8 _ (mode_plain v)) (omega arith)
kind_plain known k a_text v fits =
    wider 257 448 _ (behind_space 256 _ (text_plain v fits)) (omega arith)
kind_plain known k a_clip v fits = clip_plain v fits

pub all_plain : (known : Known) → AreKnown known → (kinds : List Kind) (x : SaidAll kinds)
    → AreWithin known kinds x → IsPlain (448 * length kinds) (words_of_all known kinds x)
all_plain known k [] x fits = record { printable = refl; short = omega arith }
all_plain known k (kind ∷ kinds) x fits =
    wider (448 + 448 * length kinds) (448 * length (kind ∷ kinds))
    (words_of_all known (kind ∷ kinds) x)
    (both 448 (448 * length kinds) (words_of_kind known kind x.0) (words_of_all known kinds x.1)
    (kind_plain known k kind x.0 fits.0) (all_plain known k kinds x.1 fits.1)) (omega arith)

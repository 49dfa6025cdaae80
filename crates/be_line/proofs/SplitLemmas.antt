-- Numbers between commas.
use Rattle.std.proofs.Common.{◌≡◌, ℕ, suc, ◌+◌, ◌<◌, ◌==◌, Bool, true, false, not, ◌&&◌, ◌||◌, cond, List, [], ◌∷◌, length, Option, Some, None, refl, ap, sym, ◌∙◌, arith}
use Rattle.std.specs.Option.{option_and_then}
use Rattle.std.specs.Char.{is_ascii_digit}
use Rattle.std.specs.List.{list_all, list_any, position_or_len, slice_split, onto_first, before_first, after_first}
use Rattle.std.specs.Str.{bytes_eq}
use Rattle.std.specs.Prelude.{codes}
use Rattle.std.proofs.lemmas.Bool.Decides.{nat_tests}
use Rattle.std.proofs.lemmas.List.Splits.{slice_split_first}
use Rattle.be_facts.proofs.Truths.{and_false, and_true, and_first}
use Rattle.be_lex.specs.Numbers.{is_natural, is_signed, is_number, number_of}
use Rattle.be_lex.specs.Words.{cut_at}
use Rattle.be_lex.proofs.Cuts.{split_pieces}
use Rattle.be_message.specs.Messages.{Datum, point, rect}
use Rattle.be_line.specs.Fields.{numbers_in, of_numbers, point_in, rect_in}
use Rattle.be_line.specs.Shaped.{pointed, bounded}

-- ---- pieces

abbrev comma : ℕ → Bool
comma b = b == 44

place_step : (v : Bool) (bytes : List ℕ) → (list_any comma bytes ≡ true → position_or_len comma bytes < length bytes) →
    (v || list_any comma bytes) ≡ true → cond (not v) (1 + position_or_len comma bytes) 0 < suc (length bytes)
place_step true bytes same some = omega arith
place_step false bytes same some = let k = same some in omega arith

place_within : (bytes : List ℕ) → list_any comma bytes ≡ true → position_or_len comma bytes < length bytes
place_within [] some = (cc)
place_within (b ∷ bytes) some = place_step (comma b) bytes (place_within bytes) some

whole_step : (v : Bool) (b : ℕ) (bytes : List ℕ) → (list_any comma bytes ≡ false → slice_split comma bytes ≡ bytes ∷ []) →
    (v || list_any comma bytes) ≡ false → cond v ([] ∷ slice_split comma bytes) (onto_first b (slice_split comma bytes)) ≡ (b ∷ bytes) ∷ []
whole_step true b bytes same none = (cc)
whole_step false b bytes same none = ap (onto_first b) (same none)

-- without a comma all is one piece
whole : (bytes : List ℕ) → list_any comma bytes ≡ false → slice_split comma bytes ≡ bytes ∷ []
whole [] none = refl
whole (b ∷ bytes) none = whole_step (comma b) b bytes (whole bytes) none

-- the pieces by the first comma
abbrev pieces : List ℕ → Option (List ℕ × List ℕ) → List (List ℕ)
pieces bytes None = bytes ∷ []
pieces bytes (Some cut) = cut.0 ∷ slice_split comma cut.1

pieces_by : (bytes : List ℕ) (v : Bool) → list_any comma bytes ≡ v →
    slice_split comma bytes ≡ pieces bytes (cond v (Some (before_first comma bytes, after_first comma bytes)) None)
pieces_by bytes true some = slice_split_first comma bytes 0 (place_within bytes some)
pieces_by bytes false none = whole bytes none

numbers_are : (bytes : List ℕ) → numbers_in bytes ≡ pieces bytes (cut_at 44 bytes)
numbers_are bytes = pieces_by bytes (list_any comma bytes) refl

-- ---- numbers have no comma

no_comma : (b : ℕ) → is_ascii_digit b ≡ true → comma b ≡ false
no_comma b digit = grind (arith, nat_tests)

none_of_digits : (v w : Bool) (b : ℕ) (bytes : List ℕ) → (list_all is_ascii_digit bytes ≡ true → list_any comma bytes ≡ false) →
    (is_ascii_digit b ≡ true → v ≡ false) → is_ascii_digit b ≡ w → (w && list_all is_ascii_digit bytes) ≡ true → (v || list_any comma bytes) ≡ false
none_of_digits true true b bytes same plain digit all = plain digit
none_of_digits false true b bytes same plain digit all = same all
none_of_digits v false b bytes same plain digit all = (cc)

digits_plain : (bytes : List ℕ) → list_all is_ascii_digit bytes ≡ true → list_any comma bytes ≡ false
digits_plain [] all = refl
digits_plain (b ∷ bytes) all = none_of_digits (comma b) (is_ascii_digit b) b bytes (digits_plain bytes) (no_comma b) refl all

and_ends : (a b c : Bool) → ((a && b) && c) ≡ true → (a && c) ≡ true
and_ends true true c e = e
and_ends true false c e = (cc)
and_ends false b c e = (cc)

naturals_are_digits : (d : ℕ) (bytes : List ℕ) → is_natural (d ∷ bytes) ≡ true → list_all is_ascii_digit (d ∷ bytes) ≡ true
naturals_are_digits d [] natural = rw natural refl
naturals_are_digits d (e ∷ bytes) natural = and_ends (is_ascii_digit d) (not (d == 48)) (list_all is_ascii_digit (e ∷ bytes)) natural

natural_plain : (bytes : List ℕ) → is_natural bytes ≡ true → list_any comma bytes ≡ false
natural_plain [] natural = refl
natural_plain (d ∷ bytes) natural = digits_plain (d ∷ bytes) (naturals_are_digits d bytes natural)

signed_plain : (negative : Bool) (bytes : List ℕ) → is_signed negative bytes ≡ true → list_any comma bytes ≡ false
signed_plain negative bytes signed = natural_plain bytes (and_first (is_natural bytes) (not (negative && bytes_eq bytes (codes "0"))) signed)

minus_plain : (v : Bool) (b : ℕ) (bytes : List ℕ) → (b == 45) ≡ v → cond v (is_signed true bytes) (is_signed false (b ∷ bytes)) ≡ true → list_any comma (b ∷ bytes) ≡ false
minus_plain true b bytes minus number = let plain : comma b ≡ false = grind (arith, nat_tests) in rw plain (signed_plain true bytes number)
minus_plain false b bytes minus number = signed_plain false (b ∷ bytes) number

-- a number has none
number_plain : (bytes : List ℕ) → is_number bytes ≡ true → list_any comma bytes ≡ false
unfolding is_number
number_plain [] number = refl
number_plain (b ∷ bytes) number = minus_plain (b == 45) b bytes refl number

decided : (v : Bool) (bytes : List ℕ) → is_number bytes ≡ v → list_any comma bytes ≡ true → v ≡ false
decided true bytes number some = (cc (number_plain bytes number))
decided false bytes number some = refl

-- what has one is none
comma_breaks : (bytes : List ℕ) → list_any comma bytes ≡ true → is_number bytes ≡ false
comma_breaks bytes some = decided (is_number bytes) bytes refl some

cut_breaks : (bytes : List ℕ) (v : Bool) (cut : List ℕ × List ℕ) → list_any comma bytes ≡ v →
    cond v (Some (before_first comma bytes, after_first comma bytes)) None ≡ Some cut → is_number bytes ≡ false
cut_breaks bytes true cut some e = comma_breaks bytes some
cut_breaks bytes false cut some e = (cc)

-- ---- points and rectangles

abbrev nothing : Option Datum
nothing = None

none_in : (v : Bool) → cond v nothing nothing ≡ nothing
none_in true = refl
none_in false = refl

-- a point from its pieces
abbrev point_from : List (List ℕ) → Option Datum
point_from ps = cond (list_all is_number ps) (point_in ps) None

abbrev point_of : List ℕ → List ℕ → Datum
point_of x y = point (record { x = number_of x; y = number_of y })

point_longer : (x y p q : List ℕ) (more : List (List ℕ)) → is_number y ≡ false → point_from (x ∷ p ∷ q ∷ more) ≡ pointed x y
point_longer x y p q more broken =
    none_in (list_all is_number (x ∷ p ∷ q ∷ more))
    ∙ sym (ap (λ v. cond (is_number x && v) (Some (point_of x y)) None) broken ∙ ap (λ v. cond v (Some (point_of x y)) None) (and_false (is_number x)))

point_last : (x y : List ℕ) (cut : Option (List ℕ × List ℕ)) → cut_at 44 y ≡ cut → point_from (x ∷ pieces y cut) ≡ pointed x y
point_last x y None e = ap (λ v. cond (is_number x && v) (Some (point_of x y)) None) (and_true (is_number y))
point_last x y (Some cut) e =
    let s = split_pieces comma cut.1 in
    ap (λ ps. point_from (x ∷ cut.0 ∷ ps)) s.2 ∙ point_longer x y cut.0 s.0 s.1 (cut_breaks y (list_any comma y) cut refl e)

point_cut : (bytes : List ℕ) (cut : Option (List ℕ × List ℕ)) → point_from (pieces bytes cut) ≡ option_and_then (λ c. pointed c.0 c.1) cut
point_cut bytes None = none_in (is_number bytes && true)
point_cut bytes (Some cut) =
    ap (λ ps. point_from (cut.0 ∷ ps)) (numbers_are cut.1) ∙ point_last cut.0 cut.1 (cut_at 44 cut.1) refl

-- a point is cut once
pub point_is_cut : (bytes : List ℕ) → of_numbers point_in bytes ≡ option_and_then (λ c. pointed c.0 c.1) (cut_at 44 bytes)
point_is_cut bytes = ap point_from (numbers_are bytes) ∙ point_cut bytes (cut_at 44 bytes)

-- a rectangle from its pieces
abbrev rect_from : List (List ℕ) → Option Datum
rect_from ps = cond (list_all is_number ps) (rect_in ps) None

abbrev rect_of : List ℕ → List ℕ → List ℕ → List ℕ → Datum
rect_of l t r b = rect (record { left = number_of l; top = number_of t; right = number_of r; bottom = number_of b })

abbrev of_four : Bool → Bool → Bool → Bool → Option Datum → Option Datum
of_four l t r b d = cond (l && (t && (r && b))) d None

broken_four : (l t r : Bool) (d : Option Datum) → of_four l t r false d ≡ None
broken_four true true true d = refl
broken_four true true false d = refl
broken_four true false r d = refl
broken_four false t r d = refl

rect_longer : (l t r b p q : List ℕ) (more : List (List ℕ)) → is_number b ≡ false → rect_from (l ∷ t ∷ r ∷ p ∷ q ∷ more) ≡ bounded l t r b
rect_longer l t r b p q more broken =
    none_in (list_all is_number (l ∷ t ∷ r ∷ p ∷ q ∷ more))
    ∙ sym (ap (λ v. of_four (is_number l) (is_number t) (is_number r) v (Some (rect_of l t r b))) broken ∙ broken_four (is_number l) (is_number t) (is_number r) (Some (rect_of l t r b)))

rect_last : (l t r b : List ℕ) (cut : Option (List ℕ × List ℕ)) → cut_at 44 b ≡ cut → rect_from (l ∷ t ∷ r ∷ pieces b cut) ≡ bounded l t r b
rect_last l t r b None e = ap (λ v. of_four (is_number l) (is_number t) (is_number r) v (Some (rect_of l t r b))) (and_true (is_number b))
rect_last l t r b (Some cut) e =
    let s = split_pieces comma cut.1 in
    ap (λ ps. rect_from (l ∷ t ∷ r ∷ cut.0 ∷ ps)) s.2 ∙ rect_longer l t r b cut.0 s.0 s.1 (cut_breaks b (list_any comma b) cut refl e)

rect_third : (l t bytes : List ℕ) (cut : Option (List ℕ × List ℕ)) → rect_from (l ∷ t ∷ pieces bytes cut) ≡ option_and_then (λ c. bounded l t c.0 c.1) cut
rect_third l t bytes None = none_in (list_all is_number (l ∷ t ∷ bytes ∷ []))
rect_third l t bytes (Some cut) =
    ap (λ ps. rect_from (l ∷ t ∷ cut.0 ∷ ps)) (numbers_are cut.1) ∙ rect_last l t cut.0 cut.1 (cut_at 44 cut.1) refl

rect_second : (l bytes : List ℕ) (cut : Option (List ℕ × List ℕ)) →
    rect_from (l ∷ pieces bytes cut) ≡ option_and_then (λ c. option_and_then (λ d. bounded l c.0 d.0 d.1) (cut_at 44 c.1)) cut
rect_second l bytes None = none_in (list_all is_number (l ∷ bytes ∷ []))
rect_second l bytes (Some cut) =
    ap (λ ps. rect_from (l ∷ cut.0 ∷ ps)) (numbers_are cut.1) ∙ rect_third l cut.0 cut.1 (cut_at 44 cut.1)

rect_first : (bytes : List ℕ) (cut : Option (List ℕ × List ℕ)) →
    rect_from (pieces bytes cut) ≡ option_and_then (λ a. option_and_then (λ c. option_and_then (λ d. bounded a.0 c.0 d.0 d.1) (cut_at 44 c.1)) (cut_at 44 a.1)) cut
rect_first bytes None = none_in (is_number bytes && true)
rect_first bytes (Some cut) = ap (λ ps. rect_from (cut.0 ∷ ps)) (numbers_are cut.1) ∙ rect_second cut.0 cut.1 (cut_at 44 cut.1)

-- a rectangle three times
pub rect_is_cut : (bytes : List ℕ) →
    of_numbers rect_in bytes ≡ option_and_then (λ a. option_and_then (λ c. option_and_then (λ d. bounded a.0 c.0 d.0 d.1) (cut_at 44 c.1)) (cut_at 44 a.1)) (cut_at 44 bytes)
rect_is_cut bytes = ap rect_from (numbers_are bytes) ∙ rect_first bytes (cut_at 44 bytes)

-- What is written of a word is read back.
use Rattle.std.proofs.Common.{◌≡◌, ℕ, ◌<◌, ◌≤◌, ◌^◌, ℤ, pos, negsuc, unsigned_abs, Bool, true, cond, refl, arith, List, ◌++◌, append_assoc, Option, Some, Result, Ok, Err, ap, ◌∙◌}
use Rattle.std.proofs.lemmas.Int.{ints}
use Rattle.std.specs.Fmt.{signed_decimal}
use Rattle.be_geom.specs.declared.point.Point.{Point}
use Rattle.be_geom.specs.declared.rect.Rect.{Rect}
use Rattle.be_geom.specs.Points.{between, in_range}
use Rattle.be_geom.proofs.Between.{between_tells}
use Rattle.be_lex.specs.Words.{words_of, behind_word, is_word, ends_word}
use Rattle.be_lex.specs.Numbers.{is_number, number_of}
use Rattle.be_lex.proofs.Spelling.{words_of-append, behind_word-append, words_of-space, behind_word-space}
use Rattle.be_lex.proofs.NumberSpelling.{is_number-signed_decimal, number_of-signed_decimal, is_word-signed_decimal}
use Rattle.be_command.specs.declared.fault.Fault.{Fault}
use Rattle.be_command.specs.declared.fault.Reason.{Reason}
use Rattle.be_command.specs.declared.fault.Reason.TheVariants.{Shape, Range}
use Rattle.be_command.specs.Faults.{both, said_as}
use Rattle.be_command.specs.Places.{At, first_word, word_at, behind, after_word, said_at, judged, next_said}
use Rattle.be_command.specs.Kinds.{numbered, coordinate, pair_at, after_pair, point_at, rect_at, after_rect}
use Rattle.be_command.specs.Spelling.{spaced, number_word, pair_words, point_words, rect_words}
use Rattle.be_command.specs.Laws.{IsPoint, IsRect}

-- a part of a line says this, and leaves this text
pub record Reads {A : Type 0} (said : Result A Fault) (left : At) (value : A) (rest : List ℕ) : Type 0 where
  pub said_is : said ≡ Ok value
  pub text_is : left.text ≡ rest

-- ---- one word

-- the next word of a text in which one stands in front
pub next_word : (w rest : List ℕ) (at : At) → is_word w ≡ true → ends_word rest ≡ true → at.text ≡ spaced w ++ rest → word_at at ≡ Some w
next_word w rest at word ends e = ap (λ (text : List ℕ). first_word (words_of text)) e ∙ ap first_word (words_of-space (w ++ rest) ∙ words_of-append w rest word ends)

pub next_text : (w rest : List ℕ) (at : At) → is_word w ≡ true → ends_word rest ≡ true → at.text ≡ spaced w ++ rest → (after_word at).text ≡ rest
next_text w rest at word ends e =
    ap (λ (o : Option (List ℕ)). (behind at o).text) (next_word w rest at word ends e) ∙ ap behind_word e ∙ behind_word-space (w ++ rest) ∙ behind_word-append w rest word ends

pub next_back : {A : Type 0} (read : List ℕ → Result A Reason) (w rest : List ℕ) (at : At) (x : A) → is_word w ≡ true → ends_word rest ≡ true → read w ≡ Ok x → at.text ≡ spaced w ++ rest →
    Reads (next_said read at) (after_word at) x rest
next_back {A} read w rest at x word ends r e = record {
  said_is = ap (λ (o : Option (List ℕ)). said_at at.place (judged read o)) (next_word w rest at word ends e) ∙ ap (λ (s : Result A Reason). said_at at.place s) r;
  text_is = next_text w rest at word ends e;
}

-- ---- several

pub both_back : {A B : Type 0} (s : Result A Fault) (t : Result B Fault) (l m : At) (a : A) (b : B) (middle rest : List ℕ) →
    Reads s l a middle → Reads t m b rest → Reads (both s t) m (a, b) rest
both_back {A} {B} s t l m a b middle rest first second = record {
  said_is = ap (λ (r : Result A Fault). both r t) first.said_is ∙ ap (λ (r : Result B Fault). both (Ok a) r) second.said_is;
  text_is = second.text_is;
}

pub as_back : {A B : Type 0} (f : A → B) (s : Result A Fault) (l : At) (a : A) (rest : List ℕ) → Reads s l a rest → Reads (said_as f s) l (f a) rest
as_back {A} f s l a rest part = record { said_is = ap (λ (r : Result A Fault). said_as f r) part.said_is; text_is = part.text_is }

-- ---- numbers

small : (low high z : ℤ) → between low z high ≡ true → unsigned_abs low ≤ 65535 → unsigned_abs high ≤ 65535 → unsigned_abs z < 2 ^ 64
small low high z within l h = grind (arith, ints, between_tells)

pub numbered_back : (low high z : ℤ) → between low z high ≡ true → unsigned_abs low ≤ 65535 → unsigned_abs high ≤ 65535 → numbered low high (signed_decimal z) ≡ Ok z
numbered_back low high z within l h =
    let fits = small low high z within l h in
    ap (λ (b : Bool). cond b (cond (between low (number_of (signed_decimal z)) high) (Ok (number_of (signed_decimal z))) (Err Range)) (Err Shape)) (is_number-signed_decimal z fits)
    ∙ ap (λ (n : ℤ). cond (between low n high) (Ok n) (Err Range)) (number_of-signed_decimal z fits)
    ∙ ap (λ (b : Bool). cond b (Ok z) (Err Range)) within

pub is_word-number : (low high z : ℤ) → between low z high ≡ true → unsigned_abs low ≤ 65535 → unsigned_abs high ≤ 65535 → is_word (signed_decimal z) ≡ true
is_word-number low high z within l h = is_word-signed_decimal z (small low high z within l h)

pub is_number-within : (low high z : ℤ) → between low z high ≡ true → unsigned_abs low ≤ 65535 → unsigned_abs high ≤ 65535 → is_number (signed_decimal z) ≡ true
is_number-within low high z within l h = is_number-signed_decimal z (small low high z within l h)

pub number_back : (low high z : ℤ) (rest : List ℕ) (at : At) → between low z high ≡ true → unsigned_abs low ≤ 65535 → unsigned_abs high ≤ 65535 → ends_word rest ≡ true →
    at.text ≡ number_word z ++ rest → Reads (next_said (numbered low high) at) (after_word at) z rest
number_back low high z rest at within l h ends e =
    next_back (numbered low high) (signed_decimal z) rest at z (is_word-number low high z within l h) ends (numbered_back low high z within l h) e

pub pair_back : (low high x y : ℤ) (rest : List ℕ) (at : At) → between low x high ≡ true → between low y high ≡ true → unsigned_abs low ≤ 65535 → unsigned_abs high ≤ 65535 → ends_word rest ≡ true →
    at.text ≡ pair_words x y ++ rest → Reads (pair_at (numbered low high) at) (after_pair at) (x, y) rest
pair_back low high x y rest at wx wy l h ends e =
    let first = number_back low high x (number_word y ++ rest) at wx l h refl (e ∙ append_assoc (number_word x) (number_word y) rest) in
    let second = number_back low high y rest (after_word at) wy l h ends first.text_is in
    both_back (next_said (numbered low high) at) (next_said (numbered low high) (after_word at)) (after_word at) (after_pair at) x y (number_word y ++ rest) rest first second

coordinates_back : (x y : ℤ) (rest : List ℕ) (at : At) → in_range x ≡ true → in_range y ≡ true → ends_word rest ≡ true → at.text ≡ pair_words x y ++ rest →
    Reads (pair_at coordinate at) (after_pair at) (x, y) rest
coordinates_back x y rest at wx wy ends e = pair_back (negsuc 32767) (pos 32767) x y rest at wx wy (omega arith) (omega arith) ends e

pub point_back : (p : Point) (rest : List ℕ) (at : At) → IsPoint p → ends_word rest ≡ true → at.text ≡ point_words p ++ rest → Reads (point_at at) (after_pair at) p rest
point_back p rest at fits ends e =
    as_back (λ (q : ℤ × ℤ). record { x = q.0; y = q.1 }) (pair_at coordinate at) (after_pair at) (p.x, p.y) rest (coordinates_back p.x p.y rest at fits.0 fits.1 ends e)

pub rect_back : (r : Rect) (rest : List ℕ) (at : At) → IsRect r → ends_word rest ≡ true → at.text ≡ rect_words r ++ rest → Reads (rect_at at) (after_rect at) r rest
rect_back r rest at fits ends e =
    let lower = pair_words r.right r.bottom ++ rest in
    let first = coordinates_back r.left r.top lower at fits.0.0 fits.0.1 refl (e ∙ append_assoc (pair_words r.left r.top) (pair_words r.right r.bottom) rest) in
    let second = coordinates_back r.right r.bottom rest (after_pair at) fits.1.0 fits.1.1 ends first.text_is in
    as_back (λ (q : (ℤ × ℤ) × (ℤ × ℤ)). record { left = q.0.0; top = q.0.1; right = q.1.0; bottom = q.1.1 }) (both (pair_at coordinate at) (pair_at coordinate (after_pair at))) (after_rect at) ((r.left, r.top), (r.right, r.bottom)) rest
    (both_back (pair_at coordinate at) (pair_at coordinate (after_pair at)) (after_pair at) (after_rect at) (r.left, r.top) (r.right, r.bottom) lower rest first second)
